mod Computed
mod Front
mod Progress
