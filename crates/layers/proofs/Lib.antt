mod Keeps
mod Settles
