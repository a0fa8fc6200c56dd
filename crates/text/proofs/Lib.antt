mod Back
mod Fields
mod Numbers
mod Separated
