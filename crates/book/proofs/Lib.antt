mod Fits
mod Longest
