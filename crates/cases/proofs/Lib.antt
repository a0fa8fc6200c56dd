mod Compared
mod Counting
