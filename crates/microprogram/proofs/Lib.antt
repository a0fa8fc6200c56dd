mod Ends
mod Successors
