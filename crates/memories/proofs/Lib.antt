mod Keeps
mod Stored
