pub mod Integers
mod Masks
mod WordsStayWords
