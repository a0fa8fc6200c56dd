mod NextReply
mod Decided
mod Late
mod TextLines
mod Promised
mod Taken
