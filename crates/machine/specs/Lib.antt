pub mod Address
pub mod Fault
pub mod Interrupt
pub mod Ledger
pub mod Operation
pub mod Registers
pub mod Word
pub mod Words
