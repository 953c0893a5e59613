pub mod Entries
pub mod History
pub mod Known
pub mod Registers
pub mod Shares
pub mod Tallies
