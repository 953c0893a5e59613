pub mod Ending
pub mod Meaning
pub mod Operating
pub mod Passes
pub mod Pausing
pub mod Turns
