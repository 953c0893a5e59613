pub mod FairSteps
pub mod Readers
pub mod ReaderSteps
pub mod Barriers
pub mod Upgrading
