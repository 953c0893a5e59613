pub mod Owed
pub mod FairOwed
