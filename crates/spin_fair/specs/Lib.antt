pub mod Fair
pub mod FairPasses
pub mod Texts
