pub mod Gathered
pub mod Keeping
pub mod Opens
pub mod Rolls
