pub mod Published
pub mod Sections
pub mod Transfers
pub mod Lines
pub mod Logged
pub mod Folds
