pub mod Sections
pub mod Publishing
pub mod Phases
pub mod Ledger
pub mod Settings
pub mod SharedSettings
pub mod Logged
