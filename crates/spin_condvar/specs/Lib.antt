pub mod Monitors
pub mod Waits
