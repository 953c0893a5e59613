pub mod Calls
pub mod Drains
pub mod Errors
pub mod Kept
pub mod Queues
