pub mod Places
pub mod Kept
pub mod Told
pub mod First
pub mod Refuted
pub mod Returning
pub mod Threads
