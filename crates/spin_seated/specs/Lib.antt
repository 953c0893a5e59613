pub mod Histories
pub mod Lawful
pub mod Locked
pub mod Mutex
pub mod Passes
pub mod Rw
pub mod RwLawful
