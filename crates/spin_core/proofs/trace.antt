pub mod Prefixes
pub mod Steps
pub mod Tokens
pub mod Word
pub mod Walk
