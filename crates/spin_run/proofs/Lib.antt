pub mod Commands
pub mod Firsts
pub mod Joined
pub mod Leading
pub mod Openings
pub mod Stops
pub mod Wholes
pub mod Words
