pub mod Taken
pub mod Seating
