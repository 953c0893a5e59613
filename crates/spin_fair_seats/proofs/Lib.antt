pub mod Line
pub mod Seating
