pub mod FairSeats
pub mod Kind
pub mod Table
pub mod Meaning
pub mod Rule
pub mod Passes
