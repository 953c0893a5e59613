pub mod Codes
pub mod Named
pub mod FairNamed
