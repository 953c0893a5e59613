pub mod Orders
pub mod Reserved
