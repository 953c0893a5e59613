pub mod Promising
pub mod Dispensing
pub mod Drawn
pub mod TicketOperating
