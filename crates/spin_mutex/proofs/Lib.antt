pub mod TicketRefines
pub mod TicketQueue
