pub mod Mutex
pub mod Queue
pub mod TicketQueue
pub mod TicketPasses
