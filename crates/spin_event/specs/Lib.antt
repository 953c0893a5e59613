pub mod EventCalls
pub mod Sleeping
pub mod Threads
pub mod Wrong
