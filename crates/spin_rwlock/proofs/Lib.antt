pub mod RwRefines
pub mod RwCalls
pub mod Standing
pub mod Looks
