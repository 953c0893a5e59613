pub mod Rw
pub mod Guards
pub mod RwPasses
pub mod Standing
pub mod Texts
