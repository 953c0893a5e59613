pub mod Signs
pub mod Lemmas
pub mod WalkSteps
pub mod Walking
pub mod WalkNames
pub mod Plain
