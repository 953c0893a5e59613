pub mod Command
pub mod Faults
pub mod Findings
pub mod Options
pub mod Reports
pub mod Runs
pub mod Scripts
pub mod Views
