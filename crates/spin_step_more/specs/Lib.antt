pub mod Starvers
pub mod Readers
pub mod Upgrading
pub mod FairKind
pub mod FairCalls
pub mod RwKind
pub mod RwCalls
