pub mod Views
pub mod Counts
pub mod Indexes
pub mod MapLines
pub mod NamedIds
