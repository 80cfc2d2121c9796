pub mod Naming
pub mod Entries
pub mod Maps
pub mod Spelling
pub mod MapNames
pub mod FaultWords
pub mod private
