pub mod Records
pub mod Recordable
pub mod Refusals
pub mod Reading
