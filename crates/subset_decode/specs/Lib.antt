pub mod Registers
pub mod Encoding
pub mod Refusals
pub mod Reading
