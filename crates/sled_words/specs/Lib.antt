pub mod Words
pub mod Parts
pub mod Allowed
pub mod ChangingCode
pub mod CodeBytes
pub mod private
