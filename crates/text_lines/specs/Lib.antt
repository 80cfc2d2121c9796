pub mod Lines
pub mod Words
pub mod Operands
pub mod Keywords
pub mod Numbers
pub mod Written
