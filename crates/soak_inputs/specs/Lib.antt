pub mod Draws
pub mod Texts
pub mod Scripts
pub mod Schedules
pub mod Inputs
pub mod Said
