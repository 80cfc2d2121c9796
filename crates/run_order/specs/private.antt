pub mod Lines
pub mod Ordered
pub mod Stops
pub mod Texts
pub mod Waits
pub mod Ordering
