-- What the contracts of private functions cite. No promise of this crate rests on it.
pub mod Parts
pub mod Taking
pub mod Marks
pub mod Lines
pub mod Turns
pub mod Switches
pub mod Ways
pub mod Judging
pub mod Searches
pub mod LoadStops
pub mod Placed
pub mod Blocks
pub mod Walks
