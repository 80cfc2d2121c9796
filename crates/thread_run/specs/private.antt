-- What the contracts of private functions cite. No promise of this crate rests on it.
pub mod Pooled
pub mod Rooms
pub mod Segments
pub mod Starting
pub mod Steps
