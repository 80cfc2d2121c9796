-- What the contracts of private functions cite. Nothing that this crate promises rests on it.
pub mod Texts
pub mod RunBlocks
pub mod Gathers
