-- What the contracts of private functions cite. No promise of this crate rests on it.
pub mod Frames
pub mod Folding
pub mod FirstRows
