-- What the contracts of private functions cite. No promise of this crate rests on it.
pub mod Stretches
pub mod Walks
pub mod Passings
pub mod Headers
pub mod Choices
pub mod Readings
pub mod Coming
pub mod Notes
pub mod Packings
pub mod FactLines
