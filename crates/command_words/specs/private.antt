-- What the contracts of private functions cite. No promise of this crate rests on it.
pub mod Allowed
pub mod Clapped
pub mod CodeViews
