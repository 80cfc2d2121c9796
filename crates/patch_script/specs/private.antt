-- What the contracts of private functions cite. No promise of this crate rests on it.
pub mod Drafts
pub mod FirstPatches
pub mod Placing
pub mod Scripts
pub mod Sleds
pub mod Standing
