-- What the contracts of private functions cite. No promise of this crate rests on it.
pub mod Inside
pub mod Machine
pub mod Stages
pub mod Standing
pub mod Steps
