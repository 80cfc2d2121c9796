-- What the contracts of private functions cite. No promise of this crate rests on it.
pub mod Counts
pub mod Faults
pub mod Holding
pub mod Readings
pub mod Recording
pub mod Standing
pub mod Starting
pub mod Turns
