-- What the contracts of private functions cite. No promise of this crate rests on it.
pub mod Files
pub mod FirstPass
pub mod Fits
pub mod LaidTexts
pub mod Laying
pub mod NameTables
pub mod RegisterNames
pub mod Views
