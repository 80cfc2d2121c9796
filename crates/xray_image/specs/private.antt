-- What the contracts of private functions cite. No promise of this crate rests on it.
pub mod ImageView
pub mod Index
pub mod Judging
pub mod Numbering
pub mod Reading
pub mod RunningSums
pub mod SledPieces
pub mod UnitTable
pub mod Views
