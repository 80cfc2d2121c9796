pub mod Segments
pub mod Filled
pub mod Fits
pub mod Times
pub mod private
