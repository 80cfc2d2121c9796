pub mod Merging
pub mod TrieLaws
pub mod Tries
pub mod private
