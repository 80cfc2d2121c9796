pub mod Views
pub mod Left
pub mod Rule
pub mod Passes
pub mod private
