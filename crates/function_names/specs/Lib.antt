pub mod Name
pub mod Reading
pub mod NameLaws
pub mod private
