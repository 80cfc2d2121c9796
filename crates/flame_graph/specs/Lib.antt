pub mod Characters
pub mod Frames
pub mod FlameText
pub mod Laws
pub mod Picture
pub mod private
