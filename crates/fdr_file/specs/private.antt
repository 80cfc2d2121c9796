-- What the contracts of private functions cite. Nothing that this crate promises rests on it.
pub mod Faults
pub mod Reading
pub mod Scan
pub mod Cursor
pub mod Prefixes
