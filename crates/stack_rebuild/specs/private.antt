-- What the contracts of private functions cite. No promise of this crate rests on it.
pub mod Counts
pub mod Folding
pub mod Links
pub mod OpenCalls
pub mod PathNumbers
pub mod PathTree
pub mod Rows
pub mod Scanning
pub mod ThreadCalls
