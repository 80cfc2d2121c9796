-- What the contracts of private functions cite. No promise of this crate rests on it.
pub mod Chains
pub mod FrameLists
pub mod Frames
pub mod Nodes
pub mod Paths
pub mod Recorders
pub mod Steps
pub mod Tables
