pub mod Parts
pub mod Drafts
