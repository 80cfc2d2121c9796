pub mod Arranged
pub mod Audit
pub mod Flush
pub mod Lines
pub mod Summary
pub mod Telling
pub mod private
