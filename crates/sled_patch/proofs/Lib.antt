-- The micro steps before the start are stores (src/run.rt)
pub mod Stores
-- Threads may share the table
pub mod Crossing
