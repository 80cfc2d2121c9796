-- Marks in two bits each: what is read of them, and what one more changes (src/marks.rt)
pub mod MarkBits
pub mod FullBytes
-- Runs of equal marks, and their text (src/runs.rt)
pub mod MarkRuns
