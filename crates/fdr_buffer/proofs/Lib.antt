-- A buffer: its bytes say its events, and one more event fits or does not (src/buffer.rt, src/writing.rt)
pub mod Records
pub mod SegmentBytes
pub mod BufferFields
-- The cut of events into segments: it holds all of them, and grows with each (src/laws.rt)
pub mod SegmentCuts
