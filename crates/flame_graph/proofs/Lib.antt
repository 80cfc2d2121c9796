-- Worked examples: names, places and pictures
pub mod Rows
-- The walk over rows: which frames open and end at a row, and where each is drawn (src/walk.rt, src/sums.rt)
pub mod Measures
pub mod Orders
pub mod FrameSpans
pub mod FramePlaces
pub mod OpenFrames
pub mod Openings
pub mod DrawnFrames
pub mod Scales
-- The names: what a picture shows of them is UTF-8 (src/names.rt, src/laws.rt)
pub mod NameCharacters
pub mod NameTexts
pub mod NameEscapes
-- The laws of a picture: which frames there are, that none overlaps another or sticks out of its caller, and that the
-- lowest row adds up to the whole (src/laws.rt)
pub mod NestedFrames
pub mod FramePrefixes
pub mod FrameSums
pub mod FramesApart
pub mod LowestRow
-- The rows of a stack report can be drawn (src/laws.rt)
pub mod StackRows
