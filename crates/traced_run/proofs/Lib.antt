-- Losses: the segments that are lost and those that are left (src/laws.rt)
pub mod Oldest
pub mod KeptEvents
pub mod SomeLosses
-- What a run records fits its records and its buffers (src/laws.rt)
pub mod SmallIds
pub mod SmallArguments
pub mod FitPassings
pub mod RecordedEvents
pub mod FitBuffers
pub mod FewBuffers
-- Scripts that record each passing, and threads that were released (src/laws.rt)
pub mod RecordingCommands
pub mod RecordingFromGo
pub mod RecordedMarks
pub mod ReleasedThreads
-- Stamps: they change no plain run (src/laws.rt)
pub mod OtherStamps
-- Executing the code: with whole passings it comes to the end of the plain run (src/laws.rt)
pub mod ButR10
pub mod SledBytes
pub mod AcceptedCode
pub mod SledSteps
pub mod ExecutedRuns
-- Worked examples: the step of a sled, and scripts that record each passing
mod ExecutedRows
mod RecordingRows
