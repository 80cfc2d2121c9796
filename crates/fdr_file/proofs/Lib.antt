-- Bytes part by part: flags, records that are whole, and the next record
pub mod Flags
pub mod NextParts
pub mod WholeRecords
pub mod RecordSteps
-- The reader: what it returns for each file (src/reading.rt, src/block.rt, src/records.rt)
pub mod DecodedRecords
pub mod PlacesDecide
pub mod TraceRows
pub mod PartFaults
-- The grammar: a file reads as a trace exactly when it is this trace (src/laws.rt)
pub mod GrammarIsRead
pub mod ReadIsGrammar
pub mod ReadFits
pub mod FewEvents
-- The writer: what is written is a trace, and reads back (src/writing.rt, src/laws.rt)
pub mod FileBytes
pub mod WrittenIsGrammar
-- Reading by records: the scan of a stream, and the cursor over events (src/scan.rt, src/cursor.rt, src/events.rt)
pub mod ReadingAndRecords
pub mod ScanSteps
pub mod EventRuns
pub mod CursorSteps
-- Prefixes: the longest that reads as a trace, and those that are traces (src/longest.rt, src/laws.rt)
pub mod LongestPrefix
pub mod TracePrefixes
