-- The reader: what has been read after one more record or block (src/reading.rt, src/blocks.rt, src/basic.rt)
pub mod NotedEvents
pub mod RecordWalk
pub mod ArgumentsBehind
pub mod BlockReading
pub mod BlockLists
pub mod RecordedPassings
pub mod WholeLogs
-- The grammar: what is read as a log is one, and one is read as this log (src/laws.rt)
pub mod LogRecords
pub mod LogEvents
pub mod LogShapes
pub mod LogDescribed
pub mod RecordsAgain
pub mod CutRecords
pub mod EventsAgain
pub mod LogAgain
-- What is imported of a log: each event of each thread, and what is printed (src/laws.rt)
pub mod LeftOut
pub mod CountedThreads
pub mod KeptEvents
pub mod WhichBlocks
-- Records and their events: which fit the records of a trace (src/blocks.rt)
pub mod RecordFits
pub mod RecordCuts
pub mod RecordableLogs
pub mod Runs
pub mod EventsToCome
pub mod GivenEvents
-- Stretches of function records (src/stretch.rt, src/walk.rt)
pub mod Stretches
-- The import: which blocks are taken, and the file that they are packed into (src/import.rt, src/packing.rt)
pub mod ByteSets
pub mod TakenBlocks
pub mod PackedFile
pub mod AddedBlocks
pub mod StretchPacking
pub mod ImportedBlocks
-- A log is imported in only one way, and the import reads back (src/laws.rt)
pub mod FileOrder
pub mod OneOrder
pub mod OneImport
pub mod ReadingBack
-- A trace is a log, and one in order is imported as itself (src/laws.rt)
pub mod TraceIsLog
pub mod ItselfImported
-- The events of a basic log, thread by thread (src/threads.rt)
pub mod ByThread
pub mod ThreadRuns
pub mod ThreadsKept
pub mod SameEvents
pub mod BasicNumbers
-- The lines of facts (src/facts.rt)
pub mod FactTexts
