-- Basic logs: how they are written, and what they read as (src/basic_text.rt, src/basic_reading.rt)
pub mod Places
pub mod Pieces
pub mod LogRecords
pub mod Logs
pub mod Wide
pub mod TracesFit
pub mod LogsFit
-- Runs of events: one more event at the end (src/runs.rt)
pub mod RunLaws
-- Trace events in JSON: their texts, and escapes in strings (src/trace_events.rt, src/escaped.rt)
pub mod Escapes
pub mod JsonTexts
pub mod GivenTexts
-- The lines of a dump (src/dump.rt, src/record_row.rt)
pub mod Rows
pub mod Lines
