-- Worked examples: what is drawn from seeds
mod Rows
-- The assembler text of any number: as it is written (src/text.rt), and as it is read (src/laws.rt)
pub mod Statements
pub mod TextLemmas
pub mod SaidLemmas
pub mod OrderLemmas
-- The script and the schedule of any number (src/script.rt, src/schedule.rt, src/laws.rt)
pub mod LoopLemmas
pub mod ScriptLemmas
pub mod ScheduleLemmas
-- The text and the script have few lines (src/laws.rt)
pub mod LineCounts
