-- The reader: the commands of a text, or its first fault (src/reading.rt, src/standing.rt)
pub mod Lists
pub mod CommandsSoFar
pub mod TextEnd
pub mod ScriptRows
-- Micro steps: the command and the sled of each, by its number (src/placed.rt, src/script.rt, src/sleds.rt)
pub mod Steps
pub mod Firsts
pub mod Ranges
pub mod Places
pub mod AddedCommand
pub mod NoEnd
pub mod MicroNames
pub mod BeforeGo
-- Code over time: the value of each word at each place, by which every script keeps sleds whole (src/laws.rt)
pub mod WordValues
pub mod WordNumbers
pub mod PatchOrder
pub mod PatchedParts
pub mod AllowedCode
-- Waits: they bound passings, and each script lets its threads end (src/laws.rt)
pub mod PassingBounds
pub mod ThreadsEnd
-- A script that is written of commands is read as these commands (src/written.rt)
pub mod WrittenLemmas
-- Worked examples: small scripts, and the code at a place
mod Rows
mod CodeRows
