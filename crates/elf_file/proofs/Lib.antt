-- Entries in turn (src/symbols.rt, src/addends.rt)
pub mod Turns
-- Relocations (src/addends.rt)
pub mod Relocations
-- The steps of a table of symbols (src/names.rt)
pub mod TableSteps
-- Sections (src/sections.rt)
pub mod SectionSteps
-- The symbols of a table (src/symbols.rt)
pub mod SymbolSteps
-- The best symbol (src/symbols.rt)
pub mod BestSymbols
