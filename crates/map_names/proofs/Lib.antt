-- The reader: a name between quotation marks (src/quote.rt), and the lines of a map in turn (src/reading.rt)
pub mod Letters
pub mod EntryNames
pub mod TakenLines
-- The spelling of names, lines and texts (src/laws.rt)
pub mod LineParts
pub mod SpelledNames
pub mod SpelledLines
pub mod SpelledMaps
