-- The reader: what it returns for each input, which is the only answer (src/reading.rt, src/laws.rt)
pub mod Fields
pub mod OneReading
