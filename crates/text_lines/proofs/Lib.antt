-- Lines, words and numbers of a text (src/text.rt, src/tokens.rt, src/numerals.rt, src/keywords.rt)
pub mod Places
pub mod LineLemmas
pub mod WordLemmas
pub mod NumberLemmas
pub mod KeywordLemmas
-- A text that is written of words is read as these words (src/laws.rt)
pub mod WrittenLemmas
-- Worked examples: small texts, and what the definitions make of them
mod Rows
