-- Entries in turn (src/sleds.rt, src/index.rt)
pub mod Turns
pub mod SledSteps
-- Numbers of functions (src/numbering.rt)
pub mod Groups
-- Hexadecimal digits (src/hex.rt)
pub mod HexDigits
-- Texts of several parts (src/line.rt)
pub mod ItemTexts
pub mod MapLines
pub mod NamedLines
-- Functions with names (src/facts.rt)
pub mod NamedFunctions
-- The text of a map as it is read (src/laws.rt)
pub mod Numerals
pub mod TextLines
pub mod ReadMaps
