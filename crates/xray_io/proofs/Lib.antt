-- Reads and writes, one after the other (src/whole.rt)
pub mod DeskCalls
pub mod ReadPieces
-- Texts that are put together (src/text.rt, src/digits.rt)
pub mod TextSteps
pub mod Copies
pub mod ItemTexts
pub mod HexDigits
