-- Codes: their bytes, fields and prefixes (src/code.rt)
pub mod CodePadding
pub mod Prefixes
pub mod Fields
-- The reader: what it returns for each input, which is the only answer (src/reading.rt, src/laws.rt)
pub mod DecodedEncodings
pub mod OneAnswer
pub mod TrueAnswers
pub mod DecodeClauses
