-- Worked examples: small texts, and what the definitions make of them
mod Rows
-- The first pass: names, widths and totals of lines (src/first_pass.rt, src/names.rt, src/width.rt)
pub mod NameLemmas
pub mod NameTableLemmas
pub mod WidthLemmas
pub mod LayoutLemmas
pub mod TotalsLemmas
pub mod FirstPassLemmas
-- Targets: the place that each name stands for, or a name without one (src/targets.rt, src/ending.rt)
pub mod TargetLemmas
pub mod EndingLemmas
-- The second pass: the parts of the image file, line by line (src/code.rt, src/map.rt, src/file.rt, src/write.rt)
pub mod CodeLemmas
pub mod MapLemmas
pub mod FileLemmas
pub mod WriteLemmas
-- A text that was read can be laid out and written (src/laid_text.rt)
pub mod Monotone
pub mod PlacesInCode
pub mod ReadStatements
pub mod Writable
-- The verdict on a text, from what its lines say (src/assembling.rt)
pub mod TextVerdict
-- An assembled file is accepted, with the program that its text says (src/laws.rt)
pub mod SaidLemmas
pub mod SaidLines
pub mod Addresses
pub mod OwnPlaces
pub mod UnitsLaw
pub mod Owners
pub mod SledMapLaw
pub mod EntryLaw
pub mod FunctionsLaw
pub mod BranchesLaw
pub mod ReadBack
pub mod FileFields
pub mod FileLaw
pub mod Versions
pub mod ProgramLaw
-- Each sled is of the function whose lines it stands among (src/laws.rt)
pub mod SledNames
-- A text that is written of words says what was written (src/written.rt)
pub mod WrittenLemmas
pub mod WrittenIds
