-- What a table knows of its script, and lists of words by their slots
pub mod Laws
pub mod SlotsApart
pub mod Rows
-- The rule holds at first, and each step of the patcher and of a thread keeps it (src/table.rt)
pub mod RuleAtStart
pub mod OtherSeats
pub mod PatcherSteps
pub mod ThreadSteps
pub mod SeatChanges
pub mod PatcherBounds
-- What the rule gives: loads that follow the script, and the words at the end (src/table.rt, src/closing.rt)
pub mod LoadsOf
pub mod RuleAtEnd
