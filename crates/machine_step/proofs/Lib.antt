-- Accepted images: units and sleds by their places, and one unit at most at an address
pub mod Accepted
pub mod OneUnit
pub mod Places
-- The machine: each of its steps is one of the plain run (src/running.rt, src/stand.rt)
pub mod MachineSteps
pub mod MachineRuns
pub mod PlainWays
pub mod WayToSled
pub mod PassedSled
-- Plain runs: there is an end, only one, after few enough passings (src/laws.rt)
pub mod SomeEnd
pub mod OneEnd
pub mod OneState
pub mod PassingLimit
-- A traced thread: the word that it wants, and what a load makes of it (src/cpu.rt, src/want.rt)
pub mod WordsAt
pub mod StagesLeft
pub mod MarksAfterLoad
pub mod LoadedValues
pub mod ThreadOnPlainRun
pub mod ThreadAtStart
pub mod OpenedPassing
pub mod LoadlessPassing
pub mod ThreadAfterLoad
pub mod GivenThread
pub mod UnderwayPassing
-- Loads that follow a script, load by load (src/laws.rt)
pub mod LoadByLoad
-- Whole passings: allowed loads decode each sled whole, and the thread ends as its plain run does (src/laws.rt)
pub mod AllowedLoads
pub mod WholePassings
pub mod SameEnd
-- Marks: if a script lets a thread end, some marks follow the script (src/laws.rt)
pub mod EachPassing
pub mod SomeMarks
pub mod WantedWords
-- The texts of output bytes and of plain runs (src/output.rt, src/plain_text.rt)
pub mod OutputText
pub mod PlainText
-- Worked examples: the loads of passings
mod WholeRows
