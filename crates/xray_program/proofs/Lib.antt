-- The call: the laws of all commands, and how a call ends (src/call.rt, src/work.rt, src/laws.rt)
pub mod CommandLaws
pub mod CommandRows
pub mod DoingLaws
pub mod CallContract
pub mod WorkEndings
pub mod ErrLines
-- Lawful runs, and the headline of `sim`, `run` and `profile` (src/laws.rt)
pub mod LawfulRuns
pub mod Headline
pub mod RunLoads
pub mod SpokenLines
-- What `sim` and `run` leave is accepted by `check` (src/laws.rt)
pub mod CheckYes
pub mod AuditLengths
-- The numbers of an audit have at most 64 bits (src/laws.rt)
pub mod RunNumbers
-- A profile has the stacks of a run (src/laws.rt)
pub mod ProfiledStacks
-- What `order` writes is replayed by `sim`, and so is what `run` leaves (src/laws.rt)
pub mod OtherLosses
pub mod OrderReplays
pub mod RunReplays
-- What stamps and buffers don't change (src/laws.rt)
pub mod OtherOptions
-- Beside a script that records each passing, runs that lose nothing leave the same (src/laws.rt)
pub mod SameRuns
-- The trace of a run is imported as itself (src/laws.rt)
pub mod ImportedRuns
-- Inputs: in their turn, what comes of each, and of one that is refused (src/input.rt, src/inputs.rt)
pub mod Turns
pub mod CallOrder
pub mod TakenInputs
pub mod InputMeanings
pub mod InputReaders
pub mod KeptForms
pub mod Images
pub mod Audits
pub mod Logs
pub mod LogForms
pub mod WholeScripts
-- Outputs and texts (src/delivery.rt, src/traced.rt, src/summary.rt)
pub mod MadeOutputs
pub mod TextLists
pub mod RunWritten
pub mod SoakTexts
-- Runs: options make setups, plain runs end, and there is a run beside each script (src/setups.rt, src/plain.rt)
pub mod RunSetups
pub mod PlainThreads
pub mod RunExists
pub mod StartedThreads
pub mod ProfiledThreads
pub mod SoakReads
-- Each command: what it finds is there, and is only one thing; and how its work ends (src/laws.rt, src/sim.rt, src/load_order.rt)
pub mod ConvertLaws
pub mod DumpLaws
pub mod PlainLaws
pub mod RunLaws
pub mod SimLaws
pub mod SoakLaws
pub mod StackLaws
pub mod SimEndings
pub mod OrderEndings
