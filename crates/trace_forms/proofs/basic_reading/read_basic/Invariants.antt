use Rattle.std.proofs.Common.{◌≡◌, ◌-◌, List, None, drop, length}
use Rattle.fdr_file.specs.ThreadEvents.{ThreadEvent}
use Rattle.trace_forms.specs.BasicLogs.{basic_of, wide_cpu}
use Rattle.trace_forms.specs.private.RunBlocks.{HoldsRuns}
use Rattle.trace_forms.proofs.Logs.{log_read, read_on}
use Rattle.trace_forms.proofs.basic_reading.read_basic.Given as goal

-- the events so far, whose CPUs fit a byte, and what the records from here on read as after them
abbrev pub invariant-reading : goal.invariant-reading
invariant-reading l = (events : List ThreadEvent) × HoldsRuns l.runs events
    × (basic_of l.bytes ≡ log_read l.header (read_on events l.at (drop l.at l.bytes))) × (wide_cpu events ≡ None)

abbrev pub decreases-reading : goal.decreases-reading
decreases-reading l = length l.bytes - l.at
