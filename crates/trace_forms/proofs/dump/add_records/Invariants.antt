use Rattle.std.proofs.Common.{◌≡◌, ◌-◌, ◌++◌, ℕ, List, Ok, drop, length}
use Rattle.xray_io.specs.Text.{AddsText}
use Rattle.trace_forms.specs.Dumps.{record_lines}
use Rattle.trace_forms.proofs.Lines.{lines_at}
use Rattle.trace_forms.proofs.dump.add_records.Given as goal

-- the lines so far, and those of the records from here on
abbrev pub invariant-lines : goal.invariant-lines
invariant-lines g l = (given : List ℕ) × (record_lines l.bytes ≡ given ++ lines_at l.at (drop l.at l.bytes))
    × AddsText g.S.Sink.written g.S.Sink.faults g.S.Sink.along l.fn.text l.text given (Ok tt)

abbrev pub decreases-lines : goal.decreases-lines
decreases-lines g l = length l.bytes - l.at
