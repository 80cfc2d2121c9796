use Rattle.std.proofs.Common.{◌≡◌, ◌++◌, ℕ, List, Ok, length}
use Rattle.std.specs.List.{flat_map}
use Rattle.xray_io.specs.Text.{AddsText}
use Rattle.map_names.specs.Naming.{no_names}
use Rattle.function_names.specs.Name.{callee_text}
use Rattle.function_names.proofs.name.add_callee_numbers.Given as goal

abbrev pub invariant-adding : goal.invariant-adding
invariant-adding g l =
    (done : List ℕ) × (l.ids ≡ done ++ l.left)
    × AddsText g.S.Sink.written g.S.Sink.faults g.S.Sink.along l.fn.text l.text (flat_map (callee_text no_names) done) (Ok tt)

abbrev pub decreases-adding : goal.decreases-adding
decreases-adding g l = length l.left
