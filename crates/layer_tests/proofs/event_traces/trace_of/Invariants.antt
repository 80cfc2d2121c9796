-- there is a block for each event so far
use Rattle.std.proofs.Common.{◌≡◌, length}
use Rattle.layer_tests.proofs.event_traces.trace_of.Given as goal

abbrev pub invariant-loop-said : goal.invariant-loop-said
invariant-loop-said l = length l.blocks.items ≡ l.said-index
