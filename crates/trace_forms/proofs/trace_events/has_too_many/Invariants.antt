use Rattle.std.proofs.Common.{◌≡◌, ◌+◌, length}
use Rattle.trace_forms.proofs.trace_events.has_too_many.Given as goal

abbrev pub invariant-counting : goal.invariant-counting
invariant-counting g l = length (g.E.EventSource.left l.fn.events) ≡ l.counter + length (g.E.EventSource.left l.events)
