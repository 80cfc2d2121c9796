use Rattle.std.proofs.Common.{◌≡◌, ◌+◌, length}
use Rattle.std.specs.Prelude.{nat_lt}
use Rattle.std.specs.List.{position_from}
use Rattle.fdr_file.specs.ThreadEvents.{ThreadEvent}
use Rattle.trace_forms.proofs.basic_text.find_wide.Given as goal

abbrev pub invariant-narrow : goal.invariant-narrow
invariant-narrow g l = record {
  passed : l.number + length (g.E.EventSource.left l.events) ≡ length (g.E.EventSource.left l.fn.events);
  found : position_from (λ (e : ThreadEvent). nat_lt 255 e.event.cpu) l.number (g.E.EventSource.left l.events)
      ≡ position_from (λ (e : ThreadEvent). nat_lt 255 e.event.cpu) 0 (g.E.EventSource.left l.fn.events);
}

abbrev pub decreases-narrow : goal.decreases-narrow
decreases-narrow g l = length (g.E.EventSource.left l.events)
