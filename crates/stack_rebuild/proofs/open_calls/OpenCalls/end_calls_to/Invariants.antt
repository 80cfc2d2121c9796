use Rattle.std.proofs.Common.{◌≡◌, ◌<◌, length, reverse, count_by}
use Rattle.stack_rebuild.specs.Calls.{from_innermost}
use Rattle.stack_rebuild.specs.private.Counts.{is_of}
use Rattle.stack_rebuild.proofs.open_calls.OpenCalls.end_calls_to.Given as goal

abbrev pub invariant-ending : goal.invariant-ending
invariant-ending l = record {
  same : from_innermost l.func (reverse l.initial.self) ≡ from_innermost l.func (reverse l.self);
  some : 0 < count_by (is_of l.func) l.self;
}

abbrev pub decreases-ending : goal.decreases-ending
decreases-ending l = length l.self
