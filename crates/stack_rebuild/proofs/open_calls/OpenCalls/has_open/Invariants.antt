use Rattle.std.proofs.Common.{◌≡◌, ◌-◌, length}
use Rattle.stack_rebuild.specs.private.OpenCalls.{IsCounted}
use Rattle.stack_rebuild.proofs.open_calls.OpenCalls.has_open.Given as goal

abbrev pub invariant-counting : goal.invariant-counting
invariant-counting l = record {
  same : l.self-inside.calls.items ≡ l.fn.self;
  counted : IsCounted l.self-inside;
}

abbrev pub decreases-counting : goal.decreases-counting
decreases-counting l = length l.self-inside.calls.items - l.self-inside.counted
