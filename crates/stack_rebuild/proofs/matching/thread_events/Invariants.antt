use Rattle.std.proofs.Common.{◌≡◌, ◌++◌, drop}
use Rattle.stack_rebuild.specs.Histories.{events_of_thread}
use Rattle.stack_rebuild.proofs.matching.thread_events.Given as goal

abbrev pub invariant-gathering : goal.invariant-gathering
invariant-gathering l = l.events.items ++ events_of_thread l.thread (drop l.block-index l.block-items) ≡ events_of_thread l.thread l.block-items
