-- What the fields of open calls say.
use Rattle.std.specs.Prelude.{◌≤◌, List, length, take}
use Rattle.stack_rebuild.specs.declared.call.Call.{Call}
use Rattle.stack_rebuild.specs.declared.open_calls.OpenCalls.TheInside.{Inside}
use Rattle.stack_rebuild.specs.private.Counts.{AreCountsOf}

-- the calls
abbrev pub calls_in : Inside → List Call
calls_in a = a.calls.items

-- the numbers are those of the outermost calls, as many as are counted
pub record IsCounted (a : Inside) : Type 0 where
  pub within : a.counted ≤ length a.calls.items
  pub counts : AreCountsOf (take a.counted a.calls.items) a.counts
