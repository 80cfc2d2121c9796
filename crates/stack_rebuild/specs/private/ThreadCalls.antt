-- What the fields of a thread's calls say.
use Rattle.std.specs.Prelude.{reverse}
use Rattle.stack_rebuild.specs.declared.calls.ThreadCalls.TheInside.{Inside}
use Rattle.stack_rebuild.specs.Calls.{Standing}

-- where the thread is
abbrev pub standing_in : Inside → Standing
standing_in a = record { events = a.events; calls = reverse a.calls }
