-- What threads are started through.
use Rattle.std.specs.Prelude.{Bool}
use Rattle.thread_run.specs.declared.starter.Starter.{Starter}

-- threads were started through it
abbrev pub has_started : {T G : Type 0} → Starter T G → Bool
has_started starter = starter.has_started
