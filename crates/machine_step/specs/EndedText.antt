-- The state text of a traced thread.
use Rattle.std.specs.Prelude.{ℕ, List, []}
use Rattle.machine_step.specs.declared.want.Want.{Want}
use Rattle.machine_step.specs.declared.want.Want.TheVariants.{Gate, Load, Done}
use Rattle.machine_step.specs.Texts.{state_text}
use Rattle.machine_step.specs.Traced.{Traced, state_at}

-- the text of a thread that has ended: its end, its counts, its registers, its output and its marks; its address isn't
-- printed
abbrev pub ended_text : ℕ → Traced → Want → List ℕ
ended_text thread t (Gate passing) = []
ended_text thread t (Load word) = []
ended_text thread t (Done end) = state_text thread end (state_at 0 t) t.marks

-- the state text of a traced thread that has ended
abbrev pub thread_text : Traced → List ℕ
thread_text t = ended_text t.thread t t.want
