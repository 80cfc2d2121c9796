-- The words that a line on err gives for a text that isn't a schedule, or for a script that isn't replayed: the name of
-- the refusal and its value, with a blank between them.
use Rattle.std.specs.Prelude.{ℕ, List, ◌++◌, Option, Some, None, codes, decimal}
use Rattle.step_sim.specs.declared.fault.ScheduleFault.{ScheduleFault}
use Rattle.step_sim.specs.declared.fault.ScheduleFault.TheVariants.{Syntax, Thread, Limit, NoMemory}
use Rattle.step_sim.specs.declared.sim_fault.SimFault.{SimFault}
use Rattle.step_sim.specs.declared.sim_fault.SimFault.TheVariants as replaying

-- the words; there are none if memory ran out, since nothing is refused then
abbrev pub schedule_words : ScheduleFault → Option (List ℕ)
schedule_words (Syntax line) = Some (codes "Syntax " ++ decimal line)
schedule_words (Thread line) = Some (codes "Thread " ++ decimal line)
schedule_words Limit = Some (codes "Limit")
schedule_words NoMemory = None

-- the words for a script with a line at which a thread or the patcher may wait
abbrev pub waits_words : ℕ → List ℕ
waits_words line = codes "Waits " ++ decimal line

abbrev pub sim_words : SimFault → Option (List ℕ)
sim_words (replaying.Waits line) = Some (waits_words line)
sim_words replaying.NoMemory = None
