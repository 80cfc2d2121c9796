-- A replay before its first turn.
use Rattle.std.specs.Prelude.{◌≡◌, ◌≤◌, ℕ, List, [], None, length, vec_capacity, vec_len}
use Rattle.xray_image.specs.Program.{IsAccepted}
use Rattle.sled_words.specs.Words.{word_count}
use Rattle.patch_script.specs.Micros.{hold_of, start_of}
use Rattle.patch_script.specs.Refusals.{commands_of}
use Rattle.traced_run.specs.Kept.{stamp_of}
use Rattle.step_sim.specs.declared.start.SimStart.TheInside.{Inside}
use Rattle.step_sim.specs.Pool.{first_stock}
use Rattle.step_sim.specs.private.Holding.{PoolHolds}
use Rattle.machine_step.specs.Buffers.{spare_of}
use Rattle.step_sim.specs.private.Standing.{AllHaveBegun, IsPatcherAt}
use Rattle.step_sim.specs.Starts.{Start}

-- the replay that the fields are of
abbrev pub start_in : Inside → Start
start_in s = record { program = s.patcher.script.now.program; script = commands_of s.patcher.script.now.lines; setup = s.setup }

-- the patcher has made the steps before `go`, the threads have loaded nothing, the buffers hold nothing, and there is
-- room for what is left at the end
pub record HoldsStart (start : Start) (s : Inside) : Type 0 where
  pub accepted : (bytes : List ℕ) × IsAccepted bytes start.program
  pub free : (number : ℕ) → hold_of number start.script ≡ None
  pub patcher : IsPatcherAt start.program start.setup.threads start.script (start_of start.program start.setup.threads start.script) s.patcher
  pub words : vec_len s.patcher.words ≡ word_count start.program start.setup.threads
  pub count : length s.cpus.items ≡ start.setup.threads
  pub begun : AllHaveBegun start.program start.script start.setup.threads start.setup.limits s.cpus.items
  pub pool : PoolHolds (stamp_of start.setup) start.setup.threads (λ _. []) (first_stock (spare_of start.setup)) s.pool
  pub enough : start.setup.threads ≤ start.setup.max
  pub none_kept : s.kept.items ≡ []
  pub room : vec_capacity s.kept ≡ start.setup.max
  pub none_counted : s.segments.items ≡ []
  pub room_counted : vec_capacity s.segments ≡ start.setup.threads

abbrev pub IsAtStart : Inside → Type 0
IsAtStart s = HoldsStart (start_in s) s
