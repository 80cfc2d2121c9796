-- The order of a run.
use Rattle.std.specs.Prelude.{◌≡◌, ◌-◌, ℕ, List, length, slice_get}
use Rattle.machine_step.specs.Traced.{sleds_passed}
use Rattle.patch_script.specs.declared.command.PatchCommand.{PatchCommand}
use Rattle.patch_script.specs.Micros.{start_of, total_of}
use Rattle.step_sim.specs.declared.turns.Turns.{Turns}
use Rattle.traced_run.specs.Runs.{EachThread, ThreadRun}
use Rattle.xray_image.specs.Program.{Program}
use Rattle.run_order.specs.FreeScripts.{free_place}
use Rattle.run_order.specs.Merges.{IsMerge}
use Rattle.run_order.specs.Places.{free_places}

-- the places of the loads of each thread of a run, in the script without waits; the marks of each thread follow the script
pub record AreRunPlaces (program : Program) (threads : ℕ) (script : List PatchCommand) (runs : List ThreadRun) (places : List (List ℕ)) : Type 0 where
  pub count : length places ≡ length runs
  pub each : EachThread runs
      (λ number run. free_places program threads script number (sleds_passed run.passed) run.marks ≡ slice_get places (number - 1))

-- The order of a run beside a script, as a schedule beside the script without waits: the merge of the loads of its
-- threads, from the place of `go` to that of the script's end. Each load is made as early as it may be, and all micro
-- steps are made.
pub record IsOrderOf (program : Program) (threads : ℕ) (script : List PatchCommand) (runs : List ThreadRun) (schedule : List Turns) : Type 0 where
  pub places : List (List ℕ)
  pub are : AreRunPlaces program threads script runs places
  pub merge : IsMerge (free_place program threads script (start_of program threads script))
      (free_place program threads script (total_of program threads script)) places schedule
