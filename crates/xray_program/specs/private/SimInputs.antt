-- The inputs of `sim`, once all of them were judged.
use Rattle.std.specs.Prelude.{◌≡◌, ℕ, List, Ok, All}
use Rattle.patch_script.specs.Plans.{Plan}
use Rattle.step_sim.specs.declared.turns.Turns.{Turns}
use Rattle.xray_image.specs.Program.{Program}
use Rattle.step_sim.specs.Schedules.{AreTurnsOf, schedule_of}
use Rattle.xray_program.specs.declared.sim_inputs.SimInputs.{SimInputs}

-- the script and the schedule were read for this image and this many threads
pub record AreReadFor (threads : ℕ) (inputs : SimInputs) : Type 0 where
  pub program_is : inputs.script.program ≡ inputs.image
  pub threads_are : inputs.script.threads ≡ threads
  pub turns_of_threads : All (AreTurnsOf threads) inputs.schedule
  pub schedule_read : (text : List ℕ) × (schedule_of threads text ≡ Ok inputs.schedule)

-- the inputs are these values
abbrev pub AreValues : SimInputs → Program × Plan × List Turns → Type 0
AreValues inputs values = (inputs.image, inputs.script, inputs.schedule) ≡ values
