-- What the words of `run` say, and the inputs of a command that runs threads beside a script, once they were judged.
use Rattle.std.specs.Prelude.{◌≡◌, ℕ}
use Rattle.command_words.specs.Words.{Command}
use Rattle.command_words.specs.Words as words
use Rattle.patch_script.specs.Plans.{Plan}
use Rattle.xray_image.specs.Program.{Program}
use Rattle.xray_program.specs.declared.run_inputs.Run.{Run}
use Rattle.xray_program.specs.declared.run_inputs.RunInputs.{RunInputs}

-- what the words say
abbrev pub said_by : Run → Command
said_by run = words.Run run.image.now run.script.now run.files.trace.now run.files.audit.now run.options

-- the inputs are these values
abbrev pub AreValues : RunInputs → Program × Plan → Type 0
AreValues inputs values = (inputs.image, inputs.script) ≡ values

-- the script was read for this image and this many threads
pub record IsReadFor (threads : ℕ) (inputs : RunInputs) : Type 0 where
  pub program_is : inputs.script.program ≡ inputs.image
  pub threads_are : inputs.script.threads ≡ threads
