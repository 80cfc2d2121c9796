-- What a replay is made of.
use Rattle.std.specs.Prelude.{List}
use Rattle.xray_image.specs.Program.{Program}
use Rattle.patch_script.specs.declared.command.PatchCommand.{PatchCommand}
use Rattle.machine_step.specs.declared.setup.Setup.{Setup}

-- the program, the commands of the script, and what the replay is made with
pub record Start : Type 0 where
  pub program : Program
  pub script : List PatchCommand
  pub setup : Setup
