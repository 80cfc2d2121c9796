-- The inputs of `check`, once all of them were judged.
use Rattle.std.specs.Prelude.{◌≡◌, ℕ, List}
use Rattle.audit_check.specs.Statements.{AuditStatement, NamesThreads}
use Rattle.patch_script.specs.Plans.{Plan}
use Rattle.xray_image.specs.Program.{Program}
use Rattle.xray_program.specs.declared.check_inputs.CheckInputs.{CheckInputs}

-- the script was read for this image and for as many threads as the audit has
pub record AreReadFor (inputs : CheckInputs) : Type 0 where
  pub names : NamesThreads inputs.audit
  pub program_is : inputs.script.program ≡ inputs.image
  pub threads_are : inputs.script.threads ≡ inputs.audit.setup.threads

-- the inputs are these values
abbrev pub AreValues : CheckInputs → Program × AuditStatement × Plan × List ℕ → Type 0
AreValues inputs values = (inputs.image, inputs.audit, inputs.script, inputs.trace) ≡ values
