-- The inputs of `order`, once all of them were judged.
use Rattle.std.specs.Prelude.{◌≡◌, ◌≤◌, length}
use Rattle.audit_check.specs.Statements.{AuditStatement, NamesThreads}
use Rattle.xray_image.specs.Program.{Program}
use Rattle.xray_program.specs.Inputs.{WholeScript, script_limit}
use Rattle.xray_program.specs.declared.order_inputs.OrderInputs.{OrderInputs}

-- the script was read for this image and for as many threads as the audit has
pub record AreReadFor (inputs : OrderInputs) : Type 0 where
  pub names : NamesThreads inputs.audit
  pub program_is : inputs.script.plan.program ≡ inputs.image
  pub threads_are : inputs.script.plan.threads ≡ inputs.audit.setup.threads
  pub short : length inputs.script.text ≤ script_limit

-- the inputs are these values
abbrev pub AreValues : OrderInputs → Program × AuditStatement × WholeScript → Type 0
AreValues inputs values = (inputs.image, inputs.audit, inputs.script) ≡ values
