-- When the inputs of a command are accepted, and nothing else is wrong with them.
use Rattle.std.specs.Prelude.{ℕ, List, Ok}
use Rattle.audit_check.specs.Statements.{AuditStatement}
use Rattle.patch_script.specs.Refusals.{commands_of}
use Rattle.run_order.specs.Answers.{IsOrdered}
use Rattle.step_sim.specs.declared.turns.Turns.{Turns}
use Rattle.xray_image.specs.Program.{Program}
use Rattle.xray_io.specs.Desk.{Entry}
use Rattle.xray_io.specs.Faults.{Rose}
use Rattle.xray_io.specs.World.{World}
use Rattle.command_words.specs.Words.{Command}
use Rattle.xray_program.specs.Commands.{doing_of}
use Rattle.xray_program.specs.Doings.{AllHeld, HoldsInput, IsUnrefused}
use Rattle.xray_program.specs.Inputs.{WholeScript, audit_form, image_form, whole_script_form}

-- The desk holds each input of a command, within its limit, and each is accepted. No other cause of refusal applies: for
-- `sim` nobody waits in the script, for `stack` no thread of the trace has too many calls open at once, for `convert` the
-- trace can be written in the new form, and for `order` the run of the audit has an order that is no longer than a schedule.
abbrev pub AreAccepted : (List ℕ → Entry) → Command → Type 0
AreAccepted held command = AllHeld (doing_of command).takes held (λ y. IsUnrefused ((doing_of command).leaves y))

-- The desk holds the inputs of an `order`, and the run that the audit states has an order. This says the same: there is
-- exactly one answer to an audit (the law `accepted_orders_are_written`).
abbrev pub HasAnOrder : (List ℕ → Entry) → (image script audit : List ℕ) → Type 0
HasAnOrder held image script audit =
    (program : Program) × (statement : AuditStatement) × (whole : WholeScript) × (turns : List Turns) × HoldsInput image_form (held image) program
    × HoldsInput audit_form (held audit) statement × HoldsInput (whole_script_form program statement.setup.threads) (held script) whole
    × IsOrdered program (commands_of whole.plan.lines) statement (Ok turns)

-- no fault of the desk or of out is counted in a call
pub record CountsNoFault (before after : World) : Type 0 where
  pub reads : Rose before.desk.read_faults after.desk.read_faults → ⊥
  pub writes : Rose before.desk.write_faults after.desk.write_faults → ⊥
  pub out : Rose before.out.faults after.out.faults → ⊥
