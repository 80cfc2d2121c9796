use Rattle.std.proofs.Common.{sym, subst}
use Rattle.std.specs.Prelude.{All}
use Rattle.patch_script.specs.Plans.{waiting_line}
use Rattle.patch_script.specs.Refusals.{commands_of}
use Rattle.step_sim.specs.Schedules.{AreTurnsOf}
use Rattle.step_sim.specs.Starts.{Start}
use Rattle.xray_program.specs.Soak.{soak_setup}
use Rattle.xray_program.proofs.RunSetups.{soak_is_setup}
use Rattle.xray_program.proofs.SoakReads.{started, still_unrefused}
use Rattle.xray_program.proofs.drawn.replayed.Goals as goal

pub new-requires-clause-setup : goal.new-requires-clause-setup
new-requires-clause-setup c = soak_is_setup

pub unrefused-requires : goal.unrefused-requires
unrefused-requires c =
    still_unrefused (waiting_line c.args.inputs.now.script.lines) c.new.result c.requires.still c.new.ensures.waits

pub play-requires : goal.play-requires
play-requires c =
    let inputs = c.args.inputs.now in
    let wanted : Start = record { program = c.args.steps.now; script = commands_of inputs.script.lines; setup = soak_setup } in
    subst (λ (start : Start). All (AreTurnsOf start.setup.threads) inputs.schedule)
    (sym (started c.new.result c.in_ok-start.start wanted c.new.ensures.start c.in_ok-start.ensures)) c.requires.fit.turns_of_threads
