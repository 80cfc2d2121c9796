use Rattle.std.proofs.Common.{◌≡◌, List, None, subst, sym}
use Rattle.patch_script.specs.declared.command.PatchCommand.{PatchCommand}
use Rattle.patch_script.specs.Micros.{hold_of}
use Rattle.step_sim.proofs.Bounds.{no_holds}
use Rattle.step_sim.proofs.SomeReplay.{some_marks}
use Rattle.step_sim.proofs.SomeRun.{some_run_of}
use Rattle.step_sim.proofs.laws.some_run.Goals as goal

pub returns-clause-free : goal.returns-clause-free
returns-clause-free c = some_run_of c.some_end.ensures some_marks

pub returns-clause-still : goal.returns-clause-still
returns-clause-still c = λ bytes program script schedule setup lines accepted is still.
    some_run_of c.some_end.ensures some_marks bytes program script schedule setup accepted
    (λ thread. subst (λ (s : List PatchCommand). hold_of thread s ≡ None) (sym is) (no_holds lines still thread))
