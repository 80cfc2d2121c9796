use Rattle.std.proofs.Common.{◌≡◌, ◌≤◌, ℕ, List, [], length}
use Rattle.patch_script.specs.declared.command.PatchCommand.{PatchCommand}
use Rattle.machine_step.specs.declared.end.End.{End}
use Rattle.machine_step.specs.PlainStep.{Passing, PlainRun, State}
use Rattle.machine_step.specs.Traced.{IsLoad, IsSameThread, loads_left}
use Rattle.audit_check.specs.private.Judging.{IsReady}
use Rattle.audit_check.specs.private.LoadStops.{places_in}
use Rattle.audit_check.specs.private.Placed.{HasStopped}
use Rattle.audit_check.specs.private.Walks.{first_marks}
use Rattle.audit_check.specs.Statements.{most_marks}
use Rattle.audit_check.proofs.placing.walk_places.Given as goal

-- the passings that have marks were made
abbrev pub invariant-gates : goal.invariant-gates
invariant-gates l = record {
  same : IsSameThread l.initial.cpu l.cpu;
  between : IsLoad l.cpu.want → ⊥;
  ready : IsReady l.follower;
  image : l.follower.image.now ≡ l.cpu.program;
  passing : l.follower.passing ≡ length l.cpu.marks;
  few : length l.cpu.marks ≤ most_marks;
  thread : l.follower.thread ≡ l.initial.follower.thread;
  walked : (threads : ℕ) (script : List PatchCommand) (passed : List Passing) (end : End) (last : State)
      → PlainRun l.initial.cpu.program l.initial.cpu.limits l.initial.cpu.thread passed end last → l.initial.cpu.marks ≡ []
      → HasStopped l.initial.cpu.program threads script l.marks.items passed 0 l.initial.follower (places_in l.initial.loads)
      → (l.cpu.marks ≡ first_marks (length l.cpu.marks) l.marks.items)
      × HasStopped l.initial.cpu.program threads script l.marks.items passed (length l.cpu.marks) l.follower (places_in l.loads);
}

abbrev pub decreases-gates : goal.decreases-gates
decreases-gates l = loads_left l.cpu
