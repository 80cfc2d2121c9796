use Rattle.std.proofs.Common.{◌≡◌, ◌≤◌, List, [], length}
use Rattle.machine_step.specs.declared.end.End.{End}
use Rattle.machine_step.specs.PlainStep.{Passing, PlainRun, State}
use Rattle.machine_step.specs.Traced.{IsLoad, IsSameThread, loads_left}
use Rattle.audit_check.specs.private.Judging.{IsReady}
use Rattle.audit_check.specs.private.Walks.{HasWalked, IsWayOf, Way, first_marks}
use Rattle.audit_check.specs.Statements.{most_marks}
use Rattle.audit_check.proofs.judging.walk.Given as goal

-- the passings that have marks were made
abbrev pub invariant-gates : goal.invariant-gates
invariant-gates l = record {
  same : IsSameThread l.initial.cpu l.cpu;
  between : IsLoad l.cpu.want → ⊥;
  ready : IsReady l.follower;
  image : l.follower.image.now ≡ l.cpu.program;
  passing : l.follower.passing ≡ length l.cpu.marks;
  whole : l.recording.whole ≤ length l.cpu.marks;
  few : length l.cpu.marks ≤ most_marks;
  walked : (way : Way) (passed : List Passing) (end : End) (last : State) → IsWayOf way l.initial.cpu l.marks.items
      → PlainRun way.program way.setup.limits way.thread passed end last → l.initial.cpu.marks ≡ []
      → HasWalked way passed 0 l.initial.follower l.initial.recording l.initial.trace
      → (l.cpu.marks ≡ first_marks (length l.cpu.marks) way.marks) × HasWalked way passed (length l.cpu.marks) l.follower l.recording l.trace;
}

abbrev pub decreases-gates : goal.decreases-gates
decreases-gates l = loads_left l.cpu
