use Rattle.std.proofs.Common.{ℕ, List, [], length, refl, subst, sym, ◌∙◌}
use Rattle.xray_image.specs.Program.{IsAccepted, Program}
use Rattle.patch_script.specs.declared.command.PatchCommand.{PatchCommand}
use Rattle.patch_script.specs.Refusals.{commands_of}
use Rattle.machine_step.specs.declared.limits.Limits.{Limits}
use Rattle.machine_step.specs.PlainStep.{PlainRun}
use Rattle.audit_check.specs.Statements.{said_by}
use Rattle.audit_check.specs.private.LoadStops.{places_in}
use Rattle.audit_check.specs.private.Placed.{HasStopped}
use Rattle.audit_check.specs.private.Searches.{HasPlaced}
use Rattle.audit_check.proofs.PlacedLoads.{thread_placed}
use Rattle.audit_check.proofs.judging.Judge.place.Goals as goal

pub returns : goal.returns
returns c = λ run plain marks.
    let judge = c.args.self.now in
    let entry = c.args.entry.now in
    let program : Program = judge.steps.now in
    let threads : ℕ = judge.setup.now.threads in
    let script : List PatchCommand = commands_of judge.script.now.lines in
    let cpu = c.in_ok-cpu.cpu in
    let follower = c.in_ok-follower.follower in
    let walked = c.walk_places.new.follower in
    let places : List ℕ = places_in c.walk_places.new.loads in
    let made = c.in_ok-cpu.ensures.thread in
    let accepted = c.image-image.ensures.accepted in
    let own : IsAccepted accepted.0 cpu.program = subst (IsAccepted accepted.0) (sym made.program_is) accepted.1 in
    let own_plain : PlainRun cpu.program cpu.limits cpu.thread run.passed run.end run.last =
    subst (λ n. PlainRun cpu.program cpu.limits n run.passed run.end run.last) (sym made.thread_is)
    (subst (λ (l : Limits). PlainRun cpu.program l entry.thread run.passed run.end run.last) (sym made.limits_are)
    (subst (λ (p : Program). PlainRun p judge.setup.now.limits entry.thread run.passed run.end run.last) (sym made.program_is) plain)) in
    let first : HasStopped program threads script entry.marks.items run.passed 0 follower (places_in c.new-loads.result) = record {
      judged = c.in_ok-follower.ensures.judged program threads c.image-image.ensures.program c.requires.threads c.requires.course;
      placed = subst (λ (ps : List ℕ). HasPlaced program threads script follower [] [] ps) (sym c.new-loads.ensures)
          (c.in_ok-follower.ensures.placed program threads c.requires.course);
    } in
    let own_first : HasStopped cpu.program threads script entry.marks.items run.passed 0 follower (places_in c.new-loads.result) =
    subst (λ (p : Program). HasStopped p threads script entry.marks.items run.passed 0 follower (places_in c.new-loads.result)) (sym made.program_is) first in
    let last : HasStopped program threads script entry.marks.items run.passed (length run.passed) walked places =
    subst (λ (p : Program). HasStopped p threads script entry.marks.items run.passed (length run.passed) walked places) made.program_is
    (c.in_ok-walked.ensures.walked accepted.0 threads script run.passed run.end run.last own own_plain c.in_ok-cpu.ensures.fresh.no_marks own_first) in
    let ended = c.in_ok-walked.ensures.end accepted.0 run.passed run.end run.last own own_plain in
    thread_placed program threads script entry.thread walked (c.in_ok-walked.ensures.thread ∙ c.in_ok-follower.ensures.thread) (said_by entry) run places last _ _ _
    ended.0 ended.1 c.in_ok-done.ensures c.ends_agree.ensures c.marks_agree.ensures
