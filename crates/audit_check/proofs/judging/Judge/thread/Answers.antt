use Rattle.std.proofs.Common.{◌≤◌, length, refl, sym, ap, subst, ◌∙◌, arith}
use Rattle.xray_image.specs.Program.{IsAccepted}
use Rattle.patch_script.specs.Refusals.{commands_of}
use Rattle.machine_step.specs.declared.limits.Limits.{Limits}
use Rattle.audit_check.specs.private.Walks.{IsWayOf, Way}
use Rattle.audit_check.specs.Statements.{most_marks, said_by}
use Rattle.audit_check.proofs.ThreadFaults.{along, found}
use Rattle.audit_check.proofs.WalkSteps.{plain_of_way}
use Rattle.audit_check.proofs.judging.Judge.thread.Goals as goal

pub new-requires : goal.new-requires
new-requires c = (c.requires.number.0, subst (λ n. c.args.entry.now.thread ≤ n) (sym c.requires.threads) c.requires.number.1)

pub walk-walked-requires-clause-accepted : goal.walk-walked-requires-clause-accepted
walk-walked-requires-clause-accepted c =
    let accepted = c.image-image.ensures.accepted in
    (accepted.0, subst (IsAccepted accepted.0) (sym c.in_ok-cpu.ensures.thread.program_is) accepted.1)

pub walk-walked-requires-clause-between : goal.walk-walked-requires-clause-between
walk-walked-requires-clause-between c = c.in_ok-cpu.ensures.fresh.no_load

pub walk-walked-requires-clause-ready : goal.walk-walked-requires-clause-ready
walk-walked-requires-clause-ready c =
    (c.in_ok-follower.ensures.judged c.args.self.now.steps.now c.args.self.now.setup.now.threads c.image-image.ensures.program c.requires.threads
    c.requires.course).judges.ready

pub walk-walked-requires-clause-image : goal.walk-walked-requires-clause-image
walk-walked-requires-clause-image c =
    (c.in_ok-follower.ensures.judged c.args.self.now.steps.now c.args.self.now.setup.now.threads c.image-image.ensures.program c.requires.threads
    c.requires.course).judges.image ∙ sym c.in_ok-cpu.ensures.thread.program_is

pub walk-walked-requires-clause-passing : goal.walk-walked-requires-clause-passing
walk-walked-requires-clause-passing c =
    (c.in_ok-follower.ensures.judged c.args.self.now.steps.now c.args.self.now.setup.now.threads c.image-image.ensures.program c.requires.threads
    c.requires.course).count ∙ sym (ap length c.in_ok-cpu.ensures.fresh.no_marks)

pub walk-walked-requires-clause-whole : goal.walk-walked-requires-clause-whole
walk-walked-requires-clause-whole c = omega (arith, c.in_ok-recording.ensures.whole)

pub walk-walked-requires-clause-few : goal.walk-walked-requires-clause-few
walk-walked-requires-clause-few c = omega (arith, ap length c.in_ok-cpu.ensures.fresh.no_marks)

pub walk-walked-requires-clause-limit : goal.walk-walked-requires-clause-limit
walk-walked-requires-clause-limit c =
    subst (λ (l : Limits). l.passings ≤ most_marks) (sym c.in_ok-cpu.ensures.thread.limits_are) c.requires.setup.limits_are.passings

pub finish-segments-requires : goal.finish-segments-requires
finish-segments-requires c = omega (arith, c.walk-walked.ensures.whole, c.walk-walked.ensures.few)

pub returns : goal.returns
returns c = λ all before run plain marks lost.
    let judge = c.args.self.now in
    let entry = c.args.entry.now in
    let way : Way = record {
      program = judge.steps.now;
      script = commands_of judge.script.now.lines;
      setup = judge.setup.now;
      thread = entry.thread;
      lost = entry.first;
      marks = entry.marks.items;
      trace = all;
      before = before;
    } in
    let said = said_by entry in
    let cpu = c.in_ok-cpu.cpu in
    let made = c.in_ok-cpu.ensures.thread in
    let accepted = c.image-image.ensures.accepted in
    let own : IsWayOf way cpu entry.marks.items = record { program = made.program_is; limits = made.limits_are; thread = made.thread_is; marks_are = refl } in
    let ended = c.walk-walked.ensures.end accepted.0 run.passed run.end run.last (subst (IsAccepted accepted.0) (sym made.program_is) accepted.1)
    (plain_of_way way cpu entry.marks.items run.passed run.end run.last own plain) in
    found way said run refl marks c.in_ok-follower.follower c.walk-walked.new.follower c.in_ok-recording.recording c.walk-walked.new.recording
    c.args.trace.now c.walk-walked.new.trace c.finish-segments.new.trace
    (c.in_ok-follower.ensures.judged judge.steps.now judge.setup.now.threads c.image-image.ensures.program c.requires.threads c.requires.course)
    c.in_ok-follower.ensures.thread c.in_ok-recording.ensures.noted
    (λ trace earlier has. c.walk-walked.ensures.walked accepted.0 (along way trace earlier) run.passed run.end run.last accepted.1
    (record { program = made.program_is; limits = made.limits_are; thread = made.thread_is; marks_are = refl }) plain c.in_ok-cpu.ensures.fresh.no_marks has)
    c.finish-segments.result c.finish-segments.ensures.segments c.finish-segments.ensures.compared
    _ c.walk-walked.result.end c.walk-walked.result.passings ended.0 ended.1 c.ends_agree.ensures c.marks_agree.ensures c.counts_agree.ensures
