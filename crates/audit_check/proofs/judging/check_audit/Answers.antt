use Rattle.std.proofs.Common.{◌≡◌, sym, subst, ◌∙◌, arith}
use Rattle.xray_image.specs.Program.{Program}
use Rattle.patch_script.specs.Refusals.{commands_of}
use Rattle.audit_check.specs.Statements.{statement_of}
use Rattle.audit_check.specs.Verdicts.{IsVerdict}
use Rattle.audit_check.specs.private.Switches.{IsCourseOf}
use Rattle.audit_check.proofs.SameRows.{Judged, judged_none}
use Rattle.audit_check.proofs.AllThreads.{Finds, entry_count, entry_here, entry_named, judged_entry, verdict_of_all}
use Rattle.audit_check.proofs.SomeRuns.{some_runs}
use Rattle.audit_check.proofs.judging.check_audit.Goals as goal

pub loop-entry-init : goal.loop-entry-init
loop-entry-init c = λ runs are.
    judged_none c.args.image.now (commands_of c.args.script.now.lines) (statement_of c.args.audit.now) c.args.trace.now runs c.none-first.result _
    c.none-first.ensures.ends c.none-first.ensures.marks c.none-first.ensures.counts c.in_ok-left.ensures

pub thread-requires-clause-program : goal.thread-requires-clause-program
thread-requires-clause-program c = c.requires.program ∙ sym c.in_ok-steps.ensures.program

pub thread-requires-clause-number : goal.thread-requires-clause-number
thread-requires-clause-number c =
    let audit = c.args.audit.now in
    let i = c.loop-entry.entry-index in
    let entry = c.entry-item.result in
    let at = entry_here audit c.deref-entry-items.result.now i entry c.deref-entry-items.ensures.value c.loop-entry-test.true c.entry-item.is in
    entry_named audit c.requires.names i entry at

pub thread-requires-clause-course : goal.thread-requires-clause-course
thread-requires-clause-course c =
    subst (λ (p : Program). IsCourseOf p c.args.audit.now.setup.threads (commands_of c.args.script.now.lines) c.in_ok-course.course)
    (sym c.in_ok-steps.ensures.program) c.in_ok-course.ensures

pub loop-entry-preserved : goal.loop-entry-preserved
loop-entry-preserved c = λ runs are.
    let program = c.args.image.now in
    let script = commands_of c.args.script.now.lines in
    let audit = c.args.audit.now in
    let trace = c.args.trace.now in
    let i = c.loop-entry.entry-index in
    let entry = c.entry-item.result in
    let at = entry_here audit c.deref-entry-items.result.now i entry c.deref-entry-items.ensures.value c.loop-entry-test.true c.entry-item.is in
    let agreement = c.in_ok-agreement.agreement in
    let new = c.note.new.self in
    let t = c.loop-entry.left in
    let t' = c.thread.new.trace in
    judged_entry program script audit c.requires.names trace runs are i entry agreement c.loop-entry.first new t t' at
    (subst (λ (p : Program). Finds p script audit trace entry agreement t t') c.in_ok-steps.ensures.program
    (λ earlier run plain marks lost. c.in_ok-agreement.ensures trace earlier run plain marks lost))
    c.note.ensures.ends c.note.ensures.marks c.note.ensures.counts (c.loop-entry.invariant runs are)

pub returns : goal.returns
returns c =
    let program = c.args.image.now in
    let script = commands_of c.args.script.now.lines in
    let audit = c.args.audit.now in
    let trace = c.args.trace.now in
    let accepted = c.each_was_accepted.ensures in
    let some = some_runs program (statement_of audit) c.requires.names.count
    (λ thread. c.some_end.ensures accepted.0 program audit.setup.limits thread accepted.1) in
    let runs = some.0 in
    let all : c.loop-entry.entry-index ≡ audit.setup.threads = omega (arith, c.loop-entry-test.false, entry_count audit c.requires.names) in
    record {
      runs = runs;
      are = some.1;
      verdict_is = subst (IsVerdict program script (statement_of audit) trace runs) (sym c.verdict.ensures)
          (verdict_of_all program script audit c.requires.names trace runs some.1 c.loop-entry.first c.loop-entry.left c.recycles.result c.is_same.result
          (subst (λ n. Judged program script (statement_of audit) trace runs n c.loop-entry.first c.loop-entry.left) all (c.loop-entry.invariant runs some.1))
          c.recycles.ensures c.is_same.ensures);
    }
