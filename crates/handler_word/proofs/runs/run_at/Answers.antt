use denote.Enum.Bare.{same_true, same_false}
use Rattle.std.proofs.Common.{◌≡◌, ◌+◌, ◌-◌, Some, refl, sym, ap, ◌∙◌, arith, rules}
use Rattle.handler_word.specs.contracts.mark.Mark.{the_type}
use Rattle.handler_word.specs.declared.mark.Mark.{Mark}
use Rattle.handler_word.proofs.FullBytes.{runs_joined}
use Rattle.handler_word.proofs.MarkRuns.{mark_in_front, ends_before_other, ends_with_list, run_there}
use Rattle.handler_word.proofs.runs.run_at.Goals as goal
use Rattle.handler_word.proofs.runs.run_at.Goals.{then-same-test+else-eq, else-same-test}

pub same-init : goal.same-init
same-init c =
    let one : c.args.start + 1 - c.args.start ≡ 1 = omega arith in
    record {
      begun = omega arith;
      within = omega arith;
      same = rw one (mark_in_front c.args.marks.now.items c.args.start c.get-mark.result c.get-mark.ensures);
    }

pub same-preserved : goal.same-preserved
same-preserved c =
    let mark = c.get-mark.result in
    let more = c.alike_from-end.result in
    let count : c.same.end - c.args.start + more ≡ c.same.end + more - c.args.start = omega arith in
    record {
      begun = omega (arith, c.alike_from-end.ensures.some);
      within = c.alike_from-end.ensures.within;
      same = c.same.invariant.same ∙ rw (c.alike_from-end.ensures.same, runs_joined, count) refl;
    }

pub alike_from-end-requires : goal.alike_from-end-requires
alike_from-end-requires c =
    let alike : c.get.result ≡ c.get-mark.result = same_true the_type (search rules) _ _ (sym c.eq.ensures ∙ c.if-eq.true) in
    c.get.ensures ∙ ap (λ (m : Mark). Some m) alike

pub returns-clause-run : goal.returns-clause-run
returns-clause-run c =
    let marks = c.args.marks.now.items in
    let mark = c.get-mark.result in
    run_there marks c.args.start c.same.end mark c.same.invariant.begun c.same.invariant.same
    (elim c.same-test.branch [
      | then-same-test+else-eq w ↦ ends_before_other marks c.same.end mark w.get.result w.get.ensures (λ alike. same_false the_type _ _ (sym w.eq.ensures ∙ w.if-eq.false) (sym alike))
      | else-same-test w ↦ ends_with_list marks c.same.end mark (omega arith)
    ])
