use Rattle.std.proofs.Common.{◌≡◌, ◌<◌, ◌∙◌, List, Some, arith, length, refl, sym}
use Rattle.std.specs.Prelude.{slice_get}
use Rattle.std.specs.Borrow.{Bor}
use Rattle.std.proofs.lemmas.Option.{slice_get_read}
use Rattle.audit_check.specs.declared.stop.Stop.{Stop}
use Rattle.run_order.proofs.merging.add_turns.Goals as goal
use Rattle.run_order.proofs.MergedTurns.{added_more, all_added, passed_more}

pub loop-i-preserved : goal.loop-i-preserved
loop-i-preserved c =
    let old : List (Bor (List Stop)) = c.args.left.now.items in
    let now : List (Bor (List Stop)) = c.loop-i.left.items in
    let was : Bor (List Stop) = c.index.result.now in
    let within : c.loop-i.i < length now = omega (arith, c.loop-i.invariant.passed.count) in
    let here : slice_get now c.loop-i.i ≡ Some was = slice_get_read now (length now) c.loop-i.i was refl within c.index.ensures in
    let there : slice_get old c.loop-i.i ≡ Some was = sym (c.loop-i.invariant.passed.left c.loop-i.i (omega arith)) ∙ here in
    record {
      passed =
          passed_more c.args.place c.loop-i.i old now was c.in_ok-later.later c.loop-i.invariant.passed there c.in_ok-later.ensures.passed;
      added =
          added_more c.args.place c.loop-i.i old was c.args.lines.now c.loop-i.lines c.add_loads.new.lines c.loop-i.invariant.added there
          c.in_ok-later.ensures.added;
      steps = omega (arith, c.loop-i.invariant.steps, c.in_ok-later.ensures.steps);
    }

pub returns-clause-added : goal.returns-clause-added
returns-clause-added c =
    all_added c.args.place c.args.left.now.items c.loop-i.i c.args.lines.now c.loop-i.lines (omega (arith, c.loop-i.invariant.passed.count))
    c.loop-i.invariant.added
