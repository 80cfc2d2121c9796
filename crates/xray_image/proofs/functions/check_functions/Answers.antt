use Rattle.std.proofs.Common.{length, map, inr, arith, refl, sym, ◌∙◌, below_more}
use Rattle.std.proofs.lemmas.Bool.{false≢true}
use Rattle.xray_image.specs.Program.{addresses}
use Rattle.xray_image.specs.Table.{FunctionIsFit}
use Rattle.xray_image.specs.private.Views.{function_of}
use Rattle.xray_image.proofs.Scans.{from_below}
use Rattle.xray_image.proofs.FunctionRows.{fit, unfit, not_own, past_more, no_function, true_not, false_not}
use Rattle.xray_image.proofs.functions.check_functions.Goals as goal

pub returns-then-not-may_stand-clause-refused : goal.returns-then-not-may_stand-clause-refused
returns-then-not-may_stand-clause-refused c = inr (λ units index. record {
  number = c.loop-number.number;
  fails = unfit c.args.base c.args.functions.now c.loop-number.number c.loop-number-test.true c.loop-number.last (map (λ k. k.now) c.loop-number.names.keys) c.loop-number.invariant.1 units
      (λ stands. false≢true ((c.if-not-may_stand.ensures (addresses units) index).1 stands));
  holds_below = c.loop-number.invariant.0 units index;
  is = refl;
})

pub returns-then-not-branch-clause-refused : goal.returns-then-not-branch-clause-refused
returns-then-not-branch-clause-refused c = inr (λ units index. record {
  number = c.loop-number.number;
  fails = not_own c.args.base c.args.functions.now c.loop-number.number c.loop-number-test.true c.loop-number.last (map (λ k. k.now) c.loop-number.names.keys) c.loop-number.invariant.1 units
      (true_not _ (sym c.in_ok-add_name.ensures.own ∙ c.if-not-branch.true));
  holds_below = c.loop-number.invariant.0 units index;
  is = refl;
})

pub loop-number-preserved : goal.loop-number-preserved
loop-number-preserved c =
    let functions = c.args.functions.now in
    let i = c.loop-number.number in (
      λ units index. below_more (FunctionIsFit c.args.base units (map function_of functions)) i (c.loop-number.invariant.0 units index)
          (fit c.args.base functions i c.loop-number-test.true c.loop-number.last (map (λ k. k.now) c.loop-number.names.keys) c.loop-number.invariant.1 units
          ((c.if-not-may_stand.ensures (addresses units) index).0 refl) (false_not _ (sym c.in_ok-add_name.ensures.own ∙ c.if-not-branch.false))),
      past_more c.args.base functions i c.loop-number-test.true c.loop-number.last (map (λ k. k.now) c.loop-number.names.keys) c.loop-number.invariant.1
          (map (λ k. k.now) c.add_name.new.names.keys) c.in_ok-add_name.ensures.names,
    )

pub returns-clause-fit : goal.returns-clause-fit
returns-clause-fit c = λ units index.
    let functions = c.args.functions.now in
    from_below (FunctionIsFit c.args.base units (map function_of functions)) (length functions)
    (λ j lt. c.loop-number.invariant.0 units index j (omega (arith, c.loop-number-test.false))) (λ j le. no_function c.args.base units functions j le)
