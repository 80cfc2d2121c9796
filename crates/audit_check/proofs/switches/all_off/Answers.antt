use Rattle.std.proofs.Common.{◌∷◌, [], length, ap, arith, sym, subst, length-append}
use Rattle.std.specs.Prelude.{All}
use Rattle.std.proofs.lemmas.List.Elements.{All-append, All-cons, All-nil}
use Rattle.audit_check.proofs.SwitchesAtStart.{IsOff}
use Rattle.audit_check.proofs.switches.all_off.Goals as goal

pub loop-word-preserved : goal.loop-word-preserved
loop-word-preserved c =
    let more = c.in_ok-push.ensures.items in
    let before = c.loop-word.all.items in
    let kept = c.loop-word.invariant in (
      omega (arith, ap length more, length-append before (c.new.result ∷ []), kept.0),
      subst (All IsOff) (sym more) (All-append IsOff before (c.new.result ∷ []) kept.1 (All-cons IsOff c.new.result [] c.new.ensures (All-nil IsOff))),
    )
