use Rattle.std.proofs.Common.{◌-◌, ◌∙◌, arith, length, refl, sym}
use Rattle.call_trie.specs.declared.table.Step.{Step}
use Rattle.call_trie.proofs.TableLemmas.{differs_at, walks_on}
use Rattle.call_trie.proofs.table.number_in.Goals as goal

pub walking-smaller : goal.walking-smaller
walking-smaller c =
    let zero_step : Step = record { parent = 0; func = 0 } in
    let other = differs_at c.args.steps.now (c.walking.number - 1) c.args.step zero_step (omega (arith, c.walking.invariant.low, c.walking-test.true)) (sym c.eq.ensures ∙ c.if-eq.false) in
    (walks_on (length c.args.latest.now) c.args.steps.now c.args.before.now c.args.latest.now c.args.step c.walking.number (c.walking.number - 1) _
    c.requires.chained c.walking.invariant c.walking-test.true refl other refl).0

pub walking-preserved : goal.walking-preserved
walking-preserved c =
    let zero_step : Step = record { parent = 0; func = 0 } in
    let other = differs_at c.args.steps.now (c.walking.number - 1) c.args.step zero_step (omega (arith, c.walking.invariant.low, c.walking-test.true)) (sym c.eq.ensures ∙ c.if-eq.false) in
    (walks_on (length c.args.latest.now) c.args.steps.now c.args.before.now c.args.latest.now c.args.step c.walking.number (c.walking.number - 1) _
    c.requires.chained c.walking.invariant c.walking-test.true refl other refl).1
