use Rattle.std.proofs.Common.{◌≡◌, arith, ◌∙◌, get_or}
use Rattle.std.proofs.lemmas.List.{get_or_read}
use Rattle.std.proofs.lemmas.Option.{get_or_from_slice_get, slice_get_within}
use Rattle.audit_check.proofs.TurnLemmas.{made_by}
use Rattle.audit_check.proofs.turns.Turns.made_at.Goals as goal

pub returns-else-index-place-2-clause-made : goal.returns-else-index-place-2-clause-made
returns-else-index-place-2-clause-made c = λ values last turned.
    let places = c.args.self.now.places.items in
    made_by places turned.rise c.args.place c.forth.made c.forth.invariant.within c.forth.invariant.before
    (λ at is.
    let low = slice_get_within places c.forth.made at is in
    let here : c.index-in-forth.result.now ≡ get_or places c.forth.made 0 = get_or_read places _ _ low c.index-in-forth.ensures 0 in
    let same : c.index-in-forth.result.now ≡ at = here ∙ get_or_from_slice_get places c.forth.made at 0 is in
    omega (arith, same, c.if-index-place-2.false))

pub returns-after-forth-clause-made : goal.returns-after-forth-clause-made
returns-after-forth-clause-made c = λ values last turned.
    let places = c.args.self.now.places.items in
    made_by places turned.rise c.args.place c.forth.made c.forth.invariant.within c.forth.invariant.before
    (λ at is. let low = slice_get_within places c.forth.made at is in absurd (omega (arith, low, c.forth-test.false)))
