use Rattle.std.proofs.Common.{◌≡◌, ◌≤◌, ◌<◌, ◌+◌, ◌-◌, Some, List, length, refl, subst, sym, arith}
use Rattle.std.specs.Prelude.{slice_get, slice_index_or}
use Rattle.std.proofs.lemmas.Bool.{lt-ltb, ltb-true}
use Rattle.std.proofs.lemmas.Option.{get_or_from_slice_get, slice_get_read, slice_get_within}
use Rattle.patch_script.specs.declared.placed.Placed.{Placed}
use Rattle.patch_script.specs.private.Placing.{step_count}
use Rattle.patch_script.proofs.placed.PlacedCommands.has_step.Goals as goal

pub returns-then-placed-place : goal.returns-then-placed-place
returns-then-placed-place c =
    let items = c.args.self.now.commands.items in
    let number = c.args.number in
    let place = c.args.place in
    let one = c.in-Some.placed.now in
    let at : slice_get items number ≡ Some one =
    subst (λ (xs : List Placed). slice_get xs number ≡ Some one) c.deref.ensures.value
    (slice_get_read c.deref.result.now (length c.deref.result.now) number one refl
    (ltb-true number (length c.deref.result.now) (sym c.in-Some.ensures.lookup.0)) (c.in-Some.ensures.lookup.1)) in
    let is : (d : Placed) → slice_index_or items number d ≡ one = λ d. get_or_from_slice_get items number one d at in
    let after : one.after ≡ one.before + step_count one.command (one.sleds.end - one.sleds.start) = (c.requires.each number one at).after in (
      λ lt. record {
        within = slice_get_within items number one at;
        begins = λ d. subst (λ (p : Placed). p.before ≤ place) (sym (is d)) c.if-placed-place.true;
        ends = λ d. subst (λ (p : Placed). place < p.before + step_count p.command (p.sleds.end - p.sleds.start)) (sym (is d))
            (omega (arith, after, ltb-true place one.after lt));
      },
      λ are.
          let ends = subst (λ (p : Placed). place < p.before + step_count p.command (p.sleds.end - p.sleds.start)) (is one) (are.ends one) in
          lt-ltb place one.after (omega (arith, after, ends)),
    )
