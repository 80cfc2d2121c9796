use Rattle.std.proofs.Common.{[], ◌∷◌, map, inr, refl, ap, ◌∙◌}
use Rattle.std.proofs.lemmas.List.{map-append}
use Rattle.xray_image.proofs.Several.{first_items, one_more_item, no_item, all_items}
use Rattle.xray_image.proofs.parts.read_entries.Goals as goal

pub loop-number-init : goal.loop-number-init
loop-number-init g c = first_items g.E.Counted.read_at c.args.bytes.now c.args.count (map g.E.Counted.said c.new-entries.result.items) (ap (map g.E.Counted.said) c.new-entries.ensures.items)

pub returns-in_default-clause-refused : goal.returns-in_default-clause-refused
returns-in_default-clause-refused g c =
    inr (
      refl,
      no_item g.E.Counted.read_at c.args.bytes.now c.loop-number.rest.now c.args.count c.loop-number._number (map g.E.Counted.said c.loop-number.entries.items)
          c.loop-number.invariant c.loop-number-test.true c.in_default.ensures,
    )

pub loop-number-preserved : goal.loop-number-preserved
loop-number-preserved g c =
    one_more_item g.E.Counted.read_at c.args.bytes.now c.loop-number.rest.now c.in-Some.following.now c.args.count c.loop-number._number
    (map g.E.Counted.said c.loop-number.entries.items) (map g.E.Counted.said c.push.new.self.items) (g.E.Counted.said c.in-Some.entry)
    c.loop-number.invariant c.loop-number-test.true c.in-Some.ensures
    (ap (map g.E.Counted.said) c.in_ok-push.ensures.items ∙ map-append g.E.Counted.said c.loop-number.entries.items (c.in-Some.entry ∷ []))

pub returns-clause-found : goal.returns-clause-found
returns-clause-found g c =
    all_items g.E.Counted.read_at c.args.bytes.now c.loop-number.rest.now c.args.count c.loop-number._number (map g.E.Counted.said c.loop-number.entries.items)
    c.loop-number.invariant c.loop-number-test.false
