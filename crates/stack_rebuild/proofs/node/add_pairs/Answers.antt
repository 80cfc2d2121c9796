use Rattle.std.proofs.Common.{◌≡◌, ◌∙◌, ap, sym, get_or, set, map}
use Rattle.std.proofs.Math.Seq.{map-set_same}
use Rattle.std.proofs.lemmas.List.{get_or-map, map-set}
use Rattle.std.proofs.lemmas.Result.{on_ok_weaker}
use Rattle.stack_rebuild.specs.declared.tally.Tally.{Tally}
use Rattle.stack_rebuild.proofs.PathLinks.{links_set}
use Rattle.stack_rebuild.specs.private.PathTree.{links_in, step_of, tally_in}
use Rattle.stack_rebuild.specs.PathSums.{both_tallies, no_tally}
use Rattle.stack_rebuild.proofs.node.add_pairs.Goals as goal

pub returns-in-Some-clause-steps : goal.returns-in-Some-clause-steps
returns-in-Some-clause-steps c = map-set_same step_of _ _ _ c.in-Some.node.now (c.add_all.ensures.step ∙ ap step_of c.in-Some.ensures.value)

pub returns-in-Some-clause-links : goal.returns-in-Some-clause-links
returns-in-Some-clause-links c =
    links_set c.args.nodes.now.items c.args.number _ _ (c.add_all.ensures.links ∙ ap links_in c.in-Some.ensures.value)

pub returns-in-Some-clause-tallies : goal.returns-in-Some-clause-tallies
returns-in-Some-clause-tallies c =
    let nodes = c.args.nodes.now.items in
    let node = c.in-Some.node.now in
    on_ok_weaker c.add_all.result
    (λ added low.
    let was : tally_in node ≡ get_or (map tally_in nodes) c.args.number no_tally =
    ap tally_in c.in-Some.ensures.value ∙ sym (get_or-map tally_in nodes c.args.number node no_tally low) in
    map-set tally_in nodes c.args.number _
    ∙ ap (set (map tally_in nodes) c.args.number) (added ∙ ap (λ (t : Tally). both_tallies t c.args.tally.now) was)) c.add_all.ensures.tally
