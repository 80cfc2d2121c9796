use Rattle.std.proofs.Common.{◌≡◌, ◌∙◌, ap, map, set, sym}
use Rattle.std.proofs.Math.Seq.{map-set_same}
use Rattle.std.proofs.lemmas.List.{get_or-map, map-set}
use Rattle.stack_rebuild.specs.private.Links.{links_by, no_links, with_link}
use Rattle.stack_rebuild.specs.private.PathTree.{links_in, step_of, tally_in}
use Rattle.stack_rebuild.proofs.node.link.Goals as goal

pub returns-in-Some-clause-steps : goal.returns-in-Some-clause-steps
returns-in-Some-clause-steps c = map-set_same step_of _ _ _ c.in-Some.node.now (ap step_of c.in-Some.ensures.value)

pub returns-in-Some-clause-tallies : goal.returns-in-Some-clause-tallies
returns-in-Some-clause-tallies c = map-set_same tally_in _ _ _ c.in-Some.node.now (ap tally_in c.in-Some.ensures.value)

pub returns-in-Some-clause-links : goal.returns-in-Some-clause-links
returns-in-Some-clause-links c = λ within.
    let nodes = c.args.nodes.now.items in
    let node = c.in-Some.node.now in
    let was : links_in node ≡ links_by (map links_in nodes) c.args.parent =
    ap links_in c.in-Some.ensures.value ∙ sym (get_or-map links_in nodes c.args.parent node no_links within) in
    map-set links_in nodes c.args.parent _
    ∙ ap (set (map links_in nodes) c.args.parent) (c.with-node.ensures ∙ ap (with_link c.args.link) was)
