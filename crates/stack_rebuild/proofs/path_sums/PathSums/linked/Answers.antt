use Rattle.std.proofs.Common.{◌≡◌, ◌∙◌, List, ap, map, sym}
use Rattle.stack_rebuild.specs.declared.links.Links.{Links}
use Rattle.stack_rebuild.specs.declared.node.Node.{Node}
use Rattle.stack_rebuild.specs.private.Links.{linked_to, links_by, told_by}
use Rattle.stack_rebuild.specs.private.PathTree.{all_links, links_in, steps_in}
use Rattle.stack_rebuild.specs.PathSums.{Summed}
use Rattle.stack_rebuild.proofs.PathLinks.{links_are, told_linked}
use Rattle.stack_rebuild.proofs.Trees.{number_told}
use Rattle.stack_rebuild.proofs.path_sums.PathSums.linked.Goals as goal

pub returns : goal.returns
returns c =
    let nodes = c.self.inside.nodes.items in
    let q = c.args.step in
    let n = c.in_ok-number.number in
    let at : c.links_of.result ≡ links_by (all_links nodes) q.parent =
    c.links_of.ensures ∙ ap (λ (ns : List Node). links_by (map links_in ns) q.parent) c.deref.ensures.value ∙ links_are nodes q.parent in
    number_told c.args.self.now.paths (steps_in nodes) (told_by (all_links nodes) c.self.inside.numbers) q n
    (ap (λ (s : Summed). s.paths) c.self.view_is) c.self.invariant.numbered
    (told_linked (all_links nodes) c.self.inside.numbers q n (ap (λ (l : Links). linked_to l q.func) (sym at) ∙ sym c.in_ok-number.ensures))
