use Rattle.std.proofs.Common.{◌≡◌, ◌∙◌, List, ap, map, sym}
use Rattle.stack_rebuild.specs.declared.links.Links.{Links}
use Rattle.stack_rebuild.specs.declared.node.Node.{Node}
use Rattle.stack_rebuild.specs.private.Links.{linked_to, links_by, told_by}
use Rattle.stack_rebuild.specs.private.PathTree.{all_links, links_in, steps_in}
use Rattle.stack_rebuild.specs.PathSums.{Summed}
use Rattle.stack_rebuild.proofs.PathLinks.{links_are, told_else, told_linked}
use Rattle.stack_rebuild.proofs.Trees.{absent_path, number_told}
use Rattle.stack_rebuild.proofs.path_sums.PathSums.found.Goals as goal

pub returns-in-Some : goal.returns-in-Some
returns-in-Some c =
    let nodes = c.self.inside.nodes.items in
    let q = c.args.step in
    let at : c.links_of-links.result ≡ links_by (all_links nodes) q.parent =
    c.links_of-links.ensures ∙ ap (λ (ns : List Node). links_by (map links_in ns) q.parent) c.deref.ensures.value ∙ links_are nodes q.parent in
    number_told c.args.self.now.paths (steps_in nodes) (told_by (all_links nodes) c.self.inside.numbers) q c.in-Some.number
    (ap (λ (s : Summed). s.paths) c.self.view_is) c.self.invariant.numbered
    (told_linked (all_links nodes) c.self.inside.numbers q c.in-Some.number (ap (λ (l : Links). linked_to l q.func) (sym at) ∙ sym c.in-Some.ensures))

pub returns-then-links-eq0 : goal.returns-then-links-eq0
returns-then-links-eq0 c =
    let nodes = c.self.inside.nodes.items in
    let q = c.args.step in
    let at : c.links_of-links.result ≡ links_by (all_links nodes) q.parent =
    c.links_of-links.ensures ∙ ap (λ (ns : List Node). links_by (map links_in ns) q.parent) c.deref.ensures.value ∙ links_are nodes q.parent in
    absent_path c.args.self.now.paths (steps_in nodes) (told_by (all_links nodes) c.self.inside.numbers) q
    (ap (λ (s : Summed). s.paths) c.self.view_is) c.self.invariant.numbered c.requires
    (told_else (all_links nodes) c.self.inside.numbers q (ap (λ (l : Links). linked_to l q.func) (sym at) ∙ sym c.in-None.ensures)
    ∙ c.self.invariant.past.past q (ap (λ (l : Links). l.before.number) (sym at) ∙ c.if-links-eq0.true))

pub returns-in_err-number-in-None : goal.returns-in_err-number-in-None
returns-in_err-number-in-None c =
    let nodes = c.self.inside.nodes.items in
    let q = c.args.step in
    let at : c.links_of-links.result ≡ links_by (all_links nodes) q.parent =
    c.links_of-links.ensures ∙ ap (λ (ns : List Node). links_by (map links_in ns) q.parent) c.deref.ensures.value ∙ links_are nodes q.parent in
    rw c.from_residual.ensures
    (absent_path c.args.self.now.paths (steps_in nodes) (told_by (all_links nodes) c.self.inside.numbers) q
    (ap (λ (s : Summed). s.paths) c.self.view_is) c.self.invariant.numbered c.requires
    (told_else (all_links nodes) c.self.inside.numbers q (ap (λ (l : Links). linked_to l q.func) (sym at) ∙ sym c.in-None.ensures)
    ∙ sym c.in_err-number-in-None.ensures.value))

pub returns-in_ok-number-in-None : goal.returns-in_ok-number-in-None
returns-in_ok-number-in-None c =
    let nodes = c.self.inside.nodes.items in
    let q = c.args.step in
    let n = c.in_ok-number-in-None.number.now in
    let at : c.links_of-links.result ≡ links_by (all_links nodes) q.parent =
    c.links_of-links.ensures ∙ ap (λ (ns : List Node). links_by (map links_in ns) q.parent) c.deref.ensures.value ∙ links_are nodes q.parent in
    number_told c.args.self.now.paths (steps_in nodes) (told_by (all_links nodes) c.self.inside.numbers) q n
    (ap (λ (s : Summed). s.paths) c.self.view_is) c.self.invariant.numbered
    (told_else (all_links nodes) c.self.inside.numbers q (ap (λ (l : Links). linked_to l q.func) (sym at) ∙ sym c.in-None.ensures)
    ∙ sym c.in_ok-number-in-None.ensures.value)
