use Rattle.std.proofs.Common.{◌≡◌, ◌<◌, ◌∙◌, ℕ, List, ap, arith, length, subst, sym}
use Rattle.stack_rebuild.specs.declared.node.Step.{Step}
use Rattle.stack_rebuild.specs.private.Links.{told_by}
use Rattle.stack_rebuild.specs.private.PathNumbers.{path_by}
use Rattle.stack_rebuild.specs.PathSums.{path_at, Summed}
use Rattle.stack_rebuild.specs.private.PathTree.{all_links, paths_in, step_of}
use Rattle.stack_rebuild.proofs.Nodes.{climbs_to, steps_long}
use Rattle.stack_rebuild.proofs.path_sums.PathSums.step_to.Goals as goal

pub returns : goal.returns
returns c =
    let nodes = c.self.inside.nodes.items in
    let n = c.args.number in
    let view : paths_in nodes ≡ c.args.self.now.paths = ap (λ (s : Summed). s.paths) c.self.view_is in
    let within : n < length nodes =
    omega (arith, c.requires.within, ap {B = ℕ} length view, c.self.invariant.numbered.count, steps_long nodes) in
    let own = climbs_to nodes (told_by (all_links nodes) c.self.inside.numbers) n c.index.result.now c.self.invariant.numbered c.requires.some within in
    let at = ap step_of (sym c.index.ensures) ∙ sym c.step.ensures in record {
      climbs = subst (λ (s : Step). s.parent < n) at own.0;
      path = subst (λ (paths : List (List ℕ)). path_at paths n ≡ path_by paths c.step.result) view (own.1 ∙ ap (path_by (paths_in nodes)) at);
    }
