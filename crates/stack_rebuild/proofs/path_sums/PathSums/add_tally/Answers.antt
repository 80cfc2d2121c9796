use Rattle.std.proofs.Common.{◌≡◌, ◌++◌, ◌<◌, ◌∙◌, ℕ, List, ap, arith, drop, get_or, length, map, reverse, set, subst, sym}
use Rattle.std.proofs.lemmas.List.{length-map}
use Rattle.std.proofs.lemmas.Result.{on_ok_weaker}
use Rattle.stack_rebuild.specs.declared.node.Step.{Step}
use Rattle.stack_rebuild.specs.declared.tally.Tally.{Tally}
use Rattle.stack_rebuild.specs.private.PathNumbers.{paths_after}
use Rattle.stack_rebuild.specs.PathSums.{AreSums, both_tallies, no_tally, Summed}
use Rattle.stack_rebuild.specs.private.PathTree.{paths_in, step_of, tallies_in, tally_in}
use Rattle.stack_rebuild.proofs.Nodes.{tallies_some}
use Rattle.stack_rebuild.proofs.Sums.{sums_all}
use Rattle.stack_rebuild.proofs.path_sums.PathSums.add_tally.Goals as goal

pub returns-clause-sums : goal.returns-clause-sums
returns-clause-sums c =
    let nodes = c.plant.new.nodes.items in
    let nodes' = c.add_pairs.new.nodes.items in
    let paths = c.args.self.now.paths in
    let tallies = c.args.self.now.tallies in
    let some : 0 < length nodes = c.in_ok-plant.ensures.some in
    let told : map tally_in nodes ≡ tallies =
    sym (tallies_some nodes some) ∙ c.in_ok-plant.ensures.tallies ∙ ap (λ (s : Summed). s.tallies) c.self.view_is in
    let same : paths_in nodes' ≡ paths =
    ap (λ (steps : List Step). paths_after (reverse (drop 1 steps))) c.add_pairs.ensures.steps
    ∙ ap (λ (steps : List Step). paths_after (reverse steps)) c.in_ok-plant.ensures.steps ∙ ap (λ (s : Summed). s.paths) c.self.view_is in
    let still : 0 < length nodes' = omega (arith, some, length-map nodes step_of, length-map nodes' step_of, ap {B = ℕ} length c.add_pairs.ensures.steps) in
    on_ok_weaker c.add_pairs.result
    (λ added pairs more sums own.
    let one : Tally = both_tallies (get_or tallies c.args.number no_tally) c.args.tally.now in
    let within : c.args.number < length nodes = omega (arith, c.requires, sums.level, length-map nodes tally_in, ap {B = ℕ} length told) in
    let made : tallies_in nodes' ≡ set tallies c.args.number one =
    tallies_some nodes' still ∙ added within ∙ ap (λ (ts : List Tally). set ts c.args.number (both_tallies (get_or ts c.args.number no_tally) c.args.tally.now)) told in
    subst (λ (ps : List (List ℕ)). AreSums ps (tallies_in nodes') (pairs ++ more)) (sym same)
    (subst (λ (ts : List Tally). AreSums paths ts (pairs ++ more)) (sym made)
    (sums_all paths tallies pairs more c.args.number c.args.tally.now sums c.requires own))) c.add_pairs.ensures.tallies
