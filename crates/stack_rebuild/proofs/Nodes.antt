-- The nodes of the tree of paths, and the steps that they are.
use Rattle.std.proofs.Common.{◌≡◌, ◌+◌, ◌-◌, ◌++◌, ◌<◌, ◌≤◌, ◌∙◌, ℕ, Option, List, [], ◌∷◌, length, map, drop, reverse, refl, ap, sym, subst, arith, get_or, length-drop}
use Rattle.std.proofs.lemmas.List.{drop-append-le, get_or-map, length-map, map-append}
use Rattle.std.proofs.lemmas.Grind.{get_or_after_one}
use Rattle.stack_rebuild.specs.declared.node.Node.{Node}
use Rattle.stack_rebuild.specs.declared.node.Step.{Step}
use Rattle.stack_rebuild.specs.declared.tally.Tally.{Tally}
use Rattle.stack_rebuild.specs.private.PathNumbers.{AreNumbered, path_by, paths_after}
use Rattle.stack_rebuild.specs.PathSums.{no_tally, path_at}
use Rattle.stack_rebuild.specs.private.PathTree.{paths_in, step_of, steps_in, tallies_in, tally_in}
use Rattle.stack_rebuild.proofs.Trees.{paths_more}

pub steps_long : (nodes : List Node) → length (steps_in nodes) ≡ length nodes - 1
steps_long nodes = omega (arith, length-drop 1 (map step_of nodes), length-map nodes step_of)

pub length_steps : (nodes : List Node) → 0 < length nodes → length (steps_in nodes) + 1 ≡ length nodes
length_steps nodes some = omega (arith, some, length-drop 1 (map step_of nodes), length-map nodes step_of)

-- the tallies of nodes, if there is a node
pub tallies_some : (nodes : List Node) → 0 < length nodes → tallies_in nodes ≡ map tally_in nodes
tallies_some [] some = absurd (omega (arith, some))
tallies_some (node ∷ nodes) some = refl

-- one more node
pub steps_more : (nodes : List Node) (node : Node) → 0 < length nodes → steps_in (nodes ++ node ∷ []) ≡ steps_in nodes ++ step_of node ∷ []
steps_more nodes node some =
    ap (drop 1) (map-append step_of nodes (node ∷ []))
    ∙ drop-append-le 1 (map step_of nodes) (step_of node ∷ []) (omega (arith, some, length-map nodes step_of))

-- the node with a number has the step that stands there
pub step_at : (nodes : List Node) (n : ℕ) (s : Step) (node : Node) → 0 < n → n < length nodes → get_or (steps_in nodes) (n - 1) s ≡ step_of (get_or nodes n node)
step_at nodes n s node some within =
    let back : 1 + (n - 1) ≡ n = omega (arith, some) in
    get_or_after_one (map step_of nodes) (n - 1) s
    ∙ (ap (λ (k : ℕ). get_or (map step_of nodes) k s) back ∙ get_or-map step_of nodes n node s within)

-- the paths and the tallies of nodes after one more node
pub paths_pushed : (nodes nodes' : List Node) (node : Node) → 0 < length nodes → map step_of nodes' ≡ map step_of (nodes ++ node ∷ [])
    → paths_in nodes' ≡ paths_in nodes ++ path_by (paths_in nodes) (step_of node) ∷ []
paths_pushed nodes nodes' node some same =
    ap (λ (steps : List Step). paths_after (reverse steps)) (ap (drop 1) same ∙ steps_more nodes node some) ∙ paths_more (steps_in nodes) (step_of node)

pub tallies_pushed : (nodes nodes' : List Node) (node : Node) → tally_in node ≡ no_tally → map tally_in nodes' ≡ map tally_in (nodes ++ node ∷ [])
    → map tally_in nodes' ≡ map tally_in nodes ++ no_tally ∷ []
tallies_pushed nodes nodes' node none same =
    same ∙ (map-append tally_in nodes (node ∷ []) ∙ ap (λ (t : Tally). map tally_in nodes ++ t ∷ []) none)

-- the step to a path
pub climbs_to : (nodes : List Node) (numbers : Step → Option ℕ) (n : ℕ) (node : Node) → AreNumbered (paths_in nodes) (steps_in nodes) numbers → 0 < n → n < length nodes
    → ((step_of (get_or nodes n node)).parent < n) × (path_at (paths_in nodes) n ≡ path_by (paths_in nodes) (step_of (get_or nodes n node)))
climbs_to nodes numbers n node tree some within =
    let s = step_of node in
    let at = step_at nodes n s node some within in
    let own = tree.climbs (n - 1) s (omega (arith, some, within, length_steps nodes (omega (arith, within)))) in
    let back : n - 1 + 1 ≡ n = omega (arith, some) in
    let low : (get_or (steps_in nodes) (n - 1) s).parent ≤ n - 1 = own.lower in (
      subst (λ (step : Step). step.parent < n) at (omega (arith, some, low)),
      ap (path_at (paths_in nodes)) (sym back) ∙ (own.is ∙ ap (path_by (paths_in nodes)) at),
    )
