-- The tree of paths: what its nodes, and the fields of sums, say.
use Rattle.std.specs.Prelude.{ℕ, List, [], ◌∷◌, drop, map, reverse}
use Rattle.stack_rebuild.specs.declared.links.Links.{Links}
use Rattle.stack_rebuild.specs.declared.node.Node.{Node}
use Rattle.stack_rebuild.specs.declared.node.Step.{Step}
use Rattle.stack_rebuild.specs.declared.tally.Tally.{Tally}
use Rattle.stack_rebuild.specs.declared.path_sums.PathSums.TheInside.{Inside}
use Rattle.stack_rebuild.specs.private.Links.{ArePastLinks, no_links, told_by}
use Rattle.stack_rebuild.specs.private.PathNumbers.{AreNumbered, paths_after}
use Rattle.stack_rebuild.specs.PathSums.{Summed, no_tally}

-- the step that leads to a path
abbrev pub step_of : Node → Step
step_of node = node.step

abbrev pub tally_in : Node → Tally
tally_in node = record { count = node.count; sum = node.sum; own = node.own }

-- the links of a path, and how many functions it has
abbrev pub links_in : Node → Links
links_in node = node.links

abbrev pub sibling_in : Node → ℕ
sibling_in node = node.sibling

abbrev pub depth_in : Node → ℕ
depth_in node = node.depth

-- the steps to the paths after the first one, which is the empty path
abbrev pub steps_in : List Node → List Step
steps_in nodes = drop 1 (map step_of nodes)

-- the paths of nodes
abbrev pub paths_in : List Node → List (List ℕ)
paths_in nodes = paths_after (reverse (steps_in nodes))

-- the tallies of nodes; if there is none yet, there is only the empty path, without a pair
abbrev pub tallies_in : List Node → List Tally
tallies_in [] = no_tally ∷ []
tallies_in (node ∷ nodes) = map tally_in (node ∷ nodes)

-- the links of the paths of nodes, by their numbers; if there is no node yet, no path goes on
abbrev pub all_links : List Node → List Links
all_links [] = no_links ∷ []
all_links (node ∷ nodes) = map links_in (node ∷ nodes)

abbrev pub summed_in : Inside → Summed
summed_in a = record { paths = paths_in a.nodes.items; tallies = tallies_in a.nodes.items }

-- the numbers of the steps are those that the links and the table have
pub record IsTree (a : Inside) : Type 0 where
  pub numbered : AreNumbered (paths_in a.nodes.items) (steps_in a.nodes.items) (told_by (all_links a.nodes.items) a.numbers)
  pub past : ArePastLinks (all_links a.nodes.items) a.numbers
