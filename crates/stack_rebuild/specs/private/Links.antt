-- The paths that are found from a path without the table, for the contracts of private functions.
use Rattle.std.specs.Prelude.{◌≡◌, ◌==◌, ℕ, List, Option, Some, None, if◌then◌else◌, slice_index_or}
use Rattle.std.specs.Option.{option_or}
use Rattle.stack_rebuild.specs.declared.links.Link.{Link}
use Rattle.stack_rebuild.specs.declared.links.Links.{Links}
use Rattle.stack_rebuild.specs.declared.node.Step.{Step}
use Rattle.stack_rebuild.specs.private.PathNumbers.{Numbers, is_step, number_in}

-- no path goes on
abbrev pub no_link : Link
no_link = record { number = 0; func = 0 }

abbrev pub no_links : Links
no_links = record { first = no_link; latest = no_link; before = no_link }

-- the number of a linked path, if its last function is this one
abbrev pub link_to : Link → ℕ → Option ℕ
link_to link func = if link.number == 0 then None else (if link.func == func then Some link.number else None)

-- the number of the path that goes on with a function, if it is linked
abbrev pub linked_to : Links → ℕ → Option ℕ
linked_to links func = option_or (link_to links.first func) (option_or (link_to links.latest func) (link_to links.before func))

-- the links after one more path goes on
abbrev pub with_link : Link → Links → Links
with_link link links = if links.first.number == 0 then record { first = link; latest = links.latest; before = links.before } else record { first = links.first; latest = link; before = links.latest }

-- the step that leads to a linked path, by the number of its parent
abbrev pub step_by : ℕ → Link → Step
step_by parent link = record { parent = parent; func = link.func }

-- what a table has for a step after a linked path was entered
abbrev pub entered_link : ℕ → Link → Numbers → Step → Option ℕ
entered_link parent link numbers other = if link.number == 0 then number_in numbers other else (if is_step (step_by parent link) other then Some link.number else number_in numbers other)

-- the links of the path with a number
abbrev pub links_by : List Links → ℕ → Links
links_by links number = slice_index_or links number no_links

-- the number that the links of a step's parent have for the step, or else the table
abbrev pub told_by : List Links → Numbers → Step → Option ℕ
told_by links numbers step = option_or (linked_to (links_by links step.parent) step.func) (number_in numbers step)

-- a table has only steps from paths that have all links, since it lacks the paths that are linked
pub record ArePastLinks (links : List Links) (numbers : Numbers) : Type 0 where
  pub past : (step : Step) → (links_by links step.parent).before.number ≡ 0 → number_in numbers step ≡ None
  pub filled : (parent : ℕ) → (links_by links parent).latest.number ≡ 0 → (links_by links parent).before.number ≡ 0
