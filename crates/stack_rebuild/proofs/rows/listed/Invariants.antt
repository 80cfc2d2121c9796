use Rattle.std.proofs.Common.{◌≡◌, map, take}
use Rattle.stack_rebuild.specs.private.Rows.{rows_for}
use Rattle.stack_rebuild.specs.Stacks.{told}
use Rattle.stack_rebuild.proofs.rows.listed.Given as goal

abbrev pub invariant-listing : goal.invariant-listing
invariant-listing l = map told l.rows.items ≡ rows_for l.sums.paths l.sums.tallies (take l.number-index l.numbers)
