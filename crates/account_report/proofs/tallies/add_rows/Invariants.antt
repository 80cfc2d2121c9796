use Rattle.std.proofs.Common.{◌++◌, length, map}
use Rattle.std.specs.Prelude.{IsPermutation}
use Rattle.account_report.specs.private.Tallies.{first_entries, row_of_entry}
use Rattle.account_report.proofs.tallies.add_rows.Given as goal

abbrev pub invariant-adding : goal.invariant-adding
invariant-adding l = IsPermutation (map row_of_entry (first_entries 0 l.fn.first.items) ++ l.fn.rows.items) (map row_of_entry (first_entries 0 l.first.items) ++ l.rows.items)

abbrev pub decreases-adding : goal.decreases-adding
decreases-adding l = length l.first.items
