use Rattle.std.proofs.Common.{◌≡◌, map}
use Rattle.account_report.specs.private.Tallies.{row_of_entry}
use Rattle.account_report.proofs.tallies.Tallies.into_rows.Given as goal

abbrev pub invariant-others : goal.invariant-others
invariant-others l = l.rows.items ≡ map row_of_entry l.yielded
