use Rattle.std.proofs.Common.{◌≡◌, ◌+◌, ◌-◌, ◌≤◌, ℕ, length}
use Rattle.account_report.specs.declared.tallies.TheConstants.{FEW}
use Rattle.account_report.specs.private.Tallies.{tally_listed}
use Rattle.account_report.proofs.tallies.reach.Given as goal

abbrev pub invariant-reaching : goal.invariant-reaching
invariant-reaching l = record {
  same : (func : ℕ) → tally_listed l.first.items func ≡ tally_listed l.fn.first.items func;
  few : length l.fn.first.items ≤ FEW → length l.first.items ≤ FEW;
}

abbrev pub decreases-reaching : goal.decreases-reaching
decreases-reaching l = l.at + 1 - length l.first.items
