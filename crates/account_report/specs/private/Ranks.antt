-- Items of numbers in ascending order.
use Rattle.std.specs.Prelude.{◌-◌, ◌*◌, ◌/◌, ℕ, List, length, slice_index}
use Rattle.account_report.specs.declared.ranks.Ranks.{Ranks}
use Rattle.account_report.specs.Ascending.{ascending}

-- of numbers in ascending order: the first, the median, the 90th and the 99th percentile, and the last
abbrev pub ranks_from : List ℕ → Ranks
ranks_from sorted = let n = length sorted in record {
  min = slice_index sorted 0;
  med = slice_index sorted (n / 2);
  p90 = slice_index sorted (9 * n / 10);
  p99 = slice_index sorted (99 * n / 100);
  max = slice_index sorted (n - 1);
}

-- of numbers in any order
abbrev pub ranks_of : List ℕ → Ranks
ranks_of numbers = ranks_from (ascending numbers)
