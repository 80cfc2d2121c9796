-- The rows of a function's calls, and its row in an account.
use Rattle.std.proofs.Common.{◌≡◌, ◌+◌, ◌∙◌, ℕ, suc, Bool, true, false, cond, List, [], ◌∷◌, length, map, refl, ap, sym, arith, nat_eq, get_or, sum}
use Rattle.std.specs.Prelude.{All, filter, nat_lt, sum_by}
use Rattle.std.proofs.lemmas.List.{length-map}
use Rattle.std.proofs.lemmas.List.Elements.{All-map}
use Rattle.std.proofs.lemmas.List.Sums.{sum_by-cons}
use Rattle.fdr_file.specs.declared.trace.Block.{Block}
use Rattle.fdr_file.specs.ThreadEvents.{ThreadEvent}
use Rattle.stack_rebuild.specs.Histories.{ThreadPair, history_of, pairs_after}
use Rattle.account_report.specs.Account.{account_of, durations_of, function_row, functions_in}
use Rattle.account_report.specs.Ascending.{ascending, put_in}
use Rattle.call_rows.specs.declared.row.CallRow.{CallRow}
use Rattle.call_rows.specs.CallRowLaws.{SumsCalls, rows_of_function}
use Rattle.call_rows.specs.CallRows.{call_row, call_rows_of}

-- ---- numbers in order

put_length : (x : ℕ) (xs : List ℕ) → length (put_in nat_lt x xs) ≡ suc (length xs)
put_length x [] = refl
put_length x (y ∷ ys) = by_first (nat_lt x y) (put_length x ys)
  where
    by_first : (b : Bool) → length (put_in nat_lt x ys) ≡ suc (length ys) → length (cond b (x ∷ y ∷ ys) (y ∷ put_in nat_lt x ys)) ≡ suc (length (y ∷ ys))
    by_first true later = refl
    by_first false later = ap suc later

put_sum : (x : ℕ) (xs : List ℕ) → sum (put_in nat_lt x xs) ≡ x + sum xs
put_sum x [] = sum_by-cons (λ (n : ℕ). n) x []
put_sum x (y ∷ ys) = by_first (nat_lt x y) (put_sum x ys)
  where
    by_first : (b : Bool) → sum (put_in nat_lt x ys) ≡ x + sum ys → sum (cond b (x ∷ y ∷ ys) (y ∷ put_in nat_lt x ys)) ≡ x + sum (y ∷ ys)
    by_first true later = sum_by-cons (λ (n : ℕ). n) x (y ∷ ys)
    by_first false later = omega (arith, sum_by-cons (λ (n : ℕ). n) y (put_in nat_lt x ys), sum_by-cons (λ (n : ℕ). n) y ys, later)

ascending_length : (xs : List ℕ) → length (ascending xs) ≡ length xs
ascending_length [] = refl
ascending_length (x ∷ xs) = put_length x (ascending xs) ∙ ap suc (ascending_length xs)

ascending_sum : (xs : List ℕ) → sum (ascending xs) ≡ sum xs
ascending_sum [] = refl
ascending_sum (x ∷ xs) = put_sum x (ascending xs) ∙ (ap (λ (n : ℕ). x + n) (ascending_sum xs) ∙ sym (sum_by-cons (λ (n : ℕ). n) x xs))

-- ---- the durations of a function are those of its rows

durations : (func : ℕ) (h : List ThreadEvent) (pairs : List ThreadPair)
    → map (λ (made : ThreadPair). made.pair.duration) (filter (λ (made : ThreadPair). nat_eq made.pair.func func) pairs)
    ≡ map (λ (row : CallRow). row.duration) (rows_of_function func (map (call_row h) pairs))
durations func h [] = refl
durations func h (made ∷ pairs) = by_func (nat_eq made.pair.func func) (durations func h pairs)
  where
    by_func : (b : Bool)
        → map (λ (m : ThreadPair). m.pair.duration) (filter (λ (m : ThreadPair). nat_eq m.pair.func func) pairs) ≡ map (λ (row : CallRow). row.duration) (rows_of_function func (map (call_row h) pairs))
        → map (λ (m : ThreadPair). m.pair.duration) (cond b (made ∷ filter (λ (m : ThreadPair). nat_eq m.pair.func func) pairs) (filter (λ (m : ThreadPair). nat_eq m.pair.func func) pairs))
        ≡ map (λ (row : CallRow). row.duration) (cond b (call_row h made ∷ rows_of_function func (map (call_row h) pairs)) (rows_of_function func (map (call_row h) pairs)))
    by_func true later = ap (λ (l : List ℕ). made.pair.duration ∷ l) later
    by_func false later = later

mapped_sum : (rows : List CallRow) → sum (map (λ (row : CallRow). row.duration) rows) ≡ sum_by (λ (row : CallRow). row.duration) rows
mapped_sum [] = refl
mapped_sum (row ∷ rows) =
    sum_by-cons (λ (n : ℕ). n) row.duration (map (λ (r : CallRow). r.duration) rows)
    ∙ (ap (λ (n : ℕ). row.duration + n) (mapped_sum rows) ∙ sym (sum_by-cons (λ (r : CallRow). r.duration) row rows))

sums : (blocks : List Block) (func : ℕ) → SumsCalls blocks (function_row (history_of blocks) func)
sums blocks func =
    let h = history_of blocks in
    let same = durations func h (pairs_after h) in
    let rows = rows_of_function func (call_rows_of blocks) in
    record {
      count = ascending_length (durations_of func h) ∙ (ap length same ∙ length-map rows (λ (row : CallRow). row.duration));
      sum = ascending_sum (durations_of func h) ∙ (ap sum same ∙ mapped_sum rows);
    }

pub account_sums : (blocks : List Block) → All (SumsCalls blocks) (account_of blocks)
account_sums blocks =
    let h = history_of blocks in
    All-map (SumsCalls blocks) (function_row h) (functions_in h) (λ i d low. sums blocks (get_or (functions_in h) i d))
