-- How many buffers are absent.
use Rattle.std.proofs.Common.{◌≡◌, ◌≢◌, ℕ, suc, ◌+◌, ◌-◌, ◌<◌, ◌≤◌, List, [], ◌∷◌, length, sym, refl, ap, ◌∙◌, subst, ⊎_elim, length-append, arith, eq-or-lt_of_le, All, zero-le}
use Rattle.std.proofs.lemmas.List.Elements.{All-tail, All-head}
use Rattle.std.proofs.lemmas.List.Sums.{sum_by-cons}
use Rattle.std.proofs.lemmas.Bool.{cases_eq, eq-eqb, ne_eqb}
use Rattle.fdr_buffer.specs.Filled.{Filled}
use Rattle.buffer_queue.specs.Left.{IsSuffix, IsUsed, absent_from, of_thread, row_at, sealed_in_all}

-- how many are there, of the threads from this one on
abbrev found_from : ℕ → List (List Filled) → List Filled → ℕ
found_from t [] used = 0
found_from t (row ∷ rows) used = length (of_thread t used) + found_from (t + 1) rows used

found_none : (t : ℕ) (rows : List (List Filled)) → found_from t rows [] ≡ 0
found_none t [] = refl
found_none t (row ∷ rows) = let r = found_none (t + 1) rows in omega arith

of_hit : (t : ℕ) (b : Filled) (bs : List Filled) → b.thread ≡ t → length (of_thread t (b ∷ bs)) ≡ length (of_thread t bs) + 1
of_hit t b bs e = rw (eq-eqb b.thread t e) (omega arith)

of_miss : (t : ℕ) (b : Filled) (bs : List Filled) → b.thread ≢ t → length (of_thread t (b ∷ bs)) ≡ length (of_thread t bs)
of_miss t b bs e = rw (ne_eqb b.thread t e)

found_miss : (t : ℕ) (rows : List (List Filled)) (b : Filled) (bs : List Filled) → b.thread < t → found_from t rows (b ∷ bs) ≡ found_from t rows bs
found_miss t [] b bs lt = refl
found_miss t (row ∷ rows) b bs lt = let r = found_miss (t + 1) rows b bs (omega arith) in let m = of_miss t b bs (λ e. absurd (omega arith)) in omega arith

found_hit : (t : ℕ) (rows : List (List Filled)) (b : Filled) (bs : List Filled) → t ≤ b.thread → b.thread < t + length rows → found_from t rows (b ∷ bs) ≡ found_from t rows bs + 1
found_hit t [] b bs ge lt = absurd (omega arith)
found_hit t (row ∷ rows) b bs ge lt = ⊎_elim
    (λ (e : b.thread ≡ t). let h = of_hit t b bs e in let r = found_miss (t + 1) rows b bs (omega arith) in omega arith)
    (λ (ne : b.thread ≢ t). let m = of_miss t b bs ne in let r = found_hit (t + 1) rows b bs (omega arith) (omega arith) in omega arith)
    (cases_eq b.thread t)

found_all : (size : ℕ) (rows : List (List Filled)) (used : List Filled) → All (IsUsed size (length rows + 1)) used → found_from 1 rows used ≡ length used
found_all size rows [] h = found_none 1 rows
found_all size rows (b ∷ bs) h = let a = All-head (IsUsed size (length rows + 1)) b bs h in let low = a.some_thread in let high = a.below in
    let r = found_all size rows bs (All-tail (IsUsed size (length rows + 1)) b bs h) in let f = found_hit 1 rows b bs (omega arith) (omega arith) in omega arith

suffix_le : (a b : List Filled) → IsSuffix a b → length a ≤ length b
suffix_le a b s = let e : length b ≡ length s.0 + length a = ap length s.1 ∙ length-append s.0 a in omega arith

-- what is absent and what is there is what was sealed
absent_and_found : (t : ℕ) (rows : List (List Filled)) (used : List Filled) → ((k : ℕ) → length (of_thread (t + k) used) ≤ length (row_at rows k))
    → absent_from t rows used + found_from t rows used ≡ sealed_in_all rows
absent_and_found t [] used h = refl
absent_and_found t (row ∷ rows) used h =
    let z : length (of_thread t used) ≤ length row = subst (λ (n : ℕ). length (of_thread n used) ≤ length row) (let e : t + 0 ≡ t = omega arith in e) (h 0) in
    let r = absent_and_found (t + 1) rows used (λ k. subst (λ (n : ℕ). length (of_thread n used) ≤ length (row_at rows k)) (let e : t + suc k ≡ t + 1 + k = omega arith in e) (h (suc k))) in
    let c : sealed_in_all (row ∷ rows) ≡ length row + sealed_in_all rows = sum_by-cons length row rows in
    (let e : absent_from t (row ∷ rows) used + found_from t (row ∷ rows) used ≡ length row + sealed_in_all rows = omega arith in e) ∙ sym c

absent_none : (t : ℕ) (rows : List (List Filled)) (used : List Filled) → ((k : ℕ) → of_thread (t + k) used ≡ row_at rows k) → absent_from t rows used ≡ 0
absent_none t [] used h = refl
absent_none t (row ∷ rows) used h =
    let z : length (of_thread t used) ≡ length row = ap length (subst (λ (n : ℕ). of_thread n used ≡ row) (let e : t + 0 ≡ t = omega arith in e) (h 0)) in
    let r = absent_none (t + 1) rows used (λ k. subst (λ (n : ℕ). of_thread n used ≡ row_at rows k) (let e : t + suc k ≡ t + 1 + k = omega arith in e) (h (suc k))) in omega arith

turn_about : (k : ℕ) → k + 1 ≡ 1 + k
turn_about k = omega arith

-- those absent are what was sealed, less what there is
pub counts : (size spare fresh : ℕ) (rows : List (List Filled)) (used : List Filled) → All (IsUsed size (length rows + 1)) used
    → ((k : ℕ) → IsSuffix (of_thread (k + 1) used) (row_at rows k))
    → (0 < fresh → (k : ℕ) → of_thread (k + 1) used ≡ row_at rows k)
    → fresh + length used ≡ spare
    → absent_from 1 rows used ≡ sealed_in_all rows - spare
counts size spare fresh rows used each last whole long =
    let b = absent_and_found 1 rows used (λ k. suffix_le _ _ (subst (λ (n : ℕ). IsSuffix (of_thread n used) (row_at rows k)) (turn_about k) (last k))) in
    let f = found_all size rows used each in
    ⊎_elim
    (λ (e : 0 ≡ fresh). omega arith)
    (λ (some_fresh : 0 < fresh). let w = absent_none 1 rows used (λ k. subst (λ (n : ℕ). of_thread n used ≡ row_at rows k) (turn_about k) (whole some_fresh k)) in omega arith)
    (eq-or-lt_of_le (zero-le {n = fresh}))
