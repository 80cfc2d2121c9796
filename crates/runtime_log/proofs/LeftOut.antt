-- The blocks that are left out of a log, by their places in it.
use Rattle.std.proofs.Common.{◌≡◌, ℕ, ◌+◌, ◌-◌, Bool, true, false, cond, eqb, List, [], ◌∷◌, ◌++◌, length, map, take, get_or, refl, sym, ap, ◌∙◌, append_assoc, length-append, arith}
use Rattle.std.specs.Prelude.{◌&&◌, ◌||◌, count_by, not}
use Rattle.std.specs.List.{range_with_len}
use Rattle.std.specs.Str.{bytes_eq}
use Rattle.std.proofs.Math.Seq.{get_or-append_seam, take-append_seam}
use Rattle.std.proofs.lemmas.List.{length-map, map-append}
use Rattle.std.proofs.lemmas.List.Folds.{list_any-append}
use Rattle.std.proofs.lemmas.List.Sums.{sum_by-cons}
use Rattle.runtime_log.specs.LogLaws.{block_places, is_double, is_empty_block}
use Rattle.runtime_log.specs.Logs.{LogBlock}
use Rattle.runtime_log.specs.Taken.{first_ones, is_among_contents, is_doubled, undoubled}

-- ---- counts over places

-- how many blocks are so, each after those before it
abbrev so_many : (List LogBlock → LogBlock → Bool) → List LogBlock → List LogBlock → ℕ
so_many is done [] = 0
so_many is done (b ∷ rest) = cond (is done b) 1 0 + so_many is (done ++ b ∷ []) rest

places_counted : (blocks : List LogBlock) (at : ℕ → Bool) (is : List LogBlock → LogBlock → Bool)
    → ((done : List LogBlock) (b : LogBlock) (rest : List LogBlock) → blocks ≡ done ++ b ∷ rest → at (length done) ≡ is done b)
    → (done rest : List LogBlock) → blocks ≡ done ++ rest → count_by at (range_with_len (length done) (length rest)) ≡ so_many is done rest
places_counted blocks at is same done [] parts = refl
places_counted blocks at is same done (b ∷ rest) parts =
    let next : blocks ≡ (done ++ b ∷ []) ++ rest = parts ∙ sym (append_assoc done (b ∷ []) rest) in
    let long : length (done ++ b ∷ []) ≡ length done + 1 = length-append done (b ∷ []) in
    sum_by-cons (λ (i : ℕ). cond (at i) 1 0) (length done) (range_with_len (length done + 1) (length rest))
    ∙ ap (λ (n : ℕ). cond (at (length done)) 1 0 + count_by at (range_with_len n (length rest))) (sym long)
    ∙ ap (λ (n : ℕ). cond (at (length done)) 1 0 + n) (places_counted blocks at is same (done ++ b ∷ []) rest next)
    ∙ ap (λ (t : Bool). cond t 1 0 + so_many is (done ++ b ∷ []) rest) (same done b rest parts)

abbrev contents : List LogBlock → List (List ℕ)
contents blocks = map (λ (b : LogBlock). b.content) blocks

abbrev sizes : List LogBlock → List ℕ
sizes blocks = map (λ (b : LogBlock). length b.block.events) blocks

-- the bytes of a block are those of one of these
abbrev Doubles : List LogBlock → LogBlock → Bool
Doubles done b = is_doubled (contents done) b.content

double_here : (blocks done : List LogBlock) (b : LogBlock) (rest : List LogBlock) → blocks ≡ done ++ b ∷ rest → is_double blocks (length done) ≡ Doubles done b
double_here blocks done b rest parts =
    let all = contents done ++ b.content ∷ contents rest in
    ap (λ (bs : List LogBlock). is_double bs (length done)) parts
    ∙ ap (λ (cs : List (List ℕ)). is_doubled (take (length done) cs) (get_or cs (length done) [])) (map-append (λ (x : LogBlock). x.content) done (b ∷ rest))
    ∙ ap (λ (n : ℕ). is_doubled (take n all) (get_or all n [])) (sym (length-map done (λ (x : LogBlock). x.content)))
    ∙ ap (λ (cs : List (List ℕ)). is_doubled cs (get_or all (length (contents done)) [])) (take-append_seam (contents done) (b.content ∷ contents rest))
    ∙ ap (is_doubled (contents done)) (get_or-append_seam (contents done) b.content (contents rest) [])

empty_here : (blocks done : List LogBlock) (b : LogBlock) (rest : List LogBlock) → blocks ≡ done ++ b ∷ rest → is_empty_block blocks (length done) ≡ eqb (length b.block.events) 0
empty_here blocks done b rest parts =
    let all = sizes done ++ length b.block.events ∷ sizes rest in
    ap (λ (bs : List LogBlock). is_empty_block bs (length done)) parts
    ∙ ap (λ (ns : List ℕ). eqb (get_or ns (length done) 0) 0) (map-append (λ (x : LogBlock). length x.block.events) done (b ∷ rest))
    ∙ ap (λ (n : ℕ). eqb (get_or all n 0) 0) (sym (length-map done (λ (x : LogBlock). length x.block.events)))
    ∙ ap (λ (n : ℕ). eqb n 0) (get_or-append_seam (sizes done) (length b.block.events) (sizes rest) 0)

-- ---- the first ones

-- the same bytes are among both
abbrev SameAmong : List (List ℕ) → List LogBlock → Type 0
SameAmong before done = (q : List ℕ) → is_among_contents before q ≡ is_among_contents (contents done) q

among_more : (before : List (List ℕ)) (done : List LogBlock) (b : LogBlock) → SameAmong before done → SameAmong (b.content ∷ before) (done ++ b ∷ [])
among_more before done b same q =
    ap (λ (t : Bool). bytes_eq q b.content || t) (same q)
    ∙ turned (bytes_eq q b.content) (is_among_contents (contents done) q)
    ∙ sym (list_any-append (bytes_eq q) (contents done) (b.content ∷ []))
    ∙ ap (λ (cs : List (List ℕ)). is_among_contents cs q) (sym (map-append (λ (x : LogBlock). x.content) done (b ∷ [])))
  where
    turned : (x y : Bool) → (x || y) ≡ (y || (x || false))
    turned true true = refl
    turned true false = refl
    turned false true = refl
    turned false false = refl

doubles_counted : (before : List (List ℕ)) (done rest : List LogBlock) → SameAmong before done → length (first_ones before rest) + so_many Doubles done rest ≡ length rest
doubles_counted before done [] same = refl
doubles_counted before done (b ∷ rest) same = by_test (doubles_counted (b.content ∷ before) (done ++ b ∷ []) rest (among_more before done b same)) (is_doubled before b.content) (sym (ap (λ (t : Bool). not (eqb (length b.content) 0) && t) (same b.content)))
  where
    others : List LogBlock
    others = first_ones (b.content ∷ before) rest

    more : ℕ
    more = so_many Doubles (done ++ b ∷ []) rest

    by_test : length others + more ≡ length rest → (t : Bool) → Doubles done b ≡ t → length (cond t others (b ∷ others)) + (cond (Doubles done b) 1 0 + more) ≡ length (b ∷ rest)
    by_test again true e = rw e (omega (arith, again))
    by_test again false e = rw e (omega (arith, again))

abbrev IsEmpty : LogBlock → Bool
IsEmpty b = eqb (length b.block.events) 0

abbrev IsLeftEmpty : List LogBlock → LogBlock → Bool
IsLeftEmpty done b = IsEmpty b && not (Doubles done b)

empty_counted : (before : List (List ℕ)) (done rest : List LogBlock) → SameAmong before done → count_by IsEmpty (first_ones before rest) ≡ so_many IsLeftEmpty done rest
empty_counted before done [] same = refl
empty_counted before done (b ∷ rest) same = by_test (empty_counted (b.content ∷ before) (done ++ b ∷ []) rest (among_more before done b same)) (is_doubled before b.content) (sym (ap (λ (t : Bool). not (eqb (length b.content) 0) && t) (same b.content)))
  where
    others : List LogBlock
    others = first_ones (b.content ∷ before) rest

    more : ℕ
    more = so_many IsLeftEmpty (done ++ b ∷ []) rest

    none : (x : Bool) → ◌≡◌ {A = ℕ} 0 (cond (x && false) 1 0)
    none true = refl
    none false = refl

    own : (x : Bool) → ◌≡◌ {A = ℕ} (cond x 1 0) (cond (x && true) 1 0)
    own true = refl
    own false = refl

    by_test : count_by IsEmpty others ≡ more → (t : Bool) → Doubles done b ≡ t → count_by IsEmpty (cond t others (b ∷ others)) ≡ cond (IsLeftEmpty done b) 1 0 + more
    by_test again true e = rw e (omega (arith, again, none (IsEmpty b)))
    by_test again false e = rw e (omega (arith, again, own (IsEmpty b), sum_by-cons (λ (x : LogBlock). cond (IsEmpty x) 1 0) b others))

-- ---- those of a log

-- the blocks that are left out as doubles
pub doubled_count : (blocks : List LogBlock) → length blocks - length (undoubled blocks) ≡ count_by (is_double blocks) (block_places blocks)
doubled_count blocks =
    let places = places_counted blocks (is_double blocks) Doubles (double_here blocks) [] blocks refl in
    omega (arith, places, doubles_counted [] [] blocks (λ q. refl))

-- the others without events
pub empty_places : (blocks : List LogBlock) → count_by (λ (b : LogBlock). eqb (length b.block.events) 0) (undoubled blocks) ≡ count_by (λ (i : ℕ). is_empty_block blocks i && not (is_double blocks i)) (block_places blocks)
empty_places blocks =
    let left : ℕ → Bool = λ i. is_empty_block blocks i && not (is_double blocks i) in
    empty_counted [] [] blocks (λ q. refl) ∙ sym (places_counted blocks left IsLeftEmpty here [] blocks refl)
  where
    here : (done : List LogBlock) (b : LogBlock) (rest : List LogBlock) → blocks ≡ done ++ b ∷ rest → (is_empty_block blocks (length done) && not (is_double blocks (length done))) ≡ IsLeftEmpty done b
    here done b rest parts =
        ap (λ (t : Bool). t && not (is_double blocks (length done))) (empty_here blocks done b rest parts)
        ∙ ap (λ (t : Bool). IsEmpty b && not t) (double_here blocks done b rest parts)
