-- The pairs of a thread, grouped by their paths.
use Rattle.std.proofs.Common.{◌≡◌, ◌+◌, ◌++◌, ◌<◌, ◌∙◌, ℕ, zero, suc, Bool, true, false, cond, List, [], ◌∷◌, length, take, refl, ap, sym, arith, sum_by}
use Rattle.std.specs.Prelude.{All, filter}
use Rattle.std.specs.List.{flat_map}
use Rattle.std.proofs.lemmas.List.{append-nil, take_more}
use Rattle.std.proofs.lemmas.List.Concat.{flat_map-append}
use Rattle.std.proofs.lemmas.List.Elements.{All-cons, All-nil}
use Rattle.std.proofs.lemmas.List.Sums.{sum_by-append, sum_by-cons}
use Rattle.stack_rebuild.specs.declared.tally.Tally.{Tally}
use Rattle.stack_rebuild.specs.PathSums.{AllNumbered, AreApart, AreOfPath, AreSums, path_at, tally_of}
use Rattle.stack_rebuild.specs.Stacks.{Timed, has_path}
use Rattle.call_trie.proofs.AmongPaths.{Has, has_other, has_own, same_tally}

-- the pairs of a path
abbrev pub pairs_with : List Timed → List ℕ → List Timed
pairs_with pairs path = filter (has_path path) pairs

-- the pairs of paths, path by path
abbrev pub grouped : List Timed → List (List ℕ) → List Timed
grouped pairs paths = flat_map (pairs_with pairs) paths

-- ---- the pairs of one path

all_with : (path : List ℕ) (pairs : List Timed) → All (λ pair. has_path path pair ≡ true) (pairs_with pairs path)
all_with path [] = All-nil (λ pair. has_path path pair ≡ true)
all_with path (pair ∷ pairs) = by_test (has_path path pair) refl (all_with path pairs)
  where
    by_test : (b : Bool) → has_path path pair ≡ b → All (λ p. has_path path p ≡ true) (pairs_with pairs path)
        → All (λ p. has_path path p ≡ true) (cond b (pair ∷ pairs_with pairs path) (pairs_with pairs path))
    by_test true is later = All-cons (λ p. has_path path p ≡ true) pair (pairs_with pairs path) is later
    by_test false is later = later

-- a sum over them
with_sum : (path : List ℕ) (f : Timed → ℕ) (pairs : List Timed) → sum_by f (pairs_with pairs path) ≡ sum_by (λ pair. cond (has_path path pair) (f pair) 0) pairs
with_sum path f [] = refl
with_sum path f (pair ∷ pairs) = by_test (has_path path pair) refl (with_sum path f pairs)
  where
    g : Timed → ℕ
    g p = cond (has_path path p) (f p) 0

    by_test : (b : Bool) → has_path path pair ≡ b → sum_by f (pairs_with pairs path) ≡ sum_by (λ p. cond (has_path path p) (f p) 0) pairs
        → sum_by f (cond b (pair ∷ pairs_with pairs path) (pairs_with pairs path)) ≡ sum_by (λ p. cond (has_path path p) (f p) 0) (pair ∷ pairs)
    by_test true is later =
        omega (
          arith,
          sum_by-cons f pair (pairs_with pairs path),
          sum_by-cons (λ (p : Timed). cond (has_path path p) (f p) 0) pair pairs,
          ap {B = ℕ} (λ a. cond a (f pair) 0) is,
          later,
        )
    by_test false is later =
        omega (arith, sum_by-cons (λ (p : Timed). cond (has_path path p) (f p) 0) pair pairs, ap {B = ℕ} (λ a. cond a (f pair) 0) is, later)

twice : (b : Bool) (n : ℕ) → cond b (cond b n 0) 0 ≡ cond b n 0
twice true n = refl
twice false n = refl

sum_same : (f g : Timed → ℕ) → ((pair : Timed) → f pair ≡ g pair) → (pairs : List Timed) → sum_by f pairs ≡ sum_by g pairs
sum_same f g same [] = refl
sum_same f g same (pair ∷ pairs) = omega (arith, sum_by-cons f pair pairs, sum_by-cons g pair pairs, same pair, sum_same f g same pairs)

-- they say of their path what all pairs say of it
pub are_of_path : (path : List ℕ) (pairs : List Timed) → AreOfPath path (tally_of pairs path) (pairs_with pairs path)
are_of_path path pairs = record {
  all = all_with path pairs;
  tally_is = sym (same_tally (tally_of (pairs_with pairs path) path) (tally_of pairs path)
      (same (λ pair. 1)) (same (λ pair. pair.duration)) (same (λ pair. pair.own)));
}
  where
    same : (f : Timed → ℕ) → sum_by (λ (pair : Timed). cond (has_path path pair) (f pair) 0) (pairs_with pairs path) ≡ sum_by (λ (pair : Timed). cond (has_path path pair) (f pair) 0) pairs
    same f =
        with_sum path (λ pair. cond (has_path path pair) (f pair) 0) pairs
        ∙ sum_same (λ pair. cond (has_path path pair) (cond (has_path path pair) (f pair) 0) 0) (λ pair. cond (has_path path pair) (f pair) 0)
        (λ pair. twice (has_path path pair) (f pair)) pairs

-- ---- all paths

-- one more path
pub grouped_more : (pairs : List Timed) (paths : List (List ℕ)) (k : ℕ) → k < length paths
    → grouped pairs (take (k + 1) paths) ≡ grouped pairs (take k paths) ++ pairs_with pairs (path_at paths k)
grouped_more pairs paths k within =
    ap (grouped pairs) (take_more paths k [] within)
    ∙ (flat_map-append (pairs_with pairs) (take k paths) (path_at paths k ∷ [])
    ∙ ap (λ (ps : List Timed). grouped pairs (take k paths) ++ ps) (append-nil (pairs_with pairs (path_at paths k))))

-- the parts that paths have of a pair
parts : (Timed → ℕ) → Timed → List (List ℕ) → ℕ
parts f pair [] = 0
parts f pair (path ∷ paths) = cond (has_path path pair) (f pair) 0 + parts f pair paths

no_parts : (f : Timed → ℕ) (pair : Timed) (paths : List (List ℕ)) → ((k : ℕ) → k < length paths → path_at paths k ≡ pair.path → ⊥) → parts f pair paths ≡ 0
unfolding parts
no_parts f pair [] absent = refl
no_parts f pair (path ∷ paths) absent =
    let not_its : has_path path pair ≡ false = has_other path pair (λ same. absent 0 (omega arith) (sym same)) in
    omega (arith, ap {B = ℕ} (λ b. cond b (f pair) 0) not_its, no_parts f pair paths (λ k within same. absent (suc k) (omega (arith, within)) same))

apart_tail : (path : List ℕ) (paths : List (List ℕ)) → AreApart (path ∷ paths) → AreApart paths
apart_tail path paths own = record {
  apart = λ n m low high same. let e : suc n ≡ suc m = own.apart (suc n) (suc m) (omega (arith, low)) (omega (arith, high)) same in omega (arith, e);
}

its_parts : (f : Timed → ℕ) (pair : Timed) (paths : List (List ℕ)) → AreApart paths → Has paths pair.path → parts f pair paths ≡ f pair
unfolding parts
its_parts f pair [] apart has = absurd (omega (arith, has.1))
its_parts f pair (path ∷ paths) apart (zero, within, is) =
    let its : has_path path pair ≡ true = ap (λ (p : List ℕ). has_path p pair) is ∙ has_own pair in
    let none : parts f pair paths ≡ 0 =
    no_parts f pair paths (λ k low same. let e : 0 ≡ suc k = apart.apart 0 (suc k) (omega arith) (omega (arith, low)) (is ∙ sym same) in omega (arith, e)) in
    omega (arith, ap {B = ℕ} (λ b. cond b (f pair) 0) its, none)
its_parts f pair (path ∷ paths) apart (suc k, within, is) =
    let not_its : has_path path pair ≡ false =
    has_other path pair (λ same. let e : 0 ≡ suc k = apart.apart 0 (suc k) (omega arith) within (sym same ∙ sym is) in omega (arith, e)) in
    omega (arith, ap {B = ℕ} (λ b. cond b (f pair) 0) not_its, its_parts f pair paths (apart_tail path paths apart) (k, omega (arith, within), is))

none_grouped : (paths : List (List ℕ)) → grouped [] paths ≡ []
none_grouped [] = refl
none_grouped (path ∷ paths) = none_grouped paths

sum_grouped : (f : Timed → ℕ) (pair : Timed) (pairs : List Timed) (paths : List (List ℕ)) → sum_by f (grouped (pair ∷ pairs) paths) ≡ parts f pair paths + sum_by f (grouped pairs paths)
unfolding parts
sum_grouped f pair pairs [] = refl
sum_grouped f pair pairs (path ∷ paths) =
    omega (
      arith,
      sum_by-append f (pairs_with (pair ∷ pairs) path) (grouped (pair ∷ pairs) paths),
      sum_by-append f (pairs_with pairs path) (grouped pairs paths),
      with_sum path f (pair ∷ pairs),
      with_sum path f pairs,
      sum_by-cons (λ (p : Timed). cond (has_path path p) (f p) 0) pair pairs,
      sum_grouped f pair pairs paths,
    )

-- the pairs of all paths are all pairs, in another order
pub same_sums : (f : Timed → ℕ) (paths : List (List ℕ)) (pairs : List Timed) → AreApart paths → AllNumbered paths pairs → sum_by f (grouped pairs paths) ≡ sum_by f pairs
same_sums f paths [] apart all = ap (sum_by f) (none_grouped paths)
same_sums f paths (pair ∷ pairs) apart all =
    omega (arith, sum_grouped f pair pairs paths, its_parts f pair paths apart all.0, sum_by-cons f pair pairs, same_sums f paths pairs apart all.1)

-- ---- sums of paths

numbered_front : (paths : List (List ℕ)) (pairs more : List Timed) → AllNumbered paths (pairs ++ more) → AllNumbered paths pairs
numbered_front paths [] more all = tt
numbered_front paths (pair ∷ pairs) more all = (all.0, numbered_front paths pairs more all.1)

numbered_both : (paths : List (List ℕ)) (pairs more : List Timed) → AllNumbered paths pairs → AllNumbered paths more → AllNumbered paths (pairs ++ more)
numbered_both paths [] more all also = also
numbered_both paths (pair ∷ pairs) more all also = (all.0, numbered_both paths pairs more all.1 also)

numbered_through : (paths others : List (List ℕ)) (pairs : List Timed) → ((k : ℕ) → k < length paths → Has others (path_at paths k)) → AllNumbered paths pairs → AllNumbered others pairs
numbered_through paths others [] to all = tt
numbered_through paths others (pair ∷ pairs) to all =
    let there = to all.0.0 all.0.1 in ((there.0, there.1, there.2 ∙ all.0.2), numbered_through paths others pairs to all.1)

-- sums of pairs that are grouped are sums of the pairs
pub sums_of_all : (paths : List (List ℕ)) (tallies : List Tally) (before pairs : List Timed) (own : List (List ℕ)) → AreApart own → AllNumbered own pairs
    → ((k : ℕ) → k < length own → Has paths (path_at own k)) → AreSums paths tallies (before ++ grouped pairs own) → AreSums paths tallies (before ++ pairs)
sums_of_all paths tallies before pairs own apart all to sums = record {
  level = sums.level;
  each = λ n d within. sums.each n d within ∙ tally (path_at paths n);
  numbered = numbered_both paths before pairs (numbered_front paths before (grouped pairs own) sums.numbered) (numbered_through own paths pairs to all);
  apart = sums.apart;
  some = sums.some;
  root = sums.root;
}
  where
    same : (f : Timed → ℕ) → sum_by f (before ++ grouped pairs own) ≡ sum_by f (before ++ pairs)
    same f = omega (arith, sum_by-append f before (grouped pairs own), sum_by-append f before pairs, same_sums f own pairs apart all)

    tally : (path : List ℕ) → tally_of (before ++ grouped pairs own) path ≡ tally_of (before ++ pairs) path
    tally path =
        same_tally (tally_of (before ++ grouped pairs own) path) (tally_of (before ++ pairs) path)
        (same (λ p. cond (has_path path p) 1 0)) (same (λ p. cond (has_path path p) p.duration 0)) (same (λ p. cond (has_path path p) p.own 0))
