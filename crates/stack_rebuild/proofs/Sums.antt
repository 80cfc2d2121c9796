-- The tallies of paths: one more path, and one more pair.
use Rattle.std.proofs.Common.{◌≡◌, ◌++◌, ◌<◌, ◌∙◌, ℕ, Bool, true, false, cond, List, [], ◌∷◌, length, refl, ap, sym, subst, arith, nat_eq, nat_lt, get_or, set, length-append}
use Rattle.std.specs.declared.cmp.Ordering.{Ordering}
use Rattle.std.specs.declared.cmp.Ordering.TheVariants.{Less, Equal, Greater}
use Rattle.std.specs.Ordering.{is_eq, nat_cmp, ordering_then}
use Rattle.std.specs.Prelude.{All}
use Rattle.std.specs.FinMap.{nat_cmp-IsAntisymmetric, slice_cmp-IsAntisymmetric}
use Rattle.std.proofs.Math.Seq.{get_or-append_seam}
use Rattle.std.proofs.lemmas.Bool.{eq-eqb}
use Rattle.std.proofs.lemmas.Bool.Decides.{nat_tests}
use Rattle.std.proofs.lemmas.List.{length-set, get_or-set_same, get_or-set_other}
use Rattle.std.proofs.lemmas.List.Elements.{All-head, All-tail}
use Rattle.std.proofs.lemmas.List.Sums.{sum_by-append, sum_by-cons}
use Rattle.stack_rebuild.specs.declared.tally.Tally.{Tally}
use Rattle.stack_rebuild.specs.Stacks.{Timed, has_path, path_cmp}
use Rattle.stack_rebuild.specs.PathSums.{AllNumbered, AreOfPath, AreSums, both_tallies, no_tally, path_at, tally_of, with_pair}
use Rattle.stack_rebuild.specs.private.Scanning.{Keeps}
use Rattle.stack_rebuild.proofs.Trees.{apart_more, each_more, path_kept}

-- ---- the order of paths

pub nat_cmp_same : (n : ℕ) → nat_cmp n n ≡ Equal
nat_cmp_same n =
    let not_less : nat_lt n n ≡ false = grind (arith, nat_tests) in
    ap (λ b. cond b Less (cond (nat_eq n n) Equal Greater)) not_less ∙ ap (λ b. cond b Equal Greater) (eq-eqb n n refl)

pub path_cmp_same : (path : List ℕ) → path_cmp path path ≡ Equal
path_cmp_same [] = refl
path_cmp_same (n ∷ path) = ap (λ (o : Ordering). ordering_then o (path_cmp path path)) (nat_cmp_same n) ∙ path_cmp_same path

pub path_cmp_equal : (path other : List ℕ) → path_cmp path other ≡ Equal → path ≡ other
path_cmp_equal path other is = slice_cmp-IsAntisymmetric nat_cmp-IsAntisymmetric path other is

pub equal_from : (o : Ordering) → is_eq o ≡ true → o ≡ Equal
equal_from Less is = let never : false ≡ true = is in cc
equal_from Equal is = refl
equal_from Greater is = let never : false ≡ true = is in cc

-- a pair has its own path, and no other
pub has_own : (pair : Timed) → has_path pair.path pair ≡ true
has_own pair = ap is_eq (path_cmp_same pair.path)

pub has_path-same : (path : List ℕ) (pair : Timed) → has_path path pair ≡ true → pair.path ≡ path
has_path-same path pair is = path_cmp_equal pair.path path (equal_from (path_cmp pair.path path) is)

pub has_path-other : (path : List ℕ) (pair : Timed) → (pair.path ≡ path → ⊥) → has_path path pair ≡ false
has_path-other path pair apart = by_answer (has_path path pair) refl
  where
    by_answer : (b : Bool) → has_path path pair ≡ b → has_path path pair ≡ false
    by_answer true is = absurd (apart (has_path-same path pair is))
    by_answer false is = is

-- ---- tallies

pub same_tally : (x y : Tally) → x.count ≡ y.count → x.sum ≡ y.sum → x.own ≡ y.own → x ≡ y
same_tally x y c s o =
    ap (λ (n : ℕ). tally_as n x.sum x.own) c ∙ (ap (λ (n : ℕ). tally_as y.count n x.own) s ∙ ap (λ (n : ℕ). tally_as y.count y.sum n) o)
  where
    tally_as : ℕ → ℕ → ℕ → Tally
    tally_as count sum own = record { count = count; sum = sum; own = own }

-- one more pair
tally_more : (b : Bool) (pairs : List Timed) (pair : Timed) (path : List ℕ) → has_path path pair ≡ b
    → tally_of (pairs ++ pair ∷ []) path ≡ cond b (with_pair pair.duration pair.own (tally_of pairs path)) (tally_of pairs path)
tally_more b pairs pair path is = by_answer b is
  where
    one : Timed → ℕ
    one p = cond (has_path path p) 1 0

    duration : Timed → ℕ
    duration p = cond (has_path path p) p.duration 0

    own : Timed → ℕ
    own p = cond (has_path path p) p.own 0

    by_answer : (a : Bool) → has_path path pair ≡ a
        → tally_of (pairs ++ pair ∷ []) path ≡ cond a (with_pair pair.duration pair.own (tally_of pairs path)) (tally_of pairs path)
    by_answer true has =
        same_tally (tally_of (pairs ++ pair ∷ []) path) (with_pair pair.duration pair.own (tally_of pairs path))
        (omega (arith, sum_by-append (λ (p : Timed). cond (has_path path p) 1 0) pairs (pair ∷ []), sum_by-cons (λ (p : Timed). cond (has_path path p) 1 0) pair [], ap {B = ℕ} (λ a. cond a 1 0) has))
        (omega (arith, sum_by-append (λ (p : Timed). cond (has_path path p) p.duration 0) pairs (pair ∷ []), sum_by-cons (λ (p : Timed). cond (has_path path p) p.duration 0) pair [], ap {B = ℕ} (λ a. cond a pair.duration 0) has))
        (omega (arith, sum_by-append (λ (p : Timed). cond (has_path path p) p.own 0) pairs (pair ∷ []), sum_by-cons (λ (p : Timed). cond (has_path path p) p.own 0) pair [], ap {B = ℕ} (λ a. cond a pair.own 0) has))
    by_answer false has =
        same_tally (tally_of (pairs ++ pair ∷ []) path) (tally_of pairs path)
        (omega (arith, sum_by-append (λ (p : Timed). cond (has_path path p) 1 0) pairs (pair ∷ []), sum_by-cons (λ (p : Timed). cond (has_path path p) 1 0) pair [], ap {B = ℕ} (λ a. cond a 1 0) has))
        (omega (arith, sum_by-append (λ (p : Timed). cond (has_path path p) p.duration 0) pairs (pair ∷ []), sum_by-cons (λ (p : Timed). cond (has_path path p) p.duration 0) pair [], ap {B = ℕ} (λ a. cond a pair.duration 0) has))
        (omega (arith, sum_by-append (λ (p : Timed). cond (has_path path p) p.own 0) pairs (pair ∷ []), sum_by-cons (λ (p : Timed). cond (has_path path p) p.own 0) pair [], ap {B = ℕ} (λ a. cond a pair.own 0) has))

-- no pair has a path without a number
none_has : (paths : List (List ℕ)) (path : List ℕ) (pairs : List Timed) → AllNumbered paths pairs
    → ((k : ℕ) → k < length paths → path_at paths k ≡ path → ⊥) → tally_of pairs path ≡ no_tally
none_has paths path [] numbered absent = refl
none_has paths path (pair ∷ pairs) numbered absent =
    let rest = none_has paths path pairs numbered.1 absent in
    let not_its : has_path path pair ≡ false =
    has_path-other path pair (λ is. absent numbered.0.0 numbered.0.1 (numbered.0.2 ∙ is)) in
    same_tally (tally_of (pair ∷ pairs) path) no_tally
    (omega (arith, sum_by-cons (λ (p : Timed). cond (has_path path p) 1 0) pair pairs, ap {B = ℕ} (λ a. cond a 1 0) not_its, ap {B = ℕ} (λ (t : Tally). t.count) rest))
    (omega (arith, sum_by-cons (λ (p : Timed). cond (has_path path p) p.duration 0) pair pairs, ap {B = ℕ} (λ a. cond a pair.duration 0) not_its, ap {B = ℕ} (λ (t : Tally). t.sum) rest))
    (omega (arith, sum_by-cons (λ (p : Timed). cond (has_path path p) p.own 0) pair pairs, ap {B = ℕ} (λ a. cond a pair.own 0) not_its, ap {B = ℕ} (λ (t : Tally). t.own) rest))

numbered_kept : (paths paths' : List (List ℕ)) (pairs : List Timed) → Keeps paths paths' → AllNumbered paths pairs → AllNumbered paths' pairs
numbered_kept paths paths' [] keeps all = tt
numbered_kept paths paths' (pair ∷ pairs) keeps all =
    let still = keeps.kept all.0.0 all.0.1 in ((all.0.0, still.0, still.1 ∙ all.0.2), numbered_kept paths paths' pairs keeps all.1)

numbered_append : (paths : List (List ℕ)) (pairs : List Timed) (pair : Timed) → AllNumbered paths pairs
    → (n : ℕ) → n < length paths → path_at paths n ≡ pair.path → AllNumbered paths (pairs ++ pair ∷ [])
numbered_append paths [] pair all n within is = ((n, within, is), tt)
numbered_append paths (p ∷ pairs) pair all n within is = (all.0, numbered_append paths pairs pair all.1 n within is)

-- ---- paths that have numbers have them still

pub keeps_same : (paths paths' : List (List ℕ)) → paths' ≡ paths → Keeps paths paths'
keeps_same paths paths' same = subst (Keeps paths) (sym same) (record { kept = λ n within. (within, refl) })

keeps_more : (paths : List (List ℕ)) (path : List ℕ) → Keeps paths (paths ++ path ∷ [])
keeps_more paths path = record { kept = λ n within. (omega (arith, within, length-append paths (path ∷ [])), path_kept paths path n within) }

-- ---- the sums of paths

-- one more path, which no pair has
pub sums_fresh : (paths : List (List ℕ)) (tallies : List Tally) (pairs : List Timed) (path : List ℕ) → AreSums paths tallies pairs
    → ((k : ℕ) → k < length paths → path_at paths k ≡ path → ⊥) → AreSums (paths ++ path ∷ []) (tallies ++ no_tally ∷ []) pairs
sums_fresh paths tallies pairs path sums absent = record {
  level = omega (arith, sums.level, length-append paths (path ∷ []), length-append tallies (no_tally ∷ []));
  each = each_more (λ n t. t ≡ tally_of pairs (path_at (paths ++ path ∷ []) n)) tallies no_tally
      (λ n d within. sums.each n d within ∙ ap (tally_of pairs) (sym (path_kept paths path n (omega (arith, sums.level)))))
      (sym (ap (tally_of pairs) (ap (path_at (paths ++ path ∷ [])) sums.level ∙ get_or-append_seam paths path [] [])
      ∙ none_has paths path pairs sums.numbered absent));
  numbered = numbered_kept paths (paths ++ path ∷ []) pairs (keeps_more paths path) sums.numbered;
  apart = apart_more paths path sums.apart absent;
  some = omega (arith, sums.some, length-append paths (path ∷ []));
  root = path_kept paths path 0 sums.some ∙ sums.root;
}

-- one more pair of a path
pub sums_more : (paths : List (List ℕ)) (tallies : List Tally) (pairs : List Timed) (pair : Timed) (n : ℕ) (d old new : Tally) → AreSums paths tallies pairs
    → n < length paths → pair.path ≡ path_at paths n → old ≡ get_or tallies n d → new ≡ with_pair pair.duration pair.own old
    → AreSums paths (set tallies n new) (pairs ++ pair ∷ [])
sums_more paths tallies pairs pair n e old new sums low is here added = record {
  level = length-set tallies n new ∙ sums.level;
  each = λ k d within. each k d (omega (arith, within, length-set tallies n new)) (nat_eq k n) refl;
  numbered = numbered_append paths pairs pair sums.numbered n low (sym is);
  apart = sums.apart;
  some = sums.some;
  root = sums.root;
}
  where
    each : (k : ℕ) (d : Tally) → k < length tallies → (b : Bool) → nat_eq k n ≡ b → get_or (set tallies n new) k d ≡ tally_of (pairs ++ pair ∷ []) (path_at paths k)
    each k d within true same =
        let at : k ≡ n = let e : nat_eq k n ≡ true = same in grind (arith, nat_tests) in
        let its : has_path (path_at paths k) pair ≡ true =
        ap (λ (path : List ℕ). has_path path pair) (ap (path_at paths) at ∙ sym is) ∙ has_own pair in
        let was : old ≡ tally_of pairs (path_at paths k) =
        here ∙ (sums.each n e (omega (arith, low, sums.level)) ∙ ap (λ (m : ℕ). tally_of pairs (path_at paths m)) (sym at)) in
        ap (λ (m : ℕ). get_or (set tallies n new) m d) at
        ∙ (get_or-set_same tallies n new d (omega (arith, low, sums.level))
        ∙ (added ∙ (ap (with_pair pair.duration pair.own) was ∙ sym (tally_more true pairs pair (path_at paths k) its))))
    each k d within false other =
        let apart : k ≡ n → ⊥ = λ same. let e : nat_eq k n ≡ true = eq-eqb k n same in let never : true ≡ false = sym e ∙ other in (let n : ⊥ = cc in n) in
        let not_its : has_path (path_at paths k) pair ≡ false =
        has_path-other (path_at paths k) pair (λ same. apart (sums.apart.apart k n (omega (arith, sums.level)) low (sym same ∙ is))) in
        get_or-set_other tallies n k new d apart
        ∙ (sums.each k d within ∙ sym (tally_more false pairs pair (path_at paths k) not_its))

-- ---- more pairs of one path

tally_append : (pairs more : List Timed) (path : List ℕ) → tally_of (pairs ++ more) path ≡ both_tallies (tally_of pairs path) (tally_of more path)
tally_append pairs more path =
    same_tally (tally_of (pairs ++ more) path) (both_tallies (tally_of pairs path) (tally_of more path))
    (sum_by-append (λ (p : Timed). cond (has_path path p) 1 0) pairs more)
    (sum_by-append (λ (p : Timed). cond (has_path path p) p.duration 0) pairs more)
    (sum_by-append (λ (p : Timed). cond (has_path path p) p.own 0) pairs more)

both_none : (t : Tally) → both_tallies t no_tally ≡ t
both_none t = same_tally (both_tallies t no_tally) t (omega arith) (omega arith) (omega arith)

abbrev AllHave : List ℕ → List Timed → Type 0
AllHave path pairs = All (λ pair. has_path path pair ≡ true) pairs

-- none of them has another path
none_of : (path other : List ℕ) (pairs : List Timed) → AllHave path pairs → (other ≡ path → ⊥) → tally_of pairs other ≡ no_tally
none_of path other [] all apart = refl
none_of path other (pair ∷ pairs) all apart =
    let P : Timed → Type 0 = λ p. has_path path p ≡ true in
    let rest = none_of path other pairs (All-tail P pair pairs all) apart in
    let not_its : has_path other pair ≡ false =
    has_path-other other pair (λ is. apart (sym is ∙ has_path-same path pair (All-head P pair pairs all))) in
    same_tally (tally_of (pair ∷ pairs) other) no_tally
    (omega (arith, sum_by-cons (λ (p : Timed). cond (has_path other p) 1 0) pair pairs, ap {B = ℕ} (λ a. cond a 1 0) not_its, ap {B = ℕ} (λ (t : Tally). t.count) rest))
    (omega (arith, sum_by-cons (λ (p : Timed). cond (has_path other p) p.duration 0) pair pairs, ap {B = ℕ} (λ a. cond a pair.duration 0) not_its, ap {B = ℕ} (λ (t : Tally). t.sum) rest))
    (omega (arith, sum_by-cons (λ (p : Timed). cond (has_path other p) p.own 0) pair pairs, ap {B = ℕ} (λ a. cond a pair.own 0) not_its, ap {B = ℕ} (λ (t : Tally). t.own) rest))

numbered_all : (paths : List (List ℕ)) (n : ℕ) (pairs : List Timed) → n < length paths → AllHave (path_at paths n) pairs → AllNumbered paths pairs
numbered_all paths n [] low all = tt
numbered_all paths n (pair ∷ pairs) low all =
    let P : Timed → Type 0 = λ p. has_path (path_at paths n) p ≡ true in
    ((n, low, sym (has_path-same (path_at paths n) pair (All-head P pair pairs all))), numbered_all paths n pairs low (All-tail P pair pairs all))

numbered_both : (paths : List (List ℕ)) (pairs more : List Timed) → AllNumbered paths pairs → AllNumbered paths more → AllNumbered paths (pairs ++ more)
numbered_both paths [] more all also = also
numbered_both paths (pair ∷ pairs) more all also = (all.0, numbered_both paths pairs more all.1 also)

pub sums_all : (paths : List (List ℕ)) (tallies : List Tally) (pairs more : List Timed) (n : ℕ) (tally : Tally) → AreSums paths tallies pairs
    → n < length paths → AreOfPath (path_at paths n) tally more
    → AreSums paths (set tallies n (both_tallies (get_or tallies n no_tally) tally)) (pairs ++ more)
sums_all paths tallies pairs more n tally sums low own = record {
  level = length-set tallies n new ∙ sums.level;
  each = λ k d within. each k d (omega (arith, within, length-set tallies n new)) (nat_eq k n) refl;
  numbered = numbered_both paths pairs more sums.numbered (numbered_all paths n more low own.all);
  apart = sums.apart;
  some = sums.some;
  root = sums.root;
}
  where
    new : Tally
    new = both_tallies (get_or tallies n no_tally) tally

    at_n : new ≡ tally_of (pairs ++ more) (path_at paths n)
    at_n =
        ap (λ (t : Tally). both_tallies t tally) (sums.each n no_tally (omega (arith, low, sums.level)))
        ∙ (ap (both_tallies (tally_of pairs (path_at paths n))) own.tally_is ∙ sym (tally_append pairs more (path_at paths n)))

    each : (k : ℕ) (d : Tally) → k < length tallies → (b : Bool) → nat_eq k n ≡ b → get_or (set tallies n new) k d ≡ tally_of (pairs ++ more) (path_at paths k)
    each k d within true same =
        let at : k ≡ n = let e : nat_eq k n ≡ true = same in grind (arith, nat_tests) in
        ap (λ (m : ℕ). get_or (set tallies n new) m d) at
        ∙ (get_or-set_same tallies n new d (omega (arith, low, sums.level))
        ∙ (at_n ∙ ap (λ (m : ℕ). tally_of (pairs ++ more) (path_at paths m)) (sym at)))
    each k d within false other =
        let apart : k ≡ n → ⊥ = λ same. let e : nat_eq k n ≡ true = eq-eqb k n same in let never : true ≡ false = sym e ∙ other in (let n : ⊥ = cc in n) in
        let none : tally_of more (path_at paths k) ≡ no_tally =
        none_of (path_at paths n) (path_at paths k) more own.all (λ same. apart (sums.apart.apart k n (omega (arith, within, sums.level)) low same)) in
        get_or-set_other tallies n k new d apart
        ∙ (sums.each k d within
        ∙ (sym (both_none (tally_of pairs (path_at paths k)))
        ∙ (ap (both_tallies (tally_of pairs (path_at paths k))) (sym none) ∙ sym (tally_append pairs more (path_at paths k)))))
