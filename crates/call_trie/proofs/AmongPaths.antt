-- Paths among others, and the tallies of paths.
use Rattle.std.proofs.Common.{◌≡◌, ◌≢◌, ◌++◌, ◌||◌, ◌<◌, ◌∙◌, ℕ, zero, suc, Bool, true, false, cond, List, [], ◌∷◌, length, map, refl, ap, sym, subst, arith, nat_eq, nat_lt, get_or, set, length-append}
use Rattle.std.specs.declared.cmp.Ordering.{Ordering}
use Rattle.std.specs.declared.cmp.Ordering.TheVariants.{Less, Equal, Greater}
use Rattle.std.specs.FinMap.{nat_cmp-IsAntisymmetric, slice_cmp-IsAntisymmetric}
use Rattle.std.specs.Ordering.{is_eq, nat_cmp, ordering_then}
use Rattle.std.proofs.lemmas.Bool.{eq-eqb}
use Rattle.std.proofs.lemmas.Bool.Decides.{nat_tests}
use Rattle.std.proofs.lemmas.List.{ext_get_or, get_or-map, get_or-set_other, get_or-set_same, length-map, length-set}
use Rattle.std.proofs.lemmas.List.Sums.{sum_by-append, sum_by-cons}
use Rattle.stack_rebuild.specs.declared.tally.Tally.{Tally}
use Rattle.stack_rebuild.specs.PathSums.{AllNumbered, AreApart, no_tally, path_at, tally_of, with_pair}
use Rattle.stack_rebuild.specs.Stacks.{Timed, has_path, path_cmp}
use Rattle.call_trie.specs.private.Paths.{IsNew}
use Rattle.call_trie.specs.Tries.{is_among_paths}
use Rattle.call_trie.proofs.NodeLemmas.{apart_more, path_kept, path_last}

-- ---- equal paths

nat_cmp_same : (n : ℕ) → nat_cmp n n ≡ Equal
nat_cmp_same n =
    let not_less : nat_lt n n ≡ false = grind (arith, nat_tests) in
    ap (λ b. cond b Less (cond (nat_eq n n) Equal Greater)) not_less ∙ ap (λ b. cond b Equal Greater) (eq-eqb n n refl)

path_cmp_same : (path : List ℕ) → path_cmp path path ≡ Equal
path_cmp_same [] = refl
path_cmp_same (n ∷ path) = ap (λ (o : Ordering). ordering_then o (path_cmp path path)) (nat_cmp_same n) ∙ path_cmp_same path

equal_from : (o : Ordering) → is_eq o ≡ true → o ≡ Equal
equal_from Less is = let never : false ≡ true = is in cc
equal_from Equal is = refl
equal_from Greater is = let never : false ≡ true = is in cc

-- the test of two paths
abbrev same_path : List ℕ → List ℕ → Bool
same_path path other = is_eq (path_cmp other path)

pub same_path_from : (path other : List ℕ) → same_path path other ≡ true → other ≡ path
same_path_from path other is = slice_cmp-IsAntisymmetric nat_cmp-IsAntisymmetric other path (equal_from (path_cmp other path) is)

same_path_is : (path other : List ℕ) → other ≡ path → same_path path other ≡ true
same_path_is path other is = ap (λ (p : List ℕ). is_eq (path_cmp p path)) is ∙ ap is_eq (path_cmp_same path)

differs : (path other : List ℕ) → (other ≡ path → ⊥) → same_path path other ≡ false
differs path other apart = by_answer (same_path path other) refl
  where
    by_answer : (b : Bool) → same_path path other ≡ b → same_path path other ≡ false
    by_answer true is = absurd (apart (same_path_from path other is))
    by_answer false is = is

-- ---- paths among others

pub at_among : (paths : List (List ℕ)) (path : List ℕ) (k : ℕ) → k < length paths → path_at paths k ≡ path → is_among_paths paths path ≡ true
at_among [] path k within is = absurd (omega (arith, within))
at_among (other ∷ paths) path zero within is = ap (λ (b : Bool). b || is_among_paths paths path) (same_path_is path other is)
at_among (other ∷ paths) path (suc k) within is =
    ap (λ (b : Bool). same_path path other || b) (at_among paths path k (omega (arith, within)) is) ∙ or_true (same_path path other)
  where
    or_true : (b : Bool) → (b || true) ≡ true
    or_true true = refl
    or_true false = refl

pub among_at : (paths : List (List ℕ)) (path : List ℕ) → is_among_paths paths path ≡ true → (k : ℕ) × (k < length paths) × (path_at paths k ≡ path)
among_at [] path is = let never : false ≡ true = is in absurd (let n : ⊥ = cc in n)
among_at (other ∷ paths) path is = by_first (same_path path other) refl is (among_at paths path)
  where
    by_first : (b : Bool) → same_path path other ≡ b → (b || is_among_paths paths path) ≡ true
        → (is_among_paths paths path ≡ true → (k : ℕ) × (k < length paths) × (path_at paths k ≡ path)) → (k : ℕ) × (k < length (other ∷ paths)) × (path_at (other ∷ paths) k ≡ path)
    by_first true same all later = (0, omega arith, same_path_from path other same)
    by_first false same all later = let there = later all in (suc there.0, omega (arith, there.1), there.2)

pub new_among : (paths : List (List ℕ)) (path : List ℕ) → IsNew paths path → is_among_paths paths path ≡ false
new_among paths path absent = by_answer (is_among_paths paths path) refl
  where
    by_answer : (b : Bool) → is_among_paths paths path ≡ b → is_among_paths paths path ≡ false
    by_answer true is = let there = among_at paths path is in absurd (absent there.0 there.1 there.2)
    by_answer false is = is

pub among_new : (paths : List (List ℕ)) (path : List ℕ) → is_among_paths paths path ≡ false → IsNew paths path
among_new paths path none k within is = let never : true ≡ false = sym (at_among paths path k within is) ∙ none in (let n : ⊥ = cc in n)

-- ---- one more path, unless it is there

-- paths and one more, unless it is among them
abbrev pub with_path : List (List ℕ) → List ℕ → List (List ℕ)
with_path paths path = cond (is_among_paths paths path) paths (paths ++ path ∷ [])

pub with_known : (paths : List (List ℕ)) (path : List ℕ) → is_among_paths paths path ≡ true → with_path paths path ≡ paths
with_known paths path is = ap (λ b. cond b paths (paths ++ path ∷ [])) is

pub with_new : (paths : List (List ℕ)) (path : List ℕ) → is_among_paths paths path ≡ false → with_path paths path ≡ paths ++ path ∷ []
with_new paths path is = ap (λ b. cond b paths (paths ++ path ∷ [])) is

-- each path that had a number still has it
pub record Keeps (old new : List (List ℕ)) : Type 0 where
  pub kept : (n : ℕ) → n < length old → (n < length new) × (path_at new n ≡ path_at old n)

-- a path has a number
abbrev pub Has : List (List ℕ) → List ℕ → Type 0
Has paths path = (n : ℕ) × (n < length paths) × (path_at paths n ≡ path)

pub has_kept : (old new : List (List ℕ)) (path : List ℕ) → Keeps old new → Has old path → Has new path
has_kept old new path keeps has = let still = keeps.kept has.0 has.1 in (has.0, still.0, still.1 ∙ has.2)

pub record IsWith (old new : List (List ℕ)) (path : List ℕ) : Type 0 where
  pub keeps : Keeps old new
  pub has : Has new path
  pub apart : AreApart old → AreApart new

pub with_is : (paths : List (List ℕ)) (path : List ℕ) → IsWith paths (with_path paths path) path
with_is paths path = by_answer (is_among_paths paths path) refl
  where
    more : is_among_paths paths path ≡ false → IsWith paths (paths ++ path ∷ []) path
    more none = record {
      keeps = record { kept = λ n within. (omega (arith, within, length-append paths (path ∷ [])), path_kept paths path n within) };
      has = (length paths, omega (arith, length-append paths (path ∷ [])), path_last paths path (length paths) refl);
      apart = λ own. apart_more paths path own (among_new paths path none);
    }

    by_answer : (b : Bool) → is_among_paths paths path ≡ b → IsWith paths (with_path paths path) path
    by_answer true is =
        subst (λ (new : List (List ℕ)). IsWith paths new path) (sym (with_known paths path is))
        (record { keeps = record { kept = λ n within. (within, refl) }; has = among_at paths path is; apart = λ own. own })
    by_answer false is = subst (λ (new : List (List ℕ)). IsWith paths new path) (sym (with_new paths path is)) (more is)

-- ---- the pairs of paths

pub numbered_kept : (old new : List (List ℕ)) (pairs : List Timed) → Keeps old new → AllNumbered old pairs → AllNumbered new pairs
numbered_kept old new [] keeps all = tt
numbered_kept old new (pair ∷ pairs) keeps all = (has_kept old new pair.path keeps all.0, numbered_kept old new pairs keeps all.1)

pub numbered_append : (paths : List (List ℕ)) (pairs : List Timed) (pair : Timed) → AllNumbered paths pairs → Has paths pair.path
    → AllNumbered paths (pairs ++ pair ∷ [])
numbered_append paths [] pair all has = (has, tt)
numbered_append paths (p ∷ pairs) pair all has = (all.0, numbered_append paths pairs pair all.1 has)

pub has_own : (pair : Timed) → has_path pair.path pair ≡ true
has_own pair = ap is_eq (path_cmp_same pair.path)

pub has_other : (path : List ℕ) (pair : Timed) → (pair.path ≡ path → ⊥) → has_path path pair ≡ false
has_other path pair apart = differs path pair.path apart

pub same_tally : (x y : Tally) → x.count ≡ y.count → x.sum ≡ y.sum → x.own ≡ y.own → x ≡ y
same_tally x y c s o =
    ap (λ (n : ℕ). tally_as n x.sum x.own) c ∙ (ap (λ (n : ℕ). tally_as y.count n x.own) s ∙ ap (λ (n : ℕ). tally_as y.count y.sum n) o)
  where
    tally_as : ℕ → ℕ → ℕ → Tally
    tally_as count sum own = record { count = count; sum = sum; own = own }

-- one more pair of a path, or of another one
tally_more : (b : Bool) (pairs : List Timed) (pair : Timed) (path : List ℕ) → has_path path pair ≡ b
    → tally_of (pairs ++ pair ∷ []) path ≡ cond b (with_pair pair.duration pair.own (tally_of pairs path)) (tally_of pairs path)
tally_more true pairs pair path has =
    same_tally (tally_of (pairs ++ pair ∷ []) path) (with_pair pair.duration pair.own (tally_of pairs path))
    (omega (arith, sum_by-append (λ (p : Timed). cond (has_path path p) 1 0) pairs (pair ∷ []), sum_by-cons (λ (p : Timed). cond (has_path path p) 1 0) pair [], ap {B = ℕ} (λ a. cond a 1 0) has))
    (omega (arith, sum_by-append (λ (p : Timed). cond (has_path path p) p.duration 0) pairs (pair ∷ []), sum_by-cons (λ (p : Timed). cond (has_path path p) p.duration 0) pair [], ap {B = ℕ} (λ a. cond a pair.duration 0) has))
    (omega (arith, sum_by-append (λ (p : Timed). cond (has_path path p) p.own 0) pairs (pair ∷ []), sum_by-cons (λ (p : Timed). cond (has_path path p) p.own 0) pair [], ap {B = ℕ} (λ a. cond a pair.own 0) has))
tally_more false pairs pair path has =
    same_tally (tally_of (pairs ++ pair ∷ []) path) (tally_of pairs path)
    (omega (arith, sum_by-append (λ (p : Timed). cond (has_path path p) 1 0) pairs (pair ∷ []), sum_by-cons (λ (p : Timed). cond (has_path path p) 1 0) pair [], ap {B = ℕ} (λ a. cond a 1 0) has))
    (omega (arith, sum_by-append (λ (p : Timed). cond (has_path path p) p.duration 0) pairs (pair ∷ []), sum_by-cons (λ (p : Timed). cond (has_path path p) p.duration 0) pair [], ap {B = ℕ} (λ a. cond a pair.duration 0) has))
    (omega (arith, sum_by-append (λ (p : Timed). cond (has_path path p) p.own 0) pairs (pair ∷ []), sum_by-cons (λ (p : Timed). cond (has_path path p) p.own 0) pair [], ap {B = ℕ} (λ a. cond a pair.own 0) has))

-- no pair has a path without a number
pub none_has : (paths : List (List ℕ)) (path : List ℕ) (pairs : List Timed) → AllNumbered paths pairs → IsNew paths path → tally_of pairs path ≡ no_tally
none_has paths path [] numbered absent = refl
none_has paths path (pair ∷ pairs) numbered absent =
    let rest = none_has paths path pairs numbered.1 absent in
    let not_its : has_path path pair ≡ false =
    has_other path pair (λ is. absent numbered.0.0 numbered.0.1 (numbered.0.2 ∙ is)) in
    same_tally (tally_of (pair ∷ pairs) path) no_tally
    (omega (arith, sum_by-cons (λ (p : Timed). cond (has_path path p) 1 0) pair pairs, ap {B = ℕ} (λ a. cond a 1 0) not_its, ap {B = ℕ} (λ (t : Tally). t.count) rest))
    (omega (arith, sum_by-cons (λ (p : Timed). cond (has_path path p) p.duration 0) pair pairs, ap {B = ℕ} (λ a. cond a pair.duration 0) not_its, ap {B = ℕ} (λ (t : Tally). t.sum) rest))
    (omega (arith, sum_by-cons (λ (p : Timed). cond (has_path path p) p.own 0) pair pairs, ap {B = ℕ} (λ a. cond a pair.own 0) not_its, ap {B = ℕ} (λ (t : Tally). t.own) rest))

-- one more pair changes the tally of its path, and no other
pub tallies_more : (paths : List (List ℕ)) (pairs : List Timed) (pair : Timed) (n : ℕ) → AreApart paths → n < length paths → path_at paths n ≡ pair.path
    → map (tally_of (pairs ++ pair ∷ [])) paths
    ≡ set (map (tally_of pairs) paths) n (with_pair pair.duration pair.own (get_or (map (tally_of pairs) paths) n no_tally))
tallies_more paths pairs pair n apart low here =
    ext_get_or no_tally (map (tally_of (pairs ++ pair ∷ [])) paths) (set (map (tally_of pairs) paths) n new)
    (omega (arith, length-map paths (tally_of (pairs ++ pair ∷ [])), length-set (map (tally_of pairs) paths) n new, length-map paths (tally_of pairs)))
    (λ k within. each k (omega (arith, within, length-map paths (tally_of (pairs ++ pair ∷ [])))) (nat_eq k n) refl)
  where
    new : Tally
    new = with_pair pair.duration pair.own (get_or (map (tally_of pairs) paths) n no_tally)

    each : (k : ℕ) → k < length paths → (b : Bool) → nat_eq k n ≡ b
        → get_or (map (tally_of (pairs ++ pair ∷ [])) paths) k no_tally ≡ get_or (set (map (tally_of pairs) paths) n new) k no_tally
    each k within true same =
        let at : k ≡ n = let e : nat_eq k n ≡ true = same in grind (arith, nat_tests) in
        let its : has_path (path_at paths k) pair ≡ true =
        ap (λ (path : List ℕ). has_path path pair) (ap (path_at paths) at ∙ here) ∙ has_own pair in
        get_or-map (tally_of (pairs ++ pair ∷ [])) paths k [] no_tally within
        ∙ (tally_more true pairs pair (path_at paths k) its
        ∙ (ap (with_pair pair.duration pair.own) (ap (λ (m : ℕ). tally_of pairs (path_at paths m)) at ∙ sym (get_or-map (tally_of pairs) paths n [] no_tally low))
        ∙ (sym (get_or-set_same (map (tally_of pairs) paths) n new no_tally (omega (arith, low, length-map paths (tally_of pairs))))
        ∙ ap (λ (m : ℕ). get_or (set (map (tally_of pairs) paths) n new) m no_tally) (sym at))))
    each k within false other =
        let differ : k ≢ n = λ same. let e : nat_eq k n ≡ true = eq-eqb k n same in let never : true ≡ false = sym e ∙ other in (let n : ⊥ = cc in n) in
        let not_its : has_path (path_at paths k) pair ≡ false =
        has_other (path_at paths k) pair (λ is. differ (apart.apart k n within low (sym is ∙ sym here))) in
        get_or-map (tally_of (pairs ++ pair ∷ [])) paths k [] no_tally within
        ∙ (tally_more false pairs pair (path_at paths k) not_its
        ∙ (sym (get_or-map (tally_of pairs) paths k [] no_tally within)
        ∙ sym (get_or-set_other (map (tally_of pairs) paths) n k new no_tally differ)))
