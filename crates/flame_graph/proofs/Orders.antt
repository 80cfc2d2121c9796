-- Paths in ascending order: those that begin with a frame stand together.
use Rattle.std.proofs.Common.{◌≡◌, ◌⊎◌, ◌∙◌, ◌<◌, ◌≤◌, Bool, true, false, cond, ℕ, zero, suc, List, [], ◌∷◌, length, take, refl, ap, sym, arith, inl, inr, eqb}
use Rattle.std.specs.Prelude.{◌&&◌}
use Rattle.std.specs.List.{AllByRecursion}
use Rattle.std.proofs.lemmas.Bool.{and_from, and_parts, eq-eqb, eqb-false, eqb-true, false≢true}
use Rattle.std.proofs.lemmas.List.Elements.{All-from_recursion, recursion_from_All}
use Rattle.std.proofs.lemmas.List.Kept.{AllPairs-cons}
use Rattle.stack_rebuild.specs.Stacks.{PathRow}
use Rattle.stack_rebuild.specs.Weights.{begins}
use Rattle.flame_graph.specs.Frames.{AreAscending, Precedes}
use Rattle.flame_graph.specs.private.Walking.{shared}

-- the path of a row comes before that of another
abbrev pub IsBefore : PathRow → PathRow → Type 0
IsBefore row later = Precedes row.path later.path

-- rows in ascending order, row by row
abbrev pub Ascends : List PathRow → Type 0
Ascends [] = Unit {0}
Ascends (row ∷ later) = AllByRecursion (IsBefore row) later × Ascends later

pub ascends : (rows : List PathRow) → AreAscending rows → Ascends rows
ascends [] all = tt
ascends (row ∷ rows) all = (
  recursion_from_All (IsBefore row) rows (λ k d within. all 0 (suc k) d (omega arith) (omega (arith, within))),
  ascends rows (λ i j d low within. all (suc i) (suc j) d (omega (arith, low)) (omega (arith, within))),
)

pub ascending_from : (rows : List PathRow) → Ascends rows → AreAscending rows
ascending_from [] all = λ i j d low within. absurd (omega (arith, within))
ascending_from (row ∷ rows) all = AllPairs-cons IsBefore row rows (All-from_recursion (IsBefore row) rows all.0) (ascending_from rows all.1)

-- what begins with the functions of a frame and one before them
pub begins_more : (f a : ℕ) (frame path : List ℕ) → f ≡ a → begins frame path ≡ true → begins (f ∷ frame) (a ∷ path) ≡ true
begins_more f a frame path same rest = and_from (eqb f a) (begins frame path) (eq-eqb f a same) rest

pub begins_first : (f a : ℕ) (frame path : List ℕ) → begins (f ∷ frame) (a ∷ path) ≡ true → (f ≡ a) × (begins frame path ≡ true)
begins_first f a frame path is = let parts = and_parts (eqb f a) (begins frame path) is in (eqb-true f a parts.0, parts.1)

-- a path between two others that begin with a frame begins with it
pub between : (frame p q z : List ℕ) → Precedes p q → Precedes q z → begins frame p ≡ true → begins frame z ≡ true → begins frame q ≡ true
between [] p q z before after first last = refl
between (f ∷ frame) [] q z before after first last = absurd (false≢true first)
between (f ∷ frame) (a ∷ p) q [] before after first last = absurd (false≢true last)
between (f ∷ frame) (a ∷ p) [] (c ∷ z) before after first last = absurd before
between (f ∷ frame) (a ∷ p) (b ∷ q) (c ∷ z) before after first last = by_cases before after (λ low high. between frame p q z low high (begins_first f a frame p first).1 (begins_first f c frame z last).1)
  where
    head : (f ≡ a) × (begins frame p ≡ true)
    head = begins_first f a frame p first

    tail : (f ≡ c) × (begins frame z ≡ true)
    tail = begins_first f c frame z last

    by_cases : (a < b) ⊎ ((a ≡ b) × Precedes p q) → (b < c) ⊎ ((b ≡ c) × Precedes q z) → (Precedes p q → Precedes q z → begins frame q ≡ true) → begins (f ∷ frame) (b ∷ q) ≡ true
    by_cases (inl low) (inl high) again = absurd (omega (arith, head.0, tail.0, low, high))
    by_cases (inl low) (inr high) again = absurd (omega (arith, head.0, tail.0, low, high.0))
    by_cases (inr low) (inl high) again = absurd (omega (arith, head.0, tail.0, low.0, high))
    by_cases (inr low) (inr high) again = begins_more f b frame q (head.0 ∙ low.0) (again low.1 high.1)

-- a path doesn't precede one of its own prefixes
pub no_prefix_after : (path frame : List ℕ) → Precedes path frame → begins frame path ≡ true → ⊥
no_prefix_after [] [] before is = before
no_prefix_after [] (f ∷ frame) before is = false≢true is
no_prefix_after (a ∷ path) [] before is = before
no_prefix_after (a ∷ path) (f ∷ frame) before is = by_cases before (begins_first f a frame path is) (λ low begun. no_prefix_after path frame low begun)
  where
    by_cases : (a < f) ⊎ ((a ≡ f) × Precedes path frame) → (f ≡ a) × (begins frame path ≡ true) → (Precedes path frame → begins frame path ≡ true → ⊥) → ⊥
    by_cases (inl low) parts again = omega (arith, low, parts.0)
    by_cases (inr low) parts again = again low.1 parts.1

-- a path begins with each of its prefixes
pub begins_take : (n : ℕ) (path : List ℕ) → begins (take n path) path ≡ true
begins_take zero path = refl
begins_take (suc n) [] = refl
begins_take (suc n) (f ∷ path) = begins_more f f (take n path) path refl (begins_take n path)

-- another path begins with those that both share, and with no more
pub shares : (n : ℕ) (path other : List ℕ) → n < shared path other → begins (take (suc n) path) other ≡ true
shares n [] other few = absurd (omega (arith, few))
shares n (f ∷ path) [] few = absurd (omega (arith, few))
shares n (f ∷ path) (g ∷ other) few = by_test n (eqb f g) refl few (λ k below. shares k path other below)
  where
    by_test : (n : ℕ) (t : Bool) → eqb f g ≡ t → n < cond t (suc (shared path other)) 0 → ((k : ℕ) → k < shared path other → begins (take (suc k) path) other ≡ true)
        → begins (take (suc n) (f ∷ path)) (g ∷ other) ≡ true
    by_test n false is few again = absurd (omega (arith, few))
    by_test zero true is few again = begins_more f g [] other (eqb-true f g is) refl
    by_test (suc n) true is few again = begins_more f g (take (suc n) path) other (eqb-true f g is) (again n (omega (arith, few)))

pub shares_not : (n : ℕ) (path other : List ℕ) → shared path other ≤ n → n < length path → begins (take (suc n) path) other ≡ false
shares_not n [] other many within = absurd (omega (arith, within))
shares_not n (f ∷ path) [] many within = refl
shares_not n (f ∷ path) (g ∷ other) many within = by_test n (eqb f g) refl many within (λ k high low. shares_not k path other high low)
  where
    by_test : (n : ℕ) (t : Bool) → eqb f g ≡ t → cond t (suc (shared path other)) 0 ≤ n → n < length (f ∷ path)
        → ((k : ℕ) → shared path other ≤ k → k < length path → begins (take (suc k) path) other ≡ false) → begins (take (suc n) (f ∷ path)) (g ∷ other) ≡ false
    by_test n false is many within again = ap (λ (t : Bool). t && begins (take n path) other) is
    by_test zero true is many within again = absurd (omega (arith, many))
    by_test (suc n) true is many within again =
        ap (λ (t : Bool). t && begins (take (suc n) path) other) is ∙ again n (omega (arith, many)) (omega (arith, within))

-- both have the shared functions
pub same_shared : (n : ℕ) (path other : List ℕ) → n < shared path other → take (suc n) path ≡ take (suc n) other
same_shared n [] other few = absurd (omega (arith, few))
same_shared n (f ∷ path) [] few = absurd (omega (arith, few))
same_shared n (f ∷ path) (g ∷ other) few = by_test n (eqb f g) refl few (λ k below. same_shared k path other below)
  where
    by_test : (n : ℕ) (t : Bool) → eqb f g ≡ t → n < cond t (suc (shared path other)) 0 → ((k : ℕ) → k < shared path other → take (suc k) path ≡ take (suc k) other)
        → take (suc n) (f ∷ path) ≡ take (suc n) (g ∷ other)
    by_test n false is few again = absurd (omega (arith, few))
    by_test zero true is few again = ap (λ (h : ℕ). h ∷ []) (eqb-true f g is)
    by_test (suc n) true is few again =
        ap (λ (h : ℕ). h ∷ take (suc n) path) (eqb-true f g is) ∙ ap (λ (rest : List ℕ). g ∷ rest) (again n (omega (arith, few)))

pub shared_within : (path other : List ℕ) → shared path other ≤ length path
shared_within [] other = omega arith
shared_within (f ∷ path) [] = omega arith
shared_within (f ∷ path) (g ∷ other) = by_test (eqb f g) (shared_within path other)
  where
    by_test : (t : Bool) → shared path other ≤ length path → cond t (suc (shared path other)) 0 ≤ length (f ∷ path)
    by_test false rest = omega arith
    by_test true rest = omega (arith, rest)

pub shared_comm : (path other : List ℕ) → shared path other ≡ shared other path
shared_comm [] [] = refl
shared_comm [] (g ∷ other) = refl
shared_comm (f ∷ path) [] = refl
shared_comm (f ∷ path) (g ∷ other) = by_test (eqb f g) refl (eqb g f) refl (shared_comm path other)
  where
    by_test : (t : Bool) → eqb f g ≡ t → (u : Bool) → eqb g f ≡ u → shared path other ≡ shared other path
        → cond t (suc (shared path other)) 0 ≡ cond u (suc (shared other path)) 0
    by_test true is true was rest = ap suc rest
    by_test true is false was rest = absurd (eqb-false g f was (sym (eqb-true f g is)))
    by_test false is true was rest = absurd (eqb-false f g is (sym (eqb-true g f was)))
    by_test false is false was rest = refl
