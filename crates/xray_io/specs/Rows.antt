-- Ordered refusals, as rows. The rows of a table come in their order. Each decides, or leaves it to what follows it. So
-- the first row that applies decides.
--
-- Rows of tests compute the verdict: a value, or the fault of the first row that applies. Rows of conditions needn't
-- compute. They hold of at most one verdict, by a law for each kind of row.
use Rattle.std.proofs.Common.{◌≡◌, ℕ, ◌<◌, Bool, true, false, List, [], ◌∷◌, Option, Some, None, Ok, Err, inl, inr, sym, subst, ◌∙◌, arith}
use Rattle.std.specs.Prelude.{◌⊎◌, Result}
use Rattle.std.proofs.lemmas.Bool.{cases_lt}

-- the verdict is this one
abbrev pub Is : {V : Type 0} → V → V → Type 0
Is decided verdict = verdict ≡ decided

-- ---- rows

-- A test. If it passes, the row decides.
abbrev pub First {ℓ} : {D : Type ℓ} → Bool → D → D → D
First true decides follows = decides
First false decides follows = follows

-- A part that may be missing. If it is, the row decides.
abbrev pub NeedsPart {ℓ} : {D : Type ℓ} {P : Type 0} → Option P → D → (P → D) → D
NeedsPart None decides follows = decides
NeedsPart (Some part) decides follows = follows part

-- A condition that has to hold. If it doesn't, the row decides.
abbrev pub Needs : {V : Type 0} → Type 0 → (V → Type 0) → (V → Type 0) → V → Type 0
Needs condition decides follows verdict = ((condition → ⊥) × decides verdict) ⊎ (condition × follows verdict)

-- A condition on each number from 0 on. If it doesn't hold for all, the least number for which it doesn't decides.
abbrev pub NeedsEach : {V : Type 0} → (ℕ → Type 0) → (ℕ → V → Type 0) → (V → Type 0) → V → Type 0
NeedsEach condition decides follows verdict =
    ((i : ℕ) × (condition i → ⊥) × ((j : ℕ) → j < i → condition j) × decides i verdict)
    ⊎ (((i : ℕ) → condition i) × follows verdict)

-- ---- rows of several items

infixl 10 ◌>>=◌
-- what follows a value, or else the fault
abbrev pub ◌>>=◌ : {A B F : Type 0} → Result A F → (A → Result B F) → Result B F
(Ok x) >>= f = f x
(Err fault) >>= f = Err fault

-- Items in their order. The rows of an item come after those of the items before it, by the value that these gave.
abbrev pub InTurn : {S I F : Type 0} → (S → I → Result S F) → S → List I → Result S F
InTurn rows before [] = Ok before
InTurn rows before (item ∷ items) = rows before item >>= λ after. InTurn rows after items

-- ---- rows have one verdict

-- rows hold of at most one verdict
pub record IsOneWay {V : Type 0} (rows : V → Type 0) : Type 0 where
  pub same : (v w : V) → rows v → rows w → v ≡ w

pub is_one : {V : Type 0} (decided : V) → IsOneWay (Is decided)
is_one decided = record { same = λ v w a b. a ∙ sym b }

-- a row holds of at most one verdict if what decides does and what follows does
pub first_one : {V : Type 0} (test : Bool) (decides follows : V → Type 0) → IsOneWay decides → IsOneWay follows
    → IsOneWay (First test decides follows)
first_one true decides follows here one = record { same = λ v w a b. here.same v w a b }
first_one false decides follows here one = record { same = λ v w a b. one.same v w a b }

pub needs_part_one : {V P : Type 0} (o : Option P) (decides : V → Type 0) (follows : P → V → Type 0) → IsOneWay decides
    → ((part : P) → IsOneWay (follows part)) → IsOneWay (NeedsPart o decides follows)
needs_part_one None decides follows here one = record { same = λ v w a b. here.same v w a b }
needs_part_one (Some part) decides follows here one = record { same = λ v w a b. (one part).same v w a b }

pub needs_one : {V : Type 0} (condition : Type 0) (decides follows : V → Type 0) → IsOneWay decides → IsOneWay follows
    → IsOneWay (Needs condition decides follows)
needs_one {V} condition decides follows here one = record { same = both }
  where
    both : (v w : V) → Needs condition decides follows v → Needs condition decides follows w → v ≡ w
    both v w (inl a) (inl b) = here.same v w a.1 b.1
    both v w (inl a) (inr b) = absurd (a.0 b.0)
    both v w (inr a) (inl b) = absurd (b.0 a.0)
    both v w (inr a) (inr b) = one.same v w a.1 b.1

-- there is only one least number for which a condition doesn't hold
least_same : (condition : ℕ → Type 0) (i j : ℕ) → (condition i → ⊥) → ((k : ℕ) → k < i → condition k) → (condition j → ⊥)
    → ((k : ℕ) → k < j → condition k) → i ≡ j
least_same condition i j fails below fails' below' =
    elim (cases_lt i j) [
      | inl lt ↦ absurd (fails (below' i lt))
      | inr ge ↦ elim (cases_lt j i) [ inl gt ↦ absurd (fails' (below j gt)) | inr le ↦ omega arith ]
    ]

pub needs_each_one : {V : Type 0} (condition : ℕ → Type 0) (decides : ℕ → V → Type 0) (follows : V → Type 0)
    → ((i : ℕ) → IsOneWay (decides i)) → IsOneWay follows → IsOneWay (NeedsEach condition decides follows)
needs_each_one {V} condition decides follows here one = record { same = both }
  where
    both : (v w : V) → NeedsEach condition decides follows v → NeedsEach condition decides follows w → v ≡ w
    both v w (inl a) (inl b) =
        let same = least_same condition a.0 b.0 a.1 a.2 b.1 b.2 in
        (here b.0).same v w (subst (λ (i : ℕ). decides i v) same a.3) b.3
    both v w (inl a) (inr b) = absurd (a.1 (b.0 a.0))
    both v w (inr a) (inl b) = absurd (b.1 (a.0 b.0))
    both v w (inr a) (inr b) = one.same v w a.1 b.1
