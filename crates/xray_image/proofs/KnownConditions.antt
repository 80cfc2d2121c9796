-- Each condition of the table of refusals holds or doesn't hold.
use Rattle.std.proofs.Common.{◌≡◌, ◌≢◌, ℕ, ◌+◌, ◌<◌, ◌≤◌, inl, inr, Bool, true, false, List, [], ◌∷◌, ◌++◌, length, Option, Some, None, refl, sym, ap, subst, ◌∙◌, arith}
use Rattle.std.specs.Prelude.{◌⊎◌, ℤ, pos, negsuc, Contains, IfSome, FitsSigned}
use Rattle.std.specs.Bool.{Decides}
use Rattle.std.specs.Int.{w32}
use Rattle.std.specs.List.{All, last_or}
use Rattle.std.proofs.lemmas.Bool.{cases_eq, cases_lt, false≢true}
use Rattle.std.proofs.lemmas.Bool.Decides.{Decides-eqb}
use Rattle.std.proofs.lemmas.List.Elements.{All-nil, All-cons, All-head, All-tail}
use Rattle.std.proofs.lemmas.Map.Made.{is_member-Decides}
use Rattle.std.proofs.lemmas.Slice.Eq.{bytes_eq-Decides}
use Rattle.std.proofs.lemmas.Option.{same_Some}
use Rattle.subset_decode.specs.declared.instr.Instr.{Instr}
use Rattle.subset_decode.specs.Encoding.{Begins, spelling}
use Rattle.xray_image.specs.declared.unit.Unit.{Unit}
use Rattle.xray_image.specs.declared.unit.What.{What}
use Rattle.xray_image.specs.declared.unit.What.TheVariants.{Plain, Sled, Pad}
use Rattle.xray_image.specs.Units.{SledPlace}
use Rattle.xray_image.specs.Container.{Function, MapEntry}
use Rattle.xray_image.specs.Program.{BeginsAfter, BranchReaches, IsEntryOf, IsFunction, KindFits, LiesIn, Reaches, Trampolines, addresses, branch_target, is_name_byte}

-- it holds, or it doesn't
abbrev pub Known : Type 0 → Type 0
Known P = P ⊎ (P → ⊥)

-- two facts hold, or not both do
pub known_both : (P Q : Type 0) → Known P → Known Q → Known (P × Q)
known_both P Q (inl p) (inl q) = inl (p, q)
known_both P Q (inl p) (inr fails) = inr (λ both. fails both.1)
known_both P Q (inr fails) q = inr (λ both. fails both.0)

-- a fact doesn't hold, or it does
pub known_not : (P : Type 0) → Known P → Known (P → ⊥)
known_not P (inl p) = inr (λ fails. fails p)
known_not P (inr fails) = inl fails

-- a test decides it
pub known_by : (b : Bool) (P : Type 0) → Decides b P → Known P
known_by true P d = inl (d.0 refl)
known_by false P d = inr (λ p. false≢true (d.1 p))

-- ---- numbers, lists and options

-- a number is below another, or not
pub known_below : (m n : ℕ) → Known (m < n)
known_below m n = elim (cases_lt m n) [ inl lt ↦ inl lt | inr le ↦ inr (λ lt. omega arith) ]

-- a number is at most another, or not
pub known_most : (m n : ℕ) → Known (m ≤ n)
known_most m n = elim (cases_lt n m) [ inl lt ↦ inr (λ le. omega arith) | inr le ↦ inl le ]

-- a test is true, or not
pub known_true : (b : Bool) → Known (b ≡ true)
known_true true = inl refl
known_true false = inr false≢true

-- two lists are the same, or not
pub known_list : (xs ys : List ℕ) → Known (xs ≡ ys)
known_list xs ys = known_by _ (xs ≡ ys) (bytes_eq-Decides xs ys)

-- two optional numbers are the same, or not
pub known_option : (a b : Option ℕ) → Known (a ≡ b)
known_option None None = inl refl
known_option None (Some y) = inr (λ e. cc)
known_option (Some x) None = inr (λ e. cc)
known_option (Some x) (Some y) = elim (cases_eq x y) [ inl e ↦ inl (ap (λ (n : ℕ). Some n) e) | inr apart ↦ inr (λ e. apart (same_Some x y e)) ]

-- a list has a number, or not
pub known_contains : (xs : List ℕ) (x : ℕ) → Known (Contains xs x)
known_contains xs x = known_by _ (Contains xs x) (is_member-Decides Decides-eqb xs x)

-- a fact holds of all items, or not
pub known_all : {X : Type 0} (P : X → Type 0) → ((x : X) → Known (P x)) → (xs : List X) → Known (All P xs)
known_all P known [] = inl (All-nil P)
known_all P known (x ∷ xs) = by_parts (known x) (known_all P known xs)
  where
    by_parts : Known (P x) → Known (All P xs) → Known (All P (x ∷ xs))
    by_parts (inl first) (inl rest) = inl (All-cons P x xs first rest)
    by_parts (inl first) (inr fails) = inr (λ all. fails (All-tail P x xs all))
    by_parts (inr fails) rest = inr (λ all. fails (All-head P x xs all))

-- a fact holds of an item if there is one, or not
pub known_item : {X : Type 0} (o : Option X) (P : X → Type 0) → ((x : X) → Known (P x)) → Known ((x : X) → o ≡ Some x → P x)
known_item {X} None P known = inl (λ x e. absurd (nothing x e))
  where
    nothing : (x : X) → None ≡ Some x → ⊥
    nothing x e = cc
known_item {X} (Some y) P known = by_it (known y)
  where
    by_it : Known (P y) → Known ((x : X) → Some y ≡ Some x → P x)
    by_it (inl holds) = inl (λ x e. subst P (same_Some y x e) holds)
    by_it (inr fails) = inr (λ all. fails (all y refl))

-- bytes begin with a prefix, or they don't
pub known_front : (front bytes : List ℕ) → Known (Begins front bytes)
known_front [] bytes = inl (bytes, refl)
known_front (x ∷ xs) [] = inr (λ b. let e = b.1 in cc)
known_front (x ∷ xs) (y ∷ ys) = by_parts (cases_eq y x) (known_front xs ys)
  where
    head_same : (ns ms : List ℕ) → y ∷ ns ≡ x ∷ ms → y ≡ x
    head_same ns ms e = cc

    tail_same : (ns ms : List ℕ) → y ∷ ns ≡ x ∷ ms → ns ≡ ms
    tail_same ns ms e = cc

    by_parts : Known (y ≡ x) → Known (Begins xs ys) → Known (Begins (x ∷ xs) (y ∷ ys))
    by_parts (inl first) (inl rest) = inl (rest.0, ap (λ (n : ℕ). n ∷ ys) first ∙ ap (λ (ns : List ℕ). x ∷ ns) rest.1)
    by_parts (inl first) (inr fails) = inr (λ b. fails (b.0, tail_same ys (xs ++ b.0) b.1))
    by_parts (inr fails) rest = inr (λ b. fails (head_same ys (xs ++ b.0) b.1))

-- ---- the conditions of the table

-- a function begins after the one before it, or not
known_begins : (base start : ℕ) (o : Option Function) → Known (BeginsAfter base o start)
known_begins base start None = cases_eq start base
known_begins base start (Some before) = known_below before.start start

-- a function may come after those before it, or not
pub known_function : (base : ℕ) (units : List Unit) (before : List Function) (f : Function) → Known (IsFunction base units before f)
known_function base units before f =
    whole (known_contains (addresses units) f.start) (known_begins base f.start (last_or None before)) (known_not (f.name ≡ []) (known_list f.name []))
    (known_all (λ b. is_name_byte b ≡ true) (λ b. known_true (is_name_byte b)) f.name)
    (known_all (λ g. g.name ≢ f.name) (λ g. known_not (g.name ≡ f.name) (known_list g.name f.name)) before)
  where
    whole : Known (Contains (addresses units) f.start) → Known (BeginsAfter base (last_or None before) f.start) → Known (f.name ≢ [])
        → Known (All (λ b. is_name_byte b ≡ true) f.name) → Known (All (λ (g : Function). g.name ≢ f.name) before) → Known (IsFunction base units before f)
    whole (inl a) (inl b) (inl c) (inl d) (inl e) = inl (record { at_unit = a; in_order = b; has_name = c; name_bytes = d; own_name = e })
    whole (inl a) (inl b) (inl c) (inl d) (inr fails) = inr (λ r. fails r.own_name)
    whole (inl a) (inl b) (inl c) (inr fails) e = inr (λ r. fails r.name_bytes)
    whole (inl a) (inl b) (inr fails) d e = inr (λ r. fails r.has_name)
    whole (inl a) (inr fails) c d e = inr (λ r. fails r.in_order)
    whole (inr fails) b c d e = inr (λ r. fails r.at_unit)

-- a kind fits what the code has, or not
known_kind : (returns : Bool) (kind : ℕ) → Known (KindFits returns kind)
known_kind true kind = cases_eq kind 1
known_kind false kind = any (cases_eq kind 0) (cases_eq kind 2) (cases_eq kind 3)
  where
    any : Known (kind ≡ 0) → Known (kind ≡ 2) → Known (kind ≡ 3) → Known (KindFits false kind)
    any (inl a) b c = inl (inl a)
    any (inr no_entry) (inl b) c = inl (inr (inl b))
    any (inr no_entry) (inr no_tail) (inl c) = inl (inr (inr c))
    any (inr no_entry) (inr no_tail) (inr no_args) = inr (λ k. elim k [ inl a ↦ no_entry a | inr (inl b) ↦ no_tail b | inr (inr c) ↦ no_args c ])

-- an entry agrees with the code, or not
pub known_entry : (functions : List Function) (place : SledPlace) (entry : MapEntry) → Known (IsEntryOf functions place entry)
known_entry functions place entry =
    whole (known_option _ (Some entry.function)) (known_kind place.returns entry.kind) (known_below entry.version 3)
  where
    whole : Known (LiesIn functions place.address entry.function) → Known (KindFits place.returns entry.kind) → Known (entry.version < 3)
        → Known (IsEntryOf functions place entry)
    whole (inl a) (inl b) (inl c) = inl (record { in_function = a; kind = b; known_version = c })
    whole (inl a) (inl b) (inr fails) = inr (λ r. fails r.known_version)
    whole (inl a) (inr fails) c = inr (λ r. fails r.kind)
    whole (inr fails) b c = inr (λ r. fails r.in_function)

-- a number fits 32 bits, or not
known_fits : (z : ℤ) → Known (FitsSigned w32 z)
known_fits (pos n) = by_size (known_below n 2147483648)
  where
    by_size : Known (n < 2147483648) → Known (FitsSigned w32 (pos n))
    by_size (inl below) = inl (record { sfits = below })
    by_size (inr fails) = inr (λ fits. fails fits.sfits)
known_fits (negsuc n) = by_size (known_below n 2147483648)
  where
    by_size : Known (n < 2147483648) → Known (FitsSigned w32 (negsuc n))
    by_size (inl below) = inl (record { sfits = below })
    by_size (inr fails) = inr (λ fits. fails fits.sfits)

-- a sled reaches its trampoline, or not
pub known_reach : (trampolines : Trampolines) (place : SledPlace) (entry : MapEntry) → Known (Reaches trampolines place entry)
known_reach trampolines place entry = known_fits _

-- a target is the address of a unit
abbrev Arrives : List Unit → Option ℤ → Type 0
Arrives units o = IfSome o (λ target. (address : ℕ) × (target ≡ pos address) × Contains (addresses units) address)

-- a target is the address of a unit, or not
known_target : (units : List Unit) (o : Option ℤ) → Known (Arrives units o)
known_target units None = inl tt
known_target units (Some (pos n)) = by_unit (known_contains (addresses units) n)
  where
    pos_same : (m k : ℕ) → pos m ≡ pos k → m ≡ k
    pos_same m k e = cc

    by_unit : Known (Contains (addresses units) n) → Known (Arrives units (Some (pos n)))
    by_unit (inl there) = inl (n, refl, there)
    by_unit (inr fails) = inr (λ h. fails (subst (Contains (addresses units)) (sym (pos_same n h.0 h.1)) h.2))
known_target units (Some (negsuc n)) = inr (λ h. let e = h.1 in cc)

-- what is asked of a unit, by what it is
abbrev Goes : List Unit → Unit → What → Type 0
Goes units u what = (instr : Instr) → what ≡ Plain instr → Arrives units (branch_target (u.address + length (spelling instr)) instr)

-- equal units hold equal instructions
plain_same : (i j : Instr) → Plain i ≡ Plain j → i ≡ j
plain_same i j e = cc

-- a sled isn't an instruction
no_sled : (k : ℕ) (i : Instr) → Sled k ≡ Plain i → ⊥
no_sled k i e = cc

-- nor is the alignment byte
no_pad : (i : Instr) → Pad ≡ Plain i → ⊥
no_pad i e = cc

-- an instruction goes to a unit, or not
by_target : (units : List Unit) (u : Unit) (i : Instr) → Known (Arrives units (branch_target (u.address + length (spelling i)) i)) → Known (Goes units u (Plain i))
by_target units u i (inl there) =
    inl (λ j e. subst (λ (x : Instr). Arrives units (branch_target (u.address + length (spelling x)) x)) (plain_same i j e) there)
by_target units u i (inr fails) = inr (λ all. fails (all i refl))

-- so does a unit, by what it is
by_what : (units : List Unit) (u : Unit) (what : What) → Known (Goes units u what)
by_what units u (Plain i) = by_target units u i (known_target units (branch_target (u.address + length (spelling i)) i))
by_what units u (Sled k) = inl (λ i e. absurd (no_sled k i e))
by_what units u Pad = inl (λ i e. absurd (no_pad i e))

-- a unit that branches goes to a unit, or not
pub known_branch : (units : List Unit) (u : Unit) → Known (BranchReaches units u)
known_branch units u = by_what units u u.what
