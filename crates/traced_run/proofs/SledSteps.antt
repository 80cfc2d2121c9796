-- What a passing fetched, and the step of these bytes.
use Rattle.std.proofs.Common.{◌≡◌, ℕ, zero, suc, ◌==◌, Bool, true, false, List, [], ◌∷◌, ◌++◌, get_or, Option, Some, None, refl, sym, ap, subst, ◌∙◌, arith, eqb-true, eq-eqb}
use Rattle.std.specs.Prelude.{Contains, find, if◌then◌else◌, nat_eq, option_map}
use Rattle.std.specs.List.{flat_map, starts_with}
use Rattle.std.specs.Option.{option_map_or}
use Rattle.std.proofs.lemmas.Bool.Decides.{Decides-eqb}
use Rattle.std.proofs.lemmas.List.{append-nil}
use Rattle.std.proofs.lemmas.Slice.Eq.{starts_is}
use Rattle.subset_decode.specs.declared.instr.Instr.TheVariants.{Mov, Call, Jmp}
use Rattle.subset_decode.specs.Encoding.{spelling}
use Rattle.xray_image.specs.declared.sled.Sled.{Sled}
use Rattle.xray_image.specs.Program.{Trampolines}
use Rattle.sled_words.specs.declared.part.Part.{Part}
use Rattle.sled_words.specs.declared.part.Part.TheVariants.{Head, Id, Opcode, Offset}
use Rattle.sled_words.specs.Words.{word_of}
use Rattle.machine_step.specs.declared.limits.Limits.{Limits}
use Rattle.machine_step.specs.Loads.{Load}
use Rattle.machine_step.specs.PlainStep.{Goes, Next, State, fuelled, returns}
use Rattle.machine_step.specs.Whole.{HaveOneValue, Loaded}
use Rattle.traced_run.specs.Executed.{bytes_fetched, loaded_bytes, part_fetched, past, sled_step, to_trampoline, with_r10}

-- ---- the first item that passes a test

abbrev pub Found : {X : Type 0} → (X → Bool) → List X → Type 0
Found {X} test xs = (x : X) × (find test xs ≡ Some x) × Contains xs x × (test x ≡ true)

later_among : {X : Type 0} (first : X) (xs : List X) (x : X) → Contains xs x → Contains (first ∷ xs) x
later_among first xs x (k, below, is) = (suc k, omega arith, is)

-- the first item passes, or a later one does
first_or_later : {X : Type 0} (test : X → Bool) (first : X) (xs : List X) (x : X) → Contains (first ∷ xs) x → test x ≡ true
    → (Contains xs x → Found test xs) → Found test (first ∷ xs)
first_or_later {X} test first xs x among passes later = by_test (test first) refl
  where
    by_place : test first ≡ false → Contains (first ∷ xs) x → Contains xs x
    by_place fails (zero, below, is) = let clash : true ≡ false = sym passes ∙ (ap test (sym is) ∙ fails) in absurd cc
    by_place fails (suc k, below, is) = (k, omega arith, is)

    by_test : (b : Bool) → test first ≡ b
        → (y : X) × ((if b then Some first else find test xs) ≡ Some y) × Contains (first ∷ xs) y × (test y ≡ true)
    by_test true here = (first, refl, (zero, omega arith, refl), here)
    by_test false here =
        let found = later (by_place here among) in (found.0, found.1, later_among first xs found.0 found.2, found.3)

pub found_first : {X : Type 0} (test : X → Bool) (xs : List X) (x : X) → Contains xs x → test x ≡ true → Found test xs
found_first test [] x (k, below, is) passes = absurd (omega arith)
found_first test (first ∷ xs) x among passes = first_or_later test first xs x among passes (λ rest. found_first test xs x rest passes)

pub none_found : {X : Type 0} (test : X → Bool) (xs : List X) → ((x : X) → Contains xs x → test x ≡ false) → find test xs ≡ None
none_found test [] none = refl
none_found {X} test (first ∷ xs) none =
    ap (λ (b : Bool). if b then Some first else find test xs) (none first (zero, omega arith, refl))
    ∙ none_found test xs (λ x among. none x (later_among first xs x among))

-- ---- the bytes that were fetched

-- a part that was loaded with one value
part_is : (k : ℕ) (own : List Load) (part : Part) (value : ℕ) → HaveOneValue own k → Loaded own k part value
    → part_fetched k own part ≡ loaded_bytes part value
part_is k own part value one loaded =
    let of_part : Load → Bool = λ load. load.word == word_of k part in
    let asked : Load = record { word = word_of k part; value = value } in
    let found : Found of_part own = found_first of_part own asked loaded (eq-eqb (word_of k part) (word_of k part) refl) in
    let word : found.0.word ≡ word_of k part = eqb-true found.0.word (word_of k part) found.3 in
    let its : Load = record { word = word_of k part; value = found.0.value } in
    let same : found.0 ≡ its = λ i. record { word = word i; value = found.0.value } in
    ap (λ (o : Option Load). option_map_or (λ load. loaded_bytes part load.value) o []) found.1
    ∙ ap (loaded_bytes part) (one part found.0.value value (subst (Contains own) same found.2) loaded)

-- what comes behind the head
abbrev pub rest_fetched : ℕ → List Load → List ℕ
rest_fetched k own = flat_map (part_fetched k own) (Id ∷ Opcode ∷ Offset ∷ [])

pub head_fetched : (k : ℕ) (own : List Load) (head : ℕ) → HaveOneValue own k → Loaded own k Head head
    → bytes_fetched k own ≡ loaded_bytes Head head ++ rest_fetched k own
head_fetched k own head one loaded = ap (λ (bytes : List ℕ). bytes ++ rest_fetched k own) (part_is k own Head head one loaded)

pub all_fetched : (k : ℕ) (own : List Load) (head id opcode offset : ℕ) → HaveOneValue own k
    → Loaded own k Head head → Loaded own k Id id → Loaded own k Opcode opcode → Loaded own k Offset offset
    → bytes_fetched k own ≡ loaded_bytes Head head ++ loaded_bytes Id id ++ loaded_bytes Opcode opcode ++ loaded_bytes Offset offset
all_fetched k own head id opcode offset one at_head at_id at_opcode at_offset = λ i.
    part_is k own Head head one at_head i
    ++ (part_is k own Id id one at_id i
    ++ (part_is k own Opcode opcode one at_opcode i ++ (part_is k own Offset offset one at_offset i ++ [])))

-- ---- their step

begins_all : (bytes : List ℕ) → starts_with nat_eq bytes bytes ≡ true
begins_all bytes = (starts_is Decides-eqb bytes bytes (starts_with nat_eq bytes bytes) refl).1 [] (sym (append-nil bytes))

module _ (trampolines : Trampolines) (limits : Limits) (sled : Sled) (s : State) where
  abbrev pub calling : List ℕ
  calling = spelling (Mov 10 sled.id) ++ spelling (Call (to_trampoline trampolines sled s))

  abbrev pub leaving : List ℕ
  leaving = spelling (Mov 10 sled.id) ++ spelling (Jmp (to_trampoline trampolines sled s))

  abbrev After : Type 0
  After = List ℕ × Next

  abbrev called : After
  called = (calling, Goes (past 11 (with_r10 sled.id s)))

  abbrev left : After
  left = (leaving, fuelled limits (with_r10 sled.id s) (returns (with_r10 sled.id s) s.stack))

  pub jump_step : (rest : List ℕ) → sled_step trampolines limits sled s (0xEB ∷ 0x09 ∷ rest) ≡ Some (Goes (past 11 s))
  jump_step rest = refl

  pub return_step : (rest : List ℕ) → sled_step trampolines limits sled s (0xC3 ∷ rest) ≡ Some (fuelled limits s (returns s s.stack))
  return_step rest = refl

  pub call_step : sled_step trampolines limits sled s calling ≡ Some (Goes (past 11 (with_r10 sled.id s)))
  call_step =
      ap (λ (b : Bool). option_map (λ (row : After). row.1) (if b then Some called else (if starts_with nat_eq calling leaving then Some left else None)))
      (begins_all calling)

  -- a jump isn't a call
  no_call : (b : Bool) → starts_with nat_eq leaving calling ≡ b → b ≡ false
  no_call true begins =
      let same = (starts_is Decides-eqb leaving calling true (sym begins)).0 refl in
      let byte : 0xE9 ≡ 0xE8 = ap (λ (bytes : List ℕ). get_or bytes 6 0) same in absurd (omega (arith, byte))
  no_call false begins = refl

  pub leave_step : sled_step trampolines limits sled s leaving ≡ Some (fuelled limits (with_r10 sled.id s) (returns (with_r10 sled.id s) s.stack))
  leave_step =
      ap (λ (b : Bool). option_map (λ (row : After). row.1) (if b then Some called else (if starts_with nat_eq leaving leaving then Some left else None)))
      (no_call (starts_with nat_eq leaving calling) refl)
      ∙ ap (λ (b : Bool). option_map (λ (row : After). row.1) (if b then Some left else None)) (begins_all leaving)
