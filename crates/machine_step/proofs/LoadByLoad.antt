-- Loads that follow a script, one after the other: none, those made at an earlier place, and one more.
use Rattle.std.proofs.Common.{◌≡◌, ℕ, zero, suc, ◌+◌, ◌≤◌, ◌<◌, List, [], ◌∷◌, ◌++◌, length, take, Option, Some, refl, sym, ap, subst, ◌∙◌, inl, inr, arith, append_assoc, length-append}
use Rattle.std.specs.Prelude.{◌⊎◌, slice_get}
use Rattle.std.proofs.lemmas.List.{append-nil, take-append-le}
use Rattle.std.proofs.lemmas.Option.{same_Some}
use Rattle.xray_image.specs.Program.{Program}
use Rattle.machine_step.specs.Follows.{Follows, Rise}
use Rattle.machine_step.specs.Loads.{Load, marks_of, next_load}

-- The same loads, built up by one load after the other.
pub data ByLoads (program : Program) (threads : ℕ) (code : ℕ → ℕ → ℕ) (start : ℕ) (bound : ℕ → ℕ) (thread : ℕ) (hold : Option ℕ) (sleds : List ℕ)
    : List Load → ℕ → Type 0 where
  by_none : ByLoads program threads code start bound thread hold sleds [] start
  by_later : (loads : List Load) (place next : ℕ) → place ≤ next → ByLoads program threads code start bound thread hold sleds loads place
      → ByLoads program threads code start bound thread hold sleds loads next
  by_loaded : (loads : List Load) (place word : ℕ) → ByLoads program threads code start bound thread hold sleds loads place
      → next_load program threads thread hold sleds loads ≡ Some word
      → place ≤ bound (length (marks_of program threads thread hold sleds loads))
      → ByLoads program threads code start bound thread hold sleds (loads ++ record { word = word; value = code place word } ∷ []) place

-- ---- lists

-- a place in a list with one more item: it is one of the list, or that of the item
pushed_at : {X : Type 0} (xs : List X) (x y : X) (i : ℕ) → slice_get (xs ++ x ∷ []) i ≡ Some y
    → ((i < length xs) × (slice_get xs i ≡ Some y)) ⊎ ((i ≡ length xs) × (x ≡ y))
pushed_at [] x y zero at = inr (refl, same_Some x y at)
pushed_at [] x y (suc i) at = absurd cc
pushed_at (first ∷ xs) x y zero at = inl (omega arith, at)
pushed_at (first ∷ xs) x y (suc i) at = elim (pushed_at xs x y i at) [
  | inl before ↦ inl (omega (arith, before.0), before.1)
  | inr last ↦ inr (ap suc last.0, last.1)
]

take_all : {X : Type 0} (xs ys : List X) → take (length xs) (xs ++ ys) ≡ xs
take_all [] ys = refl
take_all (x ∷ xs) ys = ap (λ zs. x ∷ zs) (take_all xs ys)

rise_up : (from last higher : ℕ) (numbers : List ℕ) → last ≤ higher → Rise from last numbers → Rise from higher numbers
rise_up from last higher [] up rise = tt
rise_up from last higher (number ∷ later) up (low, high, rise) = (low, omega arith, rise_up number last higher later up rise)

rise_push : (from last : ℕ) (numbers : List ℕ) → from ≤ last → Rise from last numbers → Rise from last (numbers ++ last ∷ [])
rise_push from last [] low rise = (low, omega arith, tt)
rise_push from last (number ∷ later) low (above, high, rise) = (above, high, rise_push number last later high rise)

-- ---- loads that follow

module _ {program : Program} {threads : ℕ} {code : ℕ → ℕ → ℕ} {start : ℕ} {bound : ℕ → ℕ} {thread : ℕ} {hold : Option ℕ} {sleds : List ℕ} where
  pub none : Follows program threads code start bound thread hold sleds [] start
  none = record {
    places = [];
    count = refl;
    begun = omega arith;
    rise = tt;
    wanted = λ i load at. absurd cc;
    values = λ i at load placed found. absurd cc;
    within = λ i at placed. absurd cc;
  }

  pub later : (loads : List Load) (place next : ℕ) → place ≤ next → Follows program threads code start bound thread hold sleds loads place
      → Follows program threads code start bound thread hold sleds loads next
  later loads place next up f = record {
    places = f.places;
    count = f.count;
    begun = omega (arith, f.begun);
    rise = rise_up start place next f.places up f.rise;
    wanted = f.wanted;
    values = f.values;
    within = f.within;
  }

  pub loaded : (loads : List Load) (place word : ℕ) → Follows program threads code start bound thread hold sleds loads place
      → next_load program threads thread hold sleds loads ≡ Some word
      → place ≤ bound (length (marks_of program threads thread hold sleds loads))
      → Follows program threads code start bound thread hold sleds (loads ++ record { word = word; value = code place word } ∷ []) place
  loaded loads place word f wants high = record {
    places = f.places ++ place ∷ [];
    count = length-append f.places (place ∷ []) ∙ (ap (λ n. n + 1) f.count ∙ sym (length-append loads (load ∷ [])));
    begun = f.begun;
    rise = rise_push start place f.places f.begun f.rise;
    wanted = wanted;
    values = values;
    within = within;
  }
    where
      load : Load
      load = record { word = word; value = code place word }

      Wants : List Load → ℕ → Type 0
      Wants before w = next_load program threads thread hold sleds before ≡ Some w

      wanted : (i : ℕ) (l : Load) → slice_get (loads ++ load ∷ []) i ≡ Some l → Wants (take i (loads ++ load ∷ [])) l.word
      wanted i l at = elim (pushed_at loads load l i at) [
        | inl before ↦ subst (λ (ls : List Load). Wants ls l.word) (sym (take-append-le i loads (load ∷ []) (omega (arith, before.0)))) (f.wanted i l before.1)
        | inr last ↦
            subst (λ (n : ℕ). Wants (take n (loads ++ load ∷ [])) l.word) (sym last.0)
            (subst (λ (ls : List Load). Wants ls l.word) (sym (take_all loads (load ∷ []))) (wants ∙ ap (λ (m : Load). Some m.word) last.1))
      ]

      values : (i at : ℕ) (l : Load) → slice_get (f.places ++ place ∷ []) i ≡ Some at → slice_get (loads ++ load ∷ []) i ≡ Some l → l.value ≡ code at l.word
      values i at l placed found = elim (pushed_at f.places place at i placed) [
        | inl early ↦ elim (pushed_at loads load l i found) [
          | inl before ↦ f.values i at l early.1 before.1
          | inr last ↦ absurd (omega (arith, early.0, last.0, f.count))
        ]
        | inr late ↦ elim (pushed_at loads load l i found) [
          | inl before ↦ absurd (omega (arith, late.0, before.0, f.count))
          | inr last ↦
              sym (ap (λ (m : Load). m.value) last.1) ∙ (ap (λ p. code p word) late.1 ∙ ap (λ (m : Load). code at m.word) last.1)
        ]
      ]

      within : (i at : ℕ) → slice_get (f.places ++ place ∷ []) i ≡ Some at
          → at ≤ bound (length (marks_of program threads thread hold sleds (take i (loads ++ load ∷ []))))
      within i at placed = elim (pushed_at f.places place at i placed) [
        | inl early ↦
            subst (λ (ls : List Load). at ≤ bound (length (marks_of program threads thread hold sleds ls)))
            (sym (take-append-le i loads (load ∷ []) (omega (arith, early.0, f.count)))) (f.within i at early.1)
        | inr late ↦
            subst (λ (n : ℕ). at ≤ bound (length (marks_of program threads thread hold sleds (take n (loads ++ load ∷ []))))) (sym (late.0 ∙ f.count))
            (subst (λ (ls : List Load). at ≤ bound (length (marks_of program threads thread hold sleds ls))) (sym (take_all loads (load ∷ [])))
            (subst (λ p. p ≤ bound (length (marks_of program threads thread hold sleds loads))) late.1 high))
      ]

-- ---- one load after the other

module _ (program : Program) (threads : ℕ) (code : ℕ → ℕ → ℕ) (start : ℕ) (bound : ℕ → ℕ) (thread : ℕ) (hold : Option ℕ) (sleds : List ℕ) where
  -- the loads after some that were made, each at a place from the last of theirs on
  record Rest (place : ℕ) (done : List Load) (from : ℕ) (rest : List Load) (places : List ℕ) : Type 0 where
    count : length places ≡ length rest
    begun : from ≤ place
    rise : Rise from place places
    wanted : (i : ℕ) (load : Load) → slice_get rest i ≡ Some load → next_load program threads thread hold sleds (done ++ take i rest) ≡ Some load.word
    values : (i at : ℕ) (load : Load) → slice_get places i ≡ Some at → slice_get rest i ≡ Some load → load.value ≡ code at load.word
    within : (i at : ℕ) → slice_get places i ≡ Some at → at ≤ bound (length (marks_of program threads thread hold sleds (done ++ take i rest)))

  abbrev Made : List Load → ℕ → Type 0
  Made = ByLoads program threads code start bound thread hold sleds

  rest_by_loads : (place : ℕ) (done : List Load) (from : ℕ) (rest : List Load) (places : List ℕ) → Made done from → Rest place done from rest places
      → Made (done ++ rest) place
  rest_by_loads place done from [] places made r =
      subst (λ (ls : List Load). Made ls place) (sym (append-nil done)) (by_later done from place r.begun made)
  rest_by_loads place done from (load ∷ rest) [] made r = absurd (omega (arith, r.count))
  rest_by_loads place done from (load ∷ rest) (at ∷ places) made r =
      let wants : next_load program threads thread hold sleds done ≡ Some load.word =
      subst (λ (ls : List Load). next_load program threads thread hold sleds ls ≡ Some load.word) (append-nil done) (r.wanted zero load refl) in
      let high : at ≤ bound (length (marks_of program threads thread hold sleds done)) =
      subst (λ (ls : List Load). at ≤ bound (length (marks_of program threads thread hold sleds ls))) (append-nil done) (r.within zero at refl) in
      let its : Load = record { word = load.word; value = code at load.word } in
      let value = r.values zero at load refl refl in
      let same : its ≡ load = λ i. record { word = load.word; value = sym value i } in
      let one : Made (done ++ load ∷ []) at =
      subst (λ (l : Load). Made (done ++ l ∷ []) at) same (by_loaded done at load.word (by_later done from at r.rise.0 made) wants high) in
      let joined : (more : List Load) → (done ++ load ∷ []) ++ more ≡ done ++ load ∷ more = λ more. append_assoc done (load ∷ []) more in
      subst (λ (ls : List Load). Made ls place) (joined rest)
      (rest_by_loads place (done ++ load ∷ []) at rest places one (record {
        count = omega (arith, r.count);
        begun = r.rise.1;
        rise = r.rise.2;
        wanted = λ i l found.
            subst (λ (ls : List Load). next_load program threads thread hold sleds ls ≡ Some l.word) (sym (joined (take i rest))) (r.wanted (suc i) l found);
        values = λ i p l placed found. r.values (suc i) p l placed found;
        within = λ i p placed.
            subst (λ (ls : List Load). p ≤ bound (length (marks_of program threads thread hold sleds ls))) (sym (joined (take i rest))) (r.within (suc i) p placed);
      }))

pub by_loads : {program : Program} {threads : ℕ} {code : ℕ → ℕ → ℕ} {start : ℕ} {bound : ℕ → ℕ} {thread : ℕ} {hold : Option ℕ} {sleds : List ℕ} {loads : List Load}
    {place : ℕ} → Follows program threads code start bound thread hold sleds loads place
    → ByLoads program threads code start bound thread hold sleds loads place
by_loads {program} {threads} {code} {start} {bound} {thread} {hold} {sleds} {loads} {place} f =
    rest_by_loads program threads code start bound thread hold sleds place [] start loads f.places by_none (record {
      count = f.count;
      begun = f.begun;
      rise = f.rise;
      wanted = f.wanted;
      values = f.values;
      within = f.within;
    })
