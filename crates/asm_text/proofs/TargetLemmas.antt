-- The places of the next lines, found from the last line to the first.
use Rattle.std.proofs.Common.{◌≡◌, ℕ, zero, suc, ◌-◌, get_or, append_assoc, append-nil, ◌<◌, ◌≤◌, List, [], ◌∷◌, ◌++◌, length, take, reverse, Option, Some, None, refl, sym, ap, ◌∙◌, arith}
use Rattle.std.specs.Prelude.{slice_get}
use Rattle.std.specs.List.{filter_map, cons_option}
use Rattle.std.proofs.Math.Seq.{take-suc}
use Rattle.std.proofs.lemmas.List.{length-map, get_or-map, reverse-append, take_all}
use Rattle.asm_text.specs.declared.layout.Laid.{Laid}
use Rattle.asm_text.specs.Layout.{Placed, own_place, next_place}
use Rattle.asm_text.specs.private.Laying.{earlier, next_places, placed_in, line_placed}

-- the places of the next lines, if `next` is the place after them
abbrev pub next_before : Option ℕ → List Placed → List (Option ℕ)
next_before next [] = []
next_before next (p ∷ following) = earlier (next_place (p ∷ following)) next ∷ next_before next following

earlier_none : (o : Option ℕ) → earlier o None ≡ o
earlier_none None = refl
earlier_none (Some n) = refl

earlier_assoc : (a b c : Option ℕ) → earlier (earlier a b) c ≡ earlier a (earlier b c)
earlier_assoc None b c = refl
earlier_assoc (Some n) b c = refl

-- a line's own place comes first
pub next_place-cons : (p : Placed) (following : List Placed) → next_place (p ∷ following) ≡ earlier (own_place p) (next_place following)
next_place-cons p following = first (own_place p)
  where
    first : (o : Option ℕ) → slice_get (cons_option o (filter_map own_place following)) 0 ≡ earlier o (slice_get (filter_map own_place following) 0)
    first None = refl
    first (Some n) = refl

next_place-last : (front : List Placed) (p : Placed) (next : Option ℕ) → earlier (next_place (front ++ p ∷ [])) next ≡ earlier (next_place front) (earlier (own_place p) next)
next_place-last [] p next = ap (λ o. earlier o next) (next_place-cons p [] ∙ earlier_none (own_place p))
next_place-last (q ∷ front) p next =
    ap (λ o. earlier o next) (next_place-cons q (front ++ p ∷ [])) ∙ earlier_assoc (own_place q) (next_place (front ++ p ∷ [])) next
    ∙ ap (earlier (own_place q)) (next_place-last front p next) ∙ sym (earlier_assoc (own_place q) (next_place front) (earlier (own_place p) next))
    ∙ ap (λ o. earlier o (earlier (own_place p) next)) (sym (next_place-cons q front))

-- one line less
pub next_before-last : (next : Option ℕ) (front : List Placed) (p : Placed)
    → next_before next (front ++ p ∷ []) ≡ next_before (earlier (own_place p) next) front ++ earlier (own_place p) next ∷ []
next_before-last next [] p = ap (λ o. earlier o next ∷ []) (next_place-cons p [] ∙ earlier_none (own_place p))
next_before-last next (q ∷ front) p =
    ap (λ o. o ∷ next_before next (front ++ p ∷ [])) (next_place-last (q ∷ front) p next)
    ∙ ap (λ os. earlier (next_place (q ∷ front)) (earlier (own_place p) next) ∷ os) (next_before-last next front p)

-- all lines
pub next_before-none : (lines : List Placed) → next_before None lines ≡ next_places lines
next_before-none [] = refl
next_before-none (p ∷ following) = ap (λ o. o ∷ next_before None following) (earlier_none (next_place (p ∷ following))) ∙ ap (λ os. next_place (p ∷ following) ∷ os) (next_before-none following)

-- one turn of the loop
pub next_step : (laid : List Laid) (i : ℕ) (d : Laid) (next : Option ℕ) (targets : List (Option ℕ)) → 0 < i → i ≤ length laid
    → next_places (placed_in laid) ≡ next_before next (take i (placed_in laid)) ++ reverse targets
    → next_places (placed_in laid) ≡ next_before (earlier (own_place (line_placed (get_or laid (i - 1) d))) next) (take (i - 1) (placed_in laid))
    ++ reverse (targets ++ earlier (own_place (line_placed (get_or laid (i - 1) d))) next ∷ [])
next_step laid zero d next targets some within is = absurd (omega arith)
next_step laid (suc j) d next targets some within is = rw suc-sub (is ∙ step)
  where
    suc-sub : suc j - 1 ≡ j
    suc-sub = omega arith

    line : Laid
    line = get_or laid j d

    new : Option ℕ
    new = earlier (own_place (line_placed line)) next

    long : j < length (placed_in laid)
    long = simp length-map (omega arith)

    front : take (suc j) (placed_in laid) ≡ take j (placed_in laid) ++ line_placed line ∷ []
    front = take-suc (placed_in laid) j (line_placed d) long ∙ ap (λ p. take j (placed_in laid) ++ p ∷ []) (get_or-map line_placed laid j d (line_placed d) (omega arith))

    step : next_before next (take (suc j) (placed_in laid)) ++ reverse targets ≡ next_before new (take j (placed_in laid)) ++ reverse (targets ++ new ∷ [])
    step =
        ap (λ ps. next_before next ps ++ reverse targets) front
        ∙ ap (λ os. os ++ reverse targets) (next_before-last next (take j (placed_in laid)) (line_placed line))
        ∙ append_assoc (next_before new (take j (placed_in laid))) (new ∷ []) (reverse targets)
        ∙ ap (λ os. next_before new (take j (placed_in laid)) ++ os) (sym (reverse-append targets (new ∷ [])))

-- before the first turn
pub next_start : (laid : List Laid) → next_places (placed_in laid) ≡ next_before None (take (length laid) (placed_in laid)) ++ []
next_start laid =
    sym (append-nil (next_before None (take (length laid) (placed_in laid))) ∙ ap (next_before None) (take_all (length laid) (placed_in laid) (simp length-map (omega arith))) ∙ next_before-none (placed_in laid))
