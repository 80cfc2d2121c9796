-- Stops to which loads are added.
use Rattle.std.proofs.Common.{◌≡◌, ◌≢◌, ℕ, zero, suc, ◌+◌, ◌<◌, List, [], ◌∷◌, ◌++◌, append-nil, append_assoc, refl, sym, ap, ◌∙◌, arith, length, length-append, Some, subst}
use Rattle.std.specs.Prelude.{replicate, slice_get, slice_set}
use Rattle.std.proofs.lemmas.Grind.{flat_map-append}
use Rattle.audit_check.specs.declared.stop.Stop.{Stop}
use Rattle.audit_check.specs.Stops.{AreJoined, places_of}

-- ---- their places

pub places-append : (stops later : List Stop) → places_of (stops ++ later) ≡ places_of stops ++ places_of later
places-append stops later = flat_map-append (λ (stop : Stop). replicate stop.loads stop.place) stops later

pub one_place : (stops : List Stop) (stop : Stop) → places_of (stops ++ stop ∷ []) ≡ places_of stops ++ replicate stop.loads stop.place
one_place stops stop = places-append stops (stop ∷ []) ∙ ap (λ (ps : List ℕ). places_of stops ++ ps) (append-nil (replicate stop.loads stop.place))

pub replicate_add : (n m place : ℕ) → replicate (n + m) place ≡ replicate n place ++ replicate m place
replicate_add zero m place = ap (λ k. replicate k place) (let e : 0 + m ≡ m = omega arith in e)
replicate_add (suc n) m place =
    ap (λ k. replicate k place) (let e : suc n + m ≡ suc (n + m) = omega arith in e)
    ∙ ap (λ (ps : List ℕ). place ∷ ps) (replicate_add n m place)

-- two stops at one place
pub places_both : (stops : List Stop) (last stop : Stop) → last.place ≡ stop.place
    → places_of (stops ++ record { place = last.place; loads = last.loads + stop.loads } ∷ []) ≡ places_of (stops ++ last ∷ stop ∷ [])
places_both stops last stop same =
    one_place stops (record { place = last.place; loads = last.loads + stop.loads })
    ∙ ap (λ (ps : List ℕ). places_of stops ++ ps)
    (replicate_add last.loads stop.loads last.place
    ∙ ap (λ place. replicate last.loads last.place ++ replicate stop.loads place) same
    ∙ ap (λ (ps : List ℕ). replicate last.loads last.place ++ ps) (sym (append-nil (replicate stop.loads stop.place))))
    ∙ sym (places-append stops (last ∷ stop ∷ []))

-- loads at a last place, and more of them
pub more_at_last : (earlier : List Stop) (last stop : Stop) → last.place ≡ stop.place
    → places_of earlier ++ replicate (last.loads + stop.loads) last.place
    ≡ (places_of earlier ++ replicate last.loads last.place) ++ replicate stop.loads stop.place
more_at_last earlier last stop same =
    ap (λ (ps : List ℕ). places_of earlier ++ ps) (replicate_add last.loads stop.loads last.place)
    ∙ sym (append_assoc (places_of earlier) (replicate last.loads last.place) (replicate stop.loads last.place))
    ∙ ap (λ place. (places_of earlier ++ replicate last.loads last.place) ++ replicate stop.loads place) same

-- a last stop, and loads after it
pub places_after : (old rest : List Stop) (last stop : Stop) → old ≡ rest ++ last ∷ []
    → places_of (rest ++ last ∷ stop ∷ []) ≡ places_of old ++ replicate stop.loads stop.place
places_after old rest last stop is =
    ap places_of (sym (append_assoc rest (last ∷ []) (stop ∷ []))) ∙ one_place (rest ++ last ∷ []) stop
    ∙ ap (λ (ss : List Stop). places_of ss ++ replicate stop.loads stop.place) (sym is)

-- ---- joined stops

-- the last one has loads
joined_last : (stops : List Stop) (last : Stop) → AreJoined (stops ++ last ∷ []) → 0 < last.loads
joined_last [] last are = are
joined_last (first ∷ []) last are = are.2
joined_last (first ∷ next ∷ stops) last are = joined_last (next ∷ stops) last are.2

-- another one at another place
pub joined_more : (stops : List Stop) (last stop : Stop) → AreJoined (stops ++ last ∷ []) → 0 < stop.loads → last.place ≢ stop.place
    → AreJoined (stops ++ last ∷ stop ∷ [])
joined_more [] last stop are some apart = (are, apart, some)
joined_more (first ∷ []) last stop are some apart = (are.0, are.1, (are.2, apart, some))
joined_more (first ∷ next ∷ stops) last stop are some apart = (are.0, are.1, joined_more (next ∷ stops) last stop are.2 some apart)

-- more loads at its place
pub joined_both : (stops : List Stop) (last : Stop) (more : ℕ) → AreJoined (stops ++ last ∷ [])
    → AreJoined (stops ++ record { place = last.place; loads = last.loads + more } ∷ [])
joined_both [] last more are = omega (arith, are)
joined_both (first ∷ []) last more are = (are.0, are.1, omega (arith, are.2))
joined_both (first ∷ next ∷ stops) last more are = (are.0, are.1, joined_both (next ∷ stops) last more are.2)

-- how many loads the last one has
pub last_loads : (stops : List Stop) (last : Stop) (more bound : ℕ) → length (places_of (stops ++ last ∷ [])) + more < bound → last.loads + more < bound
last_loads stops last more bound low =
    omega (
      arith,
      low,
      ap length (one_place stops last),
      length-append (places_of stops) (replicate last.loads last.place),
      length_same last.loads last.place,
    )
  where
    length_same : (n place : ℕ) → length (replicate n place) ≡ n
    length_same zero place = refl
    length_same (suc n) place = let rest = length_same n place in omega (arith, rest)

-- ---- the last stop

-- the stops before the last one, which others may follow in its place
pub front_of : (stops : List Stop) (last : Stop) (i : ℕ) → i + 1 ≡ length stops → slice_get stops i ≡ Some last
    → (front : List Stop) × (stops ≡ front ++ last ∷ []) × ((other : Stop) → slice_set stops i other ≡ front ++ other ∷ [])
front_of [] last i count there = absurd (omega (arith, count))
front_of (stop ∷ []) last zero count there =
    let same : stop ≡ last = cc in
    ([], ap (λ (s : Stop). s ∷ []) same, λ other. refl)
front_of (stop ∷ []) last (suc i) count there = absurd (omega (arith, count))
front_of (stop ∷ next ∷ stops) last zero count there = absurd (omega (arith, count))
front_of (stop ∷ next ∷ stops) last (suc i) count there =
    let rest = front_of (next ∷ stops) last i (omega (arith, count)) there in
    (stop ∷ rest.0, ap (λ (ss : List Stop). stop ∷ ss) rest.1, λ other. ap (λ (ss : List Stop). stop ∷ ss) (rest.2 other))

-- a stop at another place comes after it
pub joined_after : (old front : List Stop) (last stop : Stop) → old ≡ front ++ last ∷ [] → AreJoined old → 0 < stop.loads → last.place ≢ stop.place
    → AreJoined (old ++ stop ∷ [])
joined_after old front last stop is are some apart =
    subst AreJoined (sym (append_assoc front (last ∷ []) (stop ∷ [])) ∙ ap (λ (ss : List Stop). ss ++ stop ∷ []) (sym is))
    (joined_more front last stop (subst AreJoined is are) some apart)

-- a first stop
pub joined_first : (old : List Stop) (stop : Stop) → length old ≡ 0 → 0 < stop.loads → AreJoined (old ++ stop ∷ [])
joined_first [] stop none some = some
joined_first (first ∷ old) stop none some = absurd (omega (arith, none))
