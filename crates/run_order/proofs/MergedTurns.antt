-- The turns of all threads, place by place.
use Rattle.std.proofs.Common.{◌≡◌, ◌≢◌, inl, inr, ℕ, zero, suc, ◌+◌, ◌<◌, ◌≤◌, List, [], ◌∷◌, ◌++◌, append-nil, append_assoc, Some, refl, sym, ap, subst, ◌∙◌, arith, length, map, take, get_or}
use Rattle.std.specs.Prelude.{◌==◌, ◌⊎◌, All, count_by, option_map, slice_get, slice_set}
use Rattle.std.specs.Borrow.{Bor}
use Rattle.std.specs.List.{enumerate_from, flat_map}
use Rattle.std.proofs.lemmas.Grind.{flat_map-append}
use Rattle.std.proofs.lemmas.List.{length-map, length-set, take_all}
use Rattle.std.proofs.lemmas.List.FromFn.{length-enumerate_from}
use Rattle.std.proofs.lemmas.Option.{slice_get-get_or}
use Rattle.step_sim.proofs.AllThreads.{set_cases}
use Rattle.step_sim.specs.declared.turns.Turns.{Turns}
use Rattle.run_order.specs.declared.lines.ScheduleLines.{ScheduleLines}
use Rattle.audit_check.specs.declared.stop.Stop.{Stop}
use Rattle.run_order.specs.private.Ordered.{load_line, turns_at}
use Rattle.run_order.specs.private.Lines.{HasJoined}
use Rattle.audit_check.specs.Stops.{places_of}
use Rattle.run_order.specs.private.Stops.{AllFrom, ArePassed, AreStops, HaveAdded, Passes, loads_at, places_in}
use Rattle.run_order.proofs.ReplayAlongPlaces.{take_next}

-- the line of a thread at a place, by its number and the places of its loads
abbrev pub line_at : ℕ → ℕ × List ℕ → List Turns
line_at place own = load_line own.0 (count_by (λ other. other == place) own.1)

-- ---- lists

set_apart : {X : Type 0} (xs : List X) (i j : ℕ) (x : X) → j ≢ i → slice_get (slice_set xs i x) j ≡ slice_get xs j
set_apart [] i j x apart = refl
set_apart (y ∷ ys) zero zero x apart = absurd (apart refl)
set_apart (y ∷ ys) zero (suc j) x apart = refl
set_apart (y ∷ ys) (suc i) zero x apart = refl
set_apart (y ∷ ys) (suc i) (suc j) x apart = set_apart ys i j x (λ e. apart (ap suc e))

numbered_at : {X : Type 0} (n i : ℕ) (xs : List X) (x : X) → slice_get xs i ≡ Some x → slice_get (enumerate_from n xs) i ≡ Some (n + i, x)
numbered_at n i [] x e = absurd cc
numbered_at n zero (y ∷ ys) x e =
    ap (option_map (λ z. (n, z))) e ∙ ap (λ m. Some (m, x)) (let e : n ≡ n + 0 = omega arith in e)
numbered_at n (suc i) (y ∷ ys) x e =
    numbered_at (n + 1) i ys x e ∙ ap (λ m. Some (m, x)) (let e : n + 1 + i ≡ n + suc i = omega arith in e)

-- ---- one more thread

pub passed_more : (place i : ℕ) (old new : List (Bor (List Stop))) (was later : Bor (List Stop)) → ArePassed place i old new
    → slice_get old i ≡ Some was → Passes place was.now later.now → ArePassed place (i + 1) old (slice_set new i later)
passed_more place i old new was later are found passes = record {
  count = length-set new i later ∙ are.count;
  passed = λ j before after low there here. by_place j before after low there (set_cases new i j later after here);
  left = λ j high. set_apart new i j later (omega (arith, high)) ∙ are.left j (omega (arith, high));
}
  where
    by_place : (j : ℕ) (before after : Bor (List Stop)) → j < i + 1 → slice_get old j ≡ Some before
        → ((j ≡ i) × (after ≡ later)) ⊎ ((j ≢ i) × (slice_get new j ≡ Some after)) → Passes place before.now after.now
    by_place j before after low there (inl (same, is)) =
        let same_stops : before ≡ was = cc (sym there ∙ ap (slice_get old) same ∙ found) in
        subst (λ (s : Bor (List Stop)). Passes place s.now after.now) (sym same_stops)
        (subst (λ (s : Bor (List Stop)). Passes place was.now s.now) (sym is) passes)
    by_place j before after low there (inr (apart, is)) = are.passed j before after (omega (arith, low, apart)) there is

pub added_more : (place i : ℕ) (old : List (Bor (List Stop))) (was : Bor (List Stop)) (first mid last : ScheduleLines)
    → HaveAdded place i old first mid → slice_get old i ≡ Some was
    → ((turns : List Turns) → HasJoined turns mid → HasJoined (turns ++ load_line (i + 1) (loads_at place was.now)) last)
    → HaveAdded place (i + 1) old first last
added_more place i old was first mid last added found more turns joined =
    let all = enumerate_from 1 (places_in old) in
    let there : slice_get (places_in old) i ≡ Some (places_of was.now) = in_places old i was found in
    let next : slice_get all i ≡ Some (1 + i, places_of was.now) = numbered_at 1 i (places_in old) (places_of was.now) there in
    let number : 1 + i ≡ i + 1 = omega arith in
    let front : List Turns = flat_map (line_at place) (take i all) in
    let line : List Turns = load_line (i + 1) (loads_at place was.now) in
    let one : flat_map (line_at place) ((1 + i, places_of was.now) ∷ []) ≡ line =
    append-nil (load_line (1 + i) (loads_at place was.now)) ∙ ap (λ n. load_line n (loads_at place was.now)) number in
    let whole : flat_map (line_at place) (take (i + 1) all) ≡ front ++ line =
    ap (flat_map (line_at place)) (take_next all i (1 + i, places_of was.now) next)
    ∙ flat_map-append (line_at place) (take i all) ((1 + i, places_of was.now) ∷ [])
    ∙ ap (λ (ls : List Turns). front ++ ls) one in
    subst (λ (ls : List Turns). HasJoined ls last)
    (append_assoc turns front line ∙ ap (λ (ls : List Turns). turns ++ ls) (sym whole))
    (more (turns ++ front) (added turns joined))
  where
    in_places : (left : List (Bor (List Stop))) (i : ℕ) (was : Bor (List Stop)) → slice_get left i ≡ Some was
        → slice_get (places_in left) i ≡ Some (places_of was.now)
    in_places [] i was e = absurd cc
    in_places (stops ∷ left) zero was e = ap (option_map (λ (s : Bor (List Stop)). places_of s.now)) e
    in_places (stops ∷ left) (suc i) was e = in_places left i was e

pub all_added : (place : ℕ) (old : List (Bor (List Stop))) (n : ℕ) (first last : ScheduleLines) → length old ≤ n
    → HaveAdded place n old first last → (turns : List Turns) → HasJoined turns first → HasJoined (turns ++ turns_at (places_in old) place) last
all_added place old n first last all added turns joined =
    let whole : take n (enumerate_from 1 (places_in old)) ≡ enumerate_from 1 (places_in old) =
    take_all n (enumerate_from 1 (places_in old))
    (omega (arith, all, length-enumerate_from 1 (places_in old), length-map old (λ (s : Bor (List Stop)). places_of s.now))) in
    subst (λ (ls : List (ℕ × List ℕ)). HasJoined (turns ++ flat_map (line_at place) ls) last) whole (added turns joined)

-- ---- what is left after a place

passed_tail : (place n : ℕ) (was is : Bor (List Stop)) (old new : List (Bor (List Stop))) → ArePassed place (suc n) (was ∷ old) (is ∷ new)
    → ArePassed place n old new
passed_tail place n was is old new are = record {
  count = let e : length new ≡ length old = omega (arith, are.count) in e;
  passed = λ i before after low there here. are.passed (suc i) before after (omega (arith, low)) there here;
  left = λ i high. are.left (suc i) (omega (arith, high));
}

-- the turns at a later place are those of what is left
pub same_turns : (place other number : ℕ) (old new : List (Bor (List Stop))) → ArePassed place (length old) old new → AllFrom place old → place < other
    → flat_map (line_at other) (enumerate_from number (places_in new)) ≡ flat_map (line_at other) (enumerate_from number (places_in old))
same_turns place other number [] [] are stops after = refl
same_turns place other number [] (is ∷ new) are stops after = absurd (omega (arith, are.count))
same_turns place other number (was ∷ old) [] are stops after = absurd (omega (arith, are.count))
same_turns place other number (was ∷ old) (is ∷ new) are stops after =
    let passes : Passes place was.now is.now = are.passed 0 was is (omega arith) refl refl in
    let same : loads_at other is.now ≡ loads_at other was.now = passes.same other (stops 0 was (omega arith)) after in
    let rest = same_turns place other (number + 1) old new (passed_tail place (length old) was is old new are) (λ k d low. stops (suc k) d (omega (arith, low))) after in
    ap (λ n. load_line number n ++ flat_map (line_at other) (enumerate_from (number + 1) (places_in new))) same
    ∙ ap (λ (ls : List Turns). load_line number (loads_at other was.now) ++ ls) rest

pub stops_left : (place : ℕ) (old new : List (Bor (List Stop))) → ArePassed place (length old) old new → AllFrom place old → AllFrom (place + 1) new
stops_left place old new are stops k d low =
    let there : slice_get new k ≡ Some (get_or new k d) = slice_get-get_or new k d low in
    let within : k < length old = omega (arith, low, are.count) in
    let was : slice_get old k ≡ Some (get_or old k d) = slice_get-get_or old k d within in
    (are.passed k (get_or old k d) (get_or new k d) within was there).stops (stops k d within)

-- ---- the first stops

pub stops_of_all : (place : ℕ) (left : List (Bor (List Stop))) (all : List (List Stop)) → map (λ (s : Bor (List Stop)). s.now) left ≡ all
    → ((i : ℕ) (stops : List Stop) → slice_get all i ≡ Some stops → AreStops place stops) → AllFrom place left
stops_of_all place left all same each k d low =
    each k (get_or left k d).now (ap (λ (ss : List (List Stop)). slice_get ss k) (sym same) ∙ now_at left k (get_or left k d) (slice_get-get_or left k d low))
  where
    now_at : (left : List (Bor (List Stop))) (i : ℕ) (was : Bor (List Stop)) → slice_get left i ≡ Some was
        → slice_get (map (λ (s : Bor (List Stop)). s.now) left) i ≡ Some was.now
    now_at [] i was e = absurd cc
    now_at (stops ∷ left) zero was e = ap (option_map (λ (s : Bor (List Stop)). s.now)) e
    now_at (stops ∷ left) (suc i) was e = now_at left i was e

pub same_places : (left : List (Bor (List Stop))) (all : List (List Stop)) → map (λ (s : Bor (List Stop)). s.now) left ≡ all
    → places_in left ≡ map places_of all
same_places left all same = places_now left ∙ ap (map places_of) same
  where
    places_now : (left : List (Bor (List Stop))) → places_in left ≡ map places_of (map (λ (s : Bor (List Stop)). s.now) left)
    places_now [] = refl
    places_now (stops ∷ left) = ap (λ (ps : List (List ℕ)). places_of stops.now ∷ ps) (places_now left)

pub all_items : {V : Type 0} (items : V → List Stop) (place : ℕ) (all : List V) → All (λ v. AreStops place (items v)) all
    → (i : ℕ) (stops : List Stop) → slice_get (map items all) i ≡ Some stops → AreStops place stops
all_items items place [] are i stops e = absurd cc
all_items items place (v ∷ all) are zero stops e =
    let same : items v ≡ stops = cc in
    subst (AreStops place) same (are 0 v (omega arith))
all_items items place (v ∷ all) are (suc i) stops e = all_items items place all (λ k d low. are (suc k) d (omega (arith, low))) i stops e

pub places_of_items : {V : Type 0} (items : V → List Stop) (all : List V) → map places_of (map items all) ≡ map (λ v. places_of (items v)) all
places_of_items items [] = refl
places_of_items items (v ∷ all) = ap (λ (ps : List (List ℕ)). places_of (items v) ∷ ps) (places_of_items items all)
