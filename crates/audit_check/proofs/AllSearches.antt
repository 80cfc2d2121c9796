-- What a follower finds by searches, one after the other.
use Rattle.std.proofs.Common.{◌≡◌, ℕ, zero, suc, ◌+◌, ◌≤◌, List, [], ◌∷◌, ◌++◌, append-nil, append_assoc, Option, Some, None, refl, sym, ap, ◌∙◌, arith, add-one, length, length-append, map, drop}
use Rattle.std.specs.Prelude.{option_and_then, option_map, replicate, slice_get}
use Rattle.std.proofs.lemmas.List.{length-replicate}
use Rattle.xray_image.specs.Program.{Program}
use Rattle.patch_script.specs.declared.command.PatchCommand.{PatchCommand}
use Rattle.patch_script.specs.CodeAt.{code_at}
use Rattle.patch_script.specs.Micros.{total_of}
use Rattle.audit_check.specs.declared.follower.Follower.{Follower}
use Rattle.audit_check.specs.declared.follower.Found.{Found}
use Rattle.audit_check.specs.declared.searches.Sought.{Sought}
use Rattle.audit_check.specs.declared.stop.LoadStops.{LoadStops}
use Rattle.audit_check.specs.declared.stop.Stop.{Stop}
use Rattle.audit_check.specs.Places.{Search, first_place, found_by}
use Rattle.audit_check.specs.private.Judging.{Judges, SameButGuesses}
use Rattle.audit_check.specs.private.LoadStops.{places_in}
use Rattle.audit_check.specs.private.Searches.{AddsAll, Finds, FindsAll, counted, search_of, stop_of}
use Rattle.audit_check.proofs.FollowerGuesses.{judges_again}
use Rattle.audit_check.proofs.OneSearch.{stop_by}
use Rattle.audit_check.proofs.SearchResults.{was_made}

-- ---- what is found goes on

-- after the first searches the others go on from a place, and these are the places of the loads so far
abbrev pub GoesOn : Follower → List Sought → (sled from bound i place : ℕ) → List ℕ → Type 0
GoesOn f sought sled from bound i place places =
    (program : Program) (threads : ℕ) (script : List PatchCommand) → Judges program threads script f → bound ≤ total_of program threads script
    → found_by bound from (map (search_of program threads (code_at program threads script) sled) sought)
    ≡ option_map (λ (found : ℕ × List ℕ). (found.0, places ++ found.1))
    (found_by bound place (map (search_of program threads (code_at program threads script) sled) (drop i sought)))

-- places of loads before those that are found
abbrev pub with_before : List ℕ → Option (ℕ × List ℕ) → Option (ℕ × List ℕ)
with_before places found = option_map (λ (found : ℕ × List ℕ). (found.0, places ++ found.1)) found

pub none_before : (found : Option (ℕ × List ℕ)) → found ≡ with_before [] found
none_before None = refl
none_before (Some found) = refl

both_before : (first later : List ℕ) (found : Option (ℕ × List ℕ)) → with_before first (with_before later found) ≡ with_before (first ++ later) found
both_before first later None = refl
both_before first later (Some found) = ap (λ (ps : List ℕ). Some (found.0, ps)) (sym (append_assoc first later found.1))

drop_suc : (sought : List Sought) (i : ℕ) (s : Sought) → slice_get sought i ≡ Some s → drop i sought ≡ s ∷ drop (suc i) sought
drop_suc [] i s e = absurd cc
drop_suc (first ∷ sought) zero s e = let same : first ≡ s = cc in ap (λ (x : Sought). x ∷ sought) same
drop_suc (first ∷ sought) (suc i) s e = drop_suc sought i s e

drop_at : (sought : List Sought) (i : ℕ) (s : Sought) → slice_get sought i ≡ Some s → drop i sought ≡ s ∷ drop (i + 1) sought
drop_at sought i s e = drop_suc sought i s e ∙ ap (λ k. s ∷ drop k sought) (sym (add-one i))

drop_past : (sought : List Sought) (i : ℕ) → length sought ≤ i → drop i sought ≡ []
drop_past [] zero low = refl
drop_past [] (suc i) low = refl
drop_past (first ∷ sought) zero low = absurd (omega (arith, low))
drop_past (first ∷ sought) (suc i) low = drop_past sought i (omega (arith, low))

module _ (f : Follower) (sought : List Sought) (sled from bound : ℕ) where
  -- one more search
  goes_next : (g : Follower) (i place : ℕ) (s : Sought) (stop : Stop) (places : List ℕ) → SameButGuesses f g → slice_get sought i ≡ Some s
      → Finds g s sled place bound (Some stop) → GoesOn f sought sled from bound i place places
      → GoesOn f sought sled from bound (i + 1) stop.place (places ++ replicate stop.loads stop.place)
  goes_next g i place s stop places same at finds goes = λ program threads script judges low.
      let meaning : Sought → Search = search_of program threads (code_at program threads script) sled in
      let search : Search = meaning s in
      let found = finds program threads script (judges_again program threads script f g same judges) low in
      let made = was_made (λ p. stop_of (search.loads p) p) (first_place search.test place bound) stop (sym found) in
      let there : made.value ≡ stop.place = ap (λ (x : Stop). x.place) made.makes in
      let loads : search.loads made.value ≡ stop.loads = ap (λ (x : Stop). x.loads) made.makes in
      let later : List Search = map meaning (drop (i + 1) sought) in
      let front : found_by bound place (map meaning (drop i sought)) ≡ with_before (replicate stop.loads stop.place) (found_by bound stop.place later) =
      ap (λ (ss : List Sought). found_by bound place (map meaning ss)) (drop_at sought i s at)
      ∙ ap (option_and_then (λ p. with_before (replicate (search.loads p) p) (found_by bound p later))) made.given_is
      ∙ ap (λ n. with_before (replicate n made.value) (found_by bound made.value later)) loads
      ∙ ap (λ p. with_before (replicate stop.loads p) (found_by bound p later)) there in
      goes program threads script judges low ∙ ap (with_before places) front
      ∙ both_before places (replicate stop.loads stop.place) (found_by bound stop.place later)

  -- a search that finds nothing
  goes_nowhere : (g : Follower) (i place : ℕ) (s : Sought) (places : List ℕ) → SameButGuesses f g → slice_get sought i ≡ Some s
      → Finds g s sled place bound None → GoesOn f sought sled from bound i place places
      → (program : Program) (threads : ℕ) (script : List PatchCommand) → Judges program threads script f → bound ≤ total_of program threads script
      → found_by bound from (map (search_of program threads (code_at program threads script) sled) sought) ≡ None
  goes_nowhere g i place s places same at finds goes program threads script judges low =
      let meaning : Sought → Search = search_of program threads (code_at program threads script) sled in
      let search : Search = meaning s in
      let none : first_place search.test place bound ≡ None =
      was_none search (first_place search.test place bound) (finds program threads script (judges_again program threads script f g same judges) low) in
      let later : List Search = map meaning (drop (i + 1) sought) in
      let front : found_by bound place (map meaning (drop i sought)) ≡ None =
      ap (λ (ss : List Sought). found_by bound place (map meaning ss)) (drop_at sought i s at)
      ∙ ap (option_and_then (λ p. with_before (replicate (search.loads p) p) (found_by bound p later))) none in
      goes program threads script judges low ∙ ap (with_before places) front
    where
      was_none : (search : Search) (first : Option ℕ) → None ≡ stop_by search first → first ≡ None
      was_none search None e = refl
      was_none search (Some p) e = absurd cc

  -- all searches
  goes_last : (i place : ℕ) (places : List ℕ) → length sought ≤ i → GoesOn f sought sled from bound i place places
      → (program : Program) (threads : ℕ) (script : List PatchCommand) → Judges program threads script f → bound ≤ total_of program threads script
      → found_by bound from (map (search_of program threads (code_at program threads script) sled) sought) ≡ Some (place, places)
  goes_last i place places past goes program threads script judges low =
      let meaning : Sought → Search = search_of program threads (code_at program threads script) sled in
      goes program threads script judges low
      ∙ ap (λ (ss : List Sought). with_before places (found_by bound place (map meaning ss))) (drop_past sought i past)
      ∙ ap (λ (ps : List ℕ). Some (place, ps)) (append-nil places)

  -- ---- the loads are counted

  pub record HasCounted (i place loads : ℕ) : Type 0 where
    pub places : List ℕ
    pub count : length places ≡ loads
    pub goes : GoesOn f sought sled from bound i place places

  pub counted_first : HasCounted 0 from 0
  counted_first = record {
    places = [];
    count = refl;
    goes = λ program threads script judges low. none_before _;
  }

  pub counted_next : (g : Follower) (i place loads : ℕ) (s : Sought) (stop : Stop) → SameButGuesses f g → slice_get sought i ≡ Some s
      → Finds g s sled place bound (Some stop) → HasCounted i place loads → HasCounted (i + 1) stop.place (loads + stop.loads)
  counted_next g i place loads s stop same at finds has = record {
    places = has.places ++ replicate stop.loads stop.place;
    count = length-append has.places (replicate stop.loads stop.place) ∙ ap (λ n. length has.places + n) (length-replicate stop.loads stop.place)
        ∙ ap (λ n. n + stop.loads) has.count;
    goes = goes_next g i place s stop has.places same at finds has.goes;
  }

  pub counted_nowhere : (g : Follower) (i place loads : ℕ) (s : Sought) (answer : Option Found) → SameButGuesses f g → slice_get sought i ≡ Some s
      → Finds g s sled place bound None → HasCounted i place loads → answer ≡ None → FindsAll f sought sled from bound answer
  counted_nowhere g i place loads s answer same at finds has is = λ program threads script judges low.
      is ∙ ap counted (sym (goes_nowhere g i place s has.places same at finds has.goes program threads script judges low))

  pub counted_last : (i place loads : ℕ) → length sought ≤ i → HasCounted i place loads
      → FindsAll f sought sled from bound (Some (record { place = place; loads = loads }))
  counted_last i place loads past has = λ program threads script judges low.
      ap (λ n. Some (found_with place n)) (sym has.count)
      ∙ ap counted (sym (goes_last i place has.places past has.goes program threads script judges low))
    where
      found_with : (place loads : ℕ) → Found
      found_with place loads = record { place = place; loads = loads }

  -- ---- the loads are added

  pub record HasAdded (i place : ℕ) (old new : LoadStops) : Type 0 where
    pub places : List ℕ
    pub added : places_in new ≡ places_in old ++ places
    pub goes : GoesOn f sought sled from bound i place places

  pub added_first : (old : LoadStops) → HasAdded 0 from old old
  added_first old = record {
    places = [];
    added = sym (append-nil (places_in old));
    goes = λ program threads script judges low. none_before _;
  }

  pub added_next : (g : Follower) (i place : ℕ) (s : Sought) (stop : Stop) (old now new : LoadStops) → SameButGuesses f g → slice_get sought i ≡ Some s
      → Finds g s sled place bound (Some stop) → places_in new ≡ places_in now ++ replicate stop.loads stop.place → HasAdded i place old now
      → HasAdded (i + 1) stop.place old new
  added_next g i place s stop old now new same at finds more has = record {
    places = has.places ++ replicate stop.loads stop.place;
    added = more ∙ ap (λ (ps : List ℕ). ps ++ replicate stop.loads stop.place) has.added
        ∙ append_assoc (places_in old) has.places (replicate stop.loads stop.place);
    goes = goes_next g i place s stop has.places same at finds has.goes;
  }

  pub added_nowhere : (g : Follower) (i place : ℕ) (s : Sought) (old now : LoadStops) → SameButGuesses f g → slice_get sought i ≡ Some s
      → Finds g s sled place bound None → HasAdded i place old now → AddsAll f sought sled from bound old now
  added_nowhere g i place s old now same at finds has = λ program threads script judges low found e.
      let never : None ≡ Some found = sym (goes_nowhere g i place s has.places same at finds has.goes program threads script judges low) ∙ e in
      absurd cc

  pub added_last : (i place : ℕ) (old now : LoadStops) → length sought ≤ i → HasAdded i place old now → AddsAll f sought sled from bound old now
  added_last i place old now past has = λ program threads script judges low found e.
      let all : Some (place, has.places) ≡ Some found = sym (goes_last i place has.places past has.goes program threads script judges low) ∙ e in
      let same : (place, has.places) ≡ found = cc in
      has.added ∙ ap (λ (p : ℕ × List ℕ). places_in old ++ p.1) same
