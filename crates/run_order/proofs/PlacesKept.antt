-- The places that searches find keep the waits of a script.
use Rattle.std.proofs.Common.{◌≡◌, ◌≢◌, inl, inr, ℕ, zero, suc, ◌+◌, ◌<◌, ◌≤◌, Bool, true, false, cond, List, [], ◌∷◌, ◌++◌, Option, Some, refl, sym, ap, subst, ◌∙◌, arith, length, take}
use Rattle.std.specs.Prelude.{◌==◌, ◌⊎◌, All, filter, not, slice_get}
use Rattle.std.proofs.lemmas.Bool.Decides.{nat_tests}
use Rattle.std.proofs.lemmas.List.{map-append}
use Rattle.std.proofs.lemmas.List.Elements.{All-take, filter-append}
use Rattle.xray_image.specs.Program.{Program}
use Rattle.handler_word.specs.declared.mark.Mark.{Mark}
use Rattle.handler_word.specs.declared.mark.Mark.TheVariants.{Recorded}
use Rattle.sled_words.specs.Words.{release_word}
use Rattle.patch_script.specs.declared.command.PatchCommand.{PatchCommand}
use Rattle.patch_script.specs.Bounds.{bound_of}
use Rattle.patch_script.specs.CodeAt.{code_at}
use Rattle.patch_script.specs.Micros.{hold_of, start_of, total_of}
use Rattle.machine_step.specs.Follows.{Rise}
use Rattle.machine_step.specs.Loads.{Load, Marked, Reading, Wants, from_head, from_start, is_held_at, marks_from, next_from}
use Rattle.audit_check.specs.Places.{found_by, head_searches, is_set, load_places, passing_searches, load_places_from}
use Rattle.audit_check.specs.private.Ways.{Held, Leaf, Node, Passes, Reaches, Tree, trees_of}
use Rattle.audit_check.proofs.FollowWays.{marks_pass}
use Rattle.audit_check.proofs.LeastPlaces.{passing_least}
use Rattle.audit_check.proofs.OwnRelease.{trees_own}
use Rattle.audit_check.proofs.SearchResults.{found_on}
use Rattle.run_order.specs.FreeScripts.{is_release_word}
use Rattle.run_order.specs.KeptWaits.{KeepScript, LoadAtPlace, is_passing_load, their_loads, their_places}
use Rattle.run_order.proofs.FirstPassing.{go_on}
use Rattle.run_order.proofs.PassingLoads.{Leads, passing_led}
use Rattle.run_order.proofs.RisingSearches.{found_rises}
use Rattle.run_order.proofs.ThreadLoads.{Exist, passing_rises, rise_join, split_get}

-- ---- ways don't end before they begin

reaches_low : (code : ℕ → ℕ → ℕ) (bound : ℕ) (mark : Mark) (tree : Tree) (place end : ℕ) → Reaches code bound mark tree place end → place ≤ end
reaches_low code bound mark (Leaf m) place end (is, low) = low
reaches_low code bound mark (Node word recording next) place end (at, low, high, rest) =
    let later = reaches_low code bound mark (next (code at word)) at end rest in omega (arith, low, later)
reaches_low code bound mark (Held word next) place end (at, low, high, free, rest) =
    let later = reaches_low code bound mark next at end rest in omega (arith, low, later)

passes_low : (code : ℕ → ℕ → ℕ) (bound : ℕ → ℕ) (number : ℕ) (trees : List Tree) (marks : List Mark) (place end : ℕ)
    → Passes code bound number trees marks place end → place ≤ end
passes_low code bound number [] [] place end low = low
passes_low code bound number [] (mark ∷ marks) place end way = absurd way
passes_low code bound number (tree ∷ trees) [] place end way = absurd way
passes_low code bound number (tree ∷ trees) (mark ∷ marks) place end (at, way, rest) =
    let first = reaches_low code (bound number) mark tree place at way in
    let later = passes_low code bound (number + 1) trees marks at end rest in omega (arith, first, later)

-- ---- lists

rise_at : (from last : ℕ) (made : List LoadAtPlace) → Rise from last (their_places made) → (i : ℕ) (one : LoadAtPlace) → slice_get made i ≡ Some one
    → one.place ≤ last
rise_at from last [] rise i one e = absurd cc
rise_at from last (first ∷ made) rise zero one e =
    let same : first ≡ one = cc in subst (λ (m : LoadAtPlace). m.place ≤ last) same rise.1
rise_at from last (first ∷ made) rise (suc i) one e = rise_at first.place last made rise.2 i one e

filter_on : {X : Type 0} (p : X → Bool) (x : X) (xs : List X) → p x ≡ true → filter p (x ∷ xs) ≡ x ∷ filter p xs
filter_on {X = X} p x xs e = ap (λ b. cond b (x ∷ filter p xs) (filter p xs)) e

filter_off : {X : Type 0} (p : X → Bool) (x : X) (xs : List X) → p x ≡ false → filter p (x ∷ xs) ≡ filter p xs
filter_off {X = X} p x xs e = ap (λ b. cond b (x ∷ filter p xs) (filter p xs)) e

same_word : (word : ℕ) → not (word == word) ≡ false
same_word word = grind (arith, nat_tests)

apart_word : (word other : ℕ) → (word ≡ other → ⊥) → not (word == other) ≡ true
apart_word word other apart = grind (arith, nat_tests)

is_release : (program : Program) (threads thread : ℕ) → 0 < thread → thread ≤ threads → is_release_word program threads (release_word program thread) ≡ true
is_release program threads thread some within = grind (arith, nat_tests)

module _ (program : Program) (threads : ℕ) (code : ℕ → ℕ → ℕ) (thread : ℕ) (some : 0 < thread) (within : thread ≤ threads) where
  abbrev release : ℕ
  release = release_word program thread

  -- Loads at places bring what is left of a passing to its mark. Each is of the word that it wants next, and none finds
  -- that the thread is held.
  abbrev Brings : (List Load → Reading) → List LoadAtPlace → Mark → Type 0
  Brings reads [] mark = (rest : List Load) → reads rest ≡ Marked mark rest
  Brings reads (one ∷ made) mark =
      ((recording : Mark) × (reads [] ≡ Wants one.load.word recording)) × (one.load.value ≡ code one.place one.load.word)
      × (one.load.word ≡ release → one.load.value ≢ 0) × Brings (λ rest. reads (one.load ∷ rest)) made mark

  brings_alike : (made : List LoadAtPlace) (mark : Mark) (reads other : List Load → Reading) → ((rest : List Load) → reads rest ≡ other rest)
      → Brings other made mark → Brings reads made mark
  brings_alike [] mark reads other same brings = λ rest. same rest ∙ brings rest
  brings_alike (one ∷ made) mark reads other same brings = (
    (brings.0.0, same [] ∙ brings.0.1),
    brings.1,
    brings.2,
    brings_alike made mark (λ rest. reads (one.load ∷ rest)) (λ rest. other (one.load ∷ rest)) (λ rest. same (one.load ∷ rest)) brings.3,
  )

  brings_ends : (made : List LoadAtPlace) (mark : Mark) (reads : List Load → Reading) → Brings reads made mark
      → (rest : List Load) → reads (their_loads made ++ rest) ≡ Marked mark rest
  brings_ends [] mark reads brings rest = brings rest
  brings_ends (one ∷ made) mark reads brings rest = brings_ends made mark (λ more. reads (one.load ∷ more)) brings.3 rest

  record IsBrought (reads : List Load → Reading) (earlier : List Load) (one : LoadAtPlace) : Type 0 where
    recording : Mark
    wants : reads earlier ≡ Wants one.load.word recording
    value : one.load.value ≡ code one.place one.load.word
    released : one.load.word ≡ release → one.load.value ≢ 0

  brings_at : (made : List LoadAtPlace) (mark : Mark) (reads : List Load → Reading) → Brings reads made mark
      → (i : ℕ) (one : LoadAtPlace) → slice_get made i ≡ Some one → IsBrought reads (their_loads (take i made)) one
  brings_at [] mark reads brings i one e = absurd cc
  brings_at (first ∷ made) mark reads brings zero one e =
      let same : first ≡ one = cc in
      subst (λ (m : LoadAtPlace). IsBrought reads [] m) same
      (record { recording = brings.0.0; wants = brings.0.1; value = brings.1; released = brings.2 })
  brings_at (first ∷ made) mark reads brings (suc i) one e =
      let later = brings_at made mark (λ more. reads (first.load ∷ more)) brings.3 i one e in
      record { recording = later.recording; wants = later.wants; value = later.value; released = later.released }

  -- loads that lead to a mark, none of them of the release word
  record Brought (reads : List Load → Reading) (places : List ℕ) (mark : Mark) : Type 0 where
    made : List LoadAtPlace
    brings : Brings reads made mark
    places_are : their_places made ≡ places
    kept : filter (is_passing_load program thread) made ≡ made

  other_word : (word : ℕ) → is_release_word program threads word ≡ false → word ≡ release → ⊥
  other_word word stays same =
      let yes : true ≡ false = sym (is_release program threads thread some within) ∙ ap (is_release_word program threads) (sym same) ∙ stays in
      cc

  brought : (places : List ℕ) (loads : List Load) (mark : Mark) (reads : List Load → Reading) → Leads program threads code reads places loads mark
      → Brought reads places mark
  brought [] [] mark reads leads = record { made = []; brings = leads; places_are = refl; kept = refl }
  brought [] (load ∷ loads) mark reads leads = absurd leads
  brought (place ∷ places) [] mark reads leads = absurd leads
  brought (place ∷ places) (load ∷ loads) mark reads leads =
      let later = brought places loads mark (λ rest. reads (load ∷ rest)) leads.2 in
      let apart : load.word ≡ release → ⊥ = other_word load.word leads.1.1 in
      let one : LoadAtPlace = record { place = place; load = load } in
      record {
        made = one ∷ later.made;
        brings = (leads.0, leads.1.0, λ same. absurd (apart same), later.brings);
        places_are = ap (λ (ps : List ℕ). place ∷ ps) later.places_are;
        kept =
            filter_on (is_passing_load program thread) one later.made (apart_word load.word release apart)
            ∙ ap (λ (ms : List LoadAtPlace). one ∷ ms) later.kept;
      }

  -- ---- a passing

  record PassingKept (held : Bool) (sled : ℕ) (mark : Mark) (from end : ℕ) (places : List ℕ) : Type 0 where
    made : List LoadAtPlace
    brings : Brings (from_start program threads thread held sled) made mark
    rise : Rise from end (their_places made)
    places_are : their_places (filter (is_passing_load program thread) made) ≡ places

  passing_kept : (held : Bool) (sled : ℕ) (mark : Mark) (last from : ℕ) (found : ℕ × List ℕ) → sled < length program.sleds
      → found_by last from (passing_searches program threads code thread held sled mark) ≡ Some found
      → PassingKept held sled mark from found.0 found.1
  passing_kept false sled mark last from found exists e =
      let led = passing_led program threads code sled exists thread false mark last from found e in
      let own = brought found.1 led.loads mark (from_head program threads sled) led.leads in
      let rises = passing_rises program threads code thread false sled mark last from found e in
      record {
        made = own.made;
        brings = own.brings;
        rise = subst (λ (ps : List ℕ). Rise from found.0 ps) (sym own.places_are) rises.2;
        places_are = ap their_places own.kept ∙ own.places_are;
      }
  passing_kept true sled mark last from found exists e =
      let led = passing_led program threads code sled exists thread true mark last from found e in
      let own = brought found.1 led.loads mark (from_head program threads sled) led.leads in
      let on = found_on last from (record { test = is_set program threads code release; loads = λ _. 0 }) (head_searches program threads code sled mark) found e in
      let rises = found_rises last on.at (head_searches program threads code sled mark) on.rest on.rest_found on.there.high in
      let value : ℕ = code on.at release in
      let one : LoadAtPlace = record { place = on.at; load = record { word = release; value = value } } in
      let unset : (value == 0) ≡ false = not_true (value == 0) on.there.passes in
      let places : on.rest.1 ≡ found.1 = sym on.places_are in
      record {
        made = one ∷ own.made;
        brings = (
          (Recorded, refl),
          refl,
          λ same zeroed. set_there value unset zeroed,
          brings_alike own.made mark (λ rest. from_start program threads thread true sled (one.load ∷ rest)) (from_head program threads sled)
              (λ rest. ap (λ b. cond b (from_start program threads thread true sled rest) (from_head program threads sled rest)) unset) own.brings,
        );
        rise = (
          on.there.low,
          omega (arith, rises.0, on.end_is),
          subst (λ (ps : List ℕ). Rise on.at found.0 ps) (sym own.places_are)
              (subst (λ (ps : List ℕ). Rise on.at found.0 ps) places (subst (λ (n : ℕ). Rise on.at n on.rest.1) (sym on.end_is) rises.2)),
        );
        places_are =
            ap their_places (filter_off (is_passing_load program thread) one own.made (same_word release) ∙ own.kept) ∙ own.places_are;
      }
    where
      not_true : (b : Bool) → not b ≡ true → b ≡ false
      not_true true e = absurd cc
      not_true false e = refl

      set_there : (v : ℕ) → (v == 0) ≡ false → v ≡ 0 → ⊥
      set_there v apart zeroed =
          let yes : true ≡ false = ap (λ n. n == 0) (sym zeroed) ∙ apart in
          cc

  -- ---- all passings

  module _ (bound : ℕ → ℕ) (hold : Option ℕ) (last : ℕ) (bounds : (n : ℕ) → bound n ≤ last) where
    abbrev starts : (number sled : ℕ) → List Load → Reading
    starts number sled loads = from_start program threads thread (is_held_at hold number) sled loads

    abbrev nexts : (number : ℕ) (sleds : List ℕ) → List Load → Option ℕ
    nexts number sleds loads = next_from program threads thread hold number sleds loads

    abbrev marks_by : (number : ℕ) (sleds : List ℕ) → List Load → List Mark
    marks_by number sleds loads = marks_from program threads thread hold number sleds loads

    next_marked : (number sled : ℕ) (sleds : List ℕ) (loads rest : List Load) (mark : Mark) → starts number sled loads ≡ Marked mark rest
        → nexts number (sled ∷ sleds) loads ≡ nexts (number + 1) sleds rest
    next_marked number sled sleds loads rest mark e = rw e refl

    next_wants : (number sled : ℕ) (sleds : List ℕ) (loads : List Load) (word : ℕ) (recording : Mark) → starts number sled loads ≡ Wants word recording
        → nexts number (sled ∷ sleds) loads ≡ Some word
    next_wants number sled sleds loads word recording e = rw e refl

    marks_marked : (number sled : ℕ) (sleds : List ℕ) (loads rest : List Load) (mark : Mark) → starts number sled loads ≡ Marked mark rest
        → marks_by number (sled ∷ sleds) loads ≡ mark ∷ marks_by (number + 1) sleds rest
    marks_marked number sled sleds loads rest mark e = rw e refl

    marks_wants : (number sled : ℕ) (sleds : List ℕ) (loads : List Load) (word : ℕ) (recording : Mark) → starts number sled loads ≡ Wants word recording
        → marks_by number (sled ∷ sleds) loads ≡ []
    marks_wants number sled sleds loads word recording e = rw e refl

    -- a load that is made after others, by a thread whose passings are numbered from a number on
    record IsMadeFrom (number : ℕ) (sleds : List ℕ) (before : List Load) (one : LoadAtPlace) : Type 0 where
      wanted : nexts number sleds before ≡ Some one.load.word
      value : one.load.value ≡ code one.place one.load.word
      bounded : one.place ≤ bound (number + length (marks_by number sleds before))
      released : one.load.word ≡ release → one.load.value ≢ 0

    record Kept (number from : ℕ) (sleds : List ℕ) (marks : List Mark) (places : List ℕ) : Type 0 where
      made : List LoadAtPlace
      rise : Rise from last (their_places made)
      each : (i : ℕ) (one : LoadAtPlace) → slice_get made i ≡ Some one → IsMadeFrom number sleds (their_loads (take i made)) one
      marks_are : marks_by number sleds (their_loads made) ≡ marks
      count : length marks ≡ length sleds
      places_are : their_places (filter (is_passing_load program thread) made) ≡ places
      least : (n begin end i : ℕ) (one : LoadAtPlace) → from ≤ begin
          → Passes code bound number (trees_of program threads thread hold number (take n sleds)) (take n marks) begin end
          → slice_get made i ≡ Some one → length (marks_by number sleds (their_loads (take i made))) < n → one.place ≤ end

    -- the next passing, and then the others
    module _ (number from sled : ℕ) (sleds : List ℕ) (mark : Mark) (marks : List Mark) (found : ℕ × List ℕ) (later : List ℕ)
        (found_is : found_by (bound number) from (passing_searches program threads code thread (is_held_at hold number) sled mark) ≡ Some found)
        (own : PassingKept (is_held_at hold number) sled mark from found.0 found.1) (rest : Kept (number + 1) found.0 sleds marks later) where
      abbrev both : List LoadAtPlace
      both = own.made ++ rest.made

      -- what comes before a load
      abbrev Split : (i : ℕ) → LoadAtPlace → Type 0
      Split i one =
          ((slice_get own.made i ≡ Some one) × (take i both ≡ take i own.made))
          ⊎ ((j : ℕ) × (slice_get rest.made j ≡ Some one) × (take i both ≡ own.made ++ take j rest.made))

      own_ends : (more : List LoadAtPlace) → starts number sled (their_loads (own.made ++ more)) ≡ Marked mark (their_loads more)
      own_ends more =
          ap (starts number sled) (map-append (λ (one : LoadAtPlace). one.load) own.made more)
          ∙ brings_ends own.made mark (starts number sled) own.brings (their_loads more)

      made_before : (i : ℕ) (one : LoadAtPlace) → Split i one → IsMadeFrom number (sled ∷ sleds) (their_loads (take i both)) one
      made_before i one (inl (there, taken)) =
          let brought_here = brings_at own.made mark (starts number sled) own.brings i one there in
          let none = marks_wants number sled sleds (their_loads (take i own.made)) one.load.word brought_here.recording brought_here.wants in
          let high = rise_at from found.0 own.made own.rise i one there in
          let low = (passing_rises program threads code thread (is_held_at hold number) sled mark (bound number) from found found_is).1 in
          let at : number ≡ number + length (marks_by number (sled ∷ sleds) (their_loads (take i own.made))) = omega (arith, ap length none) in
          let here : IsMadeFrom number (sled ∷ sleds) (their_loads (take i own.made)) one = record {
            wanted = next_wants number sled sleds (their_loads (take i own.made)) one.load.word brought_here.recording brought_here.wants;
            value = brought_here.value;
            bounded = subst (λ n. one.place ≤ bound n) at (omega (arith, high, low));
            released = brought_here.released;
          } in
          subst (λ (ms : List LoadAtPlace). IsMadeFrom number (sled ∷ sleds) (their_loads ms) one) (sym taken) here
      made_before i one (inr (j, there, taken)) =
          let before = take j rest.made in
          let it = rest.each j one there in
          let ends = own_ends before in
          let marks_are = marks_marked number sled sleds (their_loads (own.made ++ before)) (their_loads before) mark ends in
          let at : number + 1 + length (marks_by (number + 1) sleds (their_loads before))
          ≡ number + length (marks_by number (sled ∷ sleds) (their_loads (own.made ++ before))) = omega (arith, ap length marks_are) in
          let here : IsMadeFrom number (sled ∷ sleds) (their_loads (own.made ++ before)) one = record {
            wanted = next_marked number sled sleds (their_loads (own.made ++ before)) (their_loads before) mark ends ∙ it.wanted;
            value = it.value;
            bounded = subst (λ n. one.place ≤ bound n) at it.bounded;
            released = it.released;
          } in
          subst (λ (ms : List LoadAtPlace). IsMadeFrom number (sled ∷ sleds) (their_loads ms) one) (sym taken) here

      least_both : (n begin end i : ℕ) (one : LoadAtPlace) → from ≤ begin
          → Passes code bound number (trees_of program threads thread hold number (take n (sled ∷ sleds))) (take n (mark ∷ marks)) begin end
          → Split i one → length (marks_by number (sled ∷ sleds) (their_loads (take i both))) < n → one.place ≤ end
      least_both zero begin end i one low way split few = absurd (omega (arith, few))
      least_both (suc n) begin end i one low (at, way, later_way) split few =
          let finds = passing_least program threads code (bound number) thread (is_held_at hold number) sled mark from begin at low way in
          let same : finds.found ≡ found = same_found finds.found found (sym finds.is ∙ found_is) in
          let first : found.0 ≤ at = subst (λ (f : ℕ × List ℕ). f.0 ≤ at) same finds.high in
          let ends = passes_low code bound (number + 1) (trees_of program threads thread hold (number + 1) (take n sleds)) (take n marks) at end later_way in
          by_split split first ends
        where
          same_found : (x y : ℕ × List ℕ) → ◌≡◌ {A = Option (ℕ × List ℕ)} (Some x) (Some y) → x ≡ y
          same_found x y e = cc

          by_split : Split i one → found.0 ≤ at → at ≤ end → one.place ≤ end
          by_split (inl (there, taken)) first ends =
              let high = rise_at from found.0 own.made own.rise i one there in omega (arith, high, first, ends)
          by_split (inr (j, there, taken)) first ends =
              let before = take j rest.made in
              let marks_are = marks_marked number sled sleds (their_loads (own.made ++ before)) (their_loads before) mark (own_ends before) in
              let same = ap (λ (ms : List LoadAtPlace). length (marks_by number (sled ∷ sleds) (their_loads ms))) taken ∙ ap length marks_are in
              rest.least n at end j one first later_way there (omega (arith, few, same))

      kept_both : found.0 ≤ last → Kept number from (sled ∷ sleds) (mark ∷ marks) (found.1 ++ later)
      kept_both high = record {
        made = both;
        rise =
            subst (λ (ps : List ℕ). Rise from last ps) (sym (map-append (λ (one : LoadAtPlace). one.place) own.made rest.made))
            (rise_join from found.0 last (their_places own.made) (their_places rest.made)
            (let low = (passing_rises program threads code thread (is_held_at hold number) sled mark (bound number) from found found_is).0 in low) high own.rise rest.rise);
        each = λ i one e. made_before i one (split_get own.made rest.made i one e);
        marks_are =
            marks_marked number sled sleds (their_loads both) (their_loads rest.made) mark (own_ends rest.made)
            ∙ ap (λ (ms : List Mark). mark ∷ ms) rest.marks_are;
        count = let e = rest.count in omega (arith, e);
        places_are =
            ap their_places (filter-append (is_passing_load program thread) own.made rest.made)
            ∙ map-append (λ (one : LoadAtPlace). one.place) (filter (is_passing_load program thread) own.made) (filter (is_passing_load program thread) rest.made)
            ∙ ap (λ (ps : List ℕ). ps ++ their_places (filter (is_passing_load program thread) rest.made)) own.places_are
            ∙ ap (λ (ps : List ℕ). found.1 ++ ps) rest.places_are;
        least = λ n begin end i one low way e few. least_both n begin end i one low way (split_get own.made rest.made i one e) few;
      }

    passings_kept : (number from : ℕ) (sleds : List ℕ) (marks : List Mark) (places : List ℕ) → Exist program threads code thread sleds
        → load_places_from program threads code bound thread hold number from sleds marks ≡ Some places → Kept number from sleds marks places
    passings_kept number from [] [] places exist e =
        let none : [] ≡ places = cc in
        subst (λ (ps : List ℕ). Kept number from [] [] ps) none
        (record {
          made = [];
          rise = tt;
          each = λ i one f. absurd cc;
          marks_are = refl;
          count = refl;
          places_are = refl;
          least = λ n begin end i one low way f few. absurd cc;
        })
    passings_kept number from [] (mark ∷ marks) places exist e = absurd cc
    passings_kept number from (sled ∷ sleds) [] places exist e = absurd cc
    passings_kept number from (sled ∷ sleds) (mark ∷ marks) places exist e =
        let first = go_on program threads code bound thread hold number from sled mark sleds marks places e in
        let found : ℕ × List ℕ = first.found in
        let own = passing_kept (is_held_at hold number) sled mark (bound number) from found exist.0 first.found_is in
        let rest = passings_kept (number + 1) found.0 sleds marks first.later exist.1 first.later_are in
        let rises = passing_rises program threads code thread (is_held_at hold number) sled mark (bound number) from found first.found_is in
        let high = bounds number in
        subst (λ (ps : List ℕ). Kept number from (sled ∷ sleds) (mark ∷ marks) ps) first.makes
        (kept_both number from sled sleds mark marks found first.later first.found_is own rest (omega (arith, rises.1, high)))

-- ---- beside a script

pub places_kept : (program : Program) (threads : ℕ) (script : List PatchCommand) (thread : ℕ) (sleds : List ℕ) (marks : List Mark) (places : List ℕ)
    → 0 < thread → thread ≤ threads → ((n : ℕ) → bound_of program threads script thread n ≤ total_of program threads script)
    → Exist program threads (code_at program threads script) thread sleds → All (λ sled. sled < length program.sleds) sleds
    → load_places program threads script thread sleds marks ≡ Some places → KeepScript program threads script thread sleds marks places
places_kept program threads script thread sleds marks places some within bounds exist all e =
    let code : ℕ → ℕ → ℕ = code_at program threads script in
    let start : ℕ = start_of program threads script in
    let bound : ℕ → ℕ = bound_of program threads script thread in
    let hold : Option ℕ = hold_of thread script in
    let kept = passings_kept program threads code thread some within bound hold (total_of program threads script) bounds 0 start sleds marks places exist e in
    record {
      made = kept.made;
      are = record {
        rise = kept.rise;
        each = λ i one f.
            let it = kept.each i one f in
            let number : 0 + length (marks_from program threads thread hold 0 sleds (their_loads (take i kept.made)))
            ≡ length (marks_from program threads thread hold 0 sleds (their_loads (take i kept.made))) = omega arith in
            record {
              wanted = it.wanted;
              value = it.value;
              bounded = subst (λ n. one.place ≤ bound n) number it.bounded;
              released = it.released;
            };
      };
      marks_are = kept.marks_are;
      each = kept.count;
      places_are = kept.places_are;
      least = λ count place i one follow f few.
          let low : start ≤ start = omega arith in
          kept.least count start place i one low
          (marks_pass program threads code start bound thread hold (take count sleds)
          (trees_own program threads thread some within hold 0 (take count sleds) (All-take (λ sled. sled < length program.sleds) count sleds all))
          (take count marks) place follow) f few;
    }
