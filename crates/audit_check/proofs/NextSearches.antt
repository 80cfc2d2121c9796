-- What a follower finds for the next passing.
use Rattle.std.proofs.Common.{◌≡◌, ℕ, ◌+◌, ◌≤◌, Bool, true, false, List, [], ◌∷◌, ◌++◌, append_assoc, Option, Some, None, refl, sym, ap, subst, ◌∙◌, length, length-append, map}
use Rattle.std.specs.Prelude.{MatchOption, option_and_then, option_map, replicate, slice_get}
use Rattle.xray_image.specs.declared.sled.Sled.{Sled}
use Rattle.xray_image.specs.Program.{Program}
use Rattle.handler_word.specs.declared.mark.Mark.{Mark}
use Rattle.patch_script.specs.declared.command.PatchCommand.{PatchCommand}
use Rattle.patch_script.specs.Bounds.{bound_of}
use Rattle.patch_script.specs.CodeAt.{code_at}
use Rattle.patch_script.specs.Micros.{hold_of, micros, start_of, total_of}
use Rattle.sled_words.specs.Words.{release_word}
use Rattle.machine_step.specs.Loads.{is_held_at, logs_args, sled_logs_args}
use Rattle.audit_check.specs.declared.follower.Follower.{Follower}
use Rattle.audit_check.specs.declared.follower.Found.{Found}
use Rattle.audit_check.specs.declared.searches.Sought.{Sought}
use Rattle.audit_check.specs.declared.stop.LoadStops.{LoadStops}
use Rattle.audit_check.specs.Places.{Search, found_by, head_searches, is_set, passing_searches, load_places_from}
use Rattle.audit_check.specs.private.Judging.{ArePassed, FindsBound, FindsPlace, HasJudged, Judges, SameButGuesses}
use Rattle.audit_check.specs.private.LoadStops.{places_in}
use Rattle.audit_check.specs.private.Searches.{AddsAll, AddsNext, FindsAll, FindsNext, HasPlaced, counted, end_of, search_of}
use Rattle.audit_check.specs.private.Switches.{IsCourseOf, is_set as is_on}
use Rattle.audit_check.proofs.AllSearches.{none_before, with_before}
use Rattle.audit_check.proofs.PassingBounds.{bound_within}
use Rattle.audit_check.proofs.FirstPlaces.{on_is_first}
use Rattle.audit_check.proofs.SearchResults.{found_here}
use Rattle.audit_check.proofs.FollowerGuesses.{judges_again, logs_as, same_back, same_then}
use Rattle.audit_check.proofs.JudgedMarks.{same_judges}
use Rattle.audit_check.proofs.FollowerSteps.{stepped, waited}

-- ---- the release, and then what is sought

-- the release is waited for where the script holds the thread, and nowhere else
abbrev pub IsReleased : Follower → (from bound : ℕ) → Option ℕ → Type 0
IsReleased f from bound answer =
    (is_held_at f.hold f.passing ≡ false → answer ≡ Some from)
    × (is_held_at f.hold f.passing ≡ true → FindsPlace f (λ program threads. release_word program f.thread) is_on true from bound answer)

module _ (f : Follower) (sled : ℕ) (mark : Mark) (from bound : ℕ) (at : Option ℕ) (released : IsReleased f from bound at) where
  after_release : (program : Program) (threads : ℕ) (script : List PatchCommand) → Judges program threads script f → bound ≤ total_of program threads script
      → (held : Bool) → is_held_at f.hold f.passing ≡ held
      → found_by bound from (passing_searches program threads (code_at program threads script) f.thread held sled mark)
      ≡ option_and_then (λ place. found_by bound place (head_searches program threads (code_at program threads script) sled mark)) at
  after_release program threads script judges low true held =
      let code : ℕ → ℕ → ℕ = code_at program threads script in
      let later : List Search = head_searches program threads code sled mark in
      let first = on_is_first (is_set program threads code (release_word program f.thread)) from bound at (released.1 held program threads script judges low) in
      sym (ap (option_and_then (λ place. with_before [] (found_by bound place later))) first) ∙ no_loads later at
    where
      no_loads : (later : List Search) (at : Option ℕ)
          → option_and_then (λ place. with_before [] (found_by bound place later)) at ≡ option_and_then (λ place. found_by bound place later) at
      no_loads later None = refl
      no_loads later (Some place) = sym (none_before (found_by bound place later))
  after_release program threads script judges low false held =
      sym (ap (option_and_then (λ place. found_by bound place (head_searches program threads (code_at program threads script) sled mark))) (released.0 held))

  -- nothing lets the thread go on
  held_nowhere : at ≡ None → (program : Program) (threads : ℕ) (script : List PatchCommand) → Judges program threads script f → bound ≤ total_of program threads script
      → found_by bound from (passing_searches program threads (code_at program threads script) f.thread (is_held_at f.hold f.passing) sled mark) ≡ None
  held_nowhere none program threads script judges low =
      after_release program threads script judges low (is_held_at f.hold f.passing) refl
      ∙ ap (option_and_then (λ place. found_by bound place (head_searches program threads (code_at program threads script) sled mark))) none

  pub next_held : (answer : Option Found) → f.place ≡ Some from → at ≡ None → answer ≡ None → FindsNext f sled mark bound answer
  next_held answer place none is = λ program threads script judges low.
      subst (λ (o : Option ℕ). MatchOption o (answer ≡ None) (λ from. answer ≡ counted (found_by bound from
      (passing_searches program threads (code_at program threads script) f.thread (is_held_at f.hold f.passing) sled mark))))
      (sym place) (is ∙ ap counted (sym (held_nowhere none program threads script judges low)))

  pub adds_held : (loads : LoadStops) → f.place ≡ Some from → at ≡ None → AddsNext f sled mark bound loads loads
  adds_held loads place none = λ program threads script judges low other found there e.
      let same : other ≡ from = let q : Some other ≡ Some from = sym there ∙ place in cc in
      let e' : found_by bound from (passing_searches program threads (code_at program threads script) f.thread (is_held_at f.hold f.passing) sled mark) ≡ Some found =
      ap (λ k. found_by bound k (passing_searches program threads (code_at program threads script) f.thread (is_held_at f.hold f.passing) sled mark)) (sym same) ∙ e in
      let never : None ≡ Some found = sym (held_nowhere none program threads script judges low) ∙ e' in
      absurd cc

  -- what is sought from there on
  module _ (g : Follower) (s : Sled) (sought : List Sought) (place : ℕ) (same : SameButGuesses f g) (is : f.place ≡ Some from) (there : at ≡ Some place)
      (there_is : slice_get g.image.now.sleds sled ≡ Some s)
      (searches : (program : Program) (threads : ℕ) (code : ℕ → ℕ → ℕ) (sled : ℕ) → sled_logs_args program sled ≡ logs_args s.kind
      → map (search_of program threads code sled) sought ≡ head_searches program threads code sled mark) where
    sought_from : (program : Program) (threads : ℕ) (script : List PatchCommand) → Judges program threads script f → bound ≤ total_of program threads script
        → found_by bound from (passing_searches program threads (code_at program threads script) f.thread (is_held_at f.hold f.passing) sled mark)
        ≡ found_by bound place (map (search_of program threads (code_at program threads script) sled) sought)
    sought_from program threads script judges low =
        let code : ℕ → ℕ → ℕ = code_at program threads script in
        let judges' = judges_again program threads script f g same judges in
        let sled_is : slice_get program.sleds sled ≡ Some s = subst (λ (p : Program). slice_get p.sleds sled ≡ Some s) judges'.image there_is in
        after_release program threads script judges low (is_held_at f.hold f.passing) refl
        ∙ ap (option_and_then (λ place. found_by bound place (head_searches program threads code sled mark))) there
        ∙ ap (found_by bound place) (sym (searches program threads code sled (logs_as program sled s sled_is)))

    pub next_sought : (answer : Option Found) → FindsAll g sought sled place bound answer → FindsNext f sled mark bound answer
    next_sought answer finds = λ program threads script judges low.
        subst (λ (o : Option ℕ). MatchOption o (answer ≡ None) (λ from. answer ≡ counted (found_by bound from
        (passing_searches program threads (code_at program threads script) f.thread (is_held_at f.hold f.passing) sled mark))))
        (sym is)
        (finds program threads script (judges_again program threads script f g same judges) low ∙ ap counted (sym (sought_from program threads script judges low)))

    pub adds_sought : (old new : LoadStops) → AddsAll g sought sled place bound old new → AddsNext f sled mark bound old new
    adds_sought old new adds = λ program threads script judges low other found here e.
        let same' : other ≡ from = let q : Some other ≡ Some from = sym here ∙ is in cc in
        let e' : found_by bound from (passing_searches program threads (code_at program threads script) f.thread (is_held_at f.hold f.passing) sled mark) ≡ Some found =
        ap (λ k. found_by bound k (passing_searches program threads (code_at program threads script) f.thread (is_held_at f.hold f.passing) sled mark)) (sym same') ∙ e in
        adds program threads script (judges_again program threads script f g same judges) low found (sym (sought_from program threads script judges low) ∙ e')

-- the passings before it have no places
pub next_none : (f : Follower) (sled : ℕ) (mark : Mark) (bound : ℕ) (answer : Option Found) → f.place ≡ None → answer ≡ None → FindsNext f sled mark bound answer
next_none f sled mark bound answer never none = λ program threads script judges low.
    subst (λ (o : Option ℕ). MatchOption o (answer ≡ None) (λ from. answer ≡ counted (found_by bound from
    (passing_searches program threads (code_at program threads script) f.thread (is_held_at f.hold f.passing) sled mark)))) (sym never) none

pub adds_none : (f : Follower) (sled : ℕ) (mark : Mark) (bound : ℕ) (loads : LoadStops) → f.place ≡ None → AddsNext f sled mark bound loads loads
adds_none f sled mark bound loads never = λ program threads script judges low from found there e.
    let q : None ≡ Some from = sym never ∙ there in
    absurd cc

-- with other guesses
pub finds_again : (f g : Follower) (sled : ℕ) (mark : Mark) (bound : ℕ) (answer : Option Found) → SameButGuesses f g → FindsNext f sled mark bound answer
    → FindsNext g sled mark bound answer
finds_again f g sled mark bound answer same next = λ program threads script judges low.
    subst (λ (x : Follower). MatchOption x.place (answer ≡ None) (λ from. answer ≡ counted (found_by bound from
    (passing_searches program threads (code_at program threads script) x.thread (is_held_at x.hold x.passing) sled mark)))) (sym same.same)
    (next program threads script (judges_again program threads script g f (same_back f g same) judges) low)

adds_again : (f g : Follower) (sled : ℕ) (mark : Mark) (bound : ℕ) (old new : LoadStops) → SameButGuesses f g → AddsNext g sled mark bound old new
    → AddsNext f sled mark bound old new
adds_again f g sled mark bound old new same adds = λ program threads script judges low.
    subst (λ (x : Follower). (from : ℕ) (found : ℕ × List ℕ) → x.place ≡ Some from
    → found_by bound from (passing_searches program threads (code_at program threads script) x.thread (is_held_at x.hold x.passing) sled mark) ≡ Some found
    → places_in new ≡ places_in old ++ found.1) same.same
    (adds program threads script (judges_again program threads script f g same judges) low)

-- all loads are made where the passing before has ended
pub adds_here : (f : Follower) (sled : ℕ) (mark : Mark) (bound : ℕ) (here : Found) (old new : LoadStops) → f.place ≡ Some here.place
    → places_in new ≡ places_in old ++ replicate here.loads here.place → FindsNext f sled mark bound (Some here) → AddsNext f sled mark bound old new
adds_here f sled mark bound here old new place added next = λ program threads script judges low from found there e.
    let searches : List Search = passing_searches program threads (code_at program threads script) f.thread (is_held_at f.hold f.passing) sled mark in
    let counts : Some here ≡ counted (found_by bound from searches) =
    subst (λ (o : Option ℕ). MatchOption o (Some here ≡ None) (λ from. Some here ≡ counted (found_by bound from searches))) there
    (next program threads script judges low) in
    let counts' : Some here ≡ counted (Some found) = counts ∙ ap counted e in
    let place_is : here.place ≡ found.0 = cc in
    let loads_are : here.loads ≡ length found.1 = cc in
    let from_is : from ≡ here.place = let q : Some from ≡ Some here.place = sym there ∙ place in cc in
    let all : found.1 ≡ replicate (length found.1) from = found_here bound from searches found e (sym place_is ∙ sym from_is) in
    added ∙ ap (λ (ps : List ℕ). places_in old ++ ps)
    (ap (λ n. replicate n here.place) loads_are ∙ ap (replicate (length found.1)) (sym from_is) ∙ sym all)

-- ---- the places of all passings

-- before the first
pub placed_first : (program : Program) (threads : ℕ) (script : List PatchCommand) (f : Follower) → IsCourseOf program threads script f.course.now
    → f.place ≡ Some f.course.now.start → HasPlaced program threads script f [] [] []
placed_first program threads script f course place = record {
  goes_on = λ more more_marks.
      let first : f.place ≡ Some (start_of program threads script) = place ∙ ap Some course.start in
      let all : ℕ → Option (List ℕ) = λ from.
      load_places_from program threads (code_at program threads script) (bound_of program threads script f.thread) f.thread (hold_of f.thread script) 0 from more more_marks in
      same_places (all (start_of program threads script))
      ∙ sym (ap (option_and_then (λ from. option_map (λ (later : List ℕ). [] ++ later) (all from))) first);
}
  where
    same_places : (places : Option (List ℕ)) → places ≡ option_map (λ (later : List ℕ). [] ++ later) places
    same_places None = refl
    same_places (Some places) = refl

-- Where the searches end, and places after those that were there before: the places of the loads that the searches make were
-- added to them.
record Continues (before after : List ℕ) (end : Option ℕ) (found : Option (ℕ × List ℕ)) : Type 0 where
  pub ends : end ≡ option_map (λ (f : ℕ × List ℕ). f.0) found
  pub adds : (f : ℕ × List ℕ) → found ≡ Some f → after ≡ before ++ f.1

end_counted : (found : Option (ℕ × List ℕ)) → end_of (counted found) ≡ option_map (λ (f : ℕ × List ℕ). f.0) found
end_counted None = refl
end_counted (Some found) = refl

-- and after one more
module _ (program : Program) (threads : ℕ) (script : List PatchCommand) (thread : ℕ) (hold : Option ℕ) (sled : ℕ) (mark : Mark) (n : ℕ) (before after : List ℕ)
    (more : List ℕ) (more_marks : List Mark) where
  abbrev code : ℕ → ℕ → ℕ
  code = code_at program threads script

  abbrev bounds : ℕ → ℕ
  bounds = bound_of program threads script thread

  abbrev from_next : ℕ → Option (List ℕ)
  from_next place = load_places_from program threads code bounds thread hold (n + 1) place more more_marks

  joined : (own : List ℕ) (later : Option (List ℕ)) → after ≡ before ++ own
      → option_map (λ (later : List ℕ). before ++ later) (option_map (λ (later : List ℕ). own ++ later) later)
      ≡ option_map (λ (later : List ℕ). after ++ later) later
  joined own None is = refl
  joined own (Some later) is = ap Some (sym (append_assoc before own later) ∙ ap (λ (ps : List ℕ). ps ++ later) (sym is))

  by_found : (place : Option ℕ) (found : Option (ℕ × List ℕ)) → Continues before after place found
      → option_map (λ (later : List ℕ). before ++ later)
      (option_and_then (λ (f : ℕ × List ℕ). option_map (λ (later : List ℕ). f.1 ++ later) (from_next f.0)) found)
      ≡ option_and_then (λ at. option_map (λ (later : List ℕ). after ++ later) (from_next at)) place
  by_found place None goes =
      ap (option_and_then (λ at. option_map (λ (later : List ℕ). after ++ later) (from_next at))) (sym goes.ends)
  by_found place (Some f) goes =
      joined f.1 (from_next f.0) (goes.adds f refl)
      ∙ ap (option_and_then (λ at. option_map (λ (later : List ℕ). after ++ later) (from_next at))) (sym goes.ends)

  -- from where the passings before it end
  passing_goes_on : (first place : Option ℕ)
      → MatchOption first (place ≡ None)
      (λ from. Continues before after place (found_by (bounds n) from (passing_searches program threads code thread (is_held_at hold n) sled mark)))
      → option_and_then (λ from. option_map (λ (later : List ℕ). before ++ later)
      (load_places_from program threads code bounds thread hold n from (sled ∷ more) (mark ∷ more_marks))) first
      ≡ option_and_then (λ at. option_map (λ (later : List ℕ). after ++ later) (from_next at)) place
  passing_goes_on None place none =
      ap (option_and_then (λ at. option_map (λ (later : List ℕ). after ++ later) (from_next at))) (sym none)
  passing_goes_on (Some from) place goes = by_found place _ goes

-- of a passing that has found its loads, or of one that hasn't
placed_step : (f g h : Follower) (bound sled : ℕ) (mark : Mark) (found : Option Found) (place : Option ℕ) (old new : LoadStops) → place ≡ end_of found → g ≡ record f { awaits = g.awaits }
    → SameButGuesses g h → (ArePassed f f.passing f.awaits → FindsBound f f.passing bound) → FindsNext g sled mark bound found
    → AddsNext g sled mark bound old new
    → (program : Program) (threads : ℕ) (script : List PatchCommand) (sleds : List ℕ) (marks : List Mark)
    → HasJudged program threads script f sleds marks → HasPlaced program threads script f sleds marks (places_in old)
    → HasPlaced program threads script (stepped h place) (sleds ++ sled ∷ []) (marks ++ mark ∷ []) (places_in new)
placed_step f g h bound sled mark found place old new place_is waits guesses finds next adds program threads script sleds marks has placed =
    subst (λ (o : Option ℕ). HasPlaced program threads script (stepped h o) (sleds ++ sled ∷ []) (marks ++ mark ∷ []) (places_in new)) (sym place_is) (record {
      goes_on = λ more more_marks.
          let front : sleds ++ sled ∷ more ≡ (sleds ++ sled ∷ []) ++ more = sym (append_assoc sleds (sled ∷ []) more) in
          let front' : marks ++ mark ∷ more_marks ≡ (marks ++ mark ∷ []) ++ more_marks = sym (append_assoc marks (mark ∷ []) more_marks) in
          let counted_is : length sleds + 1 ≡ length (sleds ++ sled ∷ []) = sym (length-append sleds (sled ∷ [])) in
          let goes : all f.thread (sleds ++ sled ∷ more) (marks ++ mark ∷ more_marks)
          ≡ option_and_then (λ at. option_map (λ (later : List ℕ). places_in new ++ later) (from_here f.thread (length sleds + 1) at more more_marks)) (end_of found) =
          placed.goes_on (sled ∷ more) (mark ∷ more_marks)
          ∙ passing_goes_on program threads script f.thread (hold_of f.thread script) sled mark (length sleds) (places_in old) (places_in new) more more_marks
          f.place (end_of found) at_before in
          let counted_goes : all f.thread ((sleds ++ sled ∷ []) ++ more) ((marks ++ mark ∷ []) ++ more_marks)
          ≡ option_and_then (λ at. option_map (λ (later : List ℕ). places_in new ++ later) (from_here f.thread (length (sleds ++ sled ∷ [])) at more more_marks))
          (end_of found) =
          subst (λ n. all f.thread ((sleds ++ sled ∷ []) ++ more) ((marks ++ mark ∷ []) ++ more_marks)
          ≡ option_and_then (λ at. option_map (λ (later : List ℕ). places_in new ++ later) (from_here f.thread n at more more_marks)) (end_of found)) counted_is
          (subst (λ (ms : List Mark). all f.thread ((sleds ++ sled ∷ []) ++ more) ms
          ≡ option_and_then (λ at. option_map (λ (later : List ℕ). places_in new ++ later) (from_here f.thread (length sleds + 1) at more more_marks)) (end_of found)) front'
          (subst (λ (ss : List ℕ). all f.thread ss (marks ++ mark ∷ more_marks)
          ≡ option_and_then (λ at. option_map (λ (later : List ℕ). places_in new ++ later) (from_here f.thread (length sleds + 1) at more more_marks)) (end_of found))
          front goes)) in
          subst (λ t. all t ((sleds ++ sled ∷ []) ++ more) ((marks ++ mark ∷ []) ++ more_marks)
          ≡ option_and_then (λ at. option_map (λ (later : List ℕ). places_in new ++ later) (from_here t (length (sleds ++ sled ∷ [])) at more more_marks)) (end_of found))
          (sym thread) counted_goes;
    })
  where
    from_here : (thread n from : ℕ) → List ℕ → List Mark → Option (List ℕ)
    from_here thread n from ss ms =
        load_places_from program threads (code_at program threads script) (bound_of program threads script thread) thread (hold_of thread script) n from ss ms

    all : (thread : ℕ) → List ℕ → List Mark → Option (List ℕ)
    all thread ss ms = from_here thread 0 (start_of program threads script) ss ms

    thread : h.thread ≡ f.thread
    thread = ap (λ (x : Follower). x.thread) guesses.same ∙ ap (λ (x : Follower). x.thread) waits

    bound_is : bound ≡ bound_of program threads script f.thread (length sleds)
    bound_is = finds has.passed program threads script has.judges ∙ ap (bound_of program threads script f.thread) has.count

    within : bound ≤ total_of program threads script
    within =
        subst (λ b. b ≤ total_of program threads script) (sym bound_is) (bound_within f.thread (length sleds) (micros program threads script))

    -- what was found from where the passings before have ended
    Found_from : ℕ → ℕ → Option ℕ → ℕ → ℕ → Type 0
    Found_from b thread hold n from =
        Continues (places_in old) (places_in new) (end_of found)
        (found_by b from (passing_searches program threads (code_at program threads script) thread (is_held_at hold n) sled mark))

    At : ℕ → ℕ → Option ℕ → ℕ → Option ℕ → Type 0
    At b thread hold n before = MatchOption before (end_of found ≡ None) (Found_from b thread hold n)

    own : (before : Option ℕ) → g.place ≡ before → At bound g.thread g.hold g.passing before
    own None is =
        let judges = same_judges program threads script f g (waited f g waits) has.judges in
        let none : found ≡ None =
        subst (λ (o : Option ℕ). MatchOption o (found ≡ None) (λ from. found ≡ counted (found_by bound from
        (passing_searches program threads (code_at program threads script) g.thread (is_held_at g.hold g.passing) sled mark)))) is
        (next program threads script judges within) in
        ap end_of none
    own (Some from) is =
        let judges = same_judges program threads script f g (waited f g waits) has.judges in
        let counts : found ≡ counted (found_by bound from
        (passing_searches program threads (code_at program threads script) g.thread (is_held_at g.hold g.passing) sled mark)) =
        subst (λ (o : Option ℕ). MatchOption o (found ≡ None) (λ from. found ≡ counted (found_by bound from
        (passing_searches program threads (code_at program threads script) g.thread (is_held_at g.hold g.passing) sled mark)))) is
        (next program threads script judges within) in
        record {
          ends = ap end_of counts ∙ end_counted _;
          adds = λ all e. adds program threads script judges within from all is e;
        }

    at_before : At (bound_of program threads script f.thread (length sleds)) f.thread (hold_of f.thread script) (length sleds) f.place
    at_before =
        subst (λ b. At b f.thread (hold_of f.thread script) (length sleds) f.place) bound_is
        (subst (λ (o : Option ℕ). At bound f.thread o (length sleds) f.place) has.judges.hold
        (subst (λ n. At bound f.thread f.hold n f.place) has.count
        (subst (λ (x : Follower). At bound x.thread x.hold x.passing x.place) waits (own g.place refl))))

-- the loads were added with other guesses
pub placed_again : (f g h k : Follower) (bound sled : ℕ) (mark : Mark) (found : Option Found) (place : Option ℕ) (old new : LoadStops) → place ≡ end_of found
    → g ≡ record f { awaits = g.awaits } → SameButGuesses g h → SameButGuesses h k → (ArePassed f f.passing f.awaits → FindsBound f f.passing bound)
    → FindsNext g sled mark bound found → (FindsNext h sled mark bound found → AddsNext h sled mark bound old new)
    → (program : Program) (threads : ℕ) (script : List PatchCommand) (sleds : List ℕ) (marks : List Mark)
    → HasJudged program threads script f sleds marks → HasPlaced program threads script f sleds marks (places_in old)
    → HasPlaced program threads script (stepped k place) (sleds ++ sled ∷ []) (marks ++ mark ∷ []) (places_in new)
placed_again f g h k bound sled mark found place old new place_is waits guesses more finds next adds =
    placed_step f g k bound sled mark found place old new place_is waits (same_then g h k guesses more) finds next
    (adds_again g h sled mark bound old new guesses (adds (finds_again g h sled mark bound found guesses next)))
