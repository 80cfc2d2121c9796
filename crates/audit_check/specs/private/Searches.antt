-- What a follower finds by searches.
use Rattle.std.specs.Prelude.{◌≡◌, ◌≤◌, ◌++◌, ◌∷◌, ℕ, Bool, true, false, List, [], Option, Some, None, MatchOption, length, map, not, option_and_then, option_map}
use Rattle.xray_image.specs.Program.{Program}
use Rattle.handler_word.specs.declared.mark.Mark.{Mark}
use Rattle.handler_word.specs.declared.mark.Mark.TheVariants.{Skipped}
use Rattle.patch_script.specs.declared.command.PatchCommand.{PatchCommand}
use Rattle.patch_script.specs.Bounds.{bound_of}
use Rattle.patch_script.specs.CodeAt.{code_at}
use Rattle.patch_script.specs.Micros.{hold_of, start_of, total_of}
use Rattle.machine_step.specs.Loads.{is_held_at}
use Rattle.audit_check.specs.declared.follower.Follower.{Follower}
use Rattle.audit_check.specs.declared.follower.Found.{Found}
use Rattle.audit_check.specs.declared.searches.Sought.{Sought}
use Rattle.audit_check.specs.declared.searches.Sought.TheVariants.{ArgHandler, EitherHandler, Handler, Log, Nothing, Patched, Unpatched}
use Rattle.audit_check.specs.declared.stop.LoadStops.{LoadStops}
use Rattle.audit_check.specs.declared.stop.Stop.{Stop}
use Rattle.audit_check.specs.Places.{Search, either_handler, first_place, found_by, handler_searches, has_arg_handler, has_handler, is_patched, log_records, one_load, passing_searches, patched_search, load_places_from}
use Rattle.audit_check.specs.private.Judging.{Judges}
use Rattle.audit_check.specs.private.LoadStops.{places_in}

-- ---- searches

-- what is sought, as a search
abbrev pub search_of : Program → (threads : ℕ) → (ℕ → ℕ → ℕ) → (sled : ℕ) → Sought → Search
search_of program threads code sled Patched = patched_search program threads code sled
search_of program threads code sled Unpatched = one_load (λ place. not (is_patched program threads code sled place))
search_of program threads code sled (ArgHandler true) = one_load (has_arg_handler program threads code)
search_of program threads code sled (ArgHandler false) = one_load (λ place. not (has_arg_handler program threads code place))
search_of program threads code sled (Handler true) = one_load (has_handler program threads code)
search_of program threads code sled (Handler false) = one_load (λ place. not (has_handler program threads code place))
search_of program threads code sled EitherHandler = either_handler program threads code
search_of program threads code sled (Log true) = one_load (log_records program threads code)
search_of program threads code sled (Log false) = one_load (λ place. not (log_records program threads code place))
search_of program threads code sled Nothing = one_load (λ _. false)

-- the searches from the head on, by whether the sled logs arguments
abbrev pub searches_by : Program → (threads : ℕ) → (ℕ → ℕ → ℕ) → Bool → (sled : ℕ) → Mark → List Search
searches_by program threads code logs sled Skipped = one_load (λ place. not (is_patched program threads code sled place)) ∷ []
searches_by program threads code logs sled mark = patched_search program threads code sled ∷ handler_searches program threads code logs mark

-- ---- what was found

-- this many loads at a place
abbrev pub stop_of : (loads : ℕ) → (place : ℕ) → Stop
stop_of loads place = record { place = place; loads = loads }

-- the place of the last search, and how many loads all of them make
abbrev pub counted : Option (ℕ × List ℕ) → Option Found
counted found = option_map (λ found. record { place = found.0; loads = length found.1 }) found

-- where what was found ends
abbrev pub end_of : Option Found → Option ℕ
end_of found = option_map (λ found. found.place) found

-- the answer is the first place at which a search finds something, with the loads there
abbrev pub Finds : Follower → Sought → (sled from bound : ℕ) → Option Stop → Type 0
Finds f sought sled from bound answer =
    (program : Program) (threads : ℕ) (script : List PatchCommand) → Judges program threads script f → bound ≤ total_of program threads script
    → answer ≡ option_map (λ place. stop_of ((search_of program threads (code_at program threads script) sled sought).loads place) place)
    (first_place (search_of program threads (code_at program threads script) sled sought).test from bound)

-- the answer is what the searches find, one after the other
abbrev pub FindsAll : Follower → List Sought → (sled from bound : ℕ) → Option Found → Type 0
FindsAll f sought sled from bound answer =
    (program : Program) (threads : ℕ) (script : List PatchCommand) → Judges program threads script f → bound ≤ total_of program threads script
    → answer ≡ counted (found_by bound from (map (search_of program threads (code_at program threads script) sled) sought))

-- the loads that they find are added
abbrev pub AddsAll : Follower → List Sought → (sled from bound : ℕ) → (old new : LoadStops) → Type 0
AddsAll f sought sled from bound old new =
    (program : Program) (threads : ℕ) (script : List PatchCommand) → Judges program threads script f → bound ≤ total_of program threads script
    → (found : ℕ × List ℕ) → found_by bound from (map (search_of program threads (code_at program threads script) sled) sought) ≡ Some found
    → places_in new ≡ places_in old ++ found.1

-- so they find it for the next passing, if those before it have places
abbrev pub FindsNext : Follower → (sled : ℕ) → Mark → (bound : ℕ) → Option Found → Type 0
FindsNext f sled mark bound answer =
    (program : Program) (threads : ℕ) (script : List PatchCommand) → Judges program threads script f → bound ≤ total_of program threads script
    → MatchOption f.place (answer ≡ None)
    (λ from. answer
    ≡ counted (found_by bound from (passing_searches program threads (code_at program threads script) f.thread (is_held_at f.hold f.passing) sled mark)))

-- and its loads are added
abbrev pub AddsNext : Follower → (sled : ℕ) → Mark → (bound : ℕ) → (old new : LoadStops) → Type 0
AddsNext f sled mark bound old new =
    (program : Program) (threads : ℕ) (script : List PatchCommand) → Judges program threads script f → bound ≤ total_of program threads script
    → (from : ℕ) (found : ℕ × List ℕ) → f.place ≡ Some from
    → found_by bound from (passing_searches program threads (code_at program threads script) f.thread (is_held_at f.hold f.passing) sled mark) ≡ Some found
    → places_in new ≡ places_in old ++ found.1

-- the loads of the passings at these sleds, with these marks, have these places, and the others go on from there; if the
-- follower has no place, there are no places
pub record HasPlaced (program : Program) (threads : ℕ) (script : List PatchCommand) (f : Follower) (sleds : List ℕ) (marks : List Mark) (places : List ℕ)
    : Type 0 where
  pub goes_on : (more : List ℕ) (more_marks : List Mark)
      → load_places_from program threads (code_at program threads script) (bound_of program threads script f.thread) f.thread (hold_of f.thread script) 0
      (start_of program threads script) (sleds ++ more) (marks ++ more_marks)
      ≡ option_and_then (λ from. option_map (λ later. places ++ later)
      (load_places_from program threads (code_at program threads script) (bound_of program threads script f.thread) f.thread (hold_of f.thread script)
      (length sleds) from more more_marks)) f.place
