-- How many loads a thread makes.
use Rattle.std.proofs.Common.{◌≡◌, ℕ, ◌+◌, ◌*◌, ◌≤◌, Bool, true, false, cond, List, [], ◌∷◌, Option, Some, None, refl, ap, arith, length, length-append, map}
use Rattle.std.specs.Prelude.{option_map, replicate}
use Rattle.std.proofs.lemmas.List.{length-map, length-replicate}
use Rattle.xray_image.specs.Program.{Program}
use Rattle.handler_word.specs.declared.mark.Mark.{Mark}
use Rattle.handler_word.specs.declared.mark.Mark.TheVariants.{Skipped, NoHandler, NotLogging, Recorded, RecordedArg}
use Rattle.patch_script.specs.declared.command.PatchCommand.{PatchCommand}
use Rattle.patch_script.specs.Bounds.{bound_of}
use Rattle.patch_script.specs.CodeAt.{code_at}
use Rattle.patch_script.specs.Micros.{hold_of, start_of}
use Rattle.machine_step.specs.Loads.{is_held_at, sled_logs_args}
use Rattle.audit_check.specs.Places.{Search, found_by, handler_searches, has_arg_handler, head_searches, load_places, passing_searches, load_places_from}
use Rattle.audit_check.proofs.SearchResults.{found_none, found_on}
use Rattle.run_order.specs.FreeScripts.{free_place}
use Rattle.run_order.specs.Places.{free_places}
use Rattle.run_order.proofs.FirstPassing.{go_on}

-- ---- how many loads a passing makes

-- each search makes at most four loads
abbrev FewEach : List Search → Type 0
FewEach [] = Unit {0}
FewEach (search ∷ later) = ((at : ℕ) → search.loads at ≤ 4) × FewEach later

found_few : (last from : ℕ) (searches : List Search) (found : ℕ × List ℕ) → FewEach searches → found_by last from searches ≡ Some found
    → length found.1 ≤ 4 * length searches
found_few last from [] found few e = let none = found_none last from found e in omega (arith, ap length none.1)
found_few last from (search ∷ later) found few e =
    let on = found_on last from search later found e in
    let rest = found_few last on.at later on.rest few.1 on.rest_found in
    omega (
      arith,
      rest,
      few.0 on.at,
      ap length on.places_are,
      length-append (replicate (search.loads on.at) on.at) on.rest.1,
      length-replicate (search.loads on.at) on.at,
    )

module _ (program : Program) (threads : ℕ) (code : ℕ → ℕ → ℕ) where
  abbrev AreFew : ℕ → List Search → Type 0
  AreFew most searches = FewEach searches × (length searches ≤ most)

  one_or_two : (b : Bool) → cond b 1 2 ≤ 4
  one_or_two true = omega arith
  one_or_two false = omega arith

  handlers_few : (logs : Bool) (mark : Mark) → AreFew 3 (handler_searches program threads code logs mark)
  handlers_few true Skipped = (((λ at. omega arith), tt), omega arith)
  handlers_few false Skipped = (((λ at. omega arith), tt), omega arith)
  handlers_few true NoHandler = (((λ at. omega arith), ((λ at. omega arith), tt)), omega arith)
  handlers_few false NoHandler = (((λ at. omega arith), tt), omega arith)
  handlers_few true NotLogging = (((λ at. one_or_two (has_arg_handler program threads code at)), ((λ at. omega arith), tt)), omega arith)
  handlers_few false NotLogging = (((λ at. omega arith), ((λ at. omega arith), tt)), omega arith)
  handlers_few true Recorded = (((λ at. omega arith), ((λ at. omega arith), ((λ at. omega arith), tt))), omega arith)
  handlers_few false Recorded = (((λ at. omega arith), ((λ at. omega arith), tt)), omega arith)
  handlers_few true RecordedArg = (((λ at. omega arith), ((λ at. omega arith), tt)), omega arith)
  handlers_few false RecordedArg = (((λ at. omega arith), tt), omega arith)

  head_few : (sled : ℕ) (mark : Mark) → AreFew 4 (head_searches program threads code sled mark)
  head_few sled Skipped = (((λ at. omega arith), tt), omega arith)
  head_few sled NoHandler = let rest = handlers_few (sled_logs_args program sled) NoHandler in (((λ at. omega arith), rest.0), omega (arith, rest.1))
  head_few sled NotLogging = let rest = handlers_few (sled_logs_args program sled) NotLogging in (((λ at. omega arith), rest.0), omega (arith, rest.1))
  head_few sled Recorded = let rest = handlers_few (sled_logs_args program sled) Recorded in (((λ at. omega arith), rest.0), omega (arith, rest.1))
  head_few sled RecordedArg = let rest = handlers_few (sled_logs_args program sled) RecordedArg in (((λ at. omega arith), rest.0), omega (arith, rest.1))

  passing_few : (thread : ℕ) (held : Bool) (sled : ℕ) (mark : Mark) → AreFew 5 (passing_searches program threads code thread held sled mark)
  passing_few thread true sled mark = let rest = head_few sled mark in (((λ at. omega arith), rest.0), omega (arith, rest.1))
  passing_few thread false sled mark = let rest = head_few sled mark in (rest.0, omega (arith, rest.1))

  passings_few : (bound : ℕ → ℕ) (thread : ℕ) (hold : Option ℕ) (number from : ℕ) (sleds : List ℕ) (marks : List Mark) (places : List ℕ)
      → load_places_from program threads code bound thread hold number from sleds marks ≡ Some places → length places ≤ 20 * length sleds
  passings_few bound thread hold number from [] [] places e =
      let none : [] ≡ places = cc in
      omega (arith, ap length none)
  passings_few bound thread hold number from [] (mark ∷ marks) places e = absurd cc
  passings_few bound thread hold number from (sled ∷ sleds) [] places e = absurd cc
  passings_few bound thread hold number from (sled ∷ sleds) (mark ∷ marks) places e =
      let first = go_on program threads code bound thread hold number from sled mark sleds marks places e in
      let searches = passing_searches program threads code thread (is_held_at hold number) sled mark in
      let few = passing_few thread (is_held_at hold number) sled mark in
      let own = found_few (bound number) from searches first.found few.0 first.found_is in
      let rest = passings_few bound thread hold (number + 1) first.found.0 sleds marks first.later first.later_are in
      omega (arith, own, few.1, rest, ap length first.makes, length-append first.found.1 first.later)

-- there is a mark for each sled
as_many : (program : Program) (threads : ℕ) (code : ℕ → ℕ → ℕ) (bound : ℕ → ℕ) (thread : ℕ) (hold : Option ℕ) (number from : ℕ) (sleds : List ℕ) (marks : List Mark)
    (places : List ℕ) → load_places_from program threads code bound thread hold number from sleds marks ≡ Some places → length marks ≡ length sleds
as_many program threads code bound thread hold number from [] [] places e = refl
as_many program threads code bound thread hold number from [] (mark ∷ marks) places e = absurd cc
as_many program threads code bound thread hold number from (sled ∷ sleds) [] places e = absurd cc
as_many program threads code bound thread hold number from (sled ∷ sleds) (mark ∷ marks) places e =
    let first = go_on program threads code bound thread hold number from sled mark sleds marks places e in
    let rest = as_many program threads code bound thread hold (number + 1) first.found.0 sleds marks first.later first.later_are in
    omega (arith, rest)

-- by the sleds that the thread passes
pub loads_few : (program : Program) (threads : ℕ) (script : List PatchCommand) (thread : ℕ) (sleds : List ℕ) (marks : List Mark) (places : List ℕ)
    → load_places program threads script thread sleds marks ≡ Some places → length places ≤ 20 * length sleds
loads_few program threads script thread sleds marks places e =
    passings_few program threads (code_at program threads script) (bound_of program threads script thread) thread (hold_of thread script) 0
    (start_of program threads script) sleds marks places e

-- so in the script without waits
pub free_few : (program : Program) (threads : ℕ) (script : List PatchCommand) (thread : ℕ) (sleds : List ℕ) (marks : List Mark) (places : List ℕ)
    → free_places program threads script thread sleds marks ≡ Some places → length places ≤ 20 * length marks
free_few program threads script thread sleds marks places e = by_places (load_places program threads script thread sleds marks) refl e
  where
    by_places : (found : Option (List ℕ)) → load_places program threads script thread sleds marks ≡ found
        → option_map (map (free_place program threads script)) found ≡ Some places → length places ≤ 20 * length marks
    by_places None is e = absurd cc
    by_places (Some found) is e =
        let same : map (free_place program threads script) found ≡ places = cc in
        omega (
          arith,
          ap length same,
          length-map found (free_place program threads script),
          passings_few program threads (code_at program threads script) (bound_of program threads script thread) thread (hold_of thread script) 0
              (start_of program threads script) sleds marks found is,
          as_many program threads (code_at program threads script) (bound_of program threads script thread) thread (hold_of thread script) 0
              (start_of program threads script) sleds marks found is,
        )
