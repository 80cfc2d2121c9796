-- The places of a thread's loads, each as early as it may be.
-- A passing comes to its mark by searches: each looks for the first place at which some words have values that lead to the
-- mark, and makes its loads there.
use Rattle.std.specs.Prelude.{◌+◌, ◌++◌, ◌-◌, ◌==◌, ◌||◌, ◌∷◌, ℕ, zero, suc, List, [], Bool, true, false, Option, Some, None, if◌then◌else◌, not, option_and_then, option_map, replicate}
use Rattle.handler_word.specs.declared.mark.Mark.{Mark}
use Rattle.handler_word.specs.declared.mark.Mark.TheVariants.{Skipped, NoHandler, NotLogging, Recorded, RecordedArg}
use Rattle.machine_step.specs.Loads.{is_held_at, sled_logs_args}
use Rattle.patch_script.specs.declared.command.PatchCommand.{PatchCommand}
use Rattle.patch_script.specs.Bounds.{bound_of}
use Rattle.patch_script.specs.CodeAt.{code_at}
use Rattle.patch_script.specs.Micros.{hold_of, start_of}
use Rattle.sled_words.specs.declared.part.Part.TheVariants.{Head}
use Rattle.sled_words.specs.Parts.{patched_head}
use Rattle.sled_words.specs.Words.{arg_handler_word, handler_word, release_word, state_word, word_of}
use Rattle.xray_image.specs.Program.{Program}

-- what a thread looks for: places at which a test passes, and how many loads it makes there
pub record Search : Type 0 where
  pub test : ℕ → Bool
  pub loads : ℕ → ℕ

-- one load at a place at which a test passes
abbrev pub one_load : (ℕ → Bool) → Search
one_load test = record { test = test; loads = λ _. 1 }

-- the first of some places, from a place on, at which a test passes
abbrev pub first_among : (ℕ → Bool) → (count : ℕ) → (from : ℕ) → Option ℕ
first_among test zero from = None
first_among test (suc count) from = if test from then Some from else first_among test count (from + 1)

-- the first place, from a place on and not after a last one, at which a test passes
abbrev pub first_place : (ℕ → Bool) → (from last : ℕ) → Option ℕ
first_place test from last = first_among test (last + 1 - from) from

module _ (program : Program) (threads : ℕ) (code : ℕ → ℕ → ℕ) where
  -- ---- tests of a place

  abbrev pub is_patched : ℕ → ℕ → Bool
  is_patched sled place = code place (word_of sled Head) == patched_head

  abbrev pub is_set : ℕ → ℕ → Bool
  is_set word place = not (code place word == 0)

  abbrev pub has_handler : ℕ → Bool
  has_handler place = is_set (handler_word program) place

  abbrev pub has_arg_handler : ℕ → Bool
  has_arg_handler place = is_set (arg_handler_word program threads) place

  abbrev pub log_records : ℕ → Bool
  log_records place = code place (state_word program) == 2

  -- ---- the searches of a passing

  -- where a sled logs arguments, no argument handler has to be found before a handler is looked for
  abbrev pub no_arg_handler : Bool → List Search
  no_arg_handler true = one_load (λ place. not (has_arg_handler place)) ∷ []
  no_arg_handler false = []

  -- A handler of either kind. The argument handler's word is loaded first, and if none is found there, the handler's word
  -- is loaded at the same place.
  abbrev pub either_handler : Search
  either_handler = record {
    test = λ place. has_arg_handler place || has_handler place;
    loads = λ place. if has_arg_handler place then 1 else 2;
  }

  -- nothing leads to the mark
  abbrev pub never : List Search
  never = one_load (λ _. false) ∷ []

  -- after the parts of a patched sled, by whether the sled logs arguments
  abbrev pub handler_searches : Bool → Mark → List Search
  handler_searches logs Skipped = never
  handler_searches logs NoHandler = no_arg_handler logs ++ one_load (λ place. not (has_handler place)) ∷ []
  handler_searches true NotLogging = either_handler ∷ one_load (λ place. not (log_records place)) ∷ []
  handler_searches false NotLogging = one_load has_handler ∷ one_load (λ place. not (log_records place)) ∷ []
  handler_searches logs Recorded = no_arg_handler logs ++ one_load has_handler ∷ one_load log_records ∷ []
  handler_searches true RecordedArg = one_load has_arg_handler ∷ one_load log_records ∷ []
  handler_searches false RecordedArg = never

  -- A patched sled's four parts are loaded at one place, since the id, the opcode and the offset may have any values.
  abbrev pub patched_search : ℕ → Search
  patched_search sled = record { test = is_patched sled; loads = λ _. 4 }

  abbrev pub head_searches : ℕ → Mark → List Search
  head_searches sled Skipped = one_load (λ place. not (is_patched sled place)) ∷ []
  head_searches sled mark = patched_search sled ∷ handler_searches (sled_logs_args program sled) mark

  -- A held thread first looks for its release. Without waits it makes no load of it.
  abbrev pub passing_searches : (thread : ℕ) → Bool → (sled : ℕ) → Mark → List Search
  passing_searches thread true sled mark =
      record { test = is_set (release_word program thread); loads = λ _. 0 } ∷ head_searches sled mark
  passing_searches thread false sled mark = head_searches sled mark

-- ---- what they find

-- from a place on, up to a last one: the place of the last search, and the places of all loads; or none, if some search
-- finds nothing
abbrev pub found_by : (last : ℕ) → (from : ℕ) → List Search → Option (ℕ × List ℕ)
found_by last from [] = Some (from, [])
found_by last from (search ∷ later) =
    option_and_then (λ at. option_map (λ found. (found.0, replicate (search.loads at) at ++ found.1)) (found_by last at later))
    (first_place search.test from last)

-- The places of the loads of a thread that passes these sleds with these marks, numbered from a number on, from a place
-- on. Each passing has one mark, and its loads are within its bound.
abbrev pub load_places_from : Program → (threads : ℕ) → (ℕ → ℕ → ℕ) → (ℕ → ℕ) → (thread : ℕ) → Option ℕ → (number from : ℕ) → List ℕ → List Mark → Option (List ℕ)
load_places_from program threads code bound thread hold number from [] [] = Some []
load_places_from program threads code bound thread hold number from [] (mark ∷ marks) = None
load_places_from program threads code bound thread hold number from (sled ∷ sleds) [] = None
load_places_from program threads code bound thread hold number from (sled ∷ sleds) (mark ∷ marks) =
    option_and_then
    (λ found. option_map (λ later. found.1 ++ later) (load_places_from program threads code bound thread hold (number + 1) found.0 sleds marks))
    (found_by (bound number) from (passing_searches program threads code thread (is_held_at hold number) sled mark))

-- the places of the loads of a thread beside a script, if some loads that follow the script have these marks
abbrev pub load_places : Program → (threads : ℕ) → List PatchCommand → (thread : ℕ) → List ℕ → List Mark → Option (List ℕ)
load_places program threads script thread sleds marks =
    load_places_from program threads (code_at program threads script) (bound_of program threads script thread) thread (hold_of thread script) 0
    (start_of program threads script) sleds marks
