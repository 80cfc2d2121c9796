-- What a follower finds by one search.
use Rattle.std.proofs.Common.{◌≡◌, ℕ, zero, suc, ◌+◌, ◌-◌, Bool, true, false, cond, Option, Some, None, refl, sym, ap, subst, ◌∙◌}
use Rattle.std.specs.Prelude.{not, option_map}
use Rattle.xray_image.specs.Program.{Program}
use Rattle.patch_script.specs.CodeAt.{code_at}
use Rattle.sled_words.specs.Words.{arg_handler_word, handler_word}
use Rattle.audit_check.specs.declared.follower.Follower.{Follower}
use Rattle.audit_check.specs.declared.searches.Sought.{Sought}
use Rattle.audit_check.specs.declared.searches.Sought.TheVariants.{EitherHandler, Nothing}
use Rattle.audit_check.specs.declared.stop.Stop.{Stop}
use Rattle.audit_check.specs.Places.{Search, first_among, first_place, has_arg_handler, has_handler}
use Rattle.audit_check.specs.private.Judging.{FindsPlace, SameButGuesses, lesser}
use Rattle.audit_check.specs.private.Searches.{Finds, search_of, stop_of}
use Rattle.audit_check.specs.private.Switches.{is_set}
use Rattle.audit_check.proofs.FirstPlaces.{either_is_first, first_at, not_first_at, off_is_first, on_is_first}
use Rattle.audit_check.proofs.FollowerGuesses.{judges_again}

-- the stop at the first place of a search
abbrev pub stop_by : Search → Option ℕ → Option Stop
stop_by search place = option_map (λ at. stop_of (search.loads at) at) place

module _ (f : Follower) (sled from bound : ℕ) where
  -- a word that is on
  pub find_on : (sought wanted : Sought) (word : Program → ℕ → ℕ) (test : ℕ → Bool) (loads : ℕ) (place : Option ℕ) (answer : Option Stop) → sought ≡ wanted
      → ((program : Program) (threads : ℕ) (code : ℕ → ℕ → ℕ)
      → search_of program threads code sled wanted ≡ record { test = λ at. test (code at (word program threads)); loads = λ _. loads })
      → FindsPlace f word test true from bound place → answer ≡ option_map (stop_of loads) place → Finds f sought sled from bound answer
  find_on sought wanted word test loads place answer is search found stops =
      subst (λ (s : Sought). Finds f s sled from bound answer) (sym is)
      (λ program threads script judges low.
      let code : ℕ → ℕ → ℕ = code_at program threads script in
      stops
      ∙ ap (option_map (stop_of loads)) (on_is_first (λ at. test (code at (word program threads))) from bound place (found program threads script judges low))
      ∙ ap (λ (s : Search). stop_by s (first_place s.test from bound)) (sym (search program threads code)))

  -- a word that is off
  pub find_off : (sought wanted : Sought) (word : Program → ℕ → ℕ) (test : ℕ → Bool) (loads : ℕ) (place : Option ℕ) (answer : Option Stop) → sought ≡ wanted
      → ((program : Program) (threads : ℕ) (code : ℕ → ℕ → ℕ)
      → search_of program threads code sled wanted ≡ record { test = λ at. not (test (code at (word program threads))); loads = λ _. loads })
      → FindsPlace f word test false from bound place → answer ≡ option_map (stop_of loads) place → Finds f sought sled from bound answer
  find_off sought wanted word test loads place answer is search found stops =
      subst (λ (s : Sought). Finds f s sled from bound answer) (sym is)
      (λ program threads script judges low.
      let code : ℕ → ℕ → ℕ = code_at program threads script in
      stops
      ∙ ap (option_map (stop_of loads)) (off_is_first (λ at. test (code at (word program threads))) from bound place (found program threads script judges low))
      ∙ ap (λ (s : Search). stop_by s (first_place s.test from bound)) (sym (search program threads code)))

  -- a word that is on or off
  pub find_by : (sought : Sought) (wanted : Bool → Sought) (wants : Bool) (word : Program → ℕ → ℕ) (test : ℕ → Bool) (place : Option ℕ) (answer : Option Stop)
      → sought ≡ wanted wants
      → ((program : Program) (threads : ℕ) (code : ℕ → ℕ → ℕ)
      → search_of program threads code sled (wanted true) ≡ record { test = λ at. test (code at (word program threads)); loads = λ _. 1 })
      → ((program : Program) (threads : ℕ) (code : ℕ → ℕ → ℕ)
      → search_of program threads code sled (wanted false) ≡ record { test = λ at. not (test (code at (word program threads))); loads = λ _. 1 })
      → FindsPlace f word test wants from bound place → answer ≡ option_map (stop_of 1) place → Finds f sought sled from bound answer
  find_by sought wanted true word test place answer is on off found stops = find_on sought (wanted true) word test 1 place answer is on found stops
  find_by sought wanted false word test place answer is on off found stops = find_off sought (wanted false) word test 1 place answer is off found stops

  -- nothing
  never_first : (count from : ℕ) → None ≡ first_among (λ _. false) count from
  never_first zero from = refl
  never_first (suc count) from = never_first count (from + 1)

  pub find_nothing : (sought : Sought) (answer : Option Stop) → sought ≡ Nothing → answer ≡ None → Finds f sought sled from bound answer
  find_nothing sought answer is none =
      subst (λ (s : Sought). Finds f s sled from bound answer) (sym is)
      (λ program threads script judges low.
      none ∙ ap (stop_by (search_of program threads (code_at program threads script) sled Nothing)) (never_first (bound + 1 - from) from))

  -- a handler of either kind
  pub find_none_either : (g : Follower) (by_argument by_handler least : Option ℕ) (answer : Option Stop) → SameButGuesses f g
      → FindsPlace f (λ program threads. arg_handler_word program threads) is_set true from bound by_argument
      → FindsPlace g (λ program threads. handler_word program) is_set true from bound by_handler → least ≡ lesser by_argument by_handler → least ≡ None
      → answer ≡ None → Finds f EitherHandler sled from bound answer
  find_none_either g by_argument by_handler least answer same found found' is none none' = λ program threads script judges low.
      let code : ℕ → ℕ → ℕ = code_at program threads script in
      let first = on_is_first (has_arg_handler program threads code) from bound by_argument (found program threads script judges low) in
      let first' = on_is_first (has_handler program threads code) from bound by_handler
      (found' program threads script (judges_again program threads script f g same judges) low) in
      none' ∙ ap (stop_by (search_of program threads code sled EitherHandler))
      (sym none ∙ is ∙ either_is_first (has_arg_handler program threads code) (has_handler program threads code) from bound by_argument by_handler first first')

  pub find_either : (g : Follower) (by_argument by_handler least : Option ℕ) (at loads : ℕ) (answer : Option Stop) → SameButGuesses f g
      → FindsPlace f (λ program threads. arg_handler_word program threads) is_set true from bound by_argument
      → FindsPlace g (λ program threads. handler_word program) is_set true from bound by_handler → least ≡ lesser by_argument by_handler → least ≡ Some at
      → ((a : Bool) → (by_argument ≡ Some at → a ≡ true) → ((by_argument ≡ Some at → ⊥) → a ≡ false) → cond a 1 2 ≡ loads)
      → answer ≡ Some (stop_of loads at) → Finds f EitherHandler sled from bound answer
  find_either g by_argument by_handler least at loads answer same found found' is there by_loads stop = λ program threads script judges low.
      let code : ℕ → ℕ → ℕ = code_at program threads script in
      let a : ℕ → Bool = has_arg_handler program threads code in
      let b : ℕ → Bool = has_handler program threads code in
      let first : by_argument ≡ first_place a from bound = on_is_first a from bound by_argument (found program threads script judges low) in
      let first' : by_handler ≡ first_place b from bound =
      on_is_first b from bound by_handler (found' program threads script (judges_again program threads script f g same judges) low) in
      let many : cond (a at) 1 2 ≡ loads =
      by_loads (a at) (λ e. first_at a b from bound at by_argument first e)
      (λ other. not_first_at a b from bound at by_argument by_handler first first' (sym is ∙ there) other) in
      stop ∙ ap (λ n. Some (stop_of n at)) (sym many)
      ∙ ap (stop_by (search_of program threads code sled EitherHandler))
      (sym there ∙ is ∙ either_is_first a b from bound by_argument by_handler first first')
