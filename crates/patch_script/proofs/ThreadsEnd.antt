-- A script lets each of its threads come to its end: it awaits no passing before `go`, and releases a held thread before
-- it awaits the passing before which it holds it.
use Rattle.std.proofs.Common.{◌≡◌, ℕ, zero, suc, ◌+◌, ◌-◌, ◌*◌, ◌<◌, ◌≤◌, List, [], ◌∷◌, ◌++◌, ◌||◌, ◌&&◌, Bool, true, false, cond, not, length, take, drop, Some, None, unwrap_or, refl, sym, ap, subst, ◌∙◌, ◌==◌, inl, inr, arith, append_assoc, eqb-true, eq-eqb}
use Rattle.std.specs.Prelude.{Ok, nat_lt, nat_le, slice_get, take_while}
use Rattle.std.specs.Option.{option_map_or, option_or}
use Rattle.std.specs.List.{list_any, position_or_len}
use Rattle.std.proofs.lemmas.Bool.{cases_Bool, cases_lt, leb-false, ne_eqb}
use Rattle.std.proofs.lemmas.List.{length-append}
use Rattle.std.proofs.lemmas.List.Folds.{list_any-append}
use Rattle.std.proofs.lemmas.Option.{slice_get-get_or, slice_get_past}
use Rattle.std.proofs.Math.Seq.{take-append_seam}
use Rattle.xray_image.specs.declared.sled.Sled.{Sled}
use Rattle.xray_image.specs.Program.{Program}
use Rattle.sled_words.specs.declared.part.Part.{Part}
use Rattle.sled_words.specs.declared.part.Part.TheVariants.{Head, Id, Opcode, Offset}
use Rattle.sled_words.specs.ChangingCode.{LetsEnd}
use Rattle.sled_words.specs.Parts.{patched}
use Rattle.sled_words.specs.Words.{handler_word, release_word, state_word, arg_handler_word}
use Rattle.patch_script.specs.declared.command.PatchCommand.{PatchCommand}
use Rattle.patch_script.specs.declared.command.PatchCommand.TheVariants as commands
use Rattle.patch_script.specs.declared.micro.Micro.{Micro}
use Rattle.patch_script.specs.declared.micro.Micro.TheVariants.{Store, Await, End}
use Rattle.patch_script.specs.Bounds.{awaits_passing, bound_of}
use Rattle.patch_script.specs.CodeAt.{code_at}
use Rattle.patch_script.specs.Micros.{Numbered, all_sleds, sleds_of, hold_by, hold_of, is_go, unpatch_sled, steps_of, micros_after, micros, micro_at, start_of, total_of}
use Rattle.patch_script.specs.private.Placing.{patched_by}
use Rattle.patch_script.specs.Plans.{Plan, IsOrderly, plan_of}
use Rattle.patch_script.specs.Refusals.{Lines, commands_of, has_go, holds_for_good, is_released, releases, IsAdmitted}
use Rattle.patch_script.proofs.PassingBounds.{bound_awaited, bound_reached, bound_within}
use Rattle.patch_script.proofs.BeforeGo.{awaits, no_await}
use Rattle.patch_script.proofs.CommandsSoFar.{held_found, option_or-none, option_or_assoc}
use Rattle.patch_script.proofs.Lists.{list_any-last, slice_get-append_right, split_at}
use Rattle.patch_script.proofs.ScriptRows.{orderly, said_for, threads_for}
use Rattle.patch_script.proofs.Steps.{stays, whole_front, micros_after-append}
use Rattle.patch_script.proofs.WordValues.{following, code_at_next}
use Rattle.patch_script.proofs.MicroNames.{neither, or_parts, patched_none, unpatched_none, script_none, found_none, is_bad_sled, all_near, some_near, not_beyond}

and_false : (a b : Bool) → b ≡ false → (a && b) ≡ false
and_false true b h = h
and_false false b h = refl

false_and : (a b : Bool) → a ≡ false → (a && b) ≡ false
false_and a b h = ap (λ t. t && b) h

and_not : (a b : Bool) → (a && not b) ≡ false → b ≡ false → a ≡ false
and_not true true h isnt = isnt
and_not true false h isnt = absurd cc
and_not false b h isnt = refl

or_first : (a b : Bool) → (a || b) ≡ false → a ≡ false
or_first a b h = (or_parts a b h).0

-- ---- the commands before a command

-- a command and its line
lined : (lines : Lines) (i : ℕ) (command : PatchCommand) → slice_get (commands_of lines) i ≡ Some command
    → (line : ℕ × PatchCommand) × (slice_get lines i ≡ Some line) × (line.1 ≡ command)
lined [] i command at = absurd cc
lined (line ∷ lines) zero command at = (line, refl, let same : line.1 ≡ command = cc in same)
lined (line ∷ lines) (suc i) command at = lined lines i command at

hold_of-append : (thread : ℕ) (xs ys : List PatchCommand) → hold_of thread (xs ++ ys) ≡ option_or (hold_of thread xs) (hold_of thread ys)
hold_of-append thread [] ys = refl
hold_of-append thread (x ∷ xs) ys =
    ap (option_or (hold_by thread x)) (hold_of-append thread xs ys) ∙ option_or_assoc (hold_by thread x) (hold_of thread xs) (hold_of thread ys)

-- the command awaits the passing of a thread
abbrev awaits_too : ℕ → ℕ → PatchCommand → Bool
awaits_too thread passing (commands.Await awaited count) = (awaited == thread) && nat_lt passing count
awaits_too thread passing _ = false

module _ (program : Program) (threads : ℕ) (script : List PatchCommand) where
  -- each command may follow those before it
  abbrev pub AllFollow : Type 0
  AllFollow = (before : List PatchCommand) (command : PatchCommand) (rest : List PatchCommand) → script ≡ before ++ command ∷ rest
      → IsAdmitted program threads before command

  one_further : (before : List PatchCommand) (command : PatchCommand) (rest : List PatchCommand) → script ≡ before ++ command ∷ rest
      → script ≡ (before ++ command ∷ []) ++ rest
  one_further before command rest is = is ∙ sym (append_assoc before (command ∷ []) rest)

  gone_on : (before : List PatchCommand) (command : PatchCommand) → has_go before ≡ true → has_go (before ++ command ∷ []) ≡ true
  gone_on before command go = list_any-last is_go before command ∙ ap (λ b. b || is_go command) go

  -- no thread is held after `go`
  no_hold : AllFollow → (thread : ℕ) (before rest : List PatchCommand) → script ≡ before ++ rest → has_go before ≡ true → hold_of thread rest ≡ None
  no_hold follow thread before [] is go = refl
  no_hold follow thread before (commands.Hold held passing ∷ rest) is go =
      let misplaced = (follow before (commands.Hold held passing) rest is).place in absurd cc
  no_hold follow thread before (command ∷ rest) is go =
      no_hold follow thread (before ++ command ∷ []) rest (one_further before command rest is) (gone_on before command go)

  hold_before : AllFollow → (thread passing : ℕ) (before rest : List PatchCommand) → script ≡ before ++ rest → has_go before ≡ true
      → hold_of thread script ≡ Some passing → hold_of thread before ≡ Some passing
  hold_before follow thread passing before rest is go held =
      sym (option_or-none (hold_of thread before))
      ∙ (ap (option_or (hold_of thread before)) (sym (no_hold follow thread before rest is go))
      ∙ (sym (hold_of-append thread before rest) ∙ (ap (hold_of thread) (sym is) ∙ held)))

  -- a held thread that isn't released yet is awaited for no passing from its hold on
  awaited_early : AllFollow → (thread passing count : ℕ) (before rest : List PatchCommand) → script ≡ before ++ commands.Await thread count ∷ rest
      → hold_of thread script ≡ Some passing → is_released thread before ≡ false → nat_lt passing count ≡ false
  awaited_early follow thread passing count before rest is held free =
      let fits = follow before (commands.Await thread count) rest is in
      let go : has_go before ≡ true = not_false (has_go before) fits.place in
      let holds = hold_before follow thread passing before (commands.Await thread count ∷ rest) is go held in
      and_not (nat_lt passing count) (is_released thread before)
      (sym (ap (λ o. option_map_or (λ p. nat_lt p count) o false && not (is_released thread before)) holds) ∙ fits.wait) free
    where
      not_false : (b : Bool) → not b ≡ false → b ≡ true
      not_false true h = refl
      not_false false h = absurd cc

  early : AllFollow → (thread passing : ℕ) → hold_of thread script ≡ Some passing → (before rest following : List PatchCommand)
      → script ≡ before ++ (rest ++ following) → is_released thread (before ++ rest) ≡ false → list_any (awaits_too thread passing) rest ≡ false
  early follow thread passing held before [] following is free = refl
  early follow thread passing held before (command ∷ rest) following is free =
      neither (awaits_too thread passing command) (list_any (awaits_too thread passing) rest)
      (here command is (or_first (is_released thread before) (is_released thread (command ∷ rest))
      (sym (list_any-append (releases thread) before (command ∷ rest)) ∙ free)))
      (early follow thread passing held (before ++ command ∷ []) rest following (one_further before command (rest ++ following) is)
      (ap (is_released thread) (append_assoc before (command ∷ []) rest) ∙ free))
    where
      here : (command : PatchCommand) → script ≡ before ++ command ∷ (rest ++ following) → is_released thread before ≡ false
          → awaits_too thread passing command ≡ false
      here (commands.Await awaited count) is free = elim (cases_Bool (awaited == thread)) [
        | inl so ↦
            let at : script ≡ before ++ commands.Await thread count ∷ (rest ++ following) =
            is ∙ ap (λ t. before ++ commands.Await t count ∷ (rest ++ following)) (eqb-true awaited thread so) in
            and_false (awaited == thread) (nat_lt passing count) (awaited_early follow thread passing count before (rest ++ following) at held free)
        | inr isnt ↦ false_and (awaited == thread) (nat_lt passing count) isnt
      ]
      here command is free = refl

-- ---- the first release of a thread

record Releases (thread : ℕ) (script : List PatchCommand) : Type 0 where
  before : List PatchCommand
  following : List PatchCommand
  is : script ≡ before ++ commands.Release thread ∷ following
  first : is_released thread before ≡ false

later_release : (thread : ℕ) (command : PatchCommand) (rest : List PatchCommand) → releases thread command ≡ false → Releases thread rest
    → Releases thread (command ∷ rest)
later_release thread command rest isnt later = record {
  before = command ∷ later.before;
  following = later.following;
  is = ap (λ cs. command ∷ cs) later.is;
  first = neither (releases thread command) (is_released thread later.before) isnt later.first;
}

first_release : (thread : ℕ) (script : List PatchCommand) → is_released thread script ≡ true → Releases thread script
first_release thread [] so = absurd cc
first_release thread (command ∷ rest) so = by_command command (first_release thread rest) so
  where
    by_command : (command : PatchCommand) → (is_released thread rest ≡ true → Releases thread rest)
        → (releases thread command || is_released thread rest) ≡ true → Releases thread (command ∷ rest)
    by_command (commands.Release released) later so = elim (cases_Bool (released == thread)) [
      | inl same ↦ record {
        before = [];
        following = rest;
        is = ap (λ t. commands.Release t ∷ rest) (eqb-true released thread same);
        first = refl;
      }
      | inr other ↦
          later_release thread (commands.Release released) rest other (later (sym (ap (λ b. b || is_released thread rest) other) ∙ so))
    ]
    by_command command later so = later_release thread command rest refl (later so)

-- ---- micro steps that await no passing

calm_sleds : (thread passing : ℕ) (program : Program) (sleds : List Numbered) → list_any (is_bad_sled (awaits_passing thread passing) program) sleds ≡ false
calm_sleds thread passing program [] = refl
calm_sleds thread passing program (s ∷ ss) = calm_sleds thread passing program ss

calm_heads : (thread passing : ℕ) (earlier : List ℕ) (sleds : List Numbered) → list_any (λ s. awaits_passing thread passing (unpatch_sled earlier s)) sleds ≡ false
calm_heads thread passing earlier [] = refl
calm_heads thread passing earlier (s ∷ ss) = calm_heads thread passing earlier ss

calm_steps : (program : Program) (threads thread passing : ℕ) (earlier : List ℕ) (command : PatchCommand) → awaits_too thread passing command ≡ false
    → list_any (awaits_passing thread passing) (steps_of program threads earlier command) ≡ false
calm_steps program threads thread passing earlier commands.Patch fits =
    patched_none (awaits_passing thread passing) program (all_sleds program) (calm_sleds thread passing program (all_sleds program))
calm_steps program threads thread passing earlier commands.Unpatch fits =
    unpatched_none (awaits_passing thread passing) program earlier (all_sleds program) (calm_heads thread passing earlier (all_sleds program))
calm_steps program threads thread passing earlier (commands.PatchFunction id) fits =
    patched_none (awaits_passing thread passing) program (sleds_of program id) (calm_sleds thread passing program (sleds_of program id))
calm_steps program threads thread passing earlier (commands.UnpatchFunction id) fits =
    unpatched_none (awaits_passing thread passing) program earlier (sleds_of program id) (calm_heads thread passing earlier (sleds_of program id))
calm_steps program threads thread passing earlier (commands.Await awaited count) fits =
    neither ((awaited == thread) && nat_lt passing count) false fits refl
calm_steps program threads thread passing earlier command fits = refl

calm_micros : (program : Program) (threads thread passing : ℕ) (script : List PatchCommand) → list_any (awaits_too thread passing) script ≡ false
    → list_any (awaits_passing thread passing) (micros program threads script) ≡ false
calm_micros program threads thread passing script none =
    script_none (awaits_passing thread passing) program threads (awaits_too thread passing) (calm_steps program threads thread passing) [] script none

-- the first step that passes a test comes after those that don't
first_after : (p : Micro → Bool) (xs ys : List Micro) → list_any p xs ≡ false → length xs ≤ position_or_len p (xs ++ ys)
first_after p [] ys none = omega arith
first_after p (x ∷ xs) ys none =
    let parts = or_parts (p x) (list_any p xs) none in
    let rest = first_after p xs ys parts.1 in
    subst (λ b. suc (length xs) ≤ cond (not b) (1 + position_or_len p (xs ++ ys)) 0) (sym parts.0) (omega (arith, rest))

-- ---- the bounds

unawaited : (commands : List PatchCommand) (thread passing : ℕ) → list_any awaits commands ≡ false → list_any (awaits_too thread passing) commands ≡ false
unawaited [] thread passing none = refl
unawaited (c ∷ cs) thread passing none =
    let parts = or_parts (awaits c) (list_any awaits cs) none in
    neither (awaits_too thread passing c) (list_any (awaits_too thread passing) cs) (one c parts.0) (unawaited cs thread passing parts.1)
  where
    one : (c : PatchCommand) → awaits c ≡ false → awaits_too thread passing c ≡ false
    one (commands.Await awaited count) h = absurd cc
    one c h = refl

-- none is before `go`
bound_begins : (program : Program) (threads : ℕ) (script : List PatchCommand) → AllFollow program threads script → (thread passing : ℕ)
    → start_of program threads script ≤ bound_of program threads script thread passing
bound_begins program threads script follow thread passing =
    let front = take_while stays script in
    let none : list_any awaits front ≡ false =
    no_await [] script refl (λ i c at. (follow (take i script) c (drop (suc i) script) (split_at script i c at)).place) in
    let whole = whole_front script in
    let split : micros program threads script ≡ micros program threads front ++ micros_after program threads (patched_by program front) whole.0 =
    ap (micros program threads) whole.1 ∙ micros_after-append program threads [] front whole.0 in
    subst (λ steps. start_of program threads script ≤ position_or_len (awaits_passing thread passing) steps) (sym split)
    (first_after (awaits_passing thread passing) (micros program threads front) (micros_after program threads (patched_by program front) whole.0)
    (calm_micros program threads thread passing front (unawaited front thread passing none)))

-- they never fall
bound_rises : (program : Program) (threads : ℕ) (script : List PatchCommand) (thread passing : ℕ)
    → bound_of program threads script thread passing ≤ bound_of program threads script thread (passing + 1)
bound_rises program threads script thread passing =
    bound_reached program threads script thread (passing + 1) (bound_of program threads script thread passing) (bound_within program threads script thread passing)
    (λ i count below at. elim (cases_lt passing count) [
      | inl less ↦ let past = bound_awaited program threads script thread passing i count at less in absurd (omega (arith, past, below))
      | inr few ↦ omega (arith, few)
    ])

-- ---- the release word

-- a micro step stores something else than 1 in a word
abbrev unsets : ℕ → Micro → Bool
unsets word (Store w value) = (w == word) && not (value == 1)
unsets word (Await thread count) = false
unsets word End = false

module _ (program : Program) (threads thread : ℕ) (some : 0 < thread) (few : thread ≤ threads) where
  abbrev own_word : ℕ
  own_word = release_word program thread

  abbrev is_far : Numbered → Bool
  is_far s = nat_le (length program.sleds) s.0

  abbrev value : Sled → Part → ℕ
  value sled part = patched program.trampolines sled part

  -- no store to a sled unsets it
  part_sets : (k j value : ℕ) → nat_le (length program.sleds) k ≡ false → j < 4 → ((4 * k + j == own_word) && not (value == 1)) ≡ false
  part_sets k j value near below =
      let less = leb-false (length program.sleds) k near in
      false_and (4 * k + j == own_word) (not (value == 1)) (ne_eqb (4 * k + j) own_word (λ same. omega (arith, same, less, below, some)))

  sleds_set : (sleds : List Numbered) → list_any is_far sleds ≡ false → list_any (is_bad_sled (unsets own_word) program) sleds ≡ false
  sleds_set [] none = refl
  sleds_set ((k, s) ∷ ss) none =
      let parts = or_parts (is_far (k, s)) (list_any is_far ss) none in
      neither (is_bad_sled (unsets own_word) program (k, s)) (list_any (is_bad_sled (unsets own_word) program) ss)
      (neither _ _ (part_sets k 1 (value s Id) parts.0 (omega arith)) (neither _ _ (part_sets k 2 (value s Opcode) parts.0 (omega arith))
      (neither _ _ (part_sets k 3 (value s Offset) parts.0 (omega arith)) (neither _ _ (part_sets k 0 (value s Head) parts.0 (omega arith)) refl))))
      (sleds_set ss parts.1)

  heads_set : (earlier : List ℕ) (sleds : List Numbered) → list_any is_far sleds ≡ false
      → list_any (λ s. unsets own_word (unpatch_sled earlier s)) sleds ≡ false
  heads_set earlier [] none = refl
  heads_set earlier ((k, s) ∷ ss) none =
      let parts = or_parts (is_far (k, s)) (list_any is_far ss) none in
      neither (unsets own_word (unpatch_sled earlier (k, s))) (list_any (λ s. unsets own_word (unpatch_sled earlier s)) ss)
      (part_sets k 0 _ parts.0 (omega arith)) (heads_set earlier ss parts.1)

  -- nor does one to another word, or one of 1
  other_sets : (word value : ℕ) → word < own_word → ((word == own_word) && not (value == 1)) ≡ false
  other_sets word value below =
      false_and (word == own_word) (not (value == 1)) (ne_eqb word own_word (λ same. omega (arith, same, below)))

  later_sets : (word value : ℕ) → own_word < word → ((word == own_word) && not (value == 1)) ≡ false
  later_sets word value above =
      false_and (word == own_word) (not (value == 1)) (ne_eqb word own_word (λ same. omega (arith, same, above)))

  steps_set : (earlier : List ℕ) (command : PatchCommand) → list_any (unsets own_word) (steps_of program threads earlier command) ≡ false
  steps_set earlier commands.Patch =
      patched_none (unsets own_word) program (all_sleds program) (sleds_set (all_sleds program) (all_near program 0))
  steps_set earlier commands.Unpatch =
      unpatched_none (unsets own_word) program earlier (all_sleds program) (heads_set earlier (all_sleds program) (all_near program 0))
  steps_set earlier (commands.PatchFunction id) =
      patched_none (unsets own_word) program (sleds_of program id) (sleds_set (sleds_of program id) (some_near program 0 id))
  steps_set earlier (commands.UnpatchFunction id) =
      unpatched_none (unsets own_word) program earlier (sleds_of program id) (heads_set earlier (sleds_of program id) (some_near program 0 id))
  steps_set earlier commands.SetHandler = neither _ _ (other_sets (handler_word program) 1 (omega (arith, some))) refl
  steps_set earlier commands.RemoveHandler = neither _ _ (other_sets (handler_word program) 0 (omega (arith, some))) refl
  steps_set earlier commands.SetArgHandler = neither _ _ (later_sets (arg_handler_word program threads) 1 (omega (arith, some, few))) refl
  steps_set earlier commands.RemoveArgHandler = neither _ _ (later_sets (arg_handler_word program threads) 0 (omega (arith, some, few))) refl
  steps_set earlier commands.Init =
      neither _ _ (other_sets (state_word program) 1 (omega (arith, some))) (neither _ _ (other_sets (state_word program) 2 (omega (arith, some))) refl)
  steps_set earlier commands.Finalize =
      neither _ _ (other_sets (state_word program) 3 (omega (arith, some))) (neither _ _ (other_sets (state_word program) 4 (omega (arith, some))) refl)
  steps_set earlier (commands.Hold held passing) = refl
  steps_set earlier commands.Go = refl
  steps_set earlier (commands.Release released) = neither _ _ (and_false (release_word program released == own_word) false refl) refl
  steps_set earlier (commands.Await awaited count) = refl

  all_set : (script : List PatchCommand) → list_any (unsets own_word) (micros program threads script) ≡ false
  all_set script = script_none (unsets own_word) program threads (λ _. false) (λ earlier command _. steps_set earlier command) [] script (none_false script)
    where
      none_false : (cs : List PatchCommand) → list_any (λ _. false) cs ≡ false
      none_false [] = refl
      none_false (c ∷ cs) = none_false cs

  -- once it is 1, it stays 1
  stays_one : (step : Micro) (value : ℕ) → unsets own_word step ≡ false → value ≡ 1 → following own_word step value ≡ 1
  stays_one (Store w stored) value set one = elim (cases_Bool (w == own_word)) [
    | inl so ↦
        let is : stored ≡ 1 = eqb-true stored 1 (not_not (stored == 1) (sym (ap (λ b. b && not (stored == 1)) so) ∙ set)) in
        ap (λ b. unwrap_or (cond b (Some stored) None) value) so ∙ is
    | inr isnt ↦ ap (λ b. unwrap_or (cond b (Some stored) None) value) isnt ∙ one
  ]
    where
      not_not : (b : Bool) → not b ≡ false → b ≡ true
      not_not true h = refl
      not_not false h = absurd cc
  stays_one (Await awaited count) value set one = one
  stays_one End value set one = one

  step_sets : (script : List PatchCommand) (place : ℕ) → unsets own_word (micro_at program threads script place) ≡ false
  step_sets script place = elim (cases_lt place (total_of program threads script)) [
    | inl lt ↦
        ap (λ o. unsets own_word (unwrap_or o End)) (slice_get-get_or (micros program threads script) place End lt)
        ∙ found_none (unsets own_word) program (micros program threads script) (all_set script) place lt
    | inr past ↦ ap (λ o. unsets own_word (unwrap_or o End)) (slice_get_past (micros program threads script) place past)
  ]

  one_from : (script : List PatchCommand) (place more : ℕ) → code_at program threads script place own_word ≡ 1 → code_at program threads script (place + more) own_word ≡ 1
  one_from script place zero one = ap (λ p. code_at program threads script p own_word) (let here : place + 0 ≡ place = omega arith in here) ∙ one
  one_from script place (suc more) one =
      ap (λ p. code_at program threads script p own_word) (let next : place + suc more ≡ place + more + 1 = omega arith in next)
      ∙ (code_at_next program threads script (place + more) own_word
      ∙ stays_one (micro_at program threads script (place + more)) (code_at program threads script (place + more) own_word)
      (step_sets script (place + more)) (one_from script place more one))

  -- it is 1 at all places after its release
  one_after : (script before rest : List PatchCommand) → script ≡ before ++ commands.Release thread ∷ rest → (place : ℕ)
      → total_of program threads before < place → code_at program threads script place own_word ≡ 1
  one_after script before rest is place past =
      let first = total_of program threads before in
      let more = micros_after program threads (patched_by program before) (commands.Release thread ∷ rest) in
      let split : micros program threads script ≡ micros program threads before ++ more =
      ap (micros program threads) is ∙ micros_after-append program threads [] before (commands.Release thread ∷ rest) in
      let same : first ≡ first + 0 = omega arith in
      let there : micro_at program threads script first ≡ Store own_word 1 =
      ap (λ steps. unwrap_or (slice_get steps first) End) split
      ∙ (ap (λ i. unwrap_or (slice_get (micros program threads before ++ more) i) End) same
      ∙ ap (λ o. unwrap_or o End) (slice_get-append_right (micros program threads before) more 0)) in
      let stored : code_at program threads script (first + 1) own_word ≡ 1 =
      code_at_next program threads script first own_word
      ∙ (ap (λ step. following own_word step (code_at program threads script first own_word)) there
      ∙ ap (λ b. unwrap_or (cond b (Some 1) None) (code_at program threads script first own_word)) (eq-eqb own_word own_word refl)) in
      let on : place ≡ first + 1 + (place - (first + 1)) = omega (arith, past) in
      ap (λ p. code_at program threads script p own_word) on ∙ one_from script (first + 1) (place - (first + 1)) stored

-- ---- a held thread

-- it is released before it is awaited for the passing before which it is held
released_first : (program : Program) (threads : ℕ) (script : List PatchCommand) → AllFollow program threads script → (thread passing : ℕ)
    → hold_of thread script ≡ Some passing → (free : Releases thread script)
    → total_of program threads free.before < bound_of program threads script thread passing
released_first program threads script follow thread passing held free =
    let p = awaits_passing thread passing in
    let before = micros program threads free.before in
    let release : Micro = Store (release_word program thread) 1 in
    let more = micros_after program threads (patched_by program free.before ++ []) free.following in
    let split : micros program threads script ≡ before ++ release ∷ more =
    ap (micros program threads) free.is ∙ micros_after-append program threads [] free.before (commands.Release thread ∷ free.following) in
    let none : list_any p before ≡ false =
    calm_micros program threads thread passing free.before
    (early program threads script follow thread passing held [] free.before (commands.Release thread ∷ free.following) free.is free.first) in
    let longer : list_any p (before ++ release ∷ []) ≡ false = list_any-last p before release ∙ neither (list_any p before) false none refl in
    let first = first_after p (before ++ release ∷ []) more longer in
    let whole : micros program threads script ≡ (before ++ release ∷ []) ++ more = split ∙ sym (append_assoc before (release ∷ []) more) in
    let bound : bound_of program threads script thread passing ≡ position_or_len p ((before ++ release ∷ []) ++ more) = ap (position_or_len p) whole in
    omega (arith, first, bound, length-append before (release ∷ []))

-- each held thread is released
is_let_go : (script : List PatchCommand) (thread passing : ℕ) → list_any (holds_for_good script) script ≡ false
    → hold_of thread script ≡ Some passing → is_released thread script ≡ true
is_let_go script thread passing none held = elim (cases_Bool (is_released thread script)) [
  | inl so ↦ so
  | inr isnt ↦ let found = held_found thread script script passing held isnt in absurd cc
]

-- ---- the whole

lets_end_in : (plan : Plan) → IsOrderly plan → (thread : ℕ) → 0 < thread
    → LetsEnd plan.program thread (hold_of thread (commands_of plan.lines)) (code_at plan.program plan.threads (commands_of plan.lines))
    (start_of plan.program plan.threads (commands_of plan.lines)) (total_of plan.program plan.threads (commands_of plan.lines))
    (bound_of plan.program plan.threads (commands_of plan.lines) thread)
lets_end_in plan all thread some =
    let program = plan.program in
    let script = commands_of plan.lines in
    record {
      begins = bound_begins program plan.threads script follow thread 0;
      rises = bound_rises program plan.threads script thread;
      ends = bound_within program plan.threads script thread;
      releases = λ passing held.
          let free = first_release thread script (is_let_go script thread passing all.released held) in
          let few = (not_beyond program plan.threads thread (follow free.before (commands.Release thread) free.following free.is).thread).1 in
          one_after program plan.threads thread some few script free.before free.following free.is (bound_of program plan.threads script thread passing)
          (released_first program plan.threads script follow thread passing held free);
    }
  where
    follow : AllFollow plan.program plan.threads (commands_of plan.lines)
    follow before command rest is =
        let same : length before ≡ length before + 0 = omega arith in
        let at : slice_get (commands_of plan.lines) (length before) ≡ Some command =
        ap (λ cs. slice_get cs (length before)) is
        ∙ (ap (slice_get (before ++ command ∷ rest)) same ∙ slice_get-append_right before (command ∷ rest) 0) in
        let line = lined plan.lines (length before) command at in
        let front : take (length before) (commands_of plan.lines) ≡ before =
        ap (take (length before)) is ∙ take-append_seam before (command ∷ rest) in
        subst (IsAdmitted plan.program plan.threads before) line.2
        (subst (λ cs. IsAdmitted plan.program plan.threads cs line.0.1) front (all.admitted (length before) line.0 line.1))

pub lets_end : (program : Program) (threads : ℕ) (text : List ℕ) (plan : Plan) (thread : ℕ) → 0 < thread → plan_of program threads text ≡ Ok plan
    → LetsEnd program thread (hold_of thread (commands_of plan.lines)) (code_at program threads (commands_of plan.lines))
    (start_of program threads (commands_of plan.lines)) (total_of program threads (commands_of plan.lines)) (bound_of program threads (commands_of plan.lines) thread)
lets_end program threads text plan thread some read =
    let whole = lets_end_in plan (orderly program threads text plan read) thread some in
    let script = commands_of plan.lines in
    subst (λ n. LetsEnd program thread (hold_of thread script) (code_at program n script) (start_of program n script) (total_of program n script)
    (bound_of program n script thread)) (threads_for program threads text plan read)
    (subst (λ p. LetsEnd p thread (hold_of thread script) (code_at p plan.threads script) (start_of p plan.threads script) (total_of p plan.threads script)
    (bound_of p plan.threads script thread)) (said_for program threads text plan read) whole)
