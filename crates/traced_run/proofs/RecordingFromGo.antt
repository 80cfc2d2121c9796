-- A script that switches all on before `go`, and leaves it so, records each passing.
use Rattle.std.proofs.Common.{◌≡◌, ℕ, zero, suc, ◌+◌, ◌-◌, ◌<◌, ◌≤◌, inl, inr, Bool, true, false, not, cond, List, [], ◌∷◌, ◌++◌, length, take, Some, refl, sym, ap, subst, ◌∙◌, arith, append_assoc}
use Rattle.std.specs.Prelude.{All, Ok, slice_get, take_while}
use Rattle.std.specs.List.{list_any}
use Rattle.std.proofs.lemmas.List.Elements.{All-cons, All-nil, All-take}
use Rattle.std.proofs.Math.Seq.{take-append-add, take-append_seam}
use Rattle.xray_image.specs.Program.{Program}
use Rattle.sled_words.specs.declared.part.Part.TheVariants.{Head}
use Rattle.sled_words.specs.Parts.{patched_head}
use Rattle.sled_words.specs.Words.{arg_handler_word, handler_word, state_word, word_of}
use Rattle.patch_script.specs.declared.command.PatchCommand.{PatchCommand}
use Rattle.patch_script.specs.declared.command.PatchCommand.TheVariants as commands
use Rattle.patch_script.specs.declared.micro.Micro.{Micro}
use Rattle.patch_script.specs.CodeAt.{code_at, initial_value}
use Rattle.patch_script.specs.Micros.{is_go, micros, micros_after, start_of}
use Rattle.patch_script.specs.Plans.{IsOrderly, Plan, plan_of}
use Rattle.patch_script.specs.Refusals.{IsAdmitted, commands_of, has_go, is_init, names_no_thread}
use Rattle.patch_script.specs.private.Placing.{patched_by}
use Rattle.patch_script.proofs.Lists.{slice_get-append_right}
use Rattle.patch_script.proofs.MicroNames.{or_parts}
use Rattle.patch_script.proofs.ScriptRows.{orderly, threads_for}
use Rattle.patch_script.proofs.Steps.{front-cons, micros_after-append, stays}
use Rattle.patch_script.proofs.WordNumbers.{zero_at_first}
use Rattle.patch_script.proofs.WordValues.{code_at_held, held}
use Rattle.traced_run.specs.Recording.{RecordsAll}
use Rattle.traced_run.specs.RecordingScripts.{RecordsFromGo, changes_arg_handler, changes_log, is_left_done, patches_each, removes_arg_handler, removes_handler, sets_arg_handler, sets_handler, unpatches}
use Rattle.traced_run.proofs.RecordingCommands.{Stays, all_stay, argument_done, argument_stays, handler_done, handler_stays, head_done, head_stays, held-append, kept, left_done, log_done, state_stays}

-- ---- what holds of each command

none_of : (test : PatchCommand → Bool) (script : List PatchCommand) → list_any test script ≡ false → All (λ c. test c ≡ false) script
none_of test [] none = All-nil (λ c. test c ≡ false)
none_of test (c ∷ cs) none =
    let parts = or_parts (test c) (list_any test cs) none in
    All-cons (λ c. test c ≡ false) c cs parts.0 (none_of test cs parts.1)

both : (P Q : PatchCommand → Type 0) (script : List PatchCommand) → All P script → All Q script → All (λ c. P c × Q c) script
both P Q script p q = λ k d lt. (p k d lt, q k d lt)

-- ---- the commands of a script in order

admitted : (plan : Plan) → IsOrderly plan → (before : List PatchCommand) (command : PatchCommand) (rest : List PatchCommand)
    → commands_of plan.lines ≡ before ++ command ∷ rest → IsAdmitted plan.program plan.threads before command
admitted plan all before command rest is =
    let same : length before ≡ length before + 0 = omega arith in
    let at : slice_get (commands_of plan.lines) (length before) ≡ Some command =
    ap (λ cs. slice_get cs (length before)) is
    ∙ (ap (slice_get (before ++ command ∷ rest)) same ∙ slice_get-append_right before (command ∷ rest) 0) in
    let line = lined plan.lines (length before) command at in
    let front : take (length before) (commands_of plan.lines) ≡ before =
    ap (take (length before)) is ∙ take-append_seam before (command ∷ rest) in
    subst (IsAdmitted plan.program plan.threads before) line.2
    (subst (λ cs. IsAdmitted plan.program plan.threads cs line.0.1) front (all.admitted (length before) line.0 line.1))
  where
    lined : (lines : List (ℕ × PatchCommand)) (i : ℕ) (command : PatchCommand) → slice_get (commands_of lines) i ≡ Some command
        → (line : ℕ × PatchCommand) × (slice_get lines i ≡ Some line) × (line.1 ≡ command)
    lined [] i command at = absurd cc
    lined (line ∷ lines) zero command at = (line, refl, let same : line.1 ≡ command = cc in same)
    lined (line ∷ lines) (suc i) command at = lined lines i command at

-- no command names a thread that isn't there
abbrev Named : ℕ → PatchCommand → Type 0
Named threads command = names_no_thread threads command ≡ false

named_in : (plan : Plan) → IsOrderly plan → (before rest : List PatchCommand) → commands_of plan.lines ≡ before ++ rest → All (Named plan.threads) rest
named_in plan all before [] is = All-nil (Named plan.threads)
named_in plan all before (command ∷ rest) is =
    All-cons (Named plan.threads) command rest (admitted plan all before command rest is).thread
    (named_in plan all (before ++ command ∷ []) rest (is ∙ sym (append_assoc before (command ∷ []) rest)))

until_go : (before after : List PatchCommand) → has_go before ≡ false → take_while stays (before ++ commands.Go ∷ after) ≡ before
until_go [] after none = front-cons commands.Go after
until_go (x ∷ xs) after none =
    let parts = or_parts (is_go x) (has_go xs) none in
    front-cons x (xs ++ commands.Go ∷ after)
    ∙ (ap (λ b. cond (not b) (x ∷ take_while stays (xs ++ commands.Go ∷ after)) []) parts.0
    ∙ ap (λ t. x ∷ t) (until_go xs after parts.1))

-- ---- from `go` on

-- what is needed of a script: it switches all on, it has one `go`, and its threads are there
record IsSwitched (threads : ℕ) (script : List PatchCommand) : Type 0 where
  sets : RecordsFromGo script
  first : has_go sets.before ≡ false
  named : All (Named threads) sets.before
  named_after : All (Named threads) (commands.Go ∷ sets.after)

module _ (program : Program) (threads : ℕ) (script : List PatchCommand) (switched : IsSwitched threads script) where
  abbrev first_steps : List Micro
  first_steps = micros program threads switched.sets.before

  abbrev later_steps : List Micro
  later_steps = micros_after program threads (patched_by program switched.sets.before) (commands.Go ∷ switched.sets.after)

  in_two : micros program threads script ≡ first_steps ++ later_steps
  in_two =
      ap (micros program threads) switched.sets.script_is
      ∙ micros_after-append program threads [] switched.sets.before (commands.Go ∷ switched.sets.after)

  start_is : start_of program threads script ≡ length first_steps
  start_is =
      ap (λ cs. length (micros program threads cs))
      (ap (take_while stays) switched.sets.script_is ∙ until_go switched.sets.before switched.sets.after switched.first)

  -- a word that has its value at `go`, and keeps it
  from_go : (word value : ℕ) → held word first_steps (initial_value program word) ≡ value → All (Stays word value) later_steps
      → (place : ℕ) → start_of program threads script ≤ place → code_at program threads script place word ≡ value
  from_go word value done stay place low =
      let count = length first_steps in
      let n = place - count in
      let first = initial_value program word in
      let is : place ≡ count + n = omega (arith, start_is) in
      let prefix : take place (micros program threads script) ≡ first_steps ++ take n later_steps =
      ap (take place) in_two ∙ (ap (λ p. take p (first_steps ++ later_steps)) is ∙ take-append-add first_steps later_steps n) in
      code_at_held program threads script place word
      ∙ (ap (λ steps. held word steps first) prefix
      ∙ (held-append program threads word first_steps (take n later_steps) first
      ∙ kept program threads word value (take n later_steps) (held word first_steps first)
      (All-take (Stays word value) n later_steps stay) done))

  -- a test that no command after `go` passes
  abbrev Untouched : (PatchCommand → Bool) → PatchCommand → Type 0
  Untouched test command = (test command ≡ false) × Named threads command

  untouched : (test : PatchCommand → Bool) → test commands.Go ≡ false → list_any test switched.sets.after ≡ false
      → All (Untouched test) (commands.Go ∷ switched.sets.after)
  untouched test isnt none =
      both (λ c. test c ≡ false) (Named threads) (commands.Go ∷ switched.sets.after)
      (All-cons (λ c. test c ≡ false) commands.Go switched.sets.after isnt (none_of test switched.sets.after none)) switched.named_after

  heads_are : (place : ℕ) → start_of program threads script ≤ place → (s : ℕ) → s < length program.sleds
      → code_at program threads script place (word_of s Head) ≡ patched_head
  heads_are place low s within =
      from_go (word_of s Head) patched_head
      (left_done program threads (word_of s Head) patched_head (Named threads) patches_each unpatches (head_done program threads s within)
      (λ earlier c undone fine. head_stays program threads s within earlier c undone) [] switched.sets.before _ switched.named switched.sets.patched)
      (all_stay program threads (word_of s Head) patched_head (Untouched unpatches) (λ earlier c fine. head_stays program threads s within earlier c fine.0)
      (patched_by program switched.sets.before) (commands.Go ∷ switched.sets.after) (untouched unpatches refl switched.sets.none_unpatched))
      place low

  handler_is : (place : ℕ) → start_of program threads script ≤ place → code_at program threads script place (handler_word program) ≡ 1
  handler_is place low =
      from_go (handler_word program) 1
      (left_done program threads (handler_word program) 1 (Named threads) sets_handler removes_handler (handler_done program threads)
      (λ earlier c undone fine. handler_stays program threads earlier c undone) [] switched.sets.before _ switched.named switched.sets.handled)
      (all_stay program threads (handler_word program) 1 (Untouched removes_handler) (λ earlier c fine. handler_stays program threads earlier c fine.0)
      (patched_by program switched.sets.before) (commands.Go ∷ switched.sets.after) (untouched removes_handler refl switched.sets.none_removed))
      place low

  state_is : (place : ℕ) → start_of program threads script ≤ place → code_at program threads script place (state_word program) ≡ 2
  state_is place low =
      from_go (state_word program) 2
      (left_done program threads (state_word program) 2 (Named threads) is_init changes_log (log_done program threads)
      (state_stays program threads) [] switched.sets.before _ switched.named switched.sets.logged)
      (all_stay program threads (state_word program) 2 (Untouched changes_log) (λ earlier c fine. state_stays program threads earlier c fine.0 fine.1)
      (patched_by program switched.sets.before) (commands.Go ∷ switched.sets.after) (untouched changes_log refl switched.sets.log_kept))
      place low

  -- what the argument handler's word has at `go`
  abbrev argument_at_go : ℕ
  argument_at_go = held (arg_handler_word program threads) first_steps (initial_value program (arg_handler_word program threads))

  arguments_are : (value : ℕ) → argument_at_go ≡ value → (place : ℕ) → start_of program threads script ≤ place
      → code_at program threads script place (arg_handler_word program threads) ≡ value
  arguments_are value at_go place low =
      from_go (arg_handler_word program threads) value at_go
      (all_stay program threads (arg_handler_word program threads) value (Untouched changes_arg_handler)
      (λ earlier c fine. let parts = or_parts (sets_arg_handler c) (removes_arg_handler c) fine.0 in
      argument_stays program threads value earlier c (inl parts.0) (inl parts.1) fine.1)
      (patched_by program switched.sets.before) (commands.Go ∷ switched.sets.after) (untouched changes_arg_handler refl switched.sets.arguments_kept))
      place low

  set_at_go : is_left_done sets_arg_handler removes_arg_handler switched.sets.before ≡ true → argument_at_go ≡ 1
  set_at_go is =
      left_done program threads (arg_handler_word program threads) 1 (Named threads) sets_arg_handler removes_arg_handler (argument_done program threads)
      (λ earlier c undone fine. argument_stays program threads 1 earlier c (inr refl) (inl undone) fine) [] switched.sets.before _ switched.named is

  unset_at_go : list_any sets_arg_handler switched.sets.before ≡ false → argument_at_go ≡ 0
  unset_at_go none =
      kept program threads (arg_handler_word program threads) 0 first_steps (initial_value program (arg_handler_word program threads))
      (all_stay program threads (arg_handler_word program threads) 0 (Untouched sets_arg_handler)
      (λ earlier c fine. argument_stays program threads 0 earlier c (inl fine.0) (inr refl) fine.1) [] switched.sets.before
      (both (λ c. sets_arg_handler c ≡ false) (Named threads) switched.sets.before (none_of sets_arg_handler switched.sets.before none) switched.named))
      (zero_at_first program (arg_handler_word program threads) (omega arith))

  records_all : (value : ℕ) → argument_at_go ≡ value → RecordsAll program threads script value
  records_all value at_go place low high =
      let handler = handler_is place low in
      record {
        heads = heads_are place low;
        handler = λ is. (let none : 1 ≡ 0 = sym handler ∙ is in cc);
        state = state_is place low;
        arguments_are = arguments_are value at_go place low;
      }

-- ---- scripts of texts

switched_of : (program : Program) (threads : ℕ) (text : List ℕ) (plan : Plan) → plan_of program threads text ≡ Ok plan
    → RecordsFromGo (commands_of plan.lines) → IsSwitched threads (commands_of plan.lines)
switched_of program threads text plan read sets =
    let all = orderly program threads text plan read in
    let there = threads_for program threads text plan read in
    let named = named_in plan all [] (commands_of plan.lines) refl in
    let parts = subst (λ cs. All (Named plan.threads) cs) sets.script_is named in
    record {
      sets = sets;
      first = (admitted plan all sets.before commands.Go sets.after sets.script_is).place;
      named = subst (λ (n : ℕ). All (Named n) sets.before) there
          (subst (λ cs. All (Named plan.threads) cs) (take-append_seam sets.before (commands.Go ∷ sets.after))
          (All-take (Named plan.threads) (length sets.before) (sets.before ++ commands.Go ∷ sets.after) parts));
      named_after = subst (λ (n : ℕ). All (Named n) (commands.Go ∷ sets.after)) there (named_in plan all sets.before (commands.Go ∷ sets.after) sets.script_is);
    }

pub some_record : (program : Program) (threads : ℕ) (text : List ℕ) (plan : Plan) → plan_of program threads text ≡ Ok plan
    → RecordsFromGo (commands_of plan.lines) → (arguments : ℕ) × RecordsAll program threads (commands_of plan.lines) arguments
some_record program threads text plan read sets =
    let switched = switched_of program threads text plan read sets in
    let script = commands_of plan.lines in
    (argument_at_go program threads script switched, records_all program threads script switched _ refl)

pub all_with_arguments : (program : Program) (threads : ℕ) (text : List ℕ) (plan : Plan) → plan_of program threads text ≡ Ok plan
    → (sets : RecordsFromGo (commands_of plan.lines)) → is_left_done sets_arg_handler removes_arg_handler sets.before ≡ true
    → RecordsAll program threads (commands_of plan.lines) 1
unfolding switched_of
all_with_arguments program threads text plan read sets is =
    let switched = switched_of program threads text plan read sets in
    let script = commands_of plan.lines in
    records_all program threads script switched 1 (set_at_go program threads script switched is)

pub all_without_arguments : (program : Program) (threads : ℕ) (text : List ℕ) (plan : Plan) → plan_of program threads text ≡ Ok plan
    → (sets : RecordsFromGo (commands_of plan.lines)) → list_any sets_arg_handler sets.before ≡ false
    → RecordsAll program threads (commands_of plan.lines) 0
unfolding switched_of
all_without_arguments program threads text plan read sets none =
    let switched = switched_of program threads text plan read sets in
    let script = commands_of plan.lines in
    records_all program threads script switched 0 (unset_at_go program threads script switched none)
