-- What the commands have done, with one more command.
use Rattle.std.proofs.Common.{◌≡◌, ℕ, ◌<◌, zero, suc, List, [], ◌∷◌, ◌++◌, ◌||◌, Bool, true, false, cond, not, length, get_or, Option, Some, None, refl, sym, ap, subst, ◌∙◌, ◌==◌, inl, inr, arith, eqb-true, eq-eqb}
use Rattle.std.specs.Prelude.{is_some}
use Rattle.std.specs.Option.{option_or}
use Rattle.std.specs.List.{list_any}
use Rattle.std.proofs.lemmas.Bool.{cases_Bool}
use Rattle.std.proofs.lemmas.List.Folds.{list_any_none}
use Rattle.patch_script.specs.declared.command.PatchCommand.{PatchCommand}
use Rattle.patch_script.specs.declared.command.PatchCommand.TheVariants as commands
use Rattle.patch_script.specs.declared.standing.Hold.{Hold}
use Rattle.patch_script.specs.declared.standing.Hold.TheVariants.{Free, Held, Released}
use Rattle.patch_script.specs.declared.standing.Holds.{Holds}
use Rattle.patch_script.specs.declared.standing.Log.{Log}
use Rattle.patch_script.specs.declared.standing.Log.TheVariants.{Uninitialized, Initialized, Finalized}
use Rattle.patch_script.specs.declared.standing.Standing.{Standing}
use Rattle.patch_script.specs.Micros.{is_go, hold_by, hold_of}
use Rattle.patch_script.specs.Refusals.{releases, is_released, is_init, is_finalize, breaks_hold, breaks_log, holds_for_good}
use Rattle.patch_script.specs.private.Standing.{hold_in, passing_of, was_released, is_held, any_held, was_initialized, was_finalized, released_of, hold_after, log_after, Follows, AreHolds, IsStanding}
use Rattle.patch_script.proofs.Lists.{list_any-last}

or_false : (a : Bool) → (a || false) ≡ a
or_false true = refl
or_false false = refl

or_true : (a : Bool) → (a || true) ≡ true
or_true true = refl
or_true false = refl

or_second : (a b : Bool) → b ≡ true → (a || b) ≡ true
or_second true b h = refl
or_second false b h = h

or_parts : (a b : Bool) → (a || b) ≡ false → (a ≡ false) × (b ≡ false)
or_parts true b h = cc
or_parts false b h = (refl, h)

-- a condition that holds, if the row that asks for it passes
holds_then : (a b : Bool) → (not a || b) ≡ false → a ≡ true
holds_then true b h = refl
holds_then false b h = cc

pub option_or-none : (o : Option ℕ) → option_or o None ≡ o
option_or-none None = refl
option_or-none (Some n) = refl

pub option_or_assoc : (a b c : Option ℕ) → option_or a (option_or b c) ≡ option_or (option_or a b) c
option_or_assoc None b c = refl
option_or_assoc (Some n) b c = refl

none_if : (o : Option ℕ) → is_some o ≡ false → o ≡ None
none_if None h = refl
none_if (Some n) h = cc

-- the hold with one more command
hold_of-last : (thread : ℕ) (before : List PatchCommand) (command : PatchCommand) → hold_of thread (before ++ command ∷ []) ≡ option_or (hold_of thread before) (hold_by thread command)
hold_of-last thread [] command = option_or-none (hold_by thread command)
hold_of-last thread (c ∷ cs) command =
    ap (option_or (hold_by thread c)) (hold_of-last thread cs command) ∙ option_or_assoc (hold_by thread c) (hold_of thread cs) (hold_by thread command)

-- ---- the log

fresh_log : (log : Log) → was_initialized log ≡ false → was_finalized log ≡ false
fresh_log Uninitialized h = refl
fresh_log Initialized h = refl
fresh_log Finalized h = cc

init_after : (command : PatchCommand) (log : Log) (before : List PatchCommand) → was_initialized log ≡ list_any is_init before → breaks_log before command ≡ false
    → was_initialized (log_after command log) ≡ (list_any is_init before || is_init command)
init_after commands.Init log before is fits = sym (or_true (list_any is_init before))
init_after commands.Finalize log before is fits = sym (or_false (list_any is_init before) ∙ holds_then (list_any is_init before) (list_any is_finalize before) fits)
init_after command log before is fits = is ∙ sym (or_false (list_any is_init before))

final_after : (command : PatchCommand) (log : Log) (before : List PatchCommand) → was_initialized log ≡ list_any is_init before → was_finalized log ≡ list_any is_finalize before
    → breaks_log before command ≡ false → was_finalized (log_after command log) ≡ (list_any is_finalize before || is_finalize command)
final_after commands.Init log before init is fits = sym (or_false (list_any is_finalize before) ∙ sym is ∙ fresh_log log (init ∙ fits))
final_after commands.Finalize log before init is fits = sym (or_true (list_any is_finalize before))
final_after command log before init is fits = is ∙ sym (or_false (list_any is_finalize before))

-- ---- the holds

same_passing : (b : Bool) (hold : Hold) → passing_of (cond b (released_of hold) hold) ≡ passing_of hold
same_passing true Free = refl
same_passing true (Held passing) = refl
same_passing true (Released passing) = refl
same_passing false hold = refl

passing_after : (thread : ℕ) (command : PatchCommand) (hold : Hold) (before : List PatchCommand) → passing_of hold ≡ hold_of thread before → breaks_hold before command ≡ false
    → passing_of (hold_after thread command hold) ≡ option_or (hold_of thread before) (hold_by thread command)
passing_after thread (commands.Hold held passing) hold before is fits = elim (cases_Bool (held == thread)) [
  | inl so ↦
      let none : hold_of thread before ≡ None = none_if (hold_of thread before) (subst (λ (n : ℕ). is_some (hold_of n before) ≡ false) (eqb-true held thread so) fits) in
      ap (λ b. passing_of (cond b (Held passing) hold)) so
      ∙ sym (ap (λ o. option_or o (cond (held == thread) (Some passing) None)) none ∙ ap (λ b. cond b (Some passing) None) so)
  | inr isnt ↦
      ap (λ b. passing_of (cond b (Held passing) hold)) isnt ∙ is
      ∙ sym (ap (λ b. option_or (hold_of thread before) (cond b (Some passing) None)) isnt ∙ option_or-none (hold_of thread before))
]
passing_after thread (commands.Release released) hold before is fits = same_passing (released == thread) hold ∙ is ∙ sym (option_or-none (hold_of thread before))
passing_after thread command hold before is fits = is ∙ sym (option_or-none (hold_of thread before))

free_if : (hold : Hold) → passing_of hold ≡ None → was_released hold ≡ false
free_if Free h = refl
free_if (Held passing) h = cc
free_if (Released passing) h = cc

released_if : (hold : Hold) → is_some (passing_of hold) ≡ true → was_released (released_of hold) ≡ true
released_if Free h = cc
released_if (Held passing) h = refl
released_if (Released passing) h = refl

released_after : (thread : ℕ) (command : PatchCommand) (hold : Hold) (before : List PatchCommand) → passing_of hold ≡ hold_of thread before → was_released hold ≡ is_released thread before
    → breaks_hold before command ≡ false → was_released (hold_after thread command hold) ≡ (is_released thread before || releases thread command)
released_after thread (commands.Hold held passing) hold before at is fits = elim (cases_Bool (held == thread)) [
  | inl so ↦
      let none : hold_of thread before ≡ None = none_if (hold_of thread before) (subst (λ (n : ℕ). is_some (hold_of n before) ≡ false) (eqb-true held thread so) fits) in
      ap (λ b. was_released (cond b (Held passing) hold)) so ∙ sym (or_false (is_released thread before) ∙ sym is ∙ free_if hold (at ∙ none))
  | inr isnt ↦ ap (λ b. was_released (cond b (Held passing) hold)) isnt ∙ is ∙ sym (or_false (is_released thread before))
]
released_after thread (commands.Release released) hold before at is fits = elim (cases_Bool (released == thread)) [
  | inl so ↦
      let held : is_some (hold_of thread before) ≡ true =
      subst (λ (n : ℕ). is_some (hold_of n before) ≡ true) (eqb-true released thread so) (holds_then (is_some (hold_of released before)) (is_released released before) fits) in
      ap (λ b. was_released (cond b (released_of hold) hold)) so ∙ released_if hold (ap is_some at ∙ held)
      ∙ sym (ap (λ b. is_released thread before || b) so ∙ or_true (is_released thread before))
  | inr isnt ↦
      ap (λ b. was_released (cond b (released_of hold) hold)) isnt ∙ is
      ∙ sym (ap (λ b. is_released thread before || b) isnt ∙ or_false (is_released thread before))
]
released_after thread command hold before at is fits = is ∙ sym (or_false (is_released thread before))

-- ---- all of it

pub standing_more : (before : List PatchCommand) (command : PatchCommand) (old new : Standing) → IsStanding before old → Follows old command new
    → breaks_hold before command ≡ false → breaks_log before command ≡ false → IsStanding (before ++ command ∷ []) new
standing_more before command old new is more hold log = record {
  going = more.going ∙ ap (λ b. b || is_go command) is.going ∙ sym (list_any-last is_go before command);
  initialized = ap was_initialized more.log ∙ init_after command old.log before is.initialized log ∙ sym (list_any-last is_init before command);
  finalized = ap was_finalized more.log ∙ final_after command old.log before is.initialized is.finalized log ∙ sym (list_any-last is_finalize before command);
  holds = record {
    passings = λ thread. ap passing_of (more.holds thread)
        ∙ passing_after thread command (hold_in old.holds thread) before (is.holds.passings thread) hold ∙ sym (hold_of-last thread before command);
    released = λ thread. ap was_released (more.holds thread)
        ∙ released_after thread command (hold_in old.holds thread) before (is.holds.passings thread) (is.holds.released thread) hold
        ∙ sym (list_any-last (releases thread) before command);
  };
}

-- ---- holds for good

pub held_found : (thread : ℕ) (script part : List PatchCommand) (passing : ℕ) → hold_of thread part ≡ Some passing → is_released thread script ≡ false
    → list_any (holds_for_good script) part ≡ true
held_found thread script [] passing at free = cc
held_found thread script (commands.Hold held before ∷ cs) passing at free = elim (cases_Bool (held == thread)) [
  | inl so ↦
      let still : is_released held script ≡ false = subst (λ (n : ℕ). is_released n script ≡ false) (sym (eqb-true held thread so)) free in
      ap (λ b. not b || list_any (holds_for_good script) cs) still
  | inr isnt ↦ or_second (not (is_released held script)) (list_any (holds_for_good script) cs)
      (held_found thread script cs passing (sym (ap (λ b. option_or (cond b (Some before) None) (hold_of thread cs)) isnt) ∙ at) free)
]
held_found thread script (command ∷ cs) passing at free = held_found thread script cs passing at free

or_some : (a b : Option ℕ) → is_some b ≡ true → is_some (option_or a b) ≡ true
or_some None b h = h
or_some (Some n) b h = refl

hold_somewhere : (thread passing : ℕ) (script : List PatchCommand) (k : ℕ) (d : PatchCommand) → k < length script → get_or script k d ≡ commands.Hold thread passing
    → is_some (hold_of thread script) ≡ true
hold_somewhere thread passing [] k d lt at = absurd (omega arith)
hold_somewhere thread passing (c ∷ cs) zero d lt at =
    ap (λ (x : PatchCommand). is_some (option_or (hold_by thread x) (hold_of thread cs))) at
    ∙ ap (λ b. is_some (option_or (cond b (Some passing) None) (hold_of thread cs))) (eq-eqb thread thread refl)
hold_somewhere thread passing (c ∷ cs) (suc k) d lt at = or_some (hold_by thread c) (hold_of thread cs) (hold_somewhere thread passing cs k d (omega arith) at)

not_held_in : (holds : List Hold) → list_any is_held holds ≡ false → (n : ℕ) → is_held (get_or holds n Free) ≡ false
not_held_in [] isnt n = refl
not_held_in (h ∷ hs) isnt zero = (or_parts (is_held h) (list_any is_held hs) isnt).0
not_held_in (h ∷ hs) isnt (suc n) = not_held_in hs (or_parts (is_held h) (list_any is_held hs) isnt).1 n

not_held : (holds : Holds) → any_held holds ≡ false → (thread : ℕ) → is_held (hold_in holds thread) ≡ false
not_held holds isnt zero = refl
not_held holds isnt (suc n) = not_held_in holds.threads isnt n

then_released : (hold : Hold) → is_some (passing_of hold) ≡ true → is_held hold ≡ false → was_released hold ≡ true
then_released Free some isnt = cc
then_released (Held passing) some isnt = cc
then_released (Released passing) some isnt = refl

not_for_good : (script : List PatchCommand) (holds : Holds) → AreHolds script holds → any_held holds ≡ false → (command : PatchCommand)
    → ((thread passing : ℕ) → command ≡ commands.Hold thread passing → is_some (hold_of thread script) ≡ true) → holds_for_good script command ≡ false
not_for_good script holds are isnt (commands.Hold thread passing) some =
    ap not (sym (are.released thread) ∙ then_released (hold_in holds thread) (ap is_some (are.passings thread) ∙ some thread passing refl) (not_held holds isnt thread))
not_for_good script holds are isnt command some = refl

held_at : (script : List PatchCommand) (holds : Holds) → AreHolds script holds → (hold : Hold) (thread : ℕ) → hold ≡ hold_in holds thread → is_held hold ≡ true
    → list_any (holds_for_good script) script ≡ true
held_at script holds are Free thread is held = cc
held_at script holds are (Held passing) thread is held =
    held_found thread script script passing (sym (are.passings thread) ∙ sym (ap passing_of is)) (sym (are.released thread) ∙ sym (ap was_released is))
held_at script holds are (Released passing) thread is held = cc

-- one of the holds holds a thread
held_place : (holds : List Hold) → list_any is_held holds ≡ true → (n : ℕ) × (is_held (get_or holds n Free) ≡ true)
held_place [] so = absurd cc
held_place (h ∷ hs) so = elim (cases_Bool (is_held h)) [
  | inl here ↦ (0, here)
  | inr other ↦ let there = held_place hs (sym (ap (λ b. b || list_any is_held hs) other) ∙ so) in (suc there.0, there.1)
]

pub any_held-is : (script : List PatchCommand) (standing : Standing) → IsStanding script standing → any_held standing.holds ≡ list_any (holds_for_good script) script
any_held-is script standing is = elim (cases_Bool (any_held standing.holds)) [
  | inl so ↦
      let there = held_place standing.holds.threads so in
      so ∙ sym (held_at script standing.holds is.holds (hold_in standing.holds (suc there.0)) (suc there.0) refl there.1)
  | inr isnt ↦
      isnt ∙ sym (list_any_none (holds_for_good script) script (λ k d lt. not_for_good script standing.holds is.holds isnt (get_or script k d)
      (λ thread passing at. hold_somewhere thread passing script k d lt at)))
]
