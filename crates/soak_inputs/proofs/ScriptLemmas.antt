-- The script of any number is in order, and holds no thread.
use Rattle.std.proofs.Common.{◌≡◌, ℕ, zero, suc, ◌+◌, ◌/◌, ◌%◌, ◌^◌, ◌≤◌, Bool, true, false, cond, List, [], ◌∷◌, length, take, None, Some, refl, sym, ap, subst, ◌∙◌, ◌==◌, arith}
use Rattle.std.specs.Prelude.{All, find, nat_lt, option_map, slice_get}
use Rattle.std.specs.List.{AllByRecursion, enumerate_from, list_any}
use Rattle.std.proofs.lemmas.Bool.{le-ltb, ne_eqb, or_from}
use Rattle.std.proofs.lemmas.List.Elements.{All-from_recursion}
use Rattle.std.proofs.lemmas.List.FromFn.{length-enumerate_from}
use Rattle.std.proofs.lemmas.Option.{none-some, same_Some}
use Rattle.xray_image.specs.Program.{Program}
use Rattle.xray_image.specs.Ids.{id_count}
use Rattle.patch_script.specs.declared.command.PatchCommand.{PatchCommand}
use Rattle.patch_script.specs.declared.command.PatchCommand.TheVariants as commands
use Rattle.patch_script.specs.Plans.{IsOrderly, is_waiting, waiting_line}
use Rattle.patch_script.specs.Refusals.{commands_of, holds_for_good, IsAdmitted}
use Rattle.patch_script.specs.WrittenScripts.{HasWords, written_plan}
use Rattle.soak_inputs.specs.Draws.{drawn, next}
use Rattle.soak_inputs.specs.Scripts.{after_change, change, changes, script}

numbered : (n : ℕ) (all : List PatchCommand) → commands_of (enumerate_from n all) ≡ all
numbered n [] = refl
numbered n (command ∷ all) = ap (λ (cs : List PatchCommand). command ∷ cs) (numbered (n + 1) all)

command_at : (n i : ℕ) (all : List PatchCommand) (line : ℕ × PatchCommand) → slice_get (enumerate_from n all) i ≡ Some line → slice_get all i ≡ Some line.1
command_at n i [] line at = absurd (none-some line at)
command_at n zero (command ∷ all) line at = ap (option_map (λ (l : ℕ × PatchCommand). l.1)) at
command_at n (suc i) (command ∷ all) line at = command_at (n + 1) i all line at

-- ---- changes

-- the id of a change is one of 64
id_least : (n : ℕ) → 1 ≤ 1 + n % 64
id_least n = omega arith

id_most : (n : ℕ) → 1 + n % 64 ≤ 64
id_most n = omega arith

-- a change may follow whatever commands, and holds nobody
record IsCalm (program : Program) (command : PatchCommand) : Type 0 where
  admitted : (before : List PatchCommand) → IsAdmitted program 4 before command
  holds : (all : List PatchCommand) → holds_for_good all command ≡ false
  waits : is_waiting command ≡ false

calm : (program : Program) (a b c : Bool) (id : ℕ) → 64 ≤ id_count program → 1 ≤ id → id ≤ 64
    → IsCalm program (cond a (commands.PatchFunction id) (cond b (commands.UnpatchFunction id) (cond c commands.RemoveHandler commands.SetHandler)))
calm program true b c id ids least most = record {
  admitted = λ before. record { function = or_from (id == 0) (nat_lt (id_count program) id) (ne_eqb id 0 (λ e. omega (arith, e, least))) (le-ltb (id_count program) id (omega (arith, most, ids))); thread = refl; place = refl; hold = refl; log = refl; wait = refl };
  holds = λ all. refl;
  waits = refl;
}
calm program false true c id ids least most = record {
  admitted = λ before. record { function = or_from (id == 0) (nat_lt (id_count program) id) (ne_eqb id 0 (λ e. omega (arith, e, least))) (le-ltb (id_count program) id (omega (arith, most, ids))); thread = refl; place = refl; hold = refl; log = refl; wait = refl };
  holds = λ all. refl;
  waits = refl;
}
calm program false false true id ids least most = record {
  admitted = λ before. record { function = refl; thread = refl; place = refl; hold = refl; log = refl; wait = refl };
  holds = λ all. refl;
  waits = refl;
}
calm program false false false id ids least most = record {
  admitted = λ before. record { function = refl; thread = refl; place = refl; hold = refl; log = refl; wait = refl };
  holds = λ all. refl;
  waits = refl;
}

pub changes_count : (count x : ℕ) → length (changes count x) ≡ count
unfolding changes
changes_count zero x = refl
changes_count (suc count) x = omega (arith, changes_count count (after_change x))

-- the numbers of a change fit its words
change_words : (a b c : Bool) (id : ℕ) → id ≤ 64
    → HasWords (cond a (commands.PatchFunction id) (cond b (commands.UnpatchFunction id) (cond c commands.RemoveHandler commands.SetHandler)))
change_words true b c id most = omega (arith, most)
change_words false true c id most = omega (arith, most)
change_words false false true id most = tt
change_words false false false id most = tt

changes_words : (count x : ℕ) → AllByRecursion HasWords (changes count x)
unfolding changes
changes_words zero x = tt
changes_words (suc count) x =
    let id = 1 + drawn 64 (next x) in (
      change_words (drawn 4 x == 0) (drawn 4 x == 1) (drawn 4 x == 2) id (id_most (next (next x) / 2 ^ 33)),
      changes_words count (after_change x),
    )

pub script_words : (x : ℕ) → All HasWords (script x)
script_words x = All-from_recursion HasWords (script x) (tt, (tt, (tt, (tt, changes_words 100 x))))

module _ (program : Program) (ids : 64 ≤ id_count program) where
  change_calm : (x : ℕ) → IsCalm program (change x)
  change_calm x =
      let id = 1 + drawn 64 (next x) in
      calm program (drawn 4 x == 0) (drawn 4 x == 1) (drawn 4 x == 2) id ids (id_least (next (next x) / 2 ^ 33)) (id_most (next (next x) / 2 ^ 33))

  changes_calm : (count x : ℕ) → AllByRecursion (IsCalm program) (changes count x)
  unfolding changes
  changes_calm zero x = tt
  changes_calm (suc count) x = (change_calm x, changes_calm count (after_change x))

  calm_at : (all : List PatchCommand) (i : ℕ) (command : PatchCommand) → AllByRecursion (IsCalm program) all → slice_get all i ≡ Some command → IsCalm program command
  calm_at [] i command h at = absurd (none-some command at)
  calm_at (c ∷ all) zero command h at = subst (IsCalm program) (same_Some c command at) h.0
  calm_at (c ∷ all) (suc i) command h at = calm_at all i command h.1 at

  none_holds : (script all : List PatchCommand) → AllByRecursion (IsCalm program) all → list_any (holds_for_good script) all ≡ false
  none_holds script [] h = refl
  none_holds script (c ∷ all) h = or_from (holds_for_good script c) (list_any (holds_for_good script) all) (h.0.holds script) (none_holds script all h.1)

  none_waits : (n : ℕ) (all : List PatchCommand) → AllByRecursion (IsCalm program) all → find (λ (line : ℕ × PatchCommand). is_waiting line.1) (enumerate_from n all) ≡ None
  none_waits n [] h = refl
  none_waits n (c ∷ all) h =
      ap (λ t. cond t (Some (n, c)) (find (λ (line : ℕ × PatchCommand). is_waiting line.1) (enumerate_from (n + 1) all))) h.0.waits ∙ none_waits (n + 1) all h.1

  -- ---- the script

  abbrev first_four : List PatchCommand → List PatchCommand
  first_four all = commands.Patch ∷ commands.SetHandler ∷ commands.Init ∷ commands.Go ∷ all

  -- what may follow the commands before it
  admitted_at : (all : List PatchCommand) → AllByRecursion (IsCalm program) all → (i : ℕ) (command : PatchCommand) → slice_get (first_four all) i ≡ Some command
      → IsAdmitted program 4 (take i (first_four all)) command
  admitted_at all h zero command at =
      subst (λ (c : PatchCommand). IsAdmitted program 4 [] c) (same_Some commands.Patch command at)
      (record { function = refl; thread = refl; place = refl; hold = refl; log = refl; wait = refl })
  admitted_at all h (suc zero) command at =
      subst (λ (c : PatchCommand). IsAdmitted program 4 (take 1 (first_four all)) c) (same_Some commands.SetHandler command at)
      (record { function = refl; thread = refl; place = refl; hold = refl; log = refl; wait = refl })
  admitted_at all h (suc (suc zero)) command at =
      subst (λ (c : PatchCommand). IsAdmitted program 4 (take 2 (first_four all)) c) (same_Some commands.Init command at)
      (record { function = refl; thread = refl; place = refl; hold = refl; log = refl; wait = refl })
  admitted_at all h (suc (suc (suc zero))) command at =
      subst (λ (c : PatchCommand). IsAdmitted program 4 (take 3 (first_four all)) c) (same_Some commands.Go command at)
      (record { function = refl; thread = refl; place = refl; hold = refl; log = refl; wait = refl })
  admitted_at all h (suc (suc (suc (suc i)))) command at = (calm_at all i command h at).admitted (take (suc (suc (suc (suc i)))) (first_four all))

  pub script_orderly : (x : ℕ) → IsOrderly (written_plan program 4 (script x))
  script_orderly x =
      let all = script x in
      let same : commands_of (enumerate_from 1 all) ≡ all = numbered 1 all in
      let quiet = changes_calm 100 x in
      record {
        admitted = λ i line at. subst (λ (cs : List PatchCommand). IsAdmitted program 4 (take i cs) line.1) (sym same) (admitted_at (changes 100 x) quiet i line.1 (command_at 1 i all line at));
        goes = refl;
        released = ap (λ (cs : List PatchCommand). list_any (holds_for_good cs) cs) same ∙ none_holds all (changes 100 x) quiet;
        few = omega (arith, length-enumerate_from 1 all, changes_count 100 x);
      }

  pub script_waits : (x : ℕ) → waiting_line (enumerate_from 1 (script x)) ≡ None
  script_waits x = ap (option_map (λ (line : ℕ × PatchCommand). line.0)) (none_waits 5 (changes 100 x) (changes_calm 100 x))
