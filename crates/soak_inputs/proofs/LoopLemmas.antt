-- The script and the schedule, line after line.
use Rattle.std.proofs.Common.{◌≡◌, ℕ, suc, ◌+◌, ◌-◌, ◌<◌, List, [], ◌∷◌, ◌++◌, refl, sym, ap, ◌∙◌, append_assoc, append-nil, arith}
use Rattle.text_lines.specs.Written.{written_line}
use Rattle.patch_script.specs.declared.command.PatchCommand.{PatchCommand}
use Rattle.patch_script.specs.WrittenScripts.{command_words, script_text}
use Rattle.step_sim.specs.declared.turns.Turns.{Turns}
use Rattle.step_sim.specs.WrittenSchedules.{schedule_text, turn_words}
use Rattle.patch_script.specs.declared.command.PatchCommand.TheVariants as commands
use Rattle.soak_inputs.specs.Draws.{drawn, next}
use Rattle.soak_inputs.specs.Scripts.{after_change, after_changes, change, change_of, changes}
use Rattle.soak_inputs.specs.Schedules.{after_turns, all_turns, turns_drawn}

-- one line less is left
one_less : (n k : ℕ) → k < n → n - k ≡ suc (n - (k + 1))
one_less n k lt = omega (arith, lt)

none_left : (n k : ℕ) → k ≡ n → n - k ≡ 0
none_left n k at = omega (arith, at)

-- ---- a text of items that are drawn one after another

-- Each item has a text of its own. Of n + 1 items that are drawn from x, the first is `item x`, and the others are drawn
-- from `after x`.
module _ {X : Type 0} (text_of : List X → List ℕ) (items : ℕ → ℕ → List X) (item : ℕ → X) (after : ℕ → ℕ) where
  pub drawn_more : ((n x : ℕ) → items (suc n) x ≡ item x ∷ items n (after x)) → ((y : X) (ys : List X) → text_of (y ∷ ys) ≡ text_of (y ∷ []) ++ text_of ys)
      → (n k x : ℕ) (text more whole : List ℕ) → k < n → text ++ text_of (items (n - k) x) ≡ whole
      → more ≡ text ++ text_of (item x ∷ []) → more ++ text_of (items (n - (k + 1)) (after x)) ≡ whole
  drawn_more first apart n k x text more whole lt so_far e =
      let left = items (n - (k + 1)) (after x) in
      ap (λ t. t ++ text_of left) e ∙ append_assoc text (text_of (item x ∷ [])) (text_of left)
      ∙ ap (λ t. text ++ t) (sym (ap (λ m. text_of (items m x)) (one_less n k lt) ∙ ap text_of (first (n - (k + 1)) x) ∙ apart (item x) left))
      ∙ so_far

  pub drawn_all : ((x : ℕ) → items 0 x ≡ []) → text_of [] ≡ [] → (n k x : ℕ) (text whole : List ℕ) → k ≡ n
      → text ++ text_of (items (n - k) x) ≡ whole → text ≡ whole
  drawn_all none empty n k x text whole at so_far =
      sym (ap (λ m. text ++ text_of (items m x)) (none_left n k at) ∙ ap (λ ys. text ++ text_of ys) (none x) ∙ ap (λ t. text ++ t) empty ∙ append-nil text) ∙ so_far

-- ---- the script

changes_first : (n x : ℕ) → changes (suc n) x ≡ change x ∷ changes n (after_change x)
unfolding changes
changes_first n x = refl

script_first : (command : PatchCommand) (script : List PatchCommand) → script_text (command ∷ script) ≡ script_text (command ∷ []) ++ script_text script
script_first command script = ap (λ t. t ++ script_text script) (sym (append-nil (written_line (command_words command) ++ 10 ∷ [])))

pub change_more : (n k x : ℕ) (text more whole : List ℕ) → k < n → text ++ script_text (changes (n - k) x) ≡ whole
    → more ≡ text ++ script_text (change x ∷ []) → more ++ script_text (changes (n - (k + 1)) (after_change x)) ≡ whole
change_more = drawn_more script_text changes change after_change changes_first script_first

changes_none : (x : ℕ) → changes 0 x ≡ []
unfolding changes
changes_none x = refl

pub changes_done : (n k x : ℕ) (text whole : List ℕ) → k ≡ n → text ++ script_text (changes (n - k) x) ≡ whole → text ≡ whole
changes_done = drawn_all script_text changes change after_change changes_none refl

after_changes_first : (n x : ℕ) → after_changes (suc n) x ≡ after_changes n (after_change x)
unfolding after_changes
after_changes_first n x = refl

pub after_change_more : (n k x last : ℕ) → k < n → after_changes (n - k) x ≡ last → after_changes (n - (k + 1)) (after_change x) ≡ last
after_change_more n k x last lt so_far = sym (ap (λ m. after_changes m x) (one_less n k lt) ∙ after_changes_first (n - (k + 1)) x) ∙ so_far

after_changes_none : (x : ℕ) → after_changes 0 x ≡ x
unfolding after_changes
after_changes_none x = refl

pub after_changes_done : (n k x last : ℕ) → k ≡ n → after_changes (n - k) x ≡ last → x ≡ last
after_changes_done n k x last at so_far = sym (ap (λ m. after_changes m x) (none_left n k at) ∙ after_changes_none x) ∙ so_far

-- ---- the schedule

schedule_first : (t : Turns) (all : List Turns) → schedule_text (t ∷ all) ≡ schedule_text (t ∷ []) ++ schedule_text all
schedule_first t all = ap (λ s. s ++ schedule_text all) (sym (append-nil (written_line (turn_words t) ++ 10 ∷ [])))

turns_first : (n x : ℕ) → all_turns (suc n) x ≡ turns_drawn x ∷ all_turns n (after_turns x)
unfolding all_turns
turns_first n x = refl

turns_none : (x : ℕ) → all_turns 0 x ≡ []
unfolding all_turns
turns_none x = refl

pub turns_more : (n k x : ℕ) (text more whole : List ℕ) → k < n → text ++ schedule_text (all_turns (n - k) x) ≡ whole
    → more ≡ text ++ schedule_text (turns_drawn x ∷ []) → more ++ schedule_text (all_turns (n - (k + 1)) (after_turns x)) ≡ whole
turns_more = drawn_more schedule_text all_turns turns_drawn after_turns turns_first schedule_first

pub turns_done : (n k x : ℕ) (text whole : List ℕ) → k ≡ n → text ++ schedule_text (all_turns (n - k) x) ≡ whole → text ≡ whole
turns_done = drawn_all schedule_text all_turns turns_drawn after_turns turns_none refl

-- ---- changes without an id

pub change_removes : (x : ℕ) → drawn 4 x ≡ 2 → change x ≡ commands.RemoveHandler
change_removes x e = ap (λ d. change_of d (1 + drawn 64 (next x))) e

pub change_sets : (x : ℕ) → drawn 4 x ≡ 3 → change x ≡ commands.SetHandler
change_sets x e = ap (λ d. change_of d (1 + drawn 64 (next x))) e
