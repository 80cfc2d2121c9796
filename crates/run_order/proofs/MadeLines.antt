-- The lines of a schedule that is being made.
use Rattle.std.proofs.Common.{◌≡◌, ℕ, zero, suc, ◌+◌, List, [], ◌∷◌, ◌++◌, append-nil, append_assoc, refl, sym, ap, ◌∙◌, arith}
use Rattle.std.specs.Prelude.{replicate}
use Rattle.step_sim.specs.declared.turns.Turns.{Turns}
use Rattle.step_sim.specs.declared.turns.Turns.TheVariants.{Patcher, Thread}
use Rattle.run_order.specs.declared.lines.ScheduleLines.{ScheduleLines}
use Rattle.run_order.specs.private.Ordered.{joined, joined_to}
use Rattle.run_order.specs.private.Lines.{HasJoined, steps_line}

line_alone : (steps : ℕ) → joined (steps_line steps ++ []) ≡ steps_line steps
line_alone zero = refl
line_alone (suc steps) = refl

-- with the micro steps that wait they are whole
pub all_joined : (turns : List Turns) (lines : ScheduleLines) → HasJoined turns lines
    → lines.lines.items ++ steps_line lines.steps ≡ joined turns
all_joined turns lines are =
    ap (λ (ls : List Turns). lines.lines.items ++ ls) (sym (line_alone lines.steps)) ∙ sym (are.goes_on [])
    ∙ ap joined (append-nil turns)

-- ---- more micro steps

one_more : (steps : ℕ) (more : List Turns) → joined (steps_line steps ++ Patcher 1 ∷ more) ≡ joined (steps_line (suc steps) ++ more)
one_more zero more = refl
one_more (suc steps) more = on_line (joined more)
  where
    on_line : (later : List Turns) → joined_to (Patcher (suc steps)) (joined_to (Patcher 1) later) ≡ joined_to (Patcher (suc (suc steps))) later
    on_line [] = ap (λ n. Patcher n ∷ []) (let e : suc steps + 1 ≡ suc (suc steps) = omega arith in e)
    on_line (Thread thread count ∷ later) = ap (λ n. Patcher n ∷ Thread thread count ∷ later) (let e : suc steps + 1 ≡ suc (suc steps) = omega arith in e)
    on_line (Patcher count ∷ later) = ap (λ n. Patcher n ∷ later) (let e : suc steps + (1 + count) ≡ suc (suc steps) + count = omega arith in e)

many_more : (n steps : ℕ) (more : List Turns) → joined (steps_line steps ++ (replicate n (Patcher 1) ++ more)) ≡ joined (steps_line (steps + n) ++ more)
many_more zero steps more = ap (λ s. joined (steps_line s ++ more)) (let e : steps ≡ steps + 0 = omega arith in e)
many_more (suc n) steps more =
    one_more steps (replicate n (Patcher 1) ++ more) ∙ many_more n (suc steps) more
    ∙ ap (λ s. joined (steps_line s ++ more)) (let e : suc steps + n ≡ steps + suc n = omega arith in e)

pub steps_joined : (count : ℕ) (turns : List Turns) (old new : ScheduleLines) → new.lines.items ≡ old.lines.items → new.steps ≡ old.steps + count
    → HasJoined turns old → HasJoined (turns ++ replicate count (Patcher 1)) new
steps_joined count turns old new same steps are = record {
  goes_on = λ more.
      ap joined (append_assoc turns (replicate count (Patcher 1)) more) ∙ are.goes_on (replicate count (Patcher 1) ++ more)
      ∙ ap (λ (ls : List Turns). old.lines.items ++ ls) (many_more count old.steps more)
      ∙ ap (λ s. old.lines.items ++ joined (steps_line s ++ more)) (sym steps)
      ∙ ap (λ (ls : List Turns). ls ++ joined (steps_line new.steps ++ more)) (sym same);
}
