-- The text of an order is that of its lines.
use Rattle.std.proofs.Common.{◌≡◌, ℕ, List, [], ◌∷◌, ◌++◌, append_assoc, refl, sym, ap, ◌∙◌}
use Rattle.std.specs.List.{flat_map}
use Rattle.text_lines.specs.Written.{written_line}
use Rattle.step_sim.specs.declared.turns.Turns.{Turns}
use Rattle.step_sim.specs.declared.turns.Turns.TheVariants.{Thread, Patcher}
use Rattle.step_sim.specs.WrittenSchedules.{schedule_text, turn_words}
use Rattle.run_order.specs.private.Texts.{line_text}

line_is : (turns : Turns) → written_line (turn_words turns) ++ 10 ∷ [] ≡ line_text turns
line_is (Thread thread count) = simp append_assoc
line_is (Patcher count) = refl

pub lines_text : (turns : List Turns) → flat_map line_text turns ≡ schedule_text turns
lines_text [] = refl
lines_text (line ∷ turns) =
    ap (λ (bytes : List ℕ). line_text line ++ bytes) (lines_text turns) ∙ ap (λ (bytes : List ℕ). bytes ++ schedule_text turns) (sym (line_is line))
