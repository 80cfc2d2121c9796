use Rattle.std.proofs.Common.{◌∙◌, ℕ, List, ap, sym}
use Rattle.text_lines.specs.Words.{words_of}
use Rattle.run_order.specs.FreeScripts.{begins_wait}
use Rattle.run_order.proofs.WholeLines.{first_line_in, no_line_in}
use Rattle.run_order.proofs.free.is_wait.Goals as goal

pub returns-in-Some : goal.returns-in-Some
returns-in-Some c =
    c.begins_wait.ensures ∙ ap begins_wait c.words.ensures.words
    ∙ ap (λ (line : List ℕ). begins_wait (words_of line)) (sym (first_line_in c.args.line.now _ _ _ (sym c.new.ensures.lines ∙ c.in-Some.ensures.steps)))

pub returns-in-None : goal.returns-in-None
returns-in-None c =
    ap (λ (line : List ℕ). begins_wait (words_of line)) (sym (no_line_in c.args.line.now (sym c.new.ensures.lines ∙ c.in-None.ensures.steps.0)))
