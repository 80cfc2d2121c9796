-- The text and the script of any number have few lines.
use Rattle.std.proofs.Common.{◌≡◌, ℕ, suc, ◌≤◌, true, List, [], ◌∷◌, length, map, refl, sym, ap, subst, ◌∙◌, arith}
use Rattle.std.specs.List.{AllZip, list_all}
use Rattle.std.specs.Str.Lines.{lines}
use Rattle.std.proofs.lemmas.List.{length-map}
use Rattle.text_lines.specs.Written.{are_written_words, written_line, written_text, WrittenNumbersRead, WrittenTextsRead}
use Rattle.patch_script.specs.WrittenScripts.{command_words, script_text}
use Rattle.patch_script.proofs.WrittenLemmas.{script_written}
use Rattle.asm_text.specs.Statements.{Statement}
use Rattle.asm_text.specs.WrittenTexts.{Says}
use Rattle.asm_text.proofs.WrittenLemmas.{all_written}
use Rattle.soak_inputs.specs.Scripts.{script}
use Rattle.soak_inputs.specs.Texts.{all_lines, assembler_text}
use Rattle.soak_inputs.proofs.OrderLemmas.{text_short}
use Rattle.soak_inputs.proofs.SaidLemmas.{text_says}
use Rattle.soak_inputs.proofs.ScriptLemmas.{changes_count, script_words}
use Rattle.soak_inputs.proofs.Statements.{statements}

module _ (texts : WrittenTextsRead) (numbers : WrittenNumbersRead) where
  -- a text that is written of words has as many lines
  line_count : (all : List (List (List ℕ))) → list_all are_written_words all ≡ true → length (lines (written_text all)) ≡ length all
  line_count all written = ap length (texts.lines all written) ∙ length-map all written_line

  said_count : (all : List (List (List ℕ))) (said : List Statement) → AllZip Says all said → length all ≡ length said
  said_count [] [] says = refl
  said_count [] (s ∷ said) says = absurd says
  said_count (words ∷ all) [] says = absurd says
  said_count (words ∷ all) (s ∷ said) says = ap suc (said_count all said says.1)

  pub text_lines_few : (x : ℕ) → length (lines (assembler_text x)) ≤ 1024
  text_lines_few x =
      let says = text_says numbers x in
      subst (λ n. n ≤ 1024) (sym (line_count (all_lines x) (all_written (all_lines x) (statements x) says) ∙ said_count (all_lines x) (statements x) says))
      (text_short x)

  pub script_lines_few : (x : ℕ) → length (lines (script_text (script x))) ≤ 1024
  script_lines_few x =
      let all = script x in
      let count = line_count (map command_words all) (script_written numbers all (script_words x)) ∙ length-map all command_words in
      omega (arith, count, changes_count 100 x)
