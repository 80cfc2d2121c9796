use Rattle.std.proofs.Common.{◌∙◌, ap, sym}
use Rattle.std.specs.Prelude.{Ok}
use Rattle.xray_image.specs.Ids.{id_count}
use Rattle.asm_text.specs.Programs.{program_said}
use Rattle.std.specs.List.{enumerate_from}
use Rattle.soak_inputs.specs.Texts.{all_lines}
use Rattle.soak_inputs.proofs.LineCounts.{text_lines_few}
use Rattle.soak_inputs.proofs.OrderLemmas.{text_always, text_count, text_orderly, text_short}
use Rattle.soak_inputs.proofs.SaidLemmas.{text_said, text_says}
use Rattle.soak_inputs.proofs.Statements.{statements}
use Rattle.soak_inputs.proofs.laws.the_text_is_assembled.Goals as goal

pub returns : goal.returns
returns c = record {
  said = λ number.
      c.a_written_text_is_read.ensures (all_lines number) (statements number)
      (text_says c.a_written_number_is_itself.ensures number) (text_orderly number) (text_short number)
      ∙ ap (λ said. Ok said) (sym (text_said c.a_written_number_is_itself.ensures number));
  ids = λ number threshold.
      ap (λ said. id_count (program_said threshold said)) (text_said c.a_written_number_is_itself.ensures number)
      ∙ c.functions_that_say_always_have_ids.ensures threshold (enumerate_from 1 (statements number)) (text_always number) ∙ text_count number;
  lines = λ number. text_lines_few c.a_written_text_is_its_words.ensures c.a_written_number_is_itself.ensures number;
}
