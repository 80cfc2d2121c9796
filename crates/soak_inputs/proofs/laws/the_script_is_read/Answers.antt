use Rattle.soak_inputs.specs.Inputs.{soak_commands}
use Rattle.soak_inputs.specs.Texts.{after_text}
use Rattle.soak_inputs.proofs.LineCounts.{script_lines_few}
use Rattle.soak_inputs.proofs.ScriptLemmas.{script_orderly, script_waits, script_words}
use Rattle.soak_inputs.proofs.laws.the_script_is_read.Goals as goal

pub returns : goal.returns
returns c = record {
  plan = λ number program ids. c.a_written_script_is_read.ensures program 4 (soak_commands number)
      (script_words (after_text number)) (script_orderly program ids (after_text number));
  lines = λ number. script_lines_few c.a_written_text_is_its_words.ensures c.a_written_number_is_itself.ensures (after_text number);
  waits = λ number program ids. script_waits program ids (after_text number);
}
