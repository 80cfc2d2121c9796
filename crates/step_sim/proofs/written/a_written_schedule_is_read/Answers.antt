use Rattle.step_sim.proofs.WrittenLemmas.{schedule_read}
use Rattle.step_sim.proofs.written.a_written_schedule_is_read.Goals as goal

pub returns : goal.returns
returns c = schedule_read c.a_written_text_is_its_words.ensures c.a_written_number_is_itself.ensures
