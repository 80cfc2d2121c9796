use Rattle.xray_program.proofs.drawn.each_input_is_read.Goals as goal

pub returns-clause-laws : goal.returns-clause-laws
returns-clause-laws c = record {
  said = c.the_text_is_assembled.ensures.said;
  ids = c.the_text_is_assembled.ensures.ids;
  plan = c.the_script_is_read.ensures.plan;
  waits = c.the_script_is_read.ensures.waits;
  schedule = c.the_schedule_is_read.ensures;
  assembles = c.an_assembled_file_is_accepted.ensures;
}
