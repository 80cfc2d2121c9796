use Rattle.xray_program.proofs.CommandLaws.{command_is_lawful}
use Rattle.xray_program.proofs.laws.each_command_is_lawful.Goals as goal

pub returns : goal.returns
returns c =
    command_is_lawful (record {
      one_verdict = c.one_verdict.ensures.one;
      some_verdict = c.some_verdict.ensures;
      accepts = c.one_verdict.ensures.accepted;
      one_end = c.one_end.ensures;
      some_end = c.some_end.ensures;
      one_run = c.one_run.ensures;
      still_run = c.some_run.ensures.still;
      lets = c.each_script_lets_threads_end.ensures;
      lawful = c.what_runs_leave.ensures;
      marks = c.some_marks_follow.ensures;
      losses = c.some_losses_are_of_a_queue.ensures;
      drawn = record {
        inputs = c.each_input_is_read.ensures.laws;
        traced = c.a_run_is_traced.ensures;
        reads = c.a_trace_is_read.ensures.read;
      };
      one_reading = c.one_reading.ensures;
      some_reading = c.some_reading.ensures;
      one_judgement = c.one_verdict-2.ensures;
      some_judgement = c.some_verdict-2.ensures;
      one_order = c.one_order_of_an_audit.ensures.one;
      some_order = c.one_order_of_an_audit.ensures.some;
      one_import = c.one_import.ensures;
      some_import = c.some_import.ensures;
    })
