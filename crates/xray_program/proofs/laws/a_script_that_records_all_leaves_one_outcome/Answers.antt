use Rattle.xray_program.proofs.RunSetups.{options_make_a_setup}
use Rattle.xray_program.proofs.SameRuns.{left_same}
use Rattle.xray_program.proofs.SpokenLines.{script_says}
use Rattle.xray_program.proofs.laws.a_script_that_records_all_leaves_one_outcome.Goals as goal

pub returns-clause-same : goal.returns-clause-same
returns-clause-same c = λ held i s t a options image script program arguments trace audit text trace' audit' text' ranges image_held script_held accepted records left left'.
    left_same
    (record {
      reading = c.one_reading.ensures;
      read = c.a_lawful_run_is_accepted.ensures.read;
      image = c.one_reading-2.ensures;
      runs = c.a_script_that_records_all_leaves_one_run.ensures.runs;
    })
    held i s t a options (options_make_a_setup options ranges) image script image_held script_held program accepted arguments records trace audit text
    trace' audit' text' left left'

pub returns-clause-said : goal.returns-clause-said
returns-clause-said c = script_says
