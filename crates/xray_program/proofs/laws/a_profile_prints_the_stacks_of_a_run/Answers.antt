use Rattle.xray_program.proofs.ProfiledStacks.{same_printed, same_rows}
use Rattle.xray_program.proofs.laws.a_profile_prints_the_stacks_of_a_run.Goals as goal

pub returns-clause-rows : goal.returns-clause-rows
returns-clause-rows c = λ program setup runs trace options profiled make.
    same_rows c.one_end.ensures c.stacks_are_of_threads.ensures program setup runs trace options profiled
    (c.reports_take_a_run.ensures make.image program setup runs make.accepted make.setup_is make.run make.losses) make

pub returns-clause-printed : goal.returns-clause-printed
returns-clause-printed c = λ program setup runs trace options profiled make none.
    same_printed c.one_end.ensures c.stacks_are_of_threads.ensures program setup runs trace options profiled
    (c.reports_take_a_run.ensures make.image program setup runs make.accepted make.setup_is make.run make.losses) make none
