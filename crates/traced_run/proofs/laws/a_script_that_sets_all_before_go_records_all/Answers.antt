use Rattle.traced_run.proofs.RecordingFromGo.{all_with_arguments, all_without_arguments, some_record}
use Rattle.traced_run.proofs.laws.a_script_that_sets_all_before_go_records_all.Goals as goal

pub returns-clause-some : goal.returns-clause-some
returns-clause-some c = some_record

pub returns-clause-with_arguments : goal.returns-clause-with_arguments
returns-clause-with_arguments c = all_with_arguments

pub returns-clause-without_arguments : goal.returns-clause-without_arguments
returns-clause-without_arguments c = all_without_arguments
