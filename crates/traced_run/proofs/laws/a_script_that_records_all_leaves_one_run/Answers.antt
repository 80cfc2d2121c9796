use Rattle.traced_run.proofs.RecordedMarks.{marks_are, one_run}
use Rattle.traced_run.proofs.laws.a_script_that_records_all_leaves_one_run.Goals as goal

pub returns-clause-marks : goal.returns-clause-marks
returns-clause-marks c = marks_are

pub returns-clause-runs : goal.returns-clause-runs
returns-clause-runs c = one_run
