use Rattle.traced_run.proofs.FitPassings.{run_fits, run_ids}
use Rattle.traced_run.proofs.laws.passings_fit.Goals as goal

pub returns-clause-ids : goal.returns-clause-ids
returns-clause-ids c = run_ids

pub returns-clause-all : goal.returns-clause-all
returns-clause-all c = run_fits
