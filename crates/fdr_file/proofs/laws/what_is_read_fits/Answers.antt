use Rattle.fdr_file.proofs.FewEvents.{few_events}
use Rattle.fdr_file.proofs.ReadFits.{read_fits}
use Rattle.fdr_file.proofs.laws.what_is_read_fits.Goals as goal

pub returns-clause-fields : goal.returns-clause-fields
returns-clause-fields c = read_fits c.one_answer.ensures.some

pub returns-clause-few : goal.returns-clause-few
returns-clause-few c = few_events
