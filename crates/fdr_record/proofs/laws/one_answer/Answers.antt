use Rattle.fdr_record.proofs.OneReading.{some_answer}
use Rattle.fdr_record.proofs.laws.one_answer.Goals as goal

pub returns-clause-some : goal.returns-clause-some
returns-clause-some c = some_answer
