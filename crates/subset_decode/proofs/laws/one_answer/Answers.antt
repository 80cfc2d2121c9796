use Rattle.subset_decode.proofs.Fields.{IsBytes-from_All}
use Rattle.subset_decode.specs.Reading.{instr_at}
use Rattle.subset_decode.proofs.TrueAnswers.{answer_of, Answers_is, instr_holds}
use Rattle.subset_decode.proofs.OneAnswer.{same_answer}
use Rattle.subset_decode.proofs.laws.one_answer.Goals as goal

pub returns-clause-some : goal.returns-clause-some
returns-clause-some c bytes all = (answer_of (instr_at bytes), Answers_is bytes (instr_at bytes) (instr_holds bytes (IsBytes-from_All bytes all)))

pub returns-clause-unique : goal.returns-clause-unique
returns-clause-unique c bytes a b = same_answer a b bytes
