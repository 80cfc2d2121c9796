use Rattle.fdr_file.proofs.ReadIsGrammar.{decoded}
use Rattle.fdr_file.proofs.laws.a_place_is_decoded.Goals as goal

pub returns : goal.returns
returns c = decoded c.one_answer.ensures.some
