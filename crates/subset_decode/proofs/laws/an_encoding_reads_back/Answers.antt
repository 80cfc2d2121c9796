use Rattle.std.proofs.Common.{◌++◌, Ok, refl}
use Rattle.subset_decode.specs.Encoding.{spelling}
use Rattle.subset_decode.proofs.OneAnswer.{same_answer}
use Rattle.subset_decode.proofs.laws.an_encoding_reads_back.Goals as goal

pub returns : goal.returns
returns c i following h a holds = same_answer a (Ok i) (spelling i ++ following) holds (h, (following, refl))
