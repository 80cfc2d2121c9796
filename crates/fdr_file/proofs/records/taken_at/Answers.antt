use Rattle.fdr_file.proofs.DecodedRecords.{taken_is}
use Rattle.fdr_file.proofs.records.taken_at.Goals as goal

pub returns : goal.returns
returns c = taken_is c.args.bytes.now c.args.at c.take_rec.result c.take_rec.ensures.found c.take_rec.ensures.next c.take_rec.ensures.fault
