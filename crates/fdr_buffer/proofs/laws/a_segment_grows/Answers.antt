use Rattle.fdr_buffer.proofs.SegmentCuts.{joins, is_cut}
use Rattle.fdr_buffer.proofs.laws.a_segment_grows.Goals as goal

pub returns-clause-joined : goal.returns-clause-joined
returns-clause-joined c size events opened whole event e room = joins size events opened whole event e room

pub returns-clause-cut : goal.returns-clause-cut
returns-clause-cut c size events opened whole event e full = is_cut size events opened whole event e full
