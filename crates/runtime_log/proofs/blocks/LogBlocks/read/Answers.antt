use Rattle.std.proofs.lemmas.Result.{err_from_is_err_and}
use Rattle.runtime_log.proofs.blocks.LogBlocks.read.Goals as goal

pub returns-in_err-read_recorder-clause-refuses : goal.returns-in_err-read_recorder-clause-refuses
returns-in_err-read_recorder-clause-refuses c =
    let p = err_from_is_err_and c.from_residual.result c.from_residual.ensures.1 in
    rw (p.1, p.2) c.in_err-read_recorder.ensures
