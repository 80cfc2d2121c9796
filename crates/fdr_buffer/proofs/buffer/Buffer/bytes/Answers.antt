use Rattle.fdr_buffer.proofs.BufferFields.{holds_fits}
use Rattle.fdr_buffer.proofs.buffer.Buffer.bytes.Goals as goal

pub returns-clause-fits : goal.returns-clause-fits
returns-clause-fits c = holds_fits c.self.inside c.args.self.now c.self.view_is c.self.invariant
