use Rattle.std.proofs.Common.{arith}
use Rattle.runtime_log.proofs.GivenEvents.{are_bytes}
use Rattle.runtime_log.proofs.stretch.Stretch.of.Goals as goal

pub returns-clause-fit : goal.returns-clause-fit
returns-clause-fit c = (are_bytes c.args.bytes.now (λ k. (c.type_inv.bytes k).fits), omega (arith, c.ranges.cpu))
