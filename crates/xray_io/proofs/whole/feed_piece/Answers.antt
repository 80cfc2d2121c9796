use Rattle.std.proofs.Common.{arith}
use Rattle.xray_io.proofs.ReadPieces.{there_are}
use Rattle.xray_io.proofs.whole.feed_piece.Goals as goal

pub returns-then-len-limit-clause-too_long : goal.returns-then-len-limit-clause-too_long
returns-then-len-limit-clause-too_long g c = λ long content holds.
    let read = c.in-Ok.ensures in
    omega (arith, there_are c.args.at c.in-Ok.len c.read.new.buf content read.within (omega arith) (read.bytes content holds))
