use Rattle.std.proofs.Common.{arith, length-append}
use Rattle.std.proofs.lemmas.Bool.{leb-true}
use Rattle.fdr_buffer.specs.Segments.{preamble, segment_bytes}
use Rattle.fdr_buffer.proofs.laws.a_body_has_room.Goals as goal

pub returns : goal.returns
returns c size thread wall pid events room =
    let fits = leb-true _ _ room in
    omega (arith, fits, length-append (preamble thread wall pid) (segment_bytes events))
