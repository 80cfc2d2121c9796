use Rattle.std.proofs.Common.{rules}
use Rattle.xray_io.specs.Writes.{sends_rest}
use Rattle.xray_io.proofs.DeskCalls.{sends_more, sends_none}
use Rattle.xray_io.proofs.whole.write_all.Goals as goal

pub writing-preserved : goal.writing-preserved
writing-preserved g c =
    let kept = c.writing.invariant in
    record {
      within = search rules;
      sends =
          sends_more g.met.S.Sink.along_both c.args.sink.now c.writing.sink c.write.new.self c.args.bytes.now c.writing.done _ c.in-Ok.n kept.sends
          c.in-Ok.ensures.within c.in-Ok.ensures.taken c.in-Ok.ensures.calm c.in-Ok.ensures.along;
    }

pub returns-in-Err : goal.returns-in-Err
returns-in-Err g c = record {
  writes =
      sends_rest g.met.S.Sink.along_both c.writing.invariant.sends
      (sends_none c.writing.sink c.write.new.self _ _ _ c.in-Err.field-0 _ c.in-Err.ensures.same c.in-Err.ensures.failed c.write.ensures.later c.in-Err.ensures.along);
}
