use Rattle.std.proofs.Common.{arith}
use Rattle.trace_flush.specs.Flush.{trace_bytes}
use Rattle.xray_program.proofs.laws.reports_take_a_run.Goals as goal

pub returns : goal.returns
returns c = λ image program setup runs accepted is run losses.
    let traced = c.a_run_is_traced.ensures image program setup runs accepted is run in
    let few = c.a_trace_is_short.ensures image program setup runs accepted is run losses in
    record {
      traced = traced;
      short = omega (arith, few, is.room);
      reads_back = c.a_trace_is_read.ensures.read (trace_bytes setup runs) traced.trace traced.reads;
    }
