use Rattle.std.proofs.Common.{take}
use Rattle.fdr_record.specs.declared.rec.Rec.TheVariants.{NewCpu, TscWrap}
use Rattle.fdr_buffer.specs.Segments.{function_records}
use Rattle.fdr_buffer.proofs.Records.{more_records}
use Rattle.fdr_buffer.proofs.writing.put_event.Goals as goal

pub returns-in-Cpu-clause-bytes : goal.returns-in-Cpu-clause-bytes
returns-in-Cpu-clause-bytes c =
    let event = c.args.event.now in
    rw c.in-Cpu.is (more_records (take c.args.at c.args.bytes.now) _ _ (NewCpu event.cpu event.tsc) (function_records event 0) c.append-at.ensures.bytes c.put_function.ensures.bytes)

pub returns-in-Wrap-clause-bytes : goal.returns-in-Wrap-clause-bytes
returns-in-Wrap-clause-bytes c =
    let event = c.args.event.now in
    rw c.in-Wrap.is (more_records (take c.args.at c.args.bytes.now) _ _ (TscWrap event.tsc) (function_records event 0) c.append-at-in-Wrap.ensures.bytes c.put_function-in-Wrap.ensures.bytes)
