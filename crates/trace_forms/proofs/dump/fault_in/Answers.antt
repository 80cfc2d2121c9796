use Rattle.std.proofs.Common.{◌∙◌, ◌<◌, ◌^◌, [], arith, length, rules}
use Rattle.fdr_file.specs.Scanning.{blocks_given}
use Rattle.fdr_file.specs.Traces.{trace_of}
use Rattle.trace_forms.proofs.Lines.{fault_is}
use Rattle.trace_forms.proofs.dump.fault_in.Goals as goal

pub feed-requires : goal.feed-requires
feed-requires c =
    let few : length c.args.bytes.now < 2 ^ 64 = search rules in
    record { stands = ([], c.new-scan.ensures, tt, omega (arith, few)) }

pub returns : goal.returns
returns c =
    let bytes = c.args.bytes.now in
    c.err.ensures.value
    ∙ fault_is c.finish.result (blocks_given bytes) (trace_of bytes) (c.finish.ensures.reads bytes (c.in-Ok.ensures.scans [] c.new-scan.ensures tt))
