use Rattle.std.proofs.Common.{List, [], ◌<◌, ◌^◌, length, Result, Ok, sym, ap, ◌∙◌, arith, inr, rules}
use Rattle.std.proofs.lemmas.Result.{err_from_is_err_and}
use Rattle.fdr_file.specs.declared.fault.TraceFault.{TraceFault}
use Rattle.fdr_file.specs.declared.trace.Block.{Block}
use Rattle.fdr_file.specs.declared.trace.Trace.{Trace}
use Rattle.fdr_file.specs.Scanning.{blocks_given}
use Rattle.fdr_file.proofs.ReadingAndRecords.{given_none}
use Rattle.fdr_file.proofs.reading.read_trace.Goals as goal

pub feed-requires : goal.feed-requires
feed-requires c =
    let few : length c.args.bytes.now < 2 ^ 64 = search rules in
    record { stands = ([], c.new-scan.ensures, c.new-keep.ensures ∙ sym given_none, omega (arith, few)) }

pub returns-in_err-header : goal.returns-in_err-header
returns-in_err-header c =
    let p = err_from_is_err_and c.from_residual-in_err-header.result c.from_residual-in_err-header.ensures.1 in
    let scans = c.in_ok-feed.ensures.scans [] c.new-scan.ensures (c.new-keep.ensures ∙ sym given_none) in
    let read = c.in_err-header.ensures.reads c.args.bytes.now scans in
    record { reads = rw (p.1, p.2) (inr read) }

pub returns : goal.returns
returns c =
    let start = c.new-keep.ensures ∙ sym given_none in
    let scans = c.in_ok-feed.ensures.scans [] c.new-scan.ensures start in
    let took = c.in_ok-feed.ensures.took [] c.new-scan.ensures start in
    let read = c.in_ok-header.ensures.reads c.args.bytes.now scans in
    let blocks = c.into_blocks.ensures (blocks_given c.args.bytes.now) took in
    record {
      reads = inr (ap (λ (bs : List Block). let made : Result Trace TraceFault = Ok (record { header = c.in_ok-header.header; blocks = bs }) in made) blocks ∙ read);
    }
