use Rattle.fdr_file.proofs.LongestPrefix.{readable_before, readable_whole, reads_header, reads_record}
use Rattle.fdr_file.proofs.longest.longest.Goals as goal

pub reading-init : goal.reading-init
reading-init c = reads_header c.args.bytes.now c.args.version c.requires.0 c.requires.1

pub returns-in-Faulty : goal.returns-in-Faulty
returns-in-Faulty c =
    readable_before c.args.version c.args.bytes.now c.reading.stage c.pass-after.result.0 c.reading.at c.pass-after.result.1 c.reading.end c.in-Faulty.span c.in-Faulty.fault c.reading.invariant c.pass-after.ensures c.in-Faulty.is

pub reading-preserved : goal.reading-preserved
reading-preserved c =
    reads_record c.args.version c.args.bytes.now c.reading.stage c.pass-after.result.0 c.reading.at c.pass-after.result.1 c.reading.end c.last_end-end.result c.reading.invariant c.reading-test.true c.pass-after.ensures c.in_default.not-Faulty c.last_end-end.ensures

pub returns : goal.returns
returns c = readable_whole c.args.version c.args.bytes.now c.reading.stage c.reading.at c.reading.end c.reading.invariant c.reading-test.false
