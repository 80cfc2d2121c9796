use Rattle.std.proofs.Common.{Result, ap, ◌∙◌}
use Rattle.fdr_file.specs.declared.fault.TraceFault.{TraceFault}
use Rattle.fdr_file.specs.declared.header.Header.{Header}
use Rattle.fdr_file.specs.Scanning.{blocks_given, with_blocks}
use Rattle.fdr_file.proofs.ScanSteps.{never_refused, scan_ends}
use Rattle.fdr_file.proofs.scan.TraceScan.finish.Goals as goal

pub returns-clause-reads : goal.returns-clause-reads
returns-clause-reads c stream h =
    ap (λ (a : Result Header TraceFault). with_blocks a (blocks_given stream)) c.answer.ensures ∙ scan_ends c.args.self stream h

pub returns-clause-memory : goal.returns-clause-memory
returns-clause-memory c stream h = never_refused c.args.self stream c.answer.result h c.answer.ensures
