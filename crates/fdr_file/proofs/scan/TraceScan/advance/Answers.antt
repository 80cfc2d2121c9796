use Rattle.std.proofs.Common.{length, take}
use Rattle.fdr_file.proofs.ScanSteps.{header_advances, record_advances, refused_advances}
use Rattle.fdr_file.proofs.scan.TraceScan.advance.Goals as goal

pub returns-in-Due-clause-advances : goal.returns-in-Due-clause-advances
returns-in-Due-clause-advances c stream h = header_advances c.args.self.now c.add_to_header.new.self stream c.args.piece.now c.requires.some c.in-Due.is c.add_to_header.ensures h

pub returns-in-Read-clause-advances : goal.returns-in-Read-clause-advances
returns-in-Read-clause-advances c stream h =
    record_advances c.args.self.now c.advance_record.new.self stream c.args.piece.now c.advance_record.result.0 c.advance_record.result.1 c.in-Read.version _ c.requires.some c.in-Read.is c.advance_record.ensures h

pub returns-in-Refused-clause-advances : goal.returns-in-Refused-clause-advances
returns-in-Refused-clause-advances c stream h =
    refused_advances c.args.self.now stream (take (length c.args.piece.now) c.args.piece.now) _ c.in-Refused.is h
