use Rattle.fdr_file.proofs.ReadingAndRecords.{given_none, given_reads, run_agrees}
use Rattle.fdr_file.proofs.laws.a_file_is_read_by_records.Goals as goal

pub returns-clause-ends : goal.returns-clause-ends
returns-clause-ends c = run_agrees

pub returns-clause-given : goal.returns-clause-given
returns-clause-given c = given_reads

pub returns-clause-none : goal.returns-clause-none
returns-clause-none c = given_none
