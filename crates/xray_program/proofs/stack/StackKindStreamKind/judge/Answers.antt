use Rattle.std.proofs.Common.{ap}
use Rattle.fdr_file.specs.declared.header.Header.{Header}
use Rattle.stack_rebuild.specs.private.Folding.{Folds}
use Rattle.xray_program.proofs.StackLaws.{stacks_kept}
use Rattle.xray_program.proofs.stack.StackKindStreamKind.judge.Goals as goal

pub returns-in-Ok-clause-reads : goal.returns-in-Ok-clause-reads
returns-in-Ok-clause-reads c = λ bytes fed.
    let taken = c.in-Ok.ensures.takes bytes fed in (
      taken.0,
      record {
        frequency = ap (λ (h : Header). h.frequency) taken.1;
        rows = stacks_kept (Folds c.in-Ok.fold) c.rows.result taken.0 c.rows.ensures.rows c.rows.ensures.shallow c.rows.ensures.deep taken.2;
      },
      taken.3,
    )
