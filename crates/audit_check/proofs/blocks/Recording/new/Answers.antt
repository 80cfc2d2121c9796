use Rattle.std.proofs.Common.{refl, ap}
use Rattle.fdr_buffer.specs.Filled.{Filled}
use Rattle.audit_check.proofs.RecordedSegments.{noted_none}
use Rattle.audit_check.proofs.blocks.Recording.new.Goals as goal

pub returns-clause-noted : goal.returns-clause-noted
returns-clause-noted c =
    noted_none c.args.setup.now c.args.thread c.args.lost _ c.requires.least refl refl (ap (λ (b : Filled). b.size) c.in_ok-new.ensures) refl refl
    (ap (λ (b : Filled). b.begun) c.in_ok-new.ensures) refl
