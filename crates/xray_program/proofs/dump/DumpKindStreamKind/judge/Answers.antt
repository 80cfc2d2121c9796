use Rattle.std.proofs.Common.{◌≡◌, ◌∙◌, ℕ, List, Err, ap, subst, sym}
use Rattle.fdr_file.specs.Traces.{trace_of}
use Rattle.xray_program.specs.Inputs.{ReadsNowhere, refused_for}
use Rattle.xray_program.proofs.dump.DumpKindStreamKind.judge.Goals as goal

pub returns-in-Err-clause-refuses : goal.returns-in-Err-clause-refuses
returns-in-Err-clause-refuses c = λ bytes refusal fed told.
    let same = c.deref.ensures.value ∙ fed in (
      c.in-Err.fault,
      subst (λ (b : List ℕ). ReadsNowhere b) same c.in-Err.ensures.refused,
      subst (λ (b : List ℕ). trace_of b ≡ Err c.in-Err.fault) same c.in-Err.ensures.header.1,
      ap refused_for (sym told),
    )
