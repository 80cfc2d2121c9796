use Rattle.std.proofs.Common.{List, ℕ, ap, subst, sym, ◌∙◌}
use Rattle.std.specs.Prelude.{All}
use Rattle.fdr_record.specs.Recordable.{IsRecordable}
use Rattle.runtime_log.specs.declared.basic.Passing.{Passing}
use Rattle.runtime_log.specs.declared.version.BasicVersion.{BasicVersion}
use Rattle.runtime_log.proofs.GivenEvents.{are_bytes}
use Rattle.runtime_log.proofs.RecordedPassings.{events_left}
use Rattle.runtime_log.proofs.Runs.{passings_recordable}
use Rattle.runtime_log.proofs.blocks.BlockEvents.of_passings.Goals as goal

pub returns-clause-all : goal.returns-clause-all
returns-clause-all c =
    ap (λ (v : BasicVersion). events_left v c.new.result.bytes.now c.new.result.passings.now) c.new.ensures.version ∙ ap (λ (bs : List ℕ). events_left c.args.version bs c.new.result.passings.now) c.new.ensures.bytes
    ∙ ap (λ (ps : List Passing). events_left c.args.version c.args.bytes.now ps) c.new.ensures.passings

pub returns-clause-recordable : goal.returns-clause-recordable
returns-clause-recordable c =
    let is = ap (λ (v : BasicVersion). events_left v c.new.result.bytes.now c.new.result.passings.now) c.new.ensures.version ∙ ap (λ (bs : List ℕ). events_left c.args.version bs c.new.result.passings.now) c.new.ensures.bytes
    ∙ ap (λ (ps : List Passing). events_left c.args.version c.args.bytes.now ps) c.new.ensures.passings in
    subst (All IsRecordable) (sym is) (passings_recordable c.args.version c.args.bytes.now c.args.passings.now (are_bytes c.args.bytes.now (λ k. (c.type_inv.bytes k).fits)))
