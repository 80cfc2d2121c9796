use Rattle.std.proofs.Common.{◌++◌, ◌∷◌, [], subst, sym, ◌∙◌}
use Rattle.fdr_buffer.specs.Filled.{Filled}
use Rattle.audit_check.specs.declared.blocks.Recording.{Recording}
use Rattle.audit_check.specs.private.Blocks.{HasNoted}
use Rattle.audit_check.proofs.RecordedSegments.{compared_cut, compared_joined, noted_cut, noted_joined}
use Rattle.audit_check.proofs.blocks.Recording.note.Goals as goal

pub returns-then-fits-clause-noted : goal.returns-then-fits-clause-noted
returns-then-fits-clause-noted c = λ setup thread lost events has.
    let r = c.args.self.now in
    let event = c.args.event.now in
    subst (λ (b : Filled). HasNoted setup thread lost (events ++ event ∷ []) (record r { buffer = b })) (sym c.put.ensures)
    (noted_joined setup thread lost events r has c.a_segment_grows.ensures.joined (sym c.begun.ensures ∙ c.if-not-begun.false) event
    (sym c.fits.ensures ∙ c.if-fits.true))

pub returns-then-fits-clause-compared : goal.returns-then-fits-clause-compared
returns-then-fits-clause-compared c = λ setup thread lost events all before has compared.
    compared_joined setup thread lost events c.args.self.now has c.a_segment_grows.ensures.joined (sym c.begun.ensures ∙ c.if-not-begun.false) c.args.event.now
    (sym c.fits.ensures ∙ c.if-fits.true) all before c.args.trace.now compared

pub returns-else-fits-clause-noted : goal.returns-else-fits-clause-noted
returns-else-fits-clause-noted c = λ setup thread lost events has.
    let event = c.args.event.now in
    subst (λ (r : Recording). HasNoted setup thread lost (events ++ event ∷ []) r) (sym c.begin-else-fits.ensures)
    (noted_cut setup thread lost events c.args.self.now has c.a_segment_grows.ensures.cut (sym c.begun.ensures ∙ c.if-not-begun.false) event
    (sym c.fits.ensures ∙ c.if-fits.false))

pub returns-else-fits-clause-compared : goal.returns-else-fits-clause-compared
returns-else-fits-clause-compared c = λ setup thread lost events all before has compared.
    compared_cut setup thread lost events c.args.self.now has c.a_segment_grows.ensures.cut (sym c.begun.ensures ∙ c.if-not-begun.false) c.args.event.now
    (sym c.fits.ensures ∙ c.if-fits.false) all before c.args.trace.now c.compare.new.trace c.compare.ensures compared
