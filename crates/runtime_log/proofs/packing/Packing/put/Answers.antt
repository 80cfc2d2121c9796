use Rattle.std.proofs.Common.{◌∙◌, ap, sym}
use Rattle.runtime_log.proofs.PackedFile.{fills_cut}
use Rattle.runtime_log.proofs.packing.Packing.put.Goals as goal

pub returns-in_ok-flush-clause-fills : goal.returns-in_ok-flush-clause-fills
returns-in_ok-flush-clause-fills c = λ file events fills.
    fills_cut c.args.head file events c.args.event.now c.args.self.now c.begin.new.self c.a_segment_grows.ensures.cut fills (sym c.fits.ensures ∙ c.if-fits.false)
    (ap (λ x. x.items) c.begin.ensures.others.0 ∙ c.in_ok-flush.ensures.file) c.begin.ensures.buffer
