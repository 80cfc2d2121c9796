use Rattle.std.proofs.Common.{◌≡◌, ◌-◌, leb, [], ◌∷◌, ◌++◌, ap, subst, ◌∙◌}
use Rattle.fdr_buffer.specs.Segments.{has_room}
use Rattle.fdr_buffer.specs.Filled.{Filled}
use Rattle.fdr_buffer.specs.private.Buffer.{events_told}
use Rattle.fdr_buffer.proofs.BufferFields.{fits_is}
use Rattle.fdr_buffer.proofs.buffer.Buffer.fits.Goals as goal

pub returns : goal.returns
returns c =
    let a = c.self.inside in
    let event = c.args.event.now in
    let begun = ap (λ (v : Filled). v.begun) c.self.view_is ∙ c.requires in
    let Told : Filled → Type 0 = λ v. leb c.len.result (c.len-2.result - a.used) ≡ has_room v.size (v.events ++ event ∷ []) in
    subst Told c.self.view_is (rw (c.len.ensures, c.of.ensures.records, c.len-2.ensures, a.bytes.ok.0) (fits_is a (events_told a) event c.self.invariant begun))
