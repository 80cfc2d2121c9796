use Rattle.std.proofs.Common.{◌+◌, ◌<◌, length, ap, refl, sym, arith, ◌∙◌}
use Rattle.std.proofs.lemmas.Option.{slice_get_read}
use Rattle.audit_check.specs.declared.follower.Follower.{Follower}
use Rattle.audit_check.proofs.PassedWaits.{passed_next}
use Rattle.audit_check.proofs.follower.Follower.pass_awaits.Goals as goal

pub awaits-preserved : goal.awaits-preserved
awaits-preserved c =
    let f = c.args.self.now in
    let g = c.awaits.self in
    let items = f.course.now.awaits.items in
    let awaited = c.index.result.now in
    let kept = c.awaits.invariant in
    let within : g.awaits < length items = omega (arith, c.awaits-test.true, c.len.ensures, f.course.now.awaits.ok.0) in (
      ap (λ (x : Follower). record x { awaits = g.awaits + 1 }) kept.0,
      λ passed. passed_next f g awaited kept.0 (slice_get_read items (length items) g.awaits awaited refl within c.index.ensures)
          (sym c.bounds.ensures ∙ c.if-bounds.false) (kept.1 passed),
    )
