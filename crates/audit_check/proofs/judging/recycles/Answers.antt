use Rattle.std.proofs.Common.{◌≡◌, ◌-◌, List, ap, eq-eqb, eqb-true, sym, ◌∙◌}
use Rattle.std.specs.Prelude.{sum_by}
use Rattle.audit_check.specs.declared.audit.AuditEntry.{AuditEntry}
use Rattle.audit_check.proofs.AllThreads.{recycled_so}
use Rattle.audit_check.proofs.judging.recycles.Goals as goal

pub returns-then-recycled-lost : goal.returns-then-recycled-lost
returns-then-recycled-lost c =
    let audit = c.args.audit.now in
    let recycled = c.from-recycled.result in
    let lost = c.lost_segments-lost.result in
    let queued = c.queued_segments.result in
    let unspared = c.saturating_sub-unspared.result in
    let lost_is = c.lost_segments-lost.ensures ∙ ap (λ (l : List AuditEntry). sum_by (λ (e : AuditEntry). e.first) l) c.deref.ensures.value in
    let queued_is = c.queued_segments.ensures ∙ ap (λ (l : List AuditEntry). sum_by (λ (e : AuditEntry). e.segments - 1) l) c.deref-2.ensures.value in
    let so = recycled_so audit lost queued lost_is queued_is in
    let unspared_is : unspared ≡ queued - (audit.setup.max - audit.setup.threads) =
    c.saturating_sub-unspared.ensures ∙ ap (λ n. queued - n) c.from-spare.ensures in (
      (λ is. so.0 (sym c.from-recycled.ensures ∙ c.if-recycled-lost.true, sym c.from-recycled.ensures ∙ (eqb-true recycled unspared is ∙ unspared_is))),
      (λ agrees. eq-eqb recycled unspared (c.from-recycled.ensures ∙ ((so.1 agrees).1 ∙ sym unspared_is))),
    )

pub returns-else-recycled-lost : goal.returns-else-recycled-lost
returns-else-recycled-lost c =
    let audit = c.args.audit.now in
    let recycled = c.from-recycled.result in
    let lost = c.lost_segments-lost.result in
    let queued = c.queued_segments.result in
    let lost_is = c.lost_segments-lost.ensures ∙ ap (λ (l : List AuditEntry). sum_by (λ (e : AuditEntry). e.first) l) c.deref.ensures.value in
    let queued_is = c.queued_segments.ensures ∙ ap (λ (l : List AuditEntry). sum_by (λ (e : AuditEntry). e.segments - 1) l) c.deref-2.ensures.value in
    let so = recycled_so audit lost queued lost_is queued_is in (
      (λ is. absurd (c.if-recycled-lost.false (eqb-true recycled lost is))),
      (λ agrees. absurd (c.if-recycled-lost.false (c.from-recycled.ensures ∙ (so.1 agrees).0))),
    )
