use Rattle.std.proofs.Common.{◌≡◌, ◌∷◌, ◌++◌, [], List, length, length-append, map, sym, ap, subst, ◌∙◌, arith}
use Rattle.std.proofs.lemmas.List.{length-map, map-append}
use Rattle.trace_flush.specs.Audit.{ThreadAudit}
use Rattle.audit_check.specs.private.Lines.{AreFirst, HasTaken, first_rows}
use Rattle.audit_check.specs.Statements.{said_by}
use Rattle.audit_check.proofs.reading.Rows.entries.Goals as goal

pub loop-before-preserved : goal.loop-before-preserved
loop-before-preserved c =
    let i = c.loop-before.invariant in
    let items = c.loop-before.entries.items in
    let entry = c.in_ok-entry.field-0 in
    record {
      number = let some = c.in_ok-entry.ensures.number in let before = i.number in omega arith;
      count = let before = i.count in omega (arith, before, ap length c.in_ok-push.ensures.items, length-append items (entry ∷ []));
      taken = λ bytes setup has is same.
          let k = i.taken bytes setup has is same in
          let count = i.count in
          let e = c.in_ok-entry.ensures.rows bytes setup (map said_by items) k.0 k.1 (omega (arith, count, length-map items said_by)) (omega (arith, same)) in
          let more : map said_by c.push.new.self.items ≡ map said_by items ++ said_by entry ∷ [] =
          ap (map said_by) c.in_ok-push.ensures.items ∙ map-append said_by items (entry ∷ []) in (
            subst (λ (t : List ThreadAudit). HasTaken bytes c.entry.new.self (first_rows setup t)) (sym more) e.0,
            subst (λ (t : List ThreadAudit). AreFirst setup t) (sym more) e.1,
          );
    }
