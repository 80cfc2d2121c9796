use Rattle.std.proofs.Common.{◌≡◌, Bool, false, subst, sym}
use Rattle.std.specs.Prelude.{◌&&◌, ◌↔◌, IsTrue}
use Rattle.audit_check.proofs.ComparedTrace.{is_all, none_left}
use Rattle.audit_check.proofs.blocks.TraceLeft.is_same.Goals as goal

pub returns-then-self : goal.returns-then-self
returns-then-self c = λ trace bytes has.
    let t = c.args.self.now in
    let empty = c.is_empty-none_left in
    subst (λ (b : Bool). IsTrue (b && empty.result) ↔ (trace ≡ bytes)) c.if-self.true
    (is_all trace bytes t empty.result (none_left t.left.now empty.result empty.ensures) has)

pub returns-else-self : goal.returns-else-self
returns-else-self c = λ trace bytes has.
    let t = c.args.self.now in
    let empty = c.is_empty-none_left in
    let at_false : IsTrue false ↔ (trace ≡ bytes) =
    subst (λ (b : Bool). IsTrue (b && empty.result) ↔ (trace ≡ bytes)) c.if-self.false
    (is_all trace bytes t empty.result (none_left t.left.now empty.result empty.ensures) has) in
    subst (λ (b : Bool). IsTrue b ↔ (trace ≡ bytes)) (sym c.if-self.false) at_false
