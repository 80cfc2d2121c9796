use Rattle.std.proofs.Common.{◌∙◌, cond, nat_eq, Some, ap, refl}
use Rattle.std.specs.HashMap.{get}
use Rattle.call_rows.specs.private.Frames.{Framed}
use Rattle.call_rows.proofs.FoldSteps.{gone_to}
use Rattle.call_rows.proofs.fold.CallFold.go_to.Goals as goal

pub returns-clause-gone : goal.returns-clause-gone
returns-clause-gone c = λ history follows.
    gone_to c.args.self.now _ history c.insert.new.self follows
    (λ other. c.in_ok-insert.ensures.updates.0 other
    ∙ ap (λ (f : Framed). cond (nat_eq c.args.self.now.thread other) (Some f) (get nat_eq c.args.self.now.others other)) c.replace-own.ensures.value)
    c.take_out.ensures.taken c.take_out.ensures.others refl
