use Rattle.std.proofs.Common.{◌∙◌, cond, nat_eq, Some, ap, refl}
use Rattle.std.specs.HashMap.{get}
use Rattle.stack_rebuild.specs.Calls.{Standing}
use Rattle.account_report.proofs.FoldSteps.{gone_to}
use Rattle.account_report.proofs.fold.AccountFold.go_to.Goals as goal

pub returns-clause-gone : goal.returns-clause-gone
returns-clause-gone c = λ blocks last folds is none.
    gone_to c.args.self.now _ blocks last c.insert.new.self folds
    (λ other. c.in_ok-insert.ensures.updates.0 other
    ∙ ap (λ (s : Standing). cond (nat_eq c.args.self.now.thread other) (Some s) (get nat_eq c.args.self.now.threads other)) c.replace-calls.ensures.value)
    c.take_out.ensures.taken c.take_out.ensures.others refl is none
