use Rattle.std.proofs.Common.{refl, sym, ap, ◌∙◌, cond}
use Rattle.audit_check.proofs.FollowerGuesses.{is_another, is_that}
use Rattle.audit_check.proofs.OneSearch.{find_either, find_none_either}
use Rattle.audit_check.proofs.follower.Follower.either_handler.Goals as goal

pub returns-in_err-place-clause-found : goal.returns-in_err-place-clause-found
returns-in_err-place-clause-found c = λ sled.
    let found = c.arg_handler-by_argument in
    find_none_either c.args.self.now sled c.args.from c.args.bound found.new.self found.result c.handler.result c.lesser.result c.from_residual.result
    found.ensures.same found.ensures.place c.handler.ensures.place c.lesser.ensures c.in_err-place.was c.from_residual.ensures

pub returns-then-eq-clause-found : goal.returns-then-eq-clause-found
returns-then-eq-clause-found c = λ sled.
    let found = c.arg_handler-by_argument in
    find_either c.args.self.now sled c.args.from c.args.bound found.new.self found.result c.handler.result c.lesser.result c.in_ok-place.place 1 _
    found.ensures.same found.ensures.place c.handler.ensures.place c.lesser.ensures c.in_ok-place.was
    (λ a one two. ap (λ b. cond b 1 2) (one (is_that found.result c.in_ok-place.place (sym c.eq.ensures ∙ c.if-eq.true)))) refl

pub returns-else-eq-clause-found : goal.returns-else-eq-clause-found
returns-else-eq-clause-found c = λ sled.
    let found = c.arg_handler-by_argument in
    find_either c.args.self.now sled c.args.from c.args.bound found.new.self found.result c.handler.result c.lesser.result c.in_ok-place.place 2 _
    found.ensures.same found.ensures.place c.handler.ensures.place c.lesser.ensures c.in_ok-place.was
    (λ a one two. ap (λ b. cond b 1 2) (two (is_another found.result c.in_ok-place.place (sym c.eq.ensures ∙ c.if-eq.false)))) refl
