use Rattle.std.proofs.Common.{refl, subst, ◌∙◌}
use Rattle.patch_script.specs.declared.micro.Micro.TheVariants.{Store}
use Rattle.patch_script.specs.CodeAt.{code_at}
use Rattle.patch_script.specs.Plans.{IsWithin}
use Rattle.audit_check.proofs.ScriptCourse.{course_stays, course_stores, course_waits, follows}
use Rattle.audit_check.proofs.ScriptSwitches.{next_stored}
use Rattle.audit_check.proofs.switches.Course.take.Goals as goal

pub store-requires : goal.store-requires
store-requires c =
    let step = c.requires.step in
    record {
      program = step.plan.program;
      threads = step.plan.threads;
      words = step.words;
      is_code = subst (IsWithin step.plan) c.in-Store.is step.within;
    }

pub returns-in_ok-store-in-Store-clause-step : goal.returns-in_ok-store-in-Store-clause-step
returns-in_ok-store-in-Store-clause-step c = λ program threads script up_to low at.
    let word = c.in-Store.word in
    let value = c.in-Store.value in
    let place = c.args.place in
    let gives = c.stores_give_the_code.ensures.word program threads script in
    let is = at ∙ c.in-Store.is in
    course_stores program threads script c.args.self.now _ place word value low is (c.in_ok-store-in-Store.ensures.words program threads up_to.words)
    (c.in_ok-store-in-Store.ensures.switches program threads (code_at program threads script) place up_to.words up_to.switches refl
    (next_stored (code_at program threads script) place word value (follows program threads script gives place (Store word value) is)))
    refl refl refl up_to

pub returns-in_ok-push-in-Await-clause-step : goal.returns-in_ok-push-in-Await-clause-step
returns-in_ok-push-in-Await-clause-step c = λ program threads script up_to low at.
    course_waits program threads script (c.stores_give_the_code.ensures.word program threads script) c.args.self.now _ c.args.place c.in-Await.thread c.in-Await.count low
    (at ∙ c.in-Await.is) refl c.in_ok-push-in-Await.ensures.items refl refl up_to

pub returns-in-End-clause-step : goal.returns-in-End-clause-step
returns-in-End-clause-step c = λ program threads script up_to low at.
    course_stays program threads script (c.stores_give_the_code.ensures.word program threads script) c.args.self.now _ c.args.place low (at ∙ c.in-End.is) refl up_to
