use Rattle.std.proofs.Common.{rules, ◌≡◌, ◌≤◌, sym, subst, ◌∙◌, arith}
use Rattle.xray_image.specs.Program.{Program}
use Rattle.patch_script.specs.Micros.{start_of, total_of}
use Rattle.patch_script.specs.Limits.{most_micros}
use Rattle.patch_script.specs.Refusals.{commands_of}
use Rattle.audit_check.specs.private.Switches.{IsCourseUpTo, IsOfWords}
use Rattle.audit_check.proofs.OwnScript.{own_micro, own_place, own_within}
use Rattle.audit_check.proofs.switches.Course.new.Goals as goal

pub loop-place-init : goal.loop-place-init
loop-place-init c =
    let program = c.args.image.now in
    let threads = c.args.threads in
    let script = commands_of c.args.script.now.lines in
    let own = c.args.script.now in
    let total = own_place program own.program threads own.threads script c.requires.program c.requires.threads total_of c.total-total.result c.total-total.ensures.total in
    let start = own_place program own.program threads own.threads script c.requires.program c.requires.threads start_of c.start.result c.start.ensures.start in
    record {
      words = c.in_ok-new.ensures.words;
      switches = c.in_ok-new.ensures.switches script;
      awaits = search rules;
      start = start;
      total = total;
      few = subst (λ n. n ≤ most_micros) total c.total-total.ensures.few;
    }

pub take-requires-clause-step : goal.take-requires-clause-step
take-requires-clause-step c =
    let own = c.args.script.now in
    let switches = c.loop-place.course.switches in
    record {
      plan = own;
      words = subst (λ (p : Program). IsOfWords p own.threads switches) (sym c.requires.program)
          (subst (λ n. IsOfWords c.args.image.now n switches) (sym c.requires.threads) c.loop-place.invariant.words);
      within = c.micro_near.ensures.within;
    }

pub loop-place-preserved : goal.loop-place-preserved
loop-place-preserved c =
    let program = c.args.image.now in
    let script = commands_of c.args.script.now.lines in
    let own = c.args.script.now in
    let place = c.loop-place.place in
    let micro = own_micro program own.program c.args.threads own.threads script c.requires.program c.requires.threads place c.micro_near.result
    c.micro_near.ensures.micro in
    let low = own_within program own.program c.args.threads own.threads script c.requires.program c.requires.threads place c.total-total.result
    c.total-total.ensures.total c.loop-place-test.true in
    c.in_ok-take.ensures.step program c.args.threads script c.loop-place.invariant low (sym micro)

pub returns : goal.returns
returns c =
    let program = c.args.image.now in
    let threads = c.args.threads in
    let script = commands_of c.args.script.now.lines in
    let own = c.args.script.now in
    let total = own_place program own.program threads own.threads script c.requires.program c.requires.threads total_of c.total-total.result c.total-total.ensures.total in
    let all : c.loop-place.place ≡ c.total-total.result = omega (arith, c.loop-place-test.false, c.loop-place.auto.place-end) in
    subst (λ n. IsCourseUpTo program threads script n c.loop-place.course) (all ∙ total) c.loop-place.invariant
