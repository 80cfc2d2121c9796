use Rattle.std.proofs.Common.{◌≡◌, ◌+◌, ◌<◌, Bor, length, ap, refl, subst, sym, ◌∙◌}
use Rattle.xray_image.specs.Program.{Program}
use Rattle.audit_check.specs.private.LoadStops.{places_in}
use Rattle.audit_check.specs.private.Placed.{HasStopped}
use Rattle.audit_check.specs.private.Walks.{mark_or_skipped}
use Rattle.audit_check.proofs.WalkSteps.{at_gate, one_more, plain_again, same_itself, same_thread, still_few, walk_ends}
use Rattle.audit_check.proofs.PlacedLoads.{stopped_first, stopped_next}
use Rattle.audit_check.proofs.placing.walk_places.Goals as goal

pub gates-init : goal.gates-init
gates-init c = record {
  same = same_itself c.args.cpu.now;
  between = c.requires.between;
  ready = c.requires.ready;
  image = c.requires.image;
  passing = c.requires.passing;
  few = c.requires.few;
  thread = refl;
  walked = λ threads script passed end last plain none has.
      stopped_first c.args.cpu.now.program threads script c.args.marks.now.items passed c.args.cpu.now c.args.follower.now (places_in c.args.loads.now) none has;
}

pub sled-requires : goal.sled-requires
sled-requires c = at_gate c.gates.cpu.want c.want.result c.in-Gate.passing c.want.ensures.want c.in-Gate.is

pub pass-event-requires : goal.pass-event-requires
pass-event-requires c = at_gate c.gates.cpu.want c.want.result c.in-Gate.passing c.want.ensures.want c.in-Gate.is

pub judge_and_add-requires-clause-sled : goal.judge_and_add-requires-clause-sled
judge_and_add-requires-clause-sled c = subst (λ (p : Program). c.sled.result < length p.sleds) (sym c.gates.invariant.image) c.sled.ensures.within

pub gates-preserved : goal.gates-preserved
gates-preserved c =
    let s = c.args.cpu.now in
    let t = c.gates.cpu in
    let u = c.pass-event.new.self in
    let kept = c.gates.invariant in
    let made = c.pass-event.ensures in
    let mark = c.mark_at-mark.result in
    let judged = c.in_ok-judge_and_add-in-Gate.ensures in
    record {
      same = same_thread s t u kept.same made.thread;
      between = made.between;
      ready = judged.ready;
      image = ap (λ (i : Bor Program). i.now) judged.image ∙ (kept.image ∙ sym made.thread.program);
      passing = judged.passing ∙ (ap (λ n. n + 1) kept.passing ∙ sym (one_more t u mark made.mark));
      few = still_few s t u mark kept.same c.requires.limit c.sled.ensures.left made.mark;
      thread = judged.thread ∙ kept.thread;
      walked = λ threads script passed end last plain none has.
          let run = plain_again s t passed end last kept.same plain in
          let found = c.sled.ensures.passing passed end last run in
          let mark_is : mark ≡ mark_or_skipped c.args.marks.now.items (length t.marks) =
          c.mark_at-mark.ensures ∙ ap (mark_or_skipped c.args.marks.now.items) (c.want.ensures.gate c.in-Gate.passing c.in-Gate.is) in
          stopped_next s.program threads script c.args.marks.now.items passed t u found.0 c.gates.follower c.judge_and_add.new.self c.sled.result mark
          (places_in c.gates.loads) (places_in c.judge_and_add.new.loads) found.1 found.2 mark_is made.mark judged.judged judged.placed
          (kept.walked threads script passed end last plain none has);
    }

pub returns-in-Done-clause-end : goal.returns-in-Done-clause-end
returns-in-Done-clause-end c = λ bytes passed end last accepted run.
    let t = c.gates.cpu in
    let so = walk_ends c.args.cpu.now t t.want c.want.result c.in-Done.end end bytes passed last c.one_end.ensures c.gates.invariant.same accepted
    c.want.ensures.want c.in-Done.is c.want.ensures.stands run in
    (so.0, c.passings.ensures ∙ so.1)

pub returns-in-Done-clause-walked : goal.returns-in-Done-clause-walked
returns-in-Done-clause-walked c = λ bytes threads script passed end last accepted plain none has.
    let s = c.args.cpu.now in
    let t = c.gates.cpu in
    let so = walk_ends s t t.want c.want.result c.in-Done.end end bytes passed last c.one_end.ensures c.gates.invariant.same accepted c.want.ensures.want
    c.in-Done.is c.want.ensures.stands plain in
    subst (λ n. HasStopped s.program threads script c.args.marks.now.items passed n c.gates.follower (places_in c.gates.loads)) so.1
    (c.gates.invariant.walked threads script passed end last plain none has).1
