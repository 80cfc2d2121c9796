use Rattle.std.proofs.Common.{◌≡◌, ◌+◌, ◌<◌, Bor, List, length, ap, arith, subst, sym, ◌∙◌}
use Rattle.xray_image.specs.Program.{IsAccepted, Program}
use Rattle.traced_run.proofs.RecordedEvents.{event_recordable}
use Rattle.audit_check.specs.private.Walks.{HasWalked}
use Rattle.audit_check.proofs.WalkSteps.{accepted_again, at_gate, mark_of_way, one_more, plain_again, plain_of_way, same_itself, same_thread, stands_first, stands_none, stands_some, still_few, walk_ends}
use Rattle.audit_check.proofs.judging.walk.Goals as goal

pub gates-init : goal.gates-init
gates-init c = record {
  same = same_itself c.args.cpu.now;
  between = c.requires.between;
  ready = c.requires.ready;
  image = c.requires.image;
  passing = c.requires.passing;
  whole = c.requires.whole;
  few = c.requires.few;
  walked = λ way passed end last is plain none has.
      stands_first way passed c.args.cpu.now c.args.follower.now c.args.recording.now c.args.trace.now none has;
}

pub sled-requires : goal.sled-requires
sled-requires c = at_gate c.gates.cpu.want c.want.result c.in-Gate.passing c.want.ensures.want c.in-Gate.is

pub pass-requires : goal.pass-requires
pass-requires c = at_gate c.gates.cpu.want c.want.result c.in-Gate.passing c.want.ensures.want c.in-Gate.is

pub judge-requires-clause-sled : goal.judge-requires-clause-sled
judge-requires-clause-sled c = subst (λ (p : Program). c.sled.result < length p.sleds) (sym c.gates.invariant.image) c.sled.ensures.within

pub note-requires-clause-recordable : goal.note-requires-clause-recordable
note-requires-clause-recordable c =
    let t = c.gates.cpu in
    let bytes = c.requires.accepted.0 in
    let accepted = accepted_again c.args.cpu.now t c.gates.invariant.same bytes c.requires.accepted.1 in
    let some = c.some_end.ensures bytes t.program t.limits t.thread accepted in
    event_recordable some.0 t.marks c.pass.new.self.marks c.in-Some.event
    (c.passings_fit.ensures.ids bytes t.program t.limits t.thread some.0 some.1 some.2 accepted some.3) (c.in-Some.ensures.event some.0 some.1 some.2 some.3)

pub gates-preserved-in-Some : goal.gates-preserved-in-Some
gates-preserved-in-Some c =
    let s = c.args.cpu.now in
    let t = c.gates.cpu in
    let u = c.pass.new.self in
    let kept = c.gates.invariant in
    let made = c.in-Some.ensures in
    let mark = c.mark_at-mark.result in
    record {
      same = same_thread s t u kept.same made.thread;
      between = made.between;
      ready = c.judge.ensures.ready;
      image = ap (λ (i : Bor Program). i.now) c.judge.ensures.image ∙ (kept.image ∙ sym made.thread.program);
      passing = c.judge.ensures.passing ∙ (ap (λ n. n + 1) kept.passing ∙ sym (one_more t u mark made.mark));
      whole = omega (arith, c.note.ensures.whole, kept.whole, one_more t u mark made.mark);
      few = still_few s t u mark kept.same c.requires.limit c.sled.ensures.left made.mark;
      walked = λ way passed end last is plain none has.
          let run = plain_again s t passed end last kept.same (plain_of_way way s c.args.marks.now.items passed end last is plain) in
          let found = c.sled.ensures.passing passed end last run in
          stands_some way passed t u c.sled.result mark c.gates.follower c.judge.new.self found.0 found.1 found.2
          (mark_of_way way c.args.marks.now.items t c.in-Gate.passing mark is.marks_are (c.want.ensures.gate c.in-Gate.passing c.in-Gate.is) c.mark_at-mark.ensures)
          made.mark c.judge.ensures.thread c.judge.ensures.judged c.gates.recording c.note.new.self c.gates.trace c.note.new.trace c.in-Some.event (made.event passed end last run)
          c.note.ensures.noted c.note.ensures.compared (kept.walked way passed end last is plain none has);
    }

pub gates-preserved : goal.gates-preserved
gates-preserved c =
    let s = c.args.cpu.now in
    let t = c.gates.cpu in
    let u = c.pass.new.self in
    let kept = c.gates.invariant in
    let made = c.in_default.ensures in
    let mark = c.mark_at-mark.result in
    record {
      same = same_thread s t u kept.same made.thread;
      between = made.between;
      ready = c.judge.ensures.ready;
      image = ap (λ (i : Bor Program). i.now) c.judge.ensures.image ∙ (kept.image ∙ sym made.thread.program);
      passing = c.judge.ensures.passing ∙ (ap (λ n. n + 1) kept.passing ∙ sym (one_more t u mark made.mark));
      whole = omega (arith, kept.whole, one_more t u mark made.mark);
      few = still_few s t u mark kept.same c.requires.limit c.sled.ensures.left made.mark;
      walked = λ way passed end last is plain none has.
          let run = plain_again s t passed end last kept.same (plain_of_way way s c.args.marks.now.items passed end last is plain) in
          let found = c.sled.ensures.passing passed end last run in
          stands_none way passed t u c.sled.result mark c.gates.follower c.judge.new.self found.0 found.1 found.2
          (mark_of_way way c.args.marks.now.items t c.in-Gate.passing mark is.marks_are (c.want.ensures.gate c.in-Gate.passing c.in-Gate.is) c.mark_at-mark.ensures)
          made.mark c.judge.ensures.thread c.judge.ensures.judged c.gates.recording c.gates.trace (made.event passed end last run) (kept.walked way passed end last is plain none has);
    }

pub returns-in-Done-clause-end : goal.returns-in-Done-clause-end
returns-in-Done-clause-end c = λ bytes passed end last accepted run.
    let t = c.gates.cpu in
    let so = walk_ends c.args.cpu.now t t.want c.want.result c.in-Done.end end bytes passed last c.one_end.ensures c.gates.invariant.same accepted
    c.want.ensures.want c.in-Done.is c.want.ensures.stands run in
    (so.0, c.passings.ensures ∙ so.1)

pub returns-in-Done-clause-walked : goal.returns-in-Done-clause-walked
returns-in-Done-clause-walked c = λ bytes way passed end last accepted is plain none has.
    let s = c.args.cpu.now in
    let t = c.gates.cpu in
    let own : IsAccepted bytes s.program = subst (IsAccepted bytes) (sym is.program) accepted in
    let run = plain_of_way way s c.args.marks.now.items passed end last is plain in
    let so = walk_ends s t t.want c.want.result c.in-Done.end end bytes passed last c.one_end.ensures c.gates.invariant.same own c.want.ensures.want
    c.in-Done.is c.want.ensures.stands run in
    subst (λ n. HasWalked way passed n c.gates.follower c.gates.recording c.gates.trace) so.1
    (c.gates.invariant.walked way passed end last is plain none has).1
