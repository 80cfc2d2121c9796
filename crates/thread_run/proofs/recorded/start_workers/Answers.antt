use Rattle.std.proofs.Common.{arith, ap, ◌∙◌, length, length-append, ◌∷◌, []}
use Rattle.sled_rule.specs.declared.views.PatchView.{PatchView}
use Rattle.sled_rule.specs.Seats.{script_of}
use Rattle.thread_run.proofs.EachItem.{one_taken}
use Rattle.thread_run.proofs.StartedWorkers.{next_fresh, next_recorder, one_more_started, one_recorder_less}
use Rattle.thread_run.proofs.recorded.start_workers.Goals as goal

pub start-requires-clause-fresh : goal.start-requires-clause-fresh
start-requires-clause-fresh g c =
    let kept = c.loop-cpu.invariant in let yielded = c.loop-cpu.yielded in let rest = c.next.new.self.rest.items in
    let order = one_taken yielded rest c.in-Some.cpu _ c.args.cpus.items c.in-Some.ensures.steps.0 kept.order in
    (next_fresh (script_of c.args.table.now) c.requires.fresh.0 c.args.cpus.items yielded rest c.in-Some.cpu c.requires.fresh.1 order).fresh

pub start-requires-clause-next : goal.start-requires-clause-next
start-requires-clause-next g c =
    let kept = c.loop-cpu.invariant in let yielded = c.loop-cpu.yielded in let rest = c.next.new.self.rest.items in
    let order = one_taken yielded rest c.in-Some.cpu _ c.args.cpus.items c.in-Some.ensures.steps.0 kept.order in
    let is = next_fresh (script_of c.args.table.now) c.requires.fresh.0 c.args.cpus.items yielded rest c.in-Some.cpu c.requires.fresh.1 order in
    omega (arith, is.thread, kept.given)

pub start-requires-clause-no_events : goal.start-requires-clause-no_events
start-requires-clause-no_events g c =
    next_recorder (λ r. g.R.Recorder.stands r []) c.loop-cpu.workers.items c.in-Some-next.recorder c.loop-cpu.recorders.rest.items
    c.next-in-loop-cpu.new.self.rest.items c.args.recorders.items c.requires.no_events c.loop-cpu.invariant.recorders c.in-Some-next.ensures.items

pub loop-cpu-preserved : goal.loop-cpu-preserved
loop-cpu-preserved g c =
    let kept = c.loop-cpu.invariant in let yielded = c.loop-cpu.yielded in let rest = c.next.new.self.rest.items in
    let order = one_taken yielded rest c.in-Some.cpu _ c.args.cpus.items c.in-Some.ensures.steps.0 kept.order in
    let started = c.start.ensures in
    let old = c.loop-cpu.workers.items in
    let more = c.push_reserved.ensures.items in
    let plan = script_of c.args.table.now in
    record {
      order = order;
      own = started.own;
      place = ap (λ (p : PatchView). p.place) started.view ∙ kept.place;
      given = omega (arith, ap (λ (p : PatchView). p.given) started.view, kept.given, length-append yielded (c.in-Some.cpu ∷ []));
      none_met = ap (λ (p : PatchView). p.met) started.view ∙ kept.none_met;
      count = omega (arith, ap length more, length-append old (c.start.result ∷ []), kept.count, length-append yielded (c.in-Some.cpu ∷ []));
      room = c.push_reserved.ensures.capacity ∙ kept.room;
      workers = λ limits fresh.
          one_more_started g.R.Recorder.stands c.args.table.now limits (length yielded) old c.push_reserved.new.self.items c.start.result c.in-Some.cpu kept.count
          (kept.workers limits fresh) (next_fresh plan limits c.args.cpus.items yielded rest c.in-Some.cpu fresh order) started.cpu started.going started.table more;
      recorders = one_recorder_less old c.push_reserved.new.self.items c.start.result c.in-Some-next.recorder c.loop-cpu.recorders.rest.items
          c.next-in-loop-cpu.new.self.rest.items c.args.recorders.items kept.recorders c.in-Some-next.ensures.items started.recorder more;
    }
