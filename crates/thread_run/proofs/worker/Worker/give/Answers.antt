use Rattle.std.proofs.Common.{arith, ap, refl, sym, subst, ◌∙◌, ◌≤◌}
use Rattle.xray_image.specs.Program.{IsAccepted, Program}
use Rattle.patch_script.specs.Micros.{total_of}
use Rattle.patch_script.specs.Refusals.{commands_of}
use Rattle.sled_rule.specs.declared.views.WorkView.{WorkView}
use Rattle.machine_step.specs.Events.{recorded}
use Rattle.machine_step.specs.Traced.{Allows}
use Rattle.machine_step.specs.declared.want.Want.{Want}
use Rattle.sled_rule.specs.Seats.{work_view, script_of}
use Rattle.traced_run.proofs.FitPassings.{run_ids}
use Rattle.thread_run.specs.Following.{given}
use Rattle.thread_run.proofs.RecordedEvents.{any_room, any_recordable, some_ends}
use Rattle.thread_run.proofs.LoadAndSeat.{along_more, found_within, is_found, same_in, value_allowed}
use Rattle.thread_run.proofs.worker.Worker.give.Goals as goal

pub give-event-requires : goal.give-event-requires
give-event-requires g c =
    let worker = c.args.self.now in
    let plan = script_of worker.table.now in
    let made = c.requires.fetched in
    let v = work_view made.before in
    let at = made.going.at in
    let value = c.args.value in
    let found = is_found plan worker.cpu v _ made.word value at.own.1 at.seat made.going.count made.fetched in
    subst (λ (w : Want). Allows worker.cpu w value) (sym made.wants)
    (value_allowed plan worker.cpu at.passed v.seen made.fetched.place (given v.loads) made.word value at.thread at.along.all made.wants found)

pub returns-clause-recordable : goal.returns-clause-recordable
returns-clause-recordable g c =
    let worker = c.args.self.now in
    let at = c.requires.fetched.going.at in
    let has = at.along.all.loaded in
    let program = worker.cpu.program in
    let bytes = at.thread.accepted.0 in
    any_recordable at.passed worker.cpu.marks c.give-event.new.self.marks c.give-event.result
    (run_ids bytes program worker.cpu.limits worker.cpu.thread at.passed has.end has.last
    (subst (λ (q : Program). IsAccepted bytes q) (sym at.thread.program) at.thread.accepted.1) has.run)
    (c.give-event.ensures.event at.passed has.end has.last has.run)

pub returns-clause-room : goal.returns-clause-room
returns-clause-room g c =
    let worker = c.args.self.now in
    let at = c.requires.fetched.going.at in
    let has = at.along.all.loaded in
    any_room g.R.Recorder.stands worker.recorder at.passed worker.cpu.marks c.give-event.new.self.marks c.give-event.result at.recorded_are
    (omega (arith, c.passings_are_few.ensures)) (c.give-event.ensures.event at.passed has.end has.last has.run)

pub returns-clause-ends : goal.returns-clause-ends
returns-clause-ends g c =
    let worker = c.args.self.now in
    let at = c.requires.fetched.going.at in
    let has = at.along.all.loaded in
    some_ends at.passed worker.cpu.marks c.give-event.new.self.marks c.give-event.result c.give-event.new.self.want c.give-event.ensures.marks
    (c.give-event.ensures.event at.passed has.end has.last has.run)

pub returns-clause-same : goal.returns-clause-same
returns-clause-same g c =
    record { table = refl; thread = c.give-event.ensures.thread; recorder = g.met.R.Recorder.follows_itself _ }

pub returns-clause-lacks : goal.returns-clause-lacks
returns-clause-lacks g c =
    let worker = c.args.self.now in
    let plan = script_of worker.table.now in
    let t = worker.cpu in
    let made = c.requires.fetched in
    let v = work_view made.before in
    let at = made.going.at in
    let has = at.along.all.loaded in
    let gave = c.give-event.ensures in
    let fetched = made.fetched in
    let value = c.args.value in
    let found = is_found plan t v _ made.word value at.own.1 at.seat made.going.count fetched in
    record {
      once = λ noted notes. record {
        own = made.own;
        thread = same_in plan t c.give-event.new.self at.thread gave.thread;
        seat = ap (λ (x : WorkView). x.thread) fetched.view ∙ at.seat ∙ sym gave.thread.thread;
        within = subst (λ (x : WorkView). x.seen ≤ total_of plan.program plan.threads (commands_of plan.lines)) (sym fetched.view)
            (found_within plan t v.seen made.word value fetched.place found);
        passed = at.passed;
        along = along_more plan t c.give-event.new.self v _ at.passed made.word value fetched.place at.thread at.along made.wants found
            gave.thread.thread gave.loads gave.kept fetched.view;
        recorded_are = subst (g.R.Recorder.stands noted) (sym (gave.event at.passed has.end has.last has.run))
            (notes (recorded at.passed t.marks) at.recorded_are);
      };
    }

pub returns-clause-given : goal.returns-clause-given
returns-clause-given g c =
    let gave = c.give-event.ensures in record { marks = gave.marks; kept = gave.kept; nearer = gave.nearer }
