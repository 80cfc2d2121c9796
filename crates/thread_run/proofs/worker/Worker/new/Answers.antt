use Rattle.std.proofs.Common.{◌≤◌, ap, arith, length, subst, sym, ◌∙◌}
use Rattle.patch_script.specs.Plans.{Plan}
use Rattle.patch_script.specs.Micros.{start_of, total_of}
use Rattle.patch_script.specs.Refusals.{commands_of}
use Rattle.sled_rule.specs.Seats.{work_view, script_of}
use Rattle.thread_run.proofs.LoadAndSeat.{fresh_along}
use Rattle.thread_run.proofs.WorkerLoads.{none_noted}
use Rattle.thread_run.proofs.worker.Worker.new.Goals as goal

pub returns-clause-going : goal.returns-clause-going
returns-clause-going g c =
    let plan = script_of c.args.table.now in
    let v = work_view c.args.seat in
    let is = c.requires.fresh in
    let fresh = is.fresh in
    let within = subst (λ (p : Plan). start_of p.program p.threads (commands_of p.lines) ≤ total_of p.program p.threads (commands_of p.lines)) c.script.ensures
    c.threads_start_within.ensures in
    record {
      at = record {
        own = c.requires.own;
        thread = fresh.thread;
        seat = is.own;
        within = omega (arith, within, is.seen);
        passed = fresh.passed;
        along = fresh_along plan c.args.cpu v is;
        recorded_are = none_noted g.R.Recorder.stands c.args.recorder fresh.passed c.args.cpu.marks fresh.no_marks c.requires.no_events;
      };
      count = is.count ∙ sym (ap length fresh.no_marks);
    }
