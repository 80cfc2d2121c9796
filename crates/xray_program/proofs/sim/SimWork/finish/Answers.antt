use Rattle.std.proofs.Common.{◌≡◌, ℕ, [], None, Ok, Err, refl, sym, ap, subst}
use Rattle.std.specs.Prelude.{All}
use Rattle.patch_script.specs.Plans.{waiting_line}
use Rattle.patch_script.specs.Refusals.{commands_of}
use Rattle.step_sim.specs.Replayed.{IsSimulated}
use Rattle.step_sim.specs.Schedules.{AreTurnsOf, schedule_of}
use Rattle.step_sim.specs.Starts.{Start}
use Rattle.machine_step.specs.declared.setup.Setup.{Setup}
use Rattle.xray_image.specs.Program.{Program}
use Rattle.xray_io.specs.World.{desk_view, sink_view}
use Rattle.xray_program.specs.Setups.{setup_of}
use Rattle.command_words.specs.Words as words
use Rattle.xray_program.specs.Commands.{doing_of}
use Rattle.xray_program.specs.Doings.{MayLeave}
use Rattle.xray_program.specs.Sim.{RanReplayed, left_of_replay}
use Rattle.xray_program.specs.Traced.{IsTraced, state_texts, written_of}
use Rattle.xray_program.specs.private.Works.{Finishes}
use Rattle.xray_program.proofs.LawfulRuns.{ran_replayed}
use Rattle.xray_program.proofs.WorkEndings.{finishes, finishes_of}
use Rattle.xray_program.proofs.RunWritten.{leaves_same}
use Rattle.xray_program.proofs.SimEndings.{sim_leaves, sim_refuses}
use Rattle.xray_program.proofs.sim.SimWork.finish.Goals as goal

pub play-requires : goal.play-requires
play-requires g c =
    let threads : c.setup_of-setup.result.threads ≡ c.args.self.now.options.bounds.threads = ap (λ (setup : Setup). setup.threads) c.setup_of-setup.ensures.options in
    let own = subst (λ (n : ℕ). All (AreTurnsOf n) c.args.inputs.now.schedule) (sym threads) c.requires.turns_of_threads in
    subst (λ (start : Start). All (AreTurnsOf start.setup.threads) c.args.inputs.now.schedule) (sym c.in-Ok.ensures.start) own

pub deliver_run-requires-clause-left : goal.deliver_run-requires-clause-left
deliver_run-requires-clause-left g c =
    let setup = c.setup_of-setup.result in
    let end = c.play.result in
    let left = c.from-left.result in
    let P : Start → Type 0 = λ start.
    IsSimulated start.program start.script c.args.inputs.now.schedule start.setup end.cpus.items end.sealed.items end.segments.items end.first.items
    end.buffers.items in
    let is = subst P c.in-Ok.ensures.start c.play.ensures in (
      is.runs,
      leaves_same setup is.runs end.cpus left.cpus end.segments left.segments end.first left.first end.buffers left.buffers c.from-left.ensures
          (c.kept_buffers_hold_events.ensures.any_order setup is.runs end.cpus.items end.segments.items end.first.items end.buffers.items is.leaves),
    )

pub returns-in-Ok-clause-finishes : goal.returns-in-Ok-clause-finishes
returns-in-Ok-clause-finishes g c =
    let seen = desk_view g.D.Desk.held g.D.Desk.read_faults g.D.Desk.write_faults in
    let got = sink_view g.O.Sink.written g.O.Sink.faults in
    let s = c.args.self.now in
    let setup = c.setup_of-setup.result in
    let inputs = c.args.inputs.now in
    let end = c.play.result in
    let left = c.from-left.result in
    let P : Start → Type 0 = λ start.
    IsSimulated start.program start.script inputs.schedule start.setup end.cpus.items end.sealed.items end.segments.items end.first.items end.buffers.items in
    let Q : Program → Type 0 = λ program.
    IsSimulated program (commands_of inputs.script.lines) inputs.schedule setup end.cpus.items end.sealed.items end.segments.items end.first.items
    end.buffers.items in
    let is : IsSimulated inputs.image (commands_of inputs.script.lines) inputs.schedule setup end.cpus.items end.sealed.items end.segments.items end.first.items
    end.buffers.items = subst Q c.in_ok-steps.ensures.program (subst P c.in-Ok.ensures.start c.play.ensures) in
    let leaves = leaves_same setup is.runs end.cpus left.cpus end.segments left.segments end.first left.first end.buffers left.buffers c.from-left.ensures
    (c.kept_buffers_hold_events.ensures.any_order setup is.runs end.cpus.items end.segments.items end.first.items end.buffers.items is.leaves) in
    let outputs = written_of s.files.trace.now s.files.audit.now setup is.runs in
    let text = state_texts 1 is.runs in
    let threads : s.options.bounds.threads ≡ setup.threads = sym (ap (λ (made : Setup). made.threads) c.setup_of-setup.ensures.options) in
    let reads = subst (λ (n : ℕ). schedule_of n c.requires.schedule_read.0 ≡ Ok inputs.schedule) threads c.requires.schedule_read.1 in
    let image = c.each_was_accepted.ensures in
    let Are = IsTraced (RanReplayed inputs.image inputs.script inputs.schedule setup) setup s.files.trace.now s.files.audit.now in
    let traced : Are outputs text = record {
      runs = is.runs;
      ran = ran_replayed c.what_runs_leave.ensures image.0 inputs.image inputs.script c.requires.schedule_read.0 inputs.schedule setup is.runs image.1 reads is.replay;
      losses = is.losses;
      outputs_are = refl;
      text_is = refl;
    } in
    let Done : Setup → Type 0 = λ with_it.
    Finishes (MayLeave (left_of_replay s.script.now s.files.trace.now s.files.audit.now with_it inputs.image inputs.script inputs.schedule)) (seen c.args.desk.now)
    (seen c.deliver_run.new.desk) (got c.args.out.now) (got c.deliver_run.new.out) (g.D.Desk.along c.args.desk.now c.deliver_run.new.desk) c.deliver_run.result in
    finishes_of (doing_of (words.Sim s.image.now s.script.now s.schedule.now s.files.trace.now s.files.audit.now s.options)).leaves
    (inputs.image, inputs.script, inputs.schedule) (seen c.args.desk.now) (seen c.deliver_run.new.desk) (got c.args.out.now) (got c.deliver_run.new.out)
    (g.D.Desk.along c.args.desk.now c.deliver_run.new.desk) c.deliver_run.result
    (subst Done c.setup_of-setup.ensures.options
    (finishes (MayLeave (left_of_replay s.script.now s.files.trace.now s.files.audit.now setup inputs.image inputs.script inputs.schedule)) outputs text None
    (seen c.args.desk.now) (seen c.deliver_run.new.desk) (got c.args.out.now) (got c.deliver_run.new.out)
    (g.D.Desk.along c.args.desk.now c.deliver_run.new.desk) c.deliver_run.result
    (sim_leaves s.script.now (waiting_line inputs.script.lines) _ _
    (λ line waits. let told = (c.new-2.ensures.waits line).1 waits in cc) ((outputs, text), traced, refl))
    (c.deliver_run.ensures.delivers is.runs leaves)))

pub returns-clause-finishes : goal.returns-clause-finishes
returns-clause-finishes g c =
    let seen = desk_view g.D.Desk.held g.D.Desk.read_faults g.D.Desk.write_faults in
    let got = sink_view g.O.Sink.written g.O.Sink.faults in
    let s = c.args.self.now in
    let inputs = c.args.inputs.now in
    finishes_of (doing_of (words.Sim s.image.now s.script.now s.schedule.now s.files.trace.now s.files.audit.now s.options)).leaves
    (inputs.image, inputs.script, inputs.schedule) (seen c.args.desk.now) (seen c.args.desk.now) (got c.args.out.now) (got c.args.out.now)
    (g.D.Desk.along c.args.desk.now c.args.desk.now) (Err c.fault_stop.result)
    (sim_refuses s.script.now s.files.trace.now s.files.audit.now (setup_of s.options) inputs.image inputs.script inputs.schedule (seen c.args.desk.now) (got c.args.out.now)
    (g.D.Desk.along c.args.desk.now c.args.desk.now) (record { calls = []; way = g.met.D.Desk.along_none c.args.desk.now; are = refl })
    c.in-Err.fault c.fault_stop.result (λ line is. (c.new-2.ensures.waits line).0 (cc)) c.fault_stop.ensures)
