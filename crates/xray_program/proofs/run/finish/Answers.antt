use Rattle.std.proofs.Common.{[], None, map, refl, subst}
use Rattle.machine_step.specs.declared.setup.Setup.{Setup}
use Rattle.patch_script.specs.Refusals.{commands_of}
use Rattle.sled_rule.specs.Seats.{work_view}
use Rattle.thread_run.specs.Runs.{HaveRunBeside}
use Rattle.xray_image.specs.Program.{Program}
use Rattle.xray_io.specs.World.{desk_view, sink_view}
use Rattle.xray_program.specs.Commands.{doing_of}
use Rattle.xray_program.specs.Doings.{MayLeave}
use Rattle.xray_program.specs.Run.{RanBeside, left_of_runs}
use Rattle.xray_program.specs.private.RunInputs.{said_by}
use Rattle.xray_program.specs.Traced.{IsTraced, state_texts, written_of}
use Rattle.xray_program.specs.private.Works.{Finishes}
use Rattle.xray_program.specs.declared.stop.Stop.TheVariants as stops
use Rattle.xray_program.proofs.LawfulRuns.{ran_beside}
use Rattle.xray_program.proofs.WorkEndings.{finishes, finishes_of, refuses}
use Rattle.xray_program.proofs.RunWritten.{leaves_same}
use Rattle.xray_program.proofs.StartedThreads.{delivers_something, none_at_memory}
use Rattle.xray_program.proofs.run.finish.Goals as goal

pub deliver_run-requires-clause-left : goal.deliver_run-requires-clause-left
deliver_run-requires-clause-left g c =
    let ran = c.in_ok-end.ensures.left in
    let end = c.in_ok-end.end in
    let left = c.from.result in (
      ran.runs,
      leaves_same c.setup_of-setup.result ran.runs end.cpus left.cpus end.segments left.segments end.first left.first end.buffers left.buffers
          c.from.ensures ran.leaves,
    )

pub returns-clause-finishes : goal.returns-clause-finishes
returns-clause-finishes g c =
    let seen = desk_view g.D.Desk.held g.D.Desk.read_faults g.D.Desk.write_faults in
    let got = sink_view g.O.Sink.written g.O.Sink.faults in
    let s = c.args.command.now in
    let setup = c.setup_of-setup.result in
    let inputs = c.args.inputs in
    let end = c.in_ok-end.end in
    let left = c.from.result in
    let P : Program → Type 0 = λ program.
    HaveRunBeside program (commands_of inputs.script.lines) setup end.cpus.items (map work_view end.seats.items) end.segments.items end.first.items
    end.buffers.items in
    let is : P inputs.image = subst P c.in_ok-steps.ensures.program c.in_ok-end.ensures.left in
    let trace = s.files.trace.now in
    let audit = s.files.audit.now in
    let outputs = written_of trace audit setup is.runs in
    let text = state_texts 1 is.runs in
    let commands = commands_of inputs.script.lines in
    let image = c.each_was_accepted.ensures in
    let Are = IsTraced (RanBeside inputs.image commands setup.threads setup.limits) setup trace audit in
    let traced : Are outputs text = record {
      runs = is.runs;
      ran = ran_beside c.what_runs_leave.ensures image.0 inputs.image commands setup.threads setup.limits is.runs image.1 is.run.count is.run.plain is.follow;
      losses = is.losses;
      outputs_are = refl;
      text_is = refl;
    } in
    let Done : Setup → Type 0 = λ with_it.
    Finishes (MayLeave (left_of_runs trace audit with_it inputs.image inputs.script)) (seen c.args.desk.now)
    (seen c.deliver_run.new.desk) (got c.args.out.now) (got c.deliver_run.new.out) (g.D.Desk.along c.args.desk.now c.deliver_run.new.desk) c.deliver_run.result in
    finishes_of (doing_of (said_by s)).leaves (inputs.image, inputs.script) _ _ _ _ _ c.deliver_run.result
    (subst Done c.setup_of-setup.ensures.options
    (finishes (MayLeave (left_of_runs trace audit setup inputs.image inputs.script)) outputs text None
    (seen c.args.desk.now) (seen c.deliver_run.new.desk) (got c.args.out.now) (got c.deliver_run.new.out)
    (g.D.Desk.along c.args.desk.now c.deliver_run.new.desk) c.deliver_run.result
    ((outputs, text), traced, refl)
    (c.deliver_run.ensures.delivers is.runs (leaves_same setup is.runs end.cpus left.cpus end.segments left.segments end.first left.first end.buffers left.buffers c.from.ensures is.leaves))))

pub returns-in_err-lines-clause-finishes : goal.returns-in_err-lines-clause-finishes
returns-in_err-lines-clause-finishes g c =
    refuses _ (desk_view g.D.Desk.held g.D.Desk.read_faults g.D.Desk.write_faults c.args.desk.now)
    (sink_view g.O.Sink.written g.O.Sink.faults c.args.out.now) (g.D.Desk.along c.args.desk.now c.args.desk.now) stops.NoMemory c.from_residual.result c.from_residual.ensures.1
    ((refl, refl), record { calls = []; way = g.met.D.Desk.along_none c.args.desk.now; are = refl })

pub returns-in_err-steps-clause-finishes : goal.returns-in_err-steps-clause-finishes
returns-in_err-steps-clause-finishes g c =
    refuses _ (desk_view g.D.Desk.held g.D.Desk.read_faults g.D.Desk.write_faults c.args.desk.now)
    (sink_view g.O.Sink.written g.O.Sink.faults c.args.out.now) (g.D.Desk.along c.args.desk.now c.args.desk.now) stops.NoMemory c.from_residual-in_err-steps.result c.from_residual-in_err-steps.ensures.1
    ((refl, refl), record { calls = []; way = g.met.D.Desk.along_none c.args.desk.now; are = refl })

pub returns-in_err-end-clause-finishes : goal.returns-in_err-end-clause-finishes
returns-in_err-end-clause-finishes g c =
    refuses _ (desk_view g.D.Desk.held g.D.Desk.read_faults g.D.Desk.write_faults c.args.desk.now)
    (sink_view g.O.Sink.written g.O.Sink.faults c.args.out.now) (g.D.Desk.along c.args.desk.now c.args.desk.now) stops.NoMemory c.from_residual-in_err-end.result c.from_residual-in_err-end.ensures.1
    ((refl, refl), record { calls = []; way = g.met.D.Desk.along_none c.args.desk.now; are = refl })

pub returns-clause-starts : goal.returns-clause-starts
returns-clause-starts g c unwriting =
    let seen = desk_view g.D.Desk.held g.D.Desk.read_faults g.D.Desk.write_faults in
    let got = sink_view g.O.Sink.written g.O.Sink.faults in
    let s = c.args.command.now in
    let setup = c.setup_of-setup.result in
    let end = c.in_ok-end.end in
    let left = c.from.result in
    let is = c.in_ok-end.ensures.left in
    absurd (delivers_something (written_of s.files.trace.now s.files.audit.now setup is.runs) (state_texts 1 is.runs) None
    (seen c.args.desk.now) (seen c.deliver_run.new.desk) (got c.args.out.now) (got c.deliver_run.new.out)
    (g.D.Desk.along c.args.desk.now c.deliver_run.new.desk) c.deliver_run.result
    (c.deliver_run.ensures.delivers is.runs (leaves_same setup is.runs end.cpus left.cpus end.segments left.segments end.first left.first end.buffers left.buffers c.from.ensures is.leaves))
    unwriting)

pub returns-in_err-lines-clause-started : goal.returns-in_err-lines-clause-started
returns-in_err-lines-clause-started g c came = absurd (none_at_memory c.from_residual.result c.from_residual.ensures.1 came)

pub returns-in_err-steps-clause-started : goal.returns-in_err-steps-clause-started
returns-in_err-steps-clause-started g c came = absurd (none_at_memory c.from_residual-in_err-steps.result c.from_residual-in_err-steps.ensures.1 came)

pub returns-in_err-end-clause-started : goal.returns-in_err-end-clause-started
returns-in_err-end-clause-started g c came = absurd (none_at_memory c.from_residual-in_err-end.result c.from_residual-in_err-end.ensures.1 came)
