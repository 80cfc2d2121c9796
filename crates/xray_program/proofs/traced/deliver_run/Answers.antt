use Rattle.std.proofs.Common.{◌∙◌, None, ap, length, subst, sym}
use Rattle.std.specs.List.{All}
use Rattle.machine_step.specs.Traced.{IsDone}
use Rattle.traced_run.specs.Kept.{kept_buffers}
use Rattle.xray_io.specs.World.{desk_view, sink_view}
use Rattle.xray_program.specs.private.Works.{Delivers}
use Rattle.xray_program.proofs.RunWritten.{all_begun, lines_count, lost_counts, only_lines, run_ended, run_written, segment_counts}
use Rattle.xray_program.proofs.traced.deliver_run.Goals as goal

pub add_audit_lines-requires-clause-done : goal.add_audit_lines-requires-clause-done
add_audit_lines-requires-clause-done g c =
    let ended = run_ended c.args.setup.now c.requires.left.0 _ _ _ _ c.requires.left.1.leaves in
    subst (All (λ t. IsDone t.want)) (sym c.deref.ensures.value) ended

pub deliver_texts-requires-clause-begun : goal.deliver_texts-requires-clause-begun
deliver_texts-requires-clause-begun g c =
    let left = c.requires.left.1 in
    all_begun c.args.setup.now c.requires.left.0 c.deref-6.result.now
    (c.deref-6.ensures.value ∙ c.arrange.ensures.run c.args.setup.now c.requires.left.0 left.buffers_are)

pub deliver_texts-requires-clause-count : goal.deliver_texts-requires-clause-count
deliver_texts-requires-clause-count g c =
    let left = c.args.left in
    let setup = c.args.setup.now in
    let runs = c.requires.left.0 in
    let leaves = c.requires.left.1.leaves in
    let lines = only_lines c.deref-5.result.now c.args.lines.items left.cpus.items c.deref.result.now left.segments.items c.deref-2.result.now
    left.first.items c.deref-3.result.now (c.deref-5.ensures.value ∙ c.add_audit_lines.ensures.lines) c.requires.none c.deref.ensures.value
    c.deref-2.ensures.value c.deref-3.ensures.value in
    ap length lines ∙ lines_count left.cpus.items left.segments.items left.first.items (segment_counts setup runs _ _ _ _ leaves)
    (lost_counts setup runs _ _ _ _ leaves) ∙ sym (ap length c.deref-4.ensures.value)

pub deliver_texts-requires-clause-done : goal.deliver_texts-requires-clause-done
deliver_texts-requires-clause-done g c =
    let ended = run_ended c.args.setup.now c.requires.left.0 _ _ _ _ c.requires.left.1.leaves in
    subst (All (λ t. IsDone t.want)) (sym c.deref-4.ensures.value) ended

pub returns-clause-delivers : goal.returns-clause-delivers
returns-clause-delivers g c = λ runs is.
    let seen = desk_view g.D.Desk.held g.D.Desk.read_faults g.D.Desk.write_faults in
    let got = sink_view g.O.Sink.written g.O.Sink.faults in
    let left = c.args.left in
    let setup = c.args.setup.now in
    let files = c.args.files.now in
    let lines = only_lines c.deref-5.result.now c.args.lines.items left.cpus.items c.deref.result.now left.segments.items c.deref-2.result.now
    left.first.items c.deref-3.result.now (c.deref-5.ensures.value ∙ c.add_audit_lines.ensures.lines) c.requires.none c.deref.ensures.value
    c.deref-2.ensures.value c.deref-3.ensures.value in
    run_written c.a_run_is_audited.ensures.threads c.a_run_is_audited.ensures.recycled files.trace.now files.audit.now setup runs left.cpus.items left.segments.items left.first.items (kept_buffers setup runs)
    is.leaves c.deref-4.result.now c.deref-5.result.now c.deref-6.result.now c.deref-4.ensures.value lines
    (c.deref-6.ensures.value ∙ c.arrange.ensures.run setup runs is.buffers_are)
    (λ outputs text. Delivers outputs text None (seen c.args.desk.now) (seen c.deliver_texts.new.desk) (got c.args.out.now) (got c.deliver_texts.new.out)
    (g.D.Desk.along c.args.desk.now c.deliver_texts.new.desk) c.deliver_texts.result)
    c.deliver_texts.ensures.delivers
