use Rattle.std.proofs.Common.{[], ◌∷◌, None, subst}
use Rattle.std.specs.List.{flat_map}
use Rattle.fdr_file.specs.declared.header.Header.{Header}
use Rattle.fdr_file.specs.Files.{file_bytes}
use Rattle.trace_flush.specs.Audit.{audit_text, recycled_by, thread_audits}
use Rattle.xray_io.specs.World.{desk_view, sink_view}
use Rattle.machine_step.specs.EndedText.{thread_text}
use Rattle.xray_program.specs.private.Works.{Delivers}
use Rattle.xray_program.proofs.traced.deliver_texts.Goals as goal

pub returns-clause-delivers : goal.returns-clause-delivers
returns-clause-delivers g c =
    let seen = desk_view g.D.Desk.held g.D.Desk.read_faults g.D.Desk.write_faults in
    let got = sink_view g.O.Sink.written g.O.Sink.faults in
    let a = c.args in
    let P : Header → Type 0 = λ header.
    Delivers ((a.files.now.trace.now, file_bytes header a.buffers.now) ∷ (a.files.now.audit.now, audit_text a.setup.now (thread_audits a.lines.now a.cpus.now) (recycled_by a.lines.now)) ∷ [])
    (flat_map thread_text a.cpus.now) None (seen a.desk.now) (seen c.deliver.new.desk) (got a.out.now) (got c.deliver.new.out)
    (g.D.Desk.along a.desk.now c.deliver.new.desk) c.deliver.result in
    subst P c.trace_header-header.ensures c.deliver.ensures.delivers
