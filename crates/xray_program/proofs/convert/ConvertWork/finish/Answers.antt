use Rattle.std.proofs.Common.{◌≡◌, ◌∙◌, ℕ, List, [], None, ap, codes, subst, sym}
use Rattle.fdr_file.specs.declared.trace.Trace.{Trace}
use Rattle.function_names.specs.Name.{naming}
use Rattle.map_names.specs.Naming.{Naming}
use Rattle.xray_io.specs.World.{desk_view, sink_view}
use Rattle.xray_program.specs.Convert.{converted, no_text_for}
use Rattle.xray_program.specs.Outcomes.{Done}
use Rattle.xray_program.specs.private.Logs.{LogMeans, bytes_text}
use Rattle.xray_program.specs.private.NamesTaken.{named_by}
use Rattle.command_words.specs.Views.{source_view}
use Rattle.command_words.specs.Words as words
use Rattle.xray_program.specs.Commands.{doing_of}
use Rattle.xray_program.specs.Doings.{MayLeave}
use Rattle.xray_program.proofs.ConvertLaws.{bytes_kept, bytes_say, trace_kept}
use Rattle.xray_program.proofs.WorkEndings.{finishes, goes_on}
use Rattle.xray_program.proofs.convert.ConvertWork.finish.Goals as goal

pub returns-in-Fdr-clause-finishes : goal.returns-in-Fdr-clause-finishes
returns-in-Fdr-clause-finishes g c =
    let seen = desk_view g.D.Desk.held g.D.Desk.read_faults g.D.Desk.write_faults in
    let got = sink_view g.O.Sink.written g.O.Sink.faults in
    let s = c.args.self.now in
    let format = s.options.format in
    let inputs = c.args.inputs.now in
    let bytes = c.in-Fdr.bytes in
    let names = named_by inputs.names in
    let shown = naming c.as_names-names.result in
    let text = bytes_text format shown c.deref.result.now in
    let same : (trace : Trace) → LogMeans inputs.log trace → text ≡ converted format names trace =
    λ trace means.
    ap (λ (given : Naming). bytes_text format given c.deref.result.now) c.as_names-names.ensures
    ∙ (ap (λ (b : List ℕ). bytes_text format names b) c.deref.ensures.value
    ∙ bytes_say format names bytes.items trace (bytes_kept inputs.log bytes trace c.in-Fdr.is means)) in
    finishes _ [] text None (seen c.args.desk.now) (seen c.deliver.new.desk)
    (got c.args.out.now) (got c.deliver.new.out) (g.D.Desk.along c.args.desk.now c.deliver.new.desk) c.deliver.result
    (λ read says.
    subst (λ (given : Naming). MayLeave ((doing_of (words.Convert s.trace.now (source_view s.names) s.options)).leaves (read.0, given)) (Done [] text)) says.1
    (goes_on (no_text_for format read.0) s.trace.now (codes "trace") (λ outcome. outcome ≡ Done [] (converted format names read.0)) _
    (sym (c.in-None.ensures read.0 says.0)) (ap (Done []) (same read.0 says.0)))) c.deliver.ensures.delivers

pub returns-in-Basic-clause-finishes : goal.returns-in-Basic-clause-finishes
returns-in-Basic-clause-finishes g c =
    let seen = desk_view g.D.Desk.held g.D.Desk.read_faults g.D.Desk.write_faults in
    let got = sink_view g.O.Sink.written g.O.Sink.faults in
    let s = c.args.self.now in
    let format = s.options.format in
    let inputs = c.args.inputs.now in
    let read = c.in-Basic.trace in
    let names = named_by inputs.names in
    let shown = naming c.as_names-names.result in
    let text = converted format shown read in
    let same : (trace : Trace) → LogMeans inputs.log trace → text ≡ converted format names trace =
    λ trace means.
    ap (λ (given : Naming). converted format given read) c.as_names-names.ensures
    ∙ ap (λ (t : Trace). converted format names t) (trace_kept inputs.log read trace c.in-Basic.is means) in
    finishes _ [] text None (seen c.args.desk.now) (seen c.deliver-in-Basic.new.desk)
    (got c.args.out.now) (got c.deliver-in-Basic.new.out) (g.D.Desk.along c.args.desk.now c.deliver-in-Basic.new.desk) c.deliver-in-Basic.result
    (λ read says.
    subst (λ (given : Naming). MayLeave ((doing_of (words.Convert s.trace.now (source_view s.names) s.options)).leaves (read.0, given)) (Done [] text)) says.1
    (goes_on (no_text_for format read.0) s.trace.now (codes "trace") (λ outcome. outcome ≡ Done [] (converted format names read.0)) _
    (sym (c.in-None.ensures read.0 says.0)) (ap (Done []) (same read.0 says.0))))
    c.deliver-in-Basic.ensures.delivers
