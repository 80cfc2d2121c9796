use Rattle.std.proofs.Common.{◌≡◌, ◌∙◌, ap, subst}
use Rattle.xray_io.specs.Text.{AddsText}
use Rattle.fdr_file.specs.declared.header.Header.{Header}
use Rattle.fdr_file.specs.Scanning.{scanned}
use Rattle.fdr_file.specs.Traces.{version_in}
use Rattle.trace_forms.proofs.Lines.{header_is, header_pieces}
use Rattle.trace_forms.proofs.dump.add_header.Goals as goal

pub returns : goal.returns
returns g c =
    let bytes = c.args.bytes.now in
    let trace = c.requires.0 in
    let read = c.requires.1 in
    let header = c.header-header.ensures ∙ (c.new.ensures.header trace read ∙ header_is bytes trace (scanned bytes) read (c.a_file_is_read_by_records.ensures.ends bytes)) in
    let version : c.from.result ≡ version_in bytes = c.from.ensures ∙ ap (λ (h : Header). h.version) header in
    subst (λ t. AddsText g.S.Sink.written g.S.Sink.faults g.S.Sink.along c.args.text.now c.pieces.new.self t c.pieces.result) (header_pieces bytes c.from.result version)
    c.pieces.ensures.adds
