use Rattle.std.proofs.Common.{◌+◌, ◌-◌, ◌++◌, ℕ, List, [], Ok, ap, arith, drop, length, refl, subst, sym, take}
use Rattle.std.proofs.lemmas.List.{take_rest}
use Rattle.xray_io.specs.Text.{AddsText, adds_failed, adds_more, adds_nothing, adds_within}
use Rattle.fdr_file.specs.Traces.{record_in, record_length}
use Rattle.trace_forms.specs.Dumps.{standing_line}
use Rattle.trace_forms.proofs.Lines.{length_few, length_some, lines_at, lines_end, lines_more}
use Rattle.trace_forms.proofs.dump.add_records.Goals as goal

pub lines-init : goal.lines-init
lines-init g c = ([], refl, adds_nothing g.met.S.Sink.along_none c.args.text.now)

pub overflow_add-at : goal.overflow_add-at
overflow_add-at g c = omega (arith, c.record_len-at.ensures, length_few (drop c.lines.at c.args.bytes.now), ap record_length (take_rest c.args.bytes.now c.lines.at))

pub lines-smaller : goal.lines-smaller
lines-smaller g c = omega (arith, c.record_len-at.ensures, length_some (drop c.lines.at c.args.bytes.now), ap record_length (take_rest c.args.bytes.now c.lines.at))

pub lines-preserved : goal.lines-preserved
lines-preserved g c =
    let given = c.lines.invariant.0 in
    let bytes = c.args.bytes.now in
    let rest = take (length bytes - c.lines.at) (drop c.lines.at bytes) in (
      given ++ standing_line (c.lines.at, record_in rest),
      lines_more given bytes rest c.lines.at c.record_len-at.result c.lines.invariant.1 c.lines-test.true (take_rest bytes c.lines.at) c.record_len-at.ensures,
      adds_more g.met.S.Sink.along_both {answer = Ok tt} c.lines.invariant.2 c.in_ok-add_standing.ensures,
    )

pub returns-in_err-add_standing : goal.returns-in_err-add_standing
returns-in_err-add_standing g c =
    let given = c.lines.invariant.0 in
    let bytes = c.args.bytes.now in
    let len = record_length (drop c.lines.at bytes) in
    adds_failed (adds_within g.met.S.Sink.along_both (lines_at (c.lines.at + len) (drop (c.lines.at + len) bytes)) c.lines.invariant.2 c.in_err-add_standing.ensures
    (sym (lines_more given bytes _ c.lines.at len c.lines.invariant.1 c.lines-test.true (take_rest bytes c.lines.at) (ap record_length (sym (take_rest bytes c.lines.at))))))
    c.from_residual.result c.from_residual.ensures.1

pub returns : goal.returns
returns g c =
    subst (λ (t : List ℕ). AddsText g.S.Sink.written g.S.Sink.faults g.S.Sink.along c.args.text.now c.lines.text t (Ok tt))
    (lines_end c.lines.invariant.0 c.args.bytes.now c.lines.at c.lines.invariant.1 c.lines-test.false) c.lines.invariant.2
