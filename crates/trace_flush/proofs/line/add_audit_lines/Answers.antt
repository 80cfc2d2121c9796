use Rattle.std.proofs.Common.{◌≡◌, ◌+◌, ◌<◌, ◌++◌, [], ◌∷◌, ℕ, List, suc, arith, ap, append_assoc, get_or, length, refl, sym, take, ◌∙◌}
use Rattle.std.proofs.lemmas.Option.{slice_get-get_or, slice_get_read}
use Rattle.trace_flush.specs.declared.line.AuditLine.{AuditLine}
use Rattle.trace_flush.specs.Lines.{audit_line_of, audit_lines_of}
use Rattle.trace_flush.proofs.AuditOfRun.{lines_more}
use Rattle.trace_flush.proofs.line.add_audit_lines.Goals as goal

pub loop-i-preserved : goal.loop-i-preserved
loop-i-preserved c =
    let i = c.loop-i.i in
    let cpus = c.args.cpus.now in
    let segments = c.args.segments.now in
    let first = c.args.first.now in
    let start = c.args.lines.now.items in
    let t = c.index-cpus-i.result in
    let n = get_or segments i 0 in
    let m = get_or first i 0 in
    let within : i < length cpus = omega arith in
    let more = lines_more cpus segments first i t n m (slice_get_read cpus (length cpus) i t refl within c.index-cpus-i.is)
    (slice_get-get_or segments i 0 (omega arith)) (slice_get-get_or first i 0 (omega arith)) in
    let line : AuditLine = record { thread = c.thread.result; end = c.end.result; segments = n; first = m } in
    let is : line ≡ audit_line_of t n m = rw (c.thread.ensures, c.end.ensures) refl in
    let so_far = audit_lines_of (take i cpus) (take i segments) (take i first) in
    let next : suc i ≡ i + 1 = omega arith in
    record {
      lines = c.push_reserved.ensures.items
          ∙ ap (λ (x : AuditLine). c.loop-i.lines.items ++ x ∷ []) is
          ∙ ap (λ (xs : List AuditLine). xs ++ audit_line_of t n m ∷ []) c.loop-i.invariant.lines
          ∙ append_assoc start so_far (audit_line_of t n m ∷ [])
          ∙ ap (λ (xs : List AuditLine). start ++ xs) (sym more)
          ∙ ap (λ (k : ℕ). start ++ audit_lines_of (take k cpus) (take k segments) (take k first)) next;
      count = grind arith;
      capacity = grind arith;
    }
