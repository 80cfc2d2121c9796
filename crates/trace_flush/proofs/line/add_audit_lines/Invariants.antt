use Rattle.std.proofs.Common.{◌≡◌, ◌+◌, ◌++◌, take, vec_len}
use Rattle.std.specs.Prelude.{vec_capacity}
use Rattle.trace_flush.specs.Lines.{audit_lines_of}
use Rattle.trace_flush.proofs.line.add_audit_lines.Given as goal

abbrev pub invariant-loop-i : goal.invariant-loop-i
invariant-loop-i l = record {
  lines : l.lines.items ≡ l.initial.lines.items ++ audit_lines_of (take l.i l.cpus) (take l.i l.segments) (take l.i l.first);
  count : vec_len l.lines ≡ vec_len l.initial.lines + l.i;
  capacity : vec_capacity l.lines ≡ vec_capacity l.initial.lines;
}
