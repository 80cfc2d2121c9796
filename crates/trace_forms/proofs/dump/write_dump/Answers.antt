use Rattle.std.proofs.Common.{◌≡◌, ℕ, subst}
use Rattle.xray_io.specs.Writes.{WritesText}
use Rattle.trace_forms.specs.Dumps.{dump_text}
use Rattle.trace_forms.proofs.dump.write_dump.Goals as goal

pub returns : goal.returns
returns g c = record {
  writes = λ len readable.
      let same : c.in-Ok.end ≡ len = let h = c.in-Ok.ensures.exact len readable in cc in
      subst (λ (n : ℕ). WritesText g.S.Sink.written g.S.Sink.faults g.S.Sink.along c.args.sink.now c.write_text.new.sink (dump_text c.args.bytes.now n) c.write_text.result)
      same c.write_text.ensures.writes;
}

pub unreachable-requires : goal.unreachable-requires
unreachable-requires g c = let never = c.in-Err.ensures.exact c.requires.0 c.requires.1 in cc
