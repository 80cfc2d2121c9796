use Rattle.std.proofs.Common.{◌≡◌, ℕ, ◌+◌, ◌-◌, List, ◌++◌, take, drop, ap, subst, sym, ◌∙◌, arith}
use Rattle.std.proofs.Math.Seq.{take-add}
use Rattle.fdr_file.specs.Streams.{Scans}
use Rattle.layer_tests.proofs.damaged_traces.read_in_pieces.Goals as goal

-- the bytes so far and the next piece
longer : (bytes : List ℕ) (from n : ℕ) → take from bytes ++ take (from + n - from) (drop from bytes) ≡ take (from + n) bytes
longer bytes from n =
    let size : from + n - from ≡ n = omega arith in
    ap (λ (k : ℕ). take from bytes ++ take k (drop from bytes)) size ∙ sym (take-add from n bytes)

pub feeding-preserved : goal.feeding-preserved
feeding-preserved c =
    let bytes = c.args.bytes.now in
    record {
      within = omega (arith, c.min-len.ensures);
      scans = subst (λ (x : List ℕ). Scans c.feed.new.self x) (longer bytes c.feeding.from c.min-len.result)
          (c.in_ok-feed.ensures.scans (take c.feeding.from bytes) c.feeding.invariant.scans tt);
    }
