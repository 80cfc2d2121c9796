use Rattle.std.proofs.Common.{◌≡◌, ◌+◌, ◌-◌, ◌++◌, ◌∙◌, ℕ, List, drop, take, ap, arith, subst, sym}
use Rattle.std.proofs.Math.Seq.{take-add}
use Rattle.fdr_file.specs.Scanning.{blocks_given}
use Rattle.fdr_file.specs.Streams.{Scans}
use Rattle.layer_tests.proofs.fed_traces.feed_pieces.Goals as goal

-- the bytes so far, and the next piece of them
longer : (bytes : List ℕ) (from n : ℕ) → take from bytes ++ take (from + n - from) (drop from bytes) ≡ take (from + n) bytes
longer bytes from n =
    let is : from + n - from ≡ n = omega arith in
    ap (λ (k : ℕ). take from bytes ++ take k (drop from bytes)) is ∙ sym (take-add from n bytes)

pub feeding-preserved : goal.feeding-preserved
feeding-preserved g c =
    let bytes = c.args.bytes.now in
    let from = c.feeding.from in
    let is = longer bytes from c.min-len.result in
    record {
      within = omega (arith, c.min-len.ensures);
      scans = subst (Scans c.feed.new.self) is (c.in_ok-feed.ensures.scans (take from bytes) c.feeding.invariant.scans c.feeding.invariant.took);
      took = subst (λ (stream : List ℕ). g.K.Taker.took c.feed.new.taker (blocks_given stream)) is
          (c.in_ok-feed.ensures.took (take from bytes) c.feeding.invariant.scans c.feeding.invariant.took);
    }
