use Rattle.std.proofs.Common.{◌≡◌, ℕ, ◌+◌, ◌-◌, List, ◌++◌, take, drop, length, subst, sym, ap, ◌∙◌, append_assoc, arith}
use Rattle.std.proofs.lemmas.List.{length-drop, length-take, take_all, take_rest}
use Rattle.std.proofs.Math.Seq.{take-add}
use Rattle.fdr_file.specs.Scanning.{blocks_given}
use Rattle.fdr_file.specs.Streams.{Scans}
use Rattle.fdr_file.proofs.scan.TraceScan.feed.Goals as goal

-- the stream with more bytes of the piece
longer : (stream piece : List ℕ) (from n : ℕ) → (stream ++ take from piece) ++ take n (take (length piece - from) (drop from piece)) ≡ stream ++ take (from + n) piece
longer stream piece from n =
    append_assoc stream (take from piece) (take n (take (length piece - from) (drop from piece)))
    ∙ ap (λ (x : List ℕ). stream ++ (take from piece ++ take n x)) (take_rest piece from)
    ∙ ap (λ (x : List ℕ). stream ++ x) (sym (take-add from n piece))

pub feeding-preserved : goal.feeding-preserved
feeding-preserved g c =
    let piece = c.args.piece.now in
    let from = c.feeding.from in
    let n = c.in_ok-from.field-0 in
    record {
      within = omega (arith, c.in_ok-from.ensures.within.1, length-take (length piece - from) (drop from piece), length-drop from piece, c.feeding.invariant.within);
      stands = λ stream scans took.
          let now = c.feeding.invariant.stands stream scans took in
          let is = longer stream piece from n in (
            subst (λ (x : List ℕ). Scans c.feed_some.new.self x) is (c.in_ok-from.ensures.scans (stream ++ take from piece) now.0 now.1),
            subst (λ (x : List ℕ). g.K.Taker.took c.feed_some.new.taker (blocks_given x)) is (c.in_ok-from.ensures.took (stream ++ take from piece) now.0 now.1),
          );
      later = omega (arith, c.feeding.invariant.later, c.feed_some.ensures.later);
    }

pub returns-clause-scans : goal.returns-clause-scans
returns-clause-scans g c stream scans took =
    subst (λ (x : List ℕ). Scans c.feeding.self (stream ++ x)) (take_all c.feeding.from c.args.piece.now c.feeding-test.false) (c.feeding.invariant.stands stream scans took).0

pub returns-clause-took : goal.returns-clause-took
returns-clause-took g c stream scans took =
    subst (λ (x : List ℕ). g.K.Taker.took c.feeding.taker (blocks_given (stream ++ x))) (take_all c.feeding.from c.args.piece.now c.feeding-test.false) (c.feeding.invariant.stands stream scans took).1
