use Rattle.std.proofs.Common.{◌≡◌, ℕ, ◌+◌, ◌-◌, List, ◌++◌, length, take, drop, subst, sym, ap, ◌∙◌, length-append, arith}
use Rattle.std.proofs.lemmas.List.{length-drop, length-take, take_rest}
use Rattle.fdr_file.specs.declared.trace.Block.{Block}
use Rattle.fdr_file.specs.Scanning.{blocks_given}
use Rattle.fdr_file.specs.Streams.{Scans}
use Rattle.fdr_file.proofs.EventRuns.{runs_longer}
use Rattle.fdr_file.proofs.scan.TraceScan.feed_some.Goals as goal

-- the stream with more bytes of the piece
longer : (stream piece : List ℕ) (len n : ℕ) → (stream ++ take len piece) ++ take n (take (length piece - len) (drop len piece)) ≡ stream ++ take (len + n) piece
longer stream piece len n = ap (λ (x : List ℕ). (stream ++ take len piece) ++ take n x) (take_rest piece len) ∙ runs_longer stream piece len n

pub feed_events-requires : goal.feed_events-requires
feed_events-requires g c =
    let piece = c.args.piece.now in
    let len = c.advance-len.result.0 in
    let s = c.requires.stands in
    let a = c.advance-len.ensures.advances s.0 s.1 in
    record {
      stands = (
        s.0 ++ take len piece,
        a.scans,
        subst (λ (x : List Block). g.K.Taker.took c.tell.new.taker x) (sym a.grows) (c.in_ok-tell.ensures.took (blocks_given s.0) s.2 a.can),
        omega (arith, s.3, length-append s.0 (take len piece), length-take len piece, ap length (take_rest piece len), length-drop len piece, c.advance-len.ensures.within),
      );
    }

pub returns-clause-scans : goal.returns-clause-scans
returns-clause-scans g c stream h took =
    let piece = c.args.piece.now in
    let len = c.advance-len.result.0 in
    let a = c.advance-len.ensures.advances stream h in
    let now = subst (λ (x : List Block). g.K.Taker.took c.tell.new.taker x) (sym a.grows) (c.in_ok-tell.ensures.took (blocks_given stream) took a.can) in
    subst (λ (x : List ℕ). Scans c.feed_events.new.self x) (longer stream piece len c.in_ok-more.more) (c.in_ok-more.ensures.scans (stream ++ take len piece) a.scans now)

pub returns-clause-took : goal.returns-clause-took
returns-clause-took g c stream h took =
    let piece = c.args.piece.now in
    let len = c.advance-len.result.0 in
    let a = c.advance-len.ensures.advances stream h in
    let now = subst (λ (x : List Block). g.K.Taker.took c.tell.new.taker x) (sym a.grows) (c.in_ok-tell.ensures.took (blocks_given stream) took a.can) in
    subst (λ (x : List ℕ). g.K.Taker.took c.feed_events.new.taker (blocks_given x)) (longer stream piece len c.in_ok-more.more) (c.in_ok-more.ensures.took (stream ++ take len piece) a.scans now)
