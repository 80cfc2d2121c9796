use Rattle.std.proofs.Common.{ℕ, ◌≡◌, ◌+◌, List, length, take, ◌∙◌, refl, ap, subst, arith, rules, length-take}
use Rattle.std.proofs.Math.Nat.{add-zero}
use Rattle.xray_io.specs.private.Pieces.{IsFedFront}
use Rattle.xray_io.proofs.ReadPieces.{front_all}
use Rattle.xray_io.proofs.DeskCalls.{reads_more, reads_end, reads_stop}
use Rattle.xray_io.proofs.whole.read_on.Goals as goal

pub returns-in_err-len-clause-calls : goal.returns-in_err-len-clause-calls
returns-in_err-len-clause-calls g c =
    reads_stop g.met.D.Desk.along_both c.args.desk.now c.reading.desk c.feed_piece.new.desk c.args.name.now c.args.limit c.reading.at _ c.in_err-len.field-0.0
    (omega (arith, length-take (c.min.result + 1) c.reading.piece)) c.reading.invariant.bound (omega (arith, length-take (c.min.result + 1) c.reading.piece))
    c.reading.invariant.calls c.in_err-len.ensures.calls c.from_residual.result c.from_residual.ensures.1

pub returns-then-len-eq0-clause-whole : goal.returns-then-len-eq0-clause-whole
returns-then-len-eq0-clause-whole g c =
    let read = c.in_ok-len.ensures in
    let entry = g.D.Desk.held c.args.desk.now c.args.name.now in
    let same : g.D.Desk.held c.reading.desk c.args.name.now ≡ entry = ap (λ (held : List ℕ → _). held c.args.name.now) c.reading.invariant.held in
    let end : c.reading.at + c.in_ok-len.len ≡ c.reading.at = ap (λ n. c.reading.at + n) c.if-len-eq0.true ∙ add-zero _ in
    let P : _ → Type 0 = λ e. IsFedFront g.F.Feed.fed c.feed_piece.new.feed e (c.reading.at + c.in_ok-len.len) in
    let Q : ℕ → Type 0 = IsFedFront g.F.Feed.fed c.feed_piece.new.feed entry in
    front_all c.feed_piece.new.feed entry c.reading.at (subst Q end (subst P same read.front)) (λ content holds. read.end content (same ∙ holds) c.if-len-eq0.true)

pub returns-then-len-eq0-clause-calls : goal.returns-then-len-eq0-clause-calls
returns-then-len-eq0-clause-calls g c =
    reads_end g.met.D.Desk.along_both c.args.desk.now c.reading.desk c.feed_piece.new.desk c.args.name.now c.args.limit c.reading.at
    (length (take (c.min.result + 1) c.reading.piece)) c.in_ok-len.len (omega (arith, length-take (c.min.result + 1) c.reading.piece))
    (omega (arith, length-take (c.min.result + 1) c.reading.piece)) c.if-len-eq0.true c.reading.invariant.calls c.in_ok-len.ensures.calls

pub reading-preserved : goal.reading-preserved
reading-preserved g c = record {
  front = search rules;
  bound = search rules;
  held = search rules;
  calm = search rules;
  writes = search rules;
  calls =
      reads_more g.met.D.Desk.along_both c.args.desk.now c.reading.desk c.feed_piece.new.desk c.args.name.now c.args.limit c.reading.at _ _ (c.reading.at + c.in_ok-len.len)
      (omega (arith, length-take (c.min.result + 1) c.reading.piece)) (omega arith) refl c.reading.invariant.calls c.in_ok-len.ensures.calls;
}
