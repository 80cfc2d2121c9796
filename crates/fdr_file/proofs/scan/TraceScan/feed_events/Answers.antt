use Rattle.std.proofs.Common.{ℕ, ◌≤◌, List, ◌++◌, length, take, subst}
use Rattle.fdr_file.specs.Scanning.{blocks_given}
use Rattle.fdr_file.specs.Streams.{Scans}
use Rattle.fdr_file.proofs.EventRuns.{if_ok_both, take_part}
use Rattle.fdr_file.proofs.scan.TraceScan.feed_events.Goals as goal

pub returns-clause-scans : goal.returns-clause-scans
returns-clause-scans g c =
    let piece = c.args.piece.now in
    let part = take c.len_within-len.result piece in
    let To : List ℕ → ℕ → Type 0 = λ bytes n. (stream : List ℕ) → Scans c.args.self.now stream → g.K.Taker.took c.args.taker.now (blocks_given stream) → Scans c.pass_events.new.self (stream ++ take n bytes) in
    if_ok_both c.pass_events.result (λ n. n ≤ length part) (To part) (To piece)
    (λ n within scans stream h took. subst (λ (x : List ℕ). Scans c.pass_events.new.self (stream ++ x)) (take_part n c.len_within-len.result piece within) (scans stream h took))
    c.pass_events.ensures.within c.pass_events.ensures.scans

pub returns-clause-took : goal.returns-clause-took
returns-clause-took g c =
    let piece = c.args.piece.now in
    let part = take c.len_within-len.result piece in
    let To : List ℕ → ℕ → Type 0 = λ bytes n. (stream : List ℕ) → Scans c.args.self.now stream → g.K.Taker.took c.args.taker.now (blocks_given stream) → g.K.Taker.took c.pass_events.new.taker (blocks_given (stream ++ take n bytes)) in
    if_ok_both c.pass_events.result (λ n. n ≤ length part) (To part) (To piece)
    (λ n within given stream h took. subst (λ (x : List ℕ). g.K.Taker.took c.pass_events.new.taker (blocks_given (stream ++ x))) (take_part n c.len_within-len.result piece within) (given stream h took))
    c.pass_events.ensures.within c.pass_events.ensures.took
