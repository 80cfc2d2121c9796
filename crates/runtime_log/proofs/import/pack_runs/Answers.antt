use Rattle.std.proofs.Common.{◌≡◌, ◌+◌, ◌++◌, ◌∷◌, ℕ, suc, List, [], drop, take, length, sym, ap, ◌∙◌, append-nil, append_assoc, arith}
use Rattle.std.proofs.lemmas.List.{length-map, nil_from_length}
use Rattle.fdr_file.specs.declared.trace.Block.{Block}
use Rattle.runtime_log.specs.declared.basic.Passing.{Passing}
use Rattle.runtime_log.specs.declared.blocks.Head.{Head}
use Rattle.runtime_log.specs.Facts.{facts_of}
use Rattle.runtime_log.specs.Imports.{trace_file, trace_taken}
use Rattle.runtime_log.specs.private.Coming.{events_to_come}
use Rattle.runtime_log.specs.private.Passings.{event_at, events_of_passings, runs_of}
use Rattle.runtime_log.proofs.ImportedBlocks.{facts_packed}
use Rattle.runtime_log.proofs.RecordedPassings.{events_left}
use Rattle.runtime_log.proofs.ThreadRuns.{run_block, run_first, run_some}
use Rattle.runtime_log.proofs.import.pack_runs.Goals as goal

pub packing-preserved : goal.packing-preserved
packing-preserved c =
    let i = c.packing.invariant in
    let bytes = c.args.bytes.now in
    let version = c.args.version in
    let left = c.packing.left.now in
    let first = c.in-Some.first.now in
    let others = c.in-Some.others.now in
    let n = c.run_len.result in
    let cut : left ≡ first ∷ others = c.in-Some.ensures.cases.0 in
    let one : 1 + n ≡ suc n = omega arith in
    let run : c.split_at.result.0.now ≡ first ∷ take n others = c.split_at.ensures.front ∙ ap (λ (k : ℕ). take k left) one ∙ ap (take (suc n)) cut in
    let later : c.split_at.result.1.now ≡ drop n others = c.split_at.ensures.back ∙ ap (λ (k : ℕ). drop k left) one ∙ ap (drop (suc n)) cut in
    let events : events_to_come c.of_passings.result ≡ events_left version bytes (first ∷ take n others) = c.of_passings.ensures.all ∙ ap (events_left version bytes) run in
    let many : length (events_to_come c.of_passings.result) ≡ length c.split_at.result.0.now =
    ap length c.of_passings.ensures.all ∙ length-map c.split_at.result.0.now (λ (p : Passing). event_at version bytes p.at) in
    let block = run_block first (events_left version bytes (first ∷ take n others)) in
    let rest = runs_of (events_of_passings version bytes (drop n others)) in
    let head = c.head.ensures in
    record {
      few = c.in_ok-add.ensures.few;
      size = c.in_ok-add.ensures.size;
      room = omega (arith, i.room, c.in_ok-add.ensures.room, many, c.split_at.ensures.front_len, c.split_at.ensures.back_len);
      count = omega (arith, i.count, c.in_ok-add.ensures.blocks, c.split_at.ensures.back_len);
      packed = λ log packed.
          let p = i.packed log packed in (
            p.0 ++ block ∷ [],
            c.in_ok-add.ensures.packs log p.0 block p.1
                (record { thread = ap (λ (h : Head). h.thread) head; pid = ap (λ (h : Head). h.pid) head; wall = ap (λ (h : Head). h.wall) head })
                (run_some first (event_at version bytes first.at) (events_left version bytes (take n others))) events,
            ap (λ (ps : List Passing). (p.0 ++ block ∷ []) ++ runs_of (events_of_passings version bytes ps)) later
                ∙ append_assoc p.0 (block ∷ []) rest
                ∙ ap (λ (bs : List Block). p.0 ++ bs)
                (sym (ap (λ (ps : List Passing). runs_of (events_of_passings version bytes ps)) cut
                ∙ run_first version bytes first others n (record { within = c.run_len.ensures.within; same = c.run_len.ensures.same; ends = c.run_len.ensures.ends })))
                ∙ p.2,
          );
    }

pub returns : goal.returns
returns c = λ log packed.
    let p = c.packing.invariant.packed log packed in
    let bytes = c.args.bytes.now in
    let version = c.args.version in
    let none : c.packing.left.now ≡ [] = nil_from_length c.packing.left.now c.in_default.ensures.cases in
    let done : p.0 ≡ runs_of (events_of_passings version bytes c.args.passings.now) =
    sym (append-nil p.0) ∙ ap (λ (ps : List Passing). p.0 ++ runs_of (events_of_passings version bytes ps)) (sym none) ∙ p.2 in (
      c.finish.ensures.file ∙ p.1.file ∙ ap (λ (bs : List Block). trace_file (trace_taken log.header bs)) done,
      c.finish.ensures.facts ∙ facts_packed log p.0 c.packing.packing p.1 ∙ ap (facts_of log) done,
    )
