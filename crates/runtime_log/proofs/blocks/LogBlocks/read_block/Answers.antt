use Rattle.std.proofs.Common.{◌≡◌, ◌+◌, ℕ, cond, eqb, length, drop, ap, ◌∙◌, arith}
use Rattle.std.proofs.lemmas.List.{length-drop, length-take-le, take_rest}
use Rattle.std.proofs.lemmas.Result.{err_from_is_err_and}
use Rattle.runtime_log.specs.Logs.{block_content, block_opened, block_said, whole_content}
use Rattle.runtime_log.proofs.CutRecords.{whole_long}
use Rattle.runtime_log.proofs.BlockLists.{block_sized}
use Rattle.runtime_log.proofs.BlockReading.{block_at, block_is, block_stops, block_unsized, opened_rows}
use Rattle.runtime_log.proofs.blocks.LogBlocks.read_block.Goals as goal

pub returns-in_err-first-clause-refuses : goal.returns-in_err-first-clause-refuses
returns-in_err-first-clause-refuses c =
    let refused = simp take_rest at c.in_err-first.ensures in
    let p = err_from_is_err_and c.from_residual.result c.from_residual.ensures.1 in
    rw (p.1, p.2) (block_unsized c.args.version c.args.at (drop c.args.at c.args.bytes.now) _ refused)

pub returns-in_err-read_records-clause-refuses : goal.returns-in_err-read_records-clause-refuses
returns-in_err-read_records-clause-refuses c =
    let o = simp take_rest at c.in_ok-first.ensures in
    let rest = drop c.args.at c.args.bytes.now in
    let p = err_from_is_err_and c.from_residual-in_err-read_records.result c.from_residual-in_err-read_records.ensures.1 in
    rw (p.1, p.2) (block_stops c.args.version c.args.at o.0 rest _ o.1
    (opened_rows c.args.version c.args.at o.0 rest c.in_ok-first.first.walk _ o.3 (c.in_err-read_records.ensures.refuses (block_opened c.args.at (length (whole_content c.args.version (block_content o.0 rest)))) o.3.stage)))

pub overflow_add-block : goal.overflow_add-block
overflow_add-block c =
    let o = simp take_rest at c.in_ok-first.ensures in
    let rest = drop c.args.at c.args.bytes.now in
    let long : length (block_content o.0 rest) ≡ o.0 = length-take-le o.0 (drop 16 rest) (omega (arith, length-drop 16 rest, o.2)) in
    omega (arith, c.in_ok-read_records.ensures.places.1, o.3.at_is, ap length o.3.rest, long, whole_long c.args.version (block_content o.0 rest), o.4, o.2, length-drop c.args.at c.args.bytes.now, c.requires.few)

pub returns-clause-reads : goal.returns-clause-reads
returns-clause-reads c =
    let o = simp take_rest at c.in_ok-first.ensures in
    let rest = drop c.args.at c.args.bytes.now in
    let walk = c.in_ok-first.first.walk in
    let r = c.in_ok-read_records.ensures.reads (block_opened c.args.at (length (whole_content c.args.version (block_content o.0 rest)))) o.3.stage c.opened-block.ensures.shows in
    let is = block_is c.args.version c.args.at o.0 rest r.all o.1 (opened_rows c.args.version c.args.at o.0 rest walk _ o.3 r.reads) in
    let long : length (block_content o.0 rest) ≡ o.0 = length-take-le o.0 (drop 16 rest) (omega (arith, length-drop 16 rest, o.2)) in
    let end : c.read_records.new.block.end + c.in_ok-first.first.cut ≡ c.args.at + 16 + o.0 =
    omega (arith, c.in_ok-read_records.ensures.places.1, o.3.at_is, ap length o.3.rest, long, whole_long c.args.version (block_content o.0 rest), o.4) in (
      block_said c.args.version c.args.at (block_content o.0 rest) r.all,
      is,
      block_at c.args.version c.args.bytes.now c.args.at o.0 _ r.all c.requires.within o.2 is
          (c.in_ok-read_records.ensures.places.0 ∙ c.opened-block.ensures.begin) end (record { thread = r.shows.thread; pid = r.shows.pid; wall = r.shows.wall; first = r.shows.first }),
      omega (arith, r.custom),
      omega (arith, r.typed),
      ap (λ (n : ℕ). n + c.one_cut.result) c.in_ok-read_records.ensures.others.1
          ∙ ap (λ (n : ℕ). c.args.self.now.cut + n) (c.one_cut.ensures.is ∙ ap (λ (n : ℕ). cond {A = ℕ} (eqb n 0) 0 1) o.4),
    )

pub returns-clause-places : goal.returns-clause-places
returns-clause-places c =
    let o = simp take_rest at c.in_ok-first.ensures in
    let rest = drop c.args.at c.args.bytes.now in
    let long : length (block_content o.0 rest) ≡ o.0 = length-take-le o.0 (drop 16 rest) (omega (arith, length-drop 16 rest, o.2)) in (
      c.in_ok-read_records.ensures.places.0 ∙ c.opened-block.ensures.begin,
      omega (arith, c.in_ok-read_records.ensures.places.1, o.3.at_is, ap length o.3.rest, long, whole_long c.args.version (block_content o.0 rest), o.4, block_sized c.args.version c.args.at rest o.0 o.1),
    )
