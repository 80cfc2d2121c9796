use Rattle.std.proofs.Common.{◌+◌, ◌++◌, ℕ, List, All, Ok, get_or, take, drop, subst, ap, sym, ◌∙◌, arith, rules}
use Rattle.std.specs.List.{flat_map}
use Rattle.std.proofs.lemmas.List.{take_all, take_more}
use Rattle.std.proofs.lemmas.List.Elements.{All-push}
use Rattle.xray_io.specs.Text.{AddsText, adds_nothing, adds_more, adds_within, adds_failed}
use Rattle.fdr_buffer.specs.Filled.{Filled}
use Rattle.fdr_file.specs.Files.{BlockFits, block_bytes}
use Rattle.fdr_file.proofs.FileBytes.{blocks_more, blocks_split}
use Rattle.fdr_file.proofs.writing.add_blocks.Goals as goal

pub loop-buffer-init : goal.loop-buffer-init
loop-buffer-init g c = record { fit = search rules; adds = adds_nothing g.met.S.Sink.along_none c.args.text.now }

pub returns-in_err-add_block-clause-adds : goal.returns-in_err-add_block-clause-adds
returns-in_err-add_block-clause-adds g c =
    let i = c.loop-buffer.buffer-index in
    let buffers = c.args.buffers.now in
    let rest = flat_map block_bytes (drop (i + 1) buffers) in
    let more = ap (λ (b : Filled). flat_map block_bytes (take i buffers) ++ block_bytes b) c.buffer-item.is ∙ blocks_more buffers i c.buffer-item.result c.loop-buffer-test.true in
    adds_failed (adds_within g.met.S.Sink.along_both rest c.loop-buffer.invariant.adds c.in_err-add_block.ensures.adds (ap (λ (x : List ℕ). x ++ rest) more ∙ blocks_split buffers (i + 1)))
    c.from_residual.result c.from_residual.ensures.1

pub loop-buffer-preserved : goal.loop-buffer-preserved
loop-buffer-preserved g c =
    let i = c.loop-buffer.buffer-index in
    let buffers = c.args.buffers.now in
    let more = ap (λ (b : Filled). flat_map block_bytes (take i buffers) ++ block_bytes b) c.buffer-item.is ∙ blocks_more buffers i c.buffer-item.result c.loop-buffer-test.true in
    let x = c.buffer-item.result in
    record {
      fit = subst (All BlockFits) (sym (take_more buffers i x c.loop-buffer-test.true))
          (All-push BlockFits (take i buffers) (get_or buffers i x) c.loop-buffer.invariant.fit (subst BlockFits c.buffer-item.is c.add_block.ensures.fits));
      adds = subst (λ t. AddsText g.S.Sink.written g.S.Sink.faults g.S.Sink.along c.args.text.now c.add_block.new.text t (Ok tt)) more
          (adds_more g.met.S.Sink.along_both c.loop-buffer.invariant.adds c.in_ok-add_block.ensures.adds);
    }

pub returns-clause-fit : goal.returns-clause-fit
returns-clause-fit g c =
    subst (All BlockFits) (take_all c.loop-buffer.buffer-index c.args.buffers.now (omega (arith, c.loop-buffer-test.false))) c.loop-buffer.invariant.fit

pub returns-clause-adds : goal.returns-clause-adds
returns-clause-adds g c =
    subst (λ b. AddsText g.S.Sink.written g.S.Sink.faults g.S.Sink.along c.args.text.now c.loop-buffer.text (flat_map block_bytes b) (Ok tt))
    (take_all c.loop-buffer.buffer-index c.args.buffers.now (omega (arith, c.loop-buffer-test.false))) c.loop-buffer.invariant.adds
