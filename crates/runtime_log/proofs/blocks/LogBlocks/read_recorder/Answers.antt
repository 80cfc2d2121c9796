use Rattle.std.proofs.Common.{Global, [], ◌∷◌, ◌++◌, Vec, ap, ◌∙◌, inr}
use Rattle.runtime_log.specs.declared.blocks.LogBlock.{LogBlock as Placed}
use Rattle.runtime_log.specs.Logs.{as_log}
use Rattle.runtime_log.proofs.BlockLists.{blocks_all, blocks_more, blocks_stop}
use Rattle.runtime_log.proofs.blocks.LogBlocks.read_recorder.Goals as goal

pub returns-in-Err : goal.returns-in-Err
returns-in-Err c =
    let i = c.reading.invariant in
    inr (ap as_log (blocks_stop c.args.version c.args.bytes.now c.reading.at c.reading.self _ i.reads c.reading-test.true c.in-Err.ensures.refuses))

pub reading-preserved : goal.reading-preserved
reading-preserved c =
    let i = c.reading.invariant in
    let read = c.in-Ok.ensures.reads in
    let items = c.in_ok-push.ensures.items ∙ ap (λ (v : Vec Placed Global). v.items ++ c.in-Ok.block ∷ []) c.read_block.ensures.others in
    record {
      within = read.2.within.whole;
      reads = blocks_more c.args.version c.args.bytes.now c.reading.at c.reading.self _ c.in-Ok.block read.0 i.reads c.reading-test.true read.1 read.2 c.in-Ok.ensures.places.1 items read.3 read.4 read.5;
      counts = c.in-Ok.ensures.counts;
    }

pub returns : goal.returns
returns c =
    let r = c.reading.invariant.reads in
    (r.said, blocks_all c.args.version c.args.bytes.now c.reading.at c.reading.self r c.reading-test.false, record { places = r.places; custom = r.custom; typed = r.typed; cut = r.cut })
