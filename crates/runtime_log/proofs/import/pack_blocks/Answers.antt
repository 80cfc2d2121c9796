use Rattle.std.proofs.Common.{◌+◌, ◌∙◌, ℕ, List, subst, ap, arith}
use Rattle.std.proofs.lemmas.List.{take_all}
use Rattle.runtime_log.specs.Logs.{LogBlock}
use Rattle.runtime_log.specs.private.Packings.{HasPacked}
use Rattle.runtime_log.proofs.ImportedBlocks.{blocks_of, facts_packed, has_some, packed_next}
use Rattle.runtime_log.proofs.TakenBlocks.{at_index, at_length}
use Rattle.runtime_log.proofs.import.pack_blocks.Goals as goal

pub adding-preserved : goal.adding-preserved
adding-preserved c =
    let i = c.adding.invariant in
    let bytes = c.args.bytes.now in
    let version = c.args.version in
    let index = c.adding.block-index in
    record {
      few = c.add.ensures.few;
      size = c.add.ensures.size;
      room = omega (arith, i.room, c.in_ok-add.ensures.room, c.of.ensures.few);
      count = c.in_ok-add.ensures.blocks ∙ ap (λ (n : ℕ). n + 1) i.count;
      packed = λ log taken packed at some.
          let there = at_index bytes version c.args.blocks.now taken index _ at c.adding-test.true in
          packed_next log taken c.add.new.self bytes version _ index there
          (c.in_ok-add.ensures.packs log _ there.b.block (i.packed log taken packed at some) (c.head.ensures there.b.block there.is.shows) (has_some bytes version _ taken index there some) (c.of.ensures.all there.b there.is));
    }

pub returns : goal.returns
returns c = λ log taken packed at some.
    let index = c.adding.block-index in
    let all = take_all index taken (omega (arith, c.adding-test.false, at_length c.args.bytes.now c.args.version c.args.blocks.now taken at)) in
    let done = subst (λ (bs : List LogBlock). HasPacked log (blocks_of bs) c.adding.packing) all (c.adding.invariant.packed log taken packed at some) in
    (c.finish.ensures.file ∙ done.file, c.finish.ensures.facts ∙ facts_packed log (blocks_of taken) c.adding.packing done)
