use Rattle.std.proofs.Common.{◌≡◌, length, sym, arith}
use Rattle.sled_words.specs.Parts.{sled_words}
use Rattle.sled_words.proofs.FlatMap.{flat_map_more, zeros_after}
use Rattle.sled_words.proofs.words.initial_words.Goals as goal

pub loop-k-preserved : goal.loop-k-preserved
loop-k-preserved c =
    flat_map_more sled_words _ _ _ _ _ _ c.sled.ensures c.loop-k.invariant c.unpatched_words.ensures c.in_ok-extend_from_slice.ensures.items

pub returns : goal.returns
returns c =
    let len : c.len.result ≡ length c.loop-k.words.items = omega (arith, c.loop-k.words.ok.0) in
    let resized = c.in_ok-resize.ensures.items in
    zeros_after sled_words c.args.image.now.sleds c.loop-k.k _ c.len.result c.loop-k.words.items _ (omega arith) len c.loop-k.invariant (rw (sym c.len.ensures) at resized)
