use Rattle.sled_words.specs.declared.part.Part.TheVariants.{Head, Id, Opcode, Offset}
use Rattle.sled_words.specs.CodeBytes.{part_bytes}
use Rattle.sled_words.proofs.FlatMap.{four_pieces}
use Rattle.sled_words.proofs.bytes.push_sled.Goals as goal

pub returns : goal.returns
returns c =
    let of = part_bytes c.args.words.now c.args.sled in
    four_pieces c.args.bytes.now.items (of Head) (of Id) (of Opcode) (of Offset) c.push_part.new.bytes.items c.push_part-2.new.bytes.items
    c.push_part-3.new.bytes.items c.push_part-4.new.bytes.items
    c.in_ok-push_part.ensures c.in_ok-push_part-2.ensures c.in_ok-push_part-3.ensures c.in_ok-push_part-4.ensures
