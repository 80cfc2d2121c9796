use Rattle.std.proofs.lemmas.Map.Text.{hash_map_updates_str}
use Rattle.asm_text.proofs.name_table.NameTable.define.Goals as goal

pub returns : goal.returns
returns c = λ q. hash_map_updates_str c.args.name.now c.args.self.now.lines c.insert.new.self _ c.in_ok-insert.ensures.updates q
