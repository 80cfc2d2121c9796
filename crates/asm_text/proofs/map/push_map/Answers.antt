use Rattle.std.proofs.Common.{◌+◌, ◌*◌, ◌++◌, List, drop, length, map, ap, subst, sym, ◌∙◌, rules}
use Rattle.std.specs.Option.{option_map}
use Rattle.std.proofs.lemmas.List.{drop_more}
use Rattle.asm_text.specs.declared.layout.Laid.{Laid}
use Rattle.asm_text.specs.Layout.{map_entries}
use Rattle.asm_text.specs.Writing.{in_version, map_bytes, map_version}
use Rattle.asm_text.specs.private.Files.{entry_of_sled, is_relative}
use Rattle.asm_text.specs.private.Laying.{placed_in}
use Rattle.asm_text.proofs.MapLemmas.{Written, no_entry, one_entry}
use Rattle.asm_text.proofs.map.push_map.Goals.{in-Some+in_ok-push_entry, in_default}
use Rattle.asm_text.proofs.map.push_map.Goals as goal

pub loop-line-preserved : goal.loop-line-preserved
loop-line-preserved c =
    let lines = c.args.lines.now in
    let base = c.args.base in
    let version = map_version (is_relative c.args.version) in
    let total = base + 0x100000 + 32 * length (map_entries base (placed_in lines)) in
    let whole = c.args.out.now.items ++ map_bytes base (map (in_version version) (map_entries base (placed_in lines))) in
    let following = drop (c.loop-line.line-index + 1) lines in
    let now = subst (λ (ls : List Laid). Written version total c.loop-line.at (map_entries base (placed_in ls)) c.loop-line.out.items whole) (drop_more lines c.loop-line.line-index _ c.loop-line-test.true) c.loop-line.invariant in
    let es = map_entries base (placed_in following) in
    elim c.match-sled_entry.branch [
      | in-Some+in_ok-push_entry w ↦
          rw (w.out-is, w.at-is) (one_entry version total c.loop-line.at _ es c.loop-line.out.items whole now (entry_of_sled w.in-Some.entry) w.push_entry.new.out.items
          (ap (option_map entry_of_sled) (sym w.in-Some.is) ∙ c.sled_entry.ensures) (search rules))
      | in_default w ↦
          rw (w.out-is, w.at-is) (no_entry version total c.loop-line.at _ es c.loop-line.out.items whole now
          (ap (option_map entry_of_sled) (sym w.in_default.is) ∙ c.sled_entry.ensures))
    ]
