use Rattle.std.proofs.Common.{◌≡◌, ◌∙◌, ◌/◌, ◌++◌, ◌∷◌, ◌+◌, ◌-◌, [], List, length, length-append, sym, ap, inr}
use Rattle.std.specs.List.{range_with_len}
use Rattle.xray_io.specs.Rows.{InTurn}
use Rattle.program_map.specs.declared.sled.MapSled.{MapSled}
use Rattle.program_map.specs.Sleds.{map_entry_rows}
use Rattle.elf_file.specs.Views.{settings_held}
use Rattle.program_map.proofs.SledSteps.{sled_next, sled_refused}
use Rattle.program_map.proofs.sleds.read_sleds.Goals as goal

pub returns-in-Err-clause-said : goal.returns-in-Err-clause-said
returns-in-Err-clause-said c =
    inr (c.loop-number.invariant.1
    ∙ sled_refused (settings_held c.args.addends.now) c.args.section.now c.args.table.now c.loop-number.sleds.items c.in-Err.fault c.loop-number.number (length c.args.table.now / 32)
    c.loop-number-test.true (sym c.map_entry_said.ensures ∙ c.in-Err.is))

pub loop-number-preserved : goal.loop-number-preserved
loop-number-preserved c =
    let settings = settings_held c.args.addends.now in
    let put : c.push.new.self.items ≡ c.loop-number.sleds.items ++ c.in-Ok.sled ∷ [] = c.in_ok-push-in-Ok.ensures.items in (
      ap length put ∙ length-append c.loop-number.sleds.items (c.in-Ok.sled ∷ []) ∙ ap (λ n. n + 1) c.loop-number.invariant.0,
      c.loop-number.invariant.1
          ∙ sled_next settings c.args.section.now c.args.table.now c.loop-number.sleds.items c.in-Ok.sled c.loop-number.number (length c.args.table.now / 32)
          c.loop-number-test.true (sym c.map_entry_said.ensures ∙ c.in-Ok.is)
          ∙ ap (λ (before : List MapSled). InTurn (map_entry_rows settings c.args.section.now c.args.table.now) before
          (range_with_len (c.loop-number.number + 1) (length c.args.table.now / 32 - (c.loop-number.number + 1)))) (sym put),
    )
