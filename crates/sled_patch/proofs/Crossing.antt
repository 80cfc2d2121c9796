-- Threads may share the table.
use denote.Param.Send.{IsSync, sendable}
use Rattle.std.proofs.Crossing.{crosses}
use Rattle.atomic_table.proofs.owned.Table.TheSendSync.{the_sync as words_sync, the_field_sync as words_field}
use Rattle.patch_script.proofs.first_patches.FirstPatches.TheSendSync.{the_sync as firsts_sync, the_field_sync as firsts_field}
use Rattle.patch_script.proofs.placed.Placed.TheSendSync.{the_sync as command_sync}
use Rattle.patch_script.proofs.sleds.SledValues.TheSendSync.{the_sync as values_sync}
use Rattle.patch_script.proofs.standing.Holds.TheSendSync.{the_field_sync as holds_field}
use Rattle.patch_script.specs.contracts.placed.PlacedCommands as placed
use Rattle.patch_script.specs.contracts.script.Script as script
use Rattle.patch_script.specs.contracts.script.Script.TheInside as inside
use Rattle.sled_rule.specs.contracts.table.CodeTable as table

placed_field : IsSync placed.the_field.row
placed_field = search (sendable, crosses, firsts_sync, firsts_field, command_sync, values_sync) depth 30

inside_sync : IsSync inside.the_row
inside_sync = search (sendable, placed_field, holds_field) depth 30

script_sync : IsSync script.the_row
script_sync = search (sendable, inside_sync) depth 30

script_field : IsSync script.the_field.row
script_field = search (sendable, inside_sync) depth 30

pub table_sync : IsSync table.the_row
table_sync = search (sendable, crosses, script_sync, script_field, words_sync, words_field) depth 30
