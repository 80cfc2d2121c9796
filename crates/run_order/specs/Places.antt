-- The places of a thread's loads in the script without waits.
use Rattle.std.specs.Prelude.{ℕ, List, Option, map, option_map}
use Rattle.handler_word.specs.declared.mark.Mark.{Mark}
use Rattle.patch_script.specs.declared.command.PatchCommand.{PatchCommand}
use Rattle.xray_image.specs.Program.{Program}
use Rattle.audit_check.specs.Places.{load_places}
use Rattle.run_order.specs.FreeScripts.{free_place}

-- the same places in the script without waits
abbrev pub free_places : Program → (threads : ℕ) → List PatchCommand → (thread : ℕ) → List ℕ → List Mark → Option (List ℕ)
free_places program threads script thread sleds marks =
    option_map (map (free_place program threads script)) (load_places program threads script thread sleds marks)
