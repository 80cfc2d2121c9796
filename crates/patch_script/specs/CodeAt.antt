-- The code at a place: what the words hold after that many micro steps of a script.
use Rattle.std.specs.Prelude.{ℕ, List, Option, Some, None, ◌==◌, if◌then◌else◌, unwrap_or, take, slice_index}
use Rattle.std.specs.List.{filter_map, last_or}
use Rattle.xray_image.specs.Program.{Program}
use Rattle.sled_words.specs.Parts.{all_sled_words}
use Rattle.patch_script.specs.declared.command.PatchCommand.{PatchCommand}
use Rattle.patch_script.specs.declared.micro.Micro.{Micro}
use Rattle.patch_script.specs.declared.micro.Micro.TheVariants.{Store, Await, End}
use Rattle.patch_script.specs.Micros.{micros}

-- the value that a micro step stores in a word, if it does that
abbrev pub stored_in : ℕ → Micro → Option ℕ
stored_in word (Store w value) = if w == word then Some value else None
stored_in word (Await thread count) = None
stored_in word End = None

-- what a word holds before the script: a sled's words hold its unpatched parts, and all others 0
abbrev pub initial_value : Program → ℕ → ℕ
initial_value program word = slice_index (all_sled_words program) word

-- the value of a word after the first `place` micro steps: that of the last store to it, or its first value if there is
-- none
abbrev pub code_at : Program → ℕ → List PatchCommand → ℕ → ℕ → ℕ
code_at program threads script place word =
    unwrap_or (last_or None (filter_map (stored_in word) (take place (micros program threads script)))) (initial_value program word)
