-- Words under the stores of a script.
use Rattle.std.specs.Prelude.{◌≡◌, ◌<◌, ℕ, List, length, slice_index, slice_set}
use Rattle.xray_image.specs.Program.{Program}
use Rattle.patch_script.specs.declared.command.PatchCommand.{PatchCommand}
use Rattle.patch_script.specs.declared.micro.Micro.{Micro}
use Rattle.patch_script.specs.declared.micro.Micro.TheVariants.{Store, Await, End}
use Rattle.patch_script.specs.CodeAt.{code_at}

-- the words after a micro step
abbrev pub stored : List ℕ → Micro → List ℕ
stored words (Store word value) = slice_set words word value
stored words (Await thread count) = words
stored words End = words

-- the words are the code at a place
abbrev pub AreCodeAt : Program → ℕ → List PatchCommand → ℕ → List ℕ → Type 0
AreCodeAt program threads script place words =
    (word : ℕ) → word < length words → slice_index words word ≡ code_at program threads script place word
