-- Patched sleds at a place of a script.
use Rattle.std.specs.Prelude.{◌≡◌, ℕ, List}
use Rattle.xray_image.specs.declared.sled.Sled.{Sled}
use Rattle.xray_image.specs.Program.{Program}
use Rattle.sled_words.specs.declared.part.Part.TheVariants.{Head, Id, Opcode, Offset}
use Rattle.sled_words.specs.Words.{word_of}
use Rattle.sled_words.specs.Parts.{patched_head, patched}
use Rattle.patch_script.specs.declared.command.PatchCommand.{PatchCommand}
use Rattle.patch_script.specs.CodeAt.{code_at}

-- at this place, the head of this sled is the patched one
abbrev pub HasPatchedHead : Program → ℕ → List PatchCommand → ℕ → ℕ → Type 0
HasPatchedHead program threads script place k = code_at program threads script place (word_of k Head) ≡ patched_head

-- at this place, the id, the opcode and the offset of this sled are what patching stores
pub record HasPatchedParts (program : Program) (threads : ℕ) (script : List PatchCommand) (place k : ℕ) (sled : Sled) : Type 0 where
  pub id : code_at program threads script place (word_of k Id) ≡ patched program.trampolines sled Id
  pub opcode : code_at program threads script place (word_of k Opcode) ≡ patched program.trampolines sled Opcode
  pub offset : code_at program threads script place (word_of k Offset) ≡ patched program.trampolines sled Offset
