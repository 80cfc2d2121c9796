-- The values that the words may have while a script is run.
use Rattle.std.specs.Prelude.{◌≡◌, ◌<◌, ◌≤◌, ◌⊎◌, ℕ, slice_get, Some}
use Rattle.xray_image.specs.declared.sled.Sled.{Sled}
use Rattle.xray_image.specs.declared.sled.SledKind.{SledKind}
use Rattle.xray_image.specs.declared.sled.SledKind.TheVariants.{Entry, Exit, Tail, Args}
use Rattle.xray_image.specs.Program.{Program, Trampolines}
use Rattle.sled_words.specs.declared.part.Part.{Part}
use Rattle.sled_words.specs.declared.part.Part.TheVariants.{Head, Id, Opcode, Offset}
use Rattle.sled_words.specs.Words.{word_of, handler_word, state_word, release_word, arg_handler_word}
use Rattle.sled_words.specs.Parts.{jump_head, patched, patched_head, return_head, unpatched}
use Rattle.patch_script.specs.Micros.{return_over_patch}

-- the heads that a sled may have: the patched one, a jump over the sled, or in an exit sled a return as the file has it
-- or as unpatching leaves it
abbrev pub IsHead : SledKind → ℕ → Type 0
IsHead Entry head = (head ≡ patched_head) ⊎ (head ≡ jump_head)
IsHead Tail head = (head ≡ patched_head) ⊎ (head ≡ jump_head)
IsHead Args head = (head ≡ patched_head) ⊎ (head ≡ jump_head)
IsHead Exit head = (head ≡ patched_head) ⊎ ((head ≡ return_head) ⊎ (head ≡ return_over_patch))

-- the values that a part of a sled may have: a head, or what the file has, or what patching stores
abbrev pub IsPartValue : Trampolines → Sled → Part → ℕ → Type 0
IsPartValue trampolines sled Head value = IsHead sled.kind value
IsPartValue trampolines sled Id value = (value ≡ unpatched sled Id) ⊎ (value ≡ patched trampolines sled Id)
IsPartValue trampolines sled Opcode value = (value ≡ unpatched sled Opcode) ⊎ (value ≡ patched trampolines sled Opcode)
IsPartValue trampolines sled Offset value = (value ≡ unpatched sled Offset) ⊎ (value ≡ patched trampolines sled Offset)

-- the values that a word may have while a script is run with this many threads
pub record IsCodeValue (program : Program) (threads word value : ℕ) : Type 0 where
  pub part : (k : ℕ) (sled : Sled) (part : Part) → slice_get program.sleds k ≡ Some sled → word ≡ word_of k part
      → IsPartValue program.trampolines sled part value
  pub handler : word ≡ handler_word program → value ≤ 1
  pub state : word ≡ state_word program → value ≤ 4
  pub release : (thread : ℕ) → 0 < thread → word ≡ release_word program thread → value ≤ 1
  pub arg_handler : word ≡ arg_handler_word program threads → value ≤ 1
