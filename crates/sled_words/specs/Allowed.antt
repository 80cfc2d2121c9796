-- What a passing may load.
use Rattle.std.specs.Prelude.{◌≡◌, ◌≤◌, ◌<◌, ◌%◌, ◌^◌, ◌⊎◌, ℕ, Some, slice_get}
use Rattle.xray_image.specs.declared.sled.Sled.{Sled}
use Rattle.xray_image.specs.declared.sled.SledKind.{SledKind}
use Rattle.xray_image.specs.declared.sled.SledKind.TheVariants.{Entry, Exit, Tail, Args}
use Rattle.xray_image.specs.Program.{Program, Trampolines}
use Rattle.sled_words.specs.declared.part.Part.{Part}
use Rattle.sled_words.specs.declared.part.Part.TheVariants.{Head, Id, Opcode, Offset}
use Rattle.sled_words.specs.Words.{word_of, handler_word, state_word, release_word, arg_handler_word}
use Rattle.sled_words.specs.Parts.{jump_head, patched_head, patched}

-- the head of a sled that isn't patched: a jump over the sled, or the byte C3 of a return and any second byte
abbrev pub IsUnpatchedHead : SledKind → ℕ → Type 0
IsUnpatchedHead Entry head = head ≡ jump_head
IsUnpatchedHead Tail head = head ≡ jump_head
IsUnpatchedHead Args head = head ≡ jump_head
IsUnpatchedHead Exit head = (head < 2 ^ 16) × (head % 256 ≡ 0xC3)

-- what a passing may load from a part of a sled: a head, and after a patched head what patching stores
abbrev pub IsAllowedPart : Trampolines → Sled → Part → ℕ → Type 0
IsAllowedPart trampolines sled Head value = (value ≡ patched_head) ⊎ IsUnpatchedHead sled.kind value
IsAllowedPart trampolines sled Id value = value ≡ patched trampolines sled Id
IsAllowedPart trampolines sled Opcode value = value ≡ patched trampolines sled Opcode
IsAllowedPart trampolines sled Offset value = value ≡ patched trampolines sled Offset

-- What a passing of a thread may load from a word, if there are this many threads. Of the release words, only the
-- thread's own is limited.
pub record IsAllowed (program : Program) (threads thread word value : ℕ) : Type 0 where
  pub part : (k : ℕ) (sled : Sled) (part : Part) → slice_get program.sleds k ≡ Some sled → word ≡ word_of k part
      → IsAllowedPart program.trampolines sled part value
  pub handler : word ≡ handler_word program → value ≤ 1
  pub state : word ≡ state_word program → value ≤ 4
  pub release : 0 < thread → word ≡ release_word program thread → value ≤ 1
  pub arg_handler : word ≡ arg_handler_word program threads → value ≤ 1
