-- The bytes of the code while its sleds change.
use Rattle.std.specs.Prelude.{ℕ, List, [], ◌∷◌, ◌++◌, slice_index, take}
use Rattle.std.specs.Int.{to_le_bytes, w64}
use Rattle.std.specs.List.{flat_map}
use Rattle.subset_decode.specs.Encoding.{spelling}
use Rattle.xray_image.specs.declared.unit.What.{What}
use Rattle.xray_image.specs.declared.unit.What.TheVariants as whats
use Rattle.xray_image.specs.Program.{Program}
use Rattle.sled_words.specs.declared.part.Part.{Part}
use Rattle.sled_words.specs.declared.part.Part.TheVariants.{Head, Id, Opcode, Offset}
use Rattle.sled_words.specs.Words.{word_of}

-- how many bytes of a sled a part has
abbrev pub part_size : Part → ℕ
part_size Head = 2
part_size Id = 4
part_size Opcode = 1
part_size Offset = 4

-- the bytes of a part of a sled, taken from its word in little-endian order
abbrev pub part_bytes : List ℕ → ℕ → Part → List ℕ
part_bytes words sled part = take (part_size part) (to_le_bytes w64 (slice_index words (word_of sled part)))

-- the eleven bytes of a sled, taken from its words
abbrev pub sled_bytes : List ℕ → ℕ → List ℕ
sled_bytes words sled = part_bytes words sled Head ++ part_bytes words sled Id ++ part_bytes words sled Opcode ++ part_bytes words sled Offset

-- the bytes of a unit: those of a sled are taken from the words, and all others are those of the image
abbrev pub unit_bytes : List ℕ → What → List ℕ
unit_bytes words (whats.Plain instr) = spelling instr
unit_bytes words (whats.Sled sled) = sled_bytes words sled
unit_bytes words whats.Pad = 0x90 ∷ []

-- the bytes of the code, unit after unit
abbrev pub code_bytes : Program → List ℕ → List ℕ
code_bytes program words = flat_map (λ unit. unit_bytes words unit.what) program.units
