-- The values of a sled's words, unpatched and patched.
use Rattle.std.specs.Prelude.{ℕ, ◌+◌, ◌*◌, ◌^◌, ◌-ℤ◌, pos, List, [], ◌∷◌, ◌++◌, Bool, true, false, replicate, unsigned_abs}
use Rattle.std.specs.Int.{int_rem_euclid}
use Rattle.std.specs.List.{flat_map}
use Rattle.xray_image.specs.declared.sled.Sled.{Sled}
use Rattle.xray_image.specs.declared.sled.SledKind.{SledKind}
use Rattle.xray_image.specs.declared.sled.SledKind.TheVariants.{Entry, Exit, Tail, Args}
use Rattle.xray_image.specs.Program.{Program, Trampolines, trampoline_of}
use Rattle.sled_words.specs.declared.part.Part.{Part}
use Rattle.sled_words.specs.declared.part.Part.TheVariants.{Head, Id, Opcode, Offset}

-- the head of an entry or tail sled that isn't patched: a short jump over the sled
abbrev pub jump_head : ℕ
jump_head = 0x09EB

-- the head of an exit sled that was never patched: a return, and the byte 2E
abbrev pub return_head : ℕ
return_head = 0x2EC3

-- the head of a sled that was never patched: a jump over the sled, or a return
abbrev pub unpatched_head : SledKind → ℕ
unpatched_head Entry = jump_head
unpatched_head Exit = return_head
unpatched_head Tail = jump_head
unpatched_head Args = jump_head

-- the head of a patched sled: the first two bytes of mov r10d, id
abbrev pub patched_head : ℕ
patched_head = 0xBA41

-- the opcode of a patched sled: a jump to the exit trampoline, or a call of the others
abbrev pub patched_opcode : SledKind → ℕ
patched_opcode Entry = 0xE8
patched_opcode Exit = 0xE9
patched_opcode Tail = 0xE8
patched_opcode Args = 0xE8

-- the displacement of a call or a jump: the distance of its target from the address after it, as 32 bits in two's
-- complement
abbrev pub displacement : ℕ → ℕ → ℕ
displacement following target = unsigned_abs (int_rem_euclid (pos target -ℤ pos following) (pos (2 ^ 32)))

-- the distance from a sled's end to its trampoline
abbrev pub trampoline_distance : Trampolines → Sled → ℕ
trampoline_distance trampolines sled = displacement (sled.address + 11) (trampoline_of trampolines sled.kind)

-- the parts of a sled as the image file has them
abbrev pub unpatched : Sled → Part → ℕ
unpatched sled Head = unpatched_head sled.kind
unpatched sled Id = 0x841F0F66
unpatched sled Opcode = 0
unpatched sled Offset = sled.shift

-- the parts of a patched sled: mov r10d, id, and then a call of the trampoline or a jump to it
abbrev pub patched : Trampolines → Sled → Part → ℕ
patched trampolines sled Head = patched_head
patched trampolines sled Id = sled.id
patched trampolines sled Opcode = patched_opcode sled.kind
patched trampolines sled Offset = trampoline_distance trampolines sled

abbrev pub part_value : Trampolines → Sled → Part → Bool → ℕ
part_value trampolines sled part true = patched trampolines sled part
part_value trampolines sled part false = unpatched sled part

-- the words of one sled before any patching
abbrev pub sled_words : Sled → List ℕ
sled_words sled = unpatched sled Head ∷ unpatched sled Id ∷ unpatched sled Opcode ∷ unpatched sled Offset ∷ []

-- the words of all sleds before any patching
abbrev pub all_sled_words : Program → List ℕ
all_sled_words program = flat_map sled_words program.sleds

-- all words before the script: those of the sleds are unpatched, and all others are 0
abbrev pub initial_words : Program → ℕ → List ℕ
initial_words program threads = all_sled_words program ++ replicate (3 + 2 * threads) 0
