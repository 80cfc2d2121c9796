-- The sleds of a program, as the entries of its sled map say them (`XRaySledEntry` of compiler-rt).
use Rattle.std.specs.Prelude.{ℕ, ◌+◌, ◌*◌, ◌/◌, ◌%◌, ◌^◌, ◌==◌, ◌++◌, ◌∷◌, not, nat_lt, List, [], length, Option, Some, None, Result, Ok, Err, if◌then◌else◌}
use Rattle.std.specs.List.{range_with_len}
use Rattle.std.specs.Option.{unwrap_or}
use Rattle.xray_io.specs.Rows.{First, InTurn, NeedsPart, ◌>>=◌}
use Rattle.elf_file.specs.declared.section.Section.{Section}
use Rattle.elf_file.specs.Addends.{Settings}
use Rattle.elf_file.specs.Numbers.{number_at}
use Rattle.program_map.specs.declared.fault.ProgramFault.{ProgramFault}
use Rattle.program_map.specs.declared.fault.ProgramFault.TheVariants.{Kind, Version}
use Rattle.program_map.specs.declared.sled.MapSledKind.{MapSledKind}
use Rattle.program_map.specs.declared.sled.MapSledKind.TheVariants.{FunctionEnter, FunctionExit, TailExit, LogArgsEnter, CustomEvent, TypedEvent}
use Rattle.program_map.specs.declared.sled.MapSled.{MapSled}

-- the kinds, by their numbers (`XRayEntryType`)
abbrev pub map_kind : ℕ → Option MapSledKind
map_kind n =
    if n == 0 then Some FunctionEnter else (if n == 1 then Some FunctionExit else (if n == 2 then Some TailExit else
    (if n == 3 then Some LogArgsEnter else (if n == 4 then Some CustomEvent else (if n == 5 then Some TypedEvent else None)))))

-- ---- words

-- the address of a byte of a section, by how many bytes of it come before
abbrev pub address_in : Section → ℕ → ℕ
address_in section bytes = (section.address + bytes) % 2 ^ 64

-- the word that is at an address, for which the file has this one: if it is 0, a relocation may set it
abbrev pub word_there : Settings → (address word : ℕ) → ℕ
word_there settings address word = if word == 0 then unwrap_or (settings.word address) 0 else word

-- The address that a field says which is itself at an address: in version 2 it counts from the field, in versions 0 and 1 it is
-- absolute.
abbrev pub said_there : Settings → (version address field : ℕ) → ℕ
said_there settings version address field = if version == 2 then (address + field) % 2 ^ 64 else word_there settings address field

-- ---- entries of 32 bytes

-- the version of the entry of a number, and the number of its kind
abbrev pub entry_version_number : List ℕ → (number : ℕ) → ℕ
entry_version_number table number = number_at 1 table (32 * number + 18)

abbrev pub entry_kind_number : List ℕ → (number : ℕ) → ℕ
entry_kind_number table number = number_at 1 table (32 * number + 16)

-- the sled that the entry of a number says, of this kind
abbrev pub entry_sled : Settings → Section → List ℕ → (number : ℕ) → MapSledKind → MapSled
entry_sled settings section table number kind = record {
  address = said_there settings (entry_version_number table number) (address_in section (32 * number)) (number_at 8 table (32 * number));
  function = said_there settings (entry_version_number table number) (address_in section (32 * number + 8)) (number_at 8 table (32 * number + 8));
  kind = kind;
  always = not (number_at 1 table (32 * number + 17) == 0);
  version = entry_version_number table number;
}

-- the sled that the entry of a number says, or its refusal
unfoldable pub map_entry_said : Settings → Section → List ℕ → (number : ℕ) → Result MapSled ProgramFault
map_entry_said settings section table number =
    First (nat_lt 2 (entry_version_number table number)) (Err (Version (section.offset + 32 * number)))
    (NeedsPart (map_kind (entry_kind_number table number)) (Err (Kind (section.offset + 32 * number))) λ kind.
    Ok (entry_sled settings section table number kind))

-- the sled of a number, behind those before it
abbrev pub map_entry_rows : Settings → Section → List ℕ → List MapSled → ℕ → Result (List MapSled) ProgramFault
map_entry_rows settings section table before number = map_entry_said settings section table number >>= λ sled. Ok (before ++ sled ∷ [])

-- the sleds of a map, or the refusal of its first entry that is refused
abbrev pub map_sleds : Settings → Section → List ℕ → Result (List MapSled) ProgramFault
map_sleds settings section table = InTurn (map_entry_rows settings section table) [] (range_with_len 0 (length table / 32))
