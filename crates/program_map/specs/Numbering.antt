-- The ids that the runtime gives to functions, and so to their sleds (`xray_init.cpp` and `xray_interface.cpp` of compiler-rt).
use Rattle.std.specs.Prelude.{ℕ, ◌+◌, ◌-◌, ◌*◌, ◌/◌, ◌%◌, ◌^◌, ◌==◌, ◌&&◌, ◌++◌, ◌∷◌, not, nat_le, nat_lt, Bool, List, [], length, take, drop, map, codes, Option, Some, None, Result, Ok, Err, if◌then◌else◌}
use Rattle.std.specs.List.{range_with_len}
use Rattle.xray_io.specs.Rows.{First, InTurn, NeedsPart, ◌>>=◌}
use Rattle.elf_file.specs.declared.fault.ElfFault.TheVariants.{Entries}
use Rattle.elf_file.specs.declared.section.Section.{Section}
use Rattle.elf_file.specs.Addends.{Settings}
use Rattle.elf_file.specs.Numbers.{number_at}
use Rattle.elf_file.specs.Sections.{section_content, section_named}
use Rattle.program_map.specs.declared.fault.ProgramFault.{ProgramFault}
use Rattle.program_map.specs.declared.fault.ProgramFault.TheVariants.{Elf, Index}
use Rattle.program_map.specs.declared.numbering.NumberedSled.{NumberedSled}
use Rattle.program_map.specs.declared.sled.MapSled.{MapSled}
use Rattle.program_map.specs.Parts.{MapParts}
use Rattle.program_map.specs.Readings.{of_elf}
use Rattle.program_map.specs.Sleds.{address_in, word_there}

-- sleds with the ids of their functions, how many functions there are, and how many sleds have no id
pub record Numbering : Type 0 where
  pub sleds : List NumberedSled
  pub functions : ℕ
  pub left_out : ℕ

-- a sled with an id
abbrev pub with_id : ℕ → MapSled → NumberedSled
with_id id sled = record { id = id; sled = sled }

-- ---- without an index

-- how many groups of equal numbers stand side by side
abbrev pub groups_in : List ℕ → ℕ
groups_in [] = 0
groups_in (n ∷ []) = 1
groups_in (n ∷ next ∷ ns) = (if n == next then 0 else 1) + groups_in (next ∷ ns)

-- how many functions sleds have, of which those of a function stand side by side
abbrev pub functions_among : List MapSled → ℕ
functions_among sleds = groups_in (map (λ sled. sled.function) sleds)

-- the id of a sled is how many functions the map has up to it; some sleds have come before these
abbrev pub numbered_after : (before : List MapSled) → List MapSled → List NumberedSled
numbered_after before [] = []
numbered_after before (sled ∷ sleds) = with_id (functions_among (before ++ sled ∷ [])) sled ∷ numbered_after (before ++ sled ∷ []) sleds

-- the ids go up with each change of the function's address, and each sled has one
abbrev pub by_function : List MapSled → Numbering
by_function sleds = record { sleds = numbered_after [] sleds; functions = functions_among sleds; left_out = 0 }

-- ---- with an index, which has 16 bytes for each function

-- from the address of a function's first sled up to an address behind its last one
pub record AddressSpan : Type 0 where
  pub begin : ℕ
  pub end : ℕ

-- the two words of the entry of a number, as the file has them
abbrev pub first_index_word : List ℕ → (number : ℕ) → ℕ
first_index_word table number = number_at 8 table (16 * number)

abbrev pub second_index_word : List ℕ → (number : ℕ) → ℕ
second_index_word table number = number_at 8 table (16 * number + 8)

-- as LLVM 14 has it: both addresses
abbrev pub span_absolute : Settings → (index : Section) → List ℕ → (number : ℕ) → AddressSpan
span_absolute settings index table number = record {
  begin = word_there settings (address_in index (16 * number)) (first_index_word table number);
  end = word_there settings (address_in index (16 * number + 8)) (second_index_word table number);
}

-- as LLVM 19 has it: the first address, counted from the word that says it, and how many sleds there are
abbrev pub span_relative : (index : Section) → List ℕ → (number : ℕ) → AddressSpan
span_relative index table number = record {
  begin = (address_in index (16 * number) + first_index_word table number) % 2 ^ 64;
  end = (address_in index (16 * number) + first_index_word table number) % 2 ^ 64 + 32 * second_index_word table number;
}

-- the first word of an index tells: as an address, it is one of the map, or it isn't
abbrev pub is_absolute : MapParts → (index : Section) → List ℕ → Bool
is_absolute parts index table =
    let first = word_there parts.settings (address_in index 0) (first_index_word table 0) in
    nat_le parts.section.address first && nat_lt first (parts.section.address + length parts.table)

-- the span that the entry of a number says, in one form or the other
abbrev pub span_by : (absolute : Bool) → MapParts → (index : Section) → List ℕ → (number : ℕ) → AddressSpan
span_by absolute parts index table number =
    if absolute then span_absolute parts.settings index table number else span_relative index table number

-- it begins and ends at entries of the map
abbrev pub is_within_map : MapParts → AddressSpan → Bool
is_within_map parts span =
    nat_le parts.section.address span.begin && nat_le span.begin span.end && nat_le span.end (parts.section.address + length parts.table)
    && ((span.begin - parts.section.address) % 32 == 0) && ((span.end - span.begin) % 32 == 0)

-- the sleds of it, if it does, and if they are not too many
unfoldable pub entry_sleds : MapParts → List MapSled → AddressSpan → (most : ℕ) → Option (List MapSled)
entry_sleds parts sleds span most =
    if is_within_map parts span && nat_le ((span.end - span.begin) / 32) most
    then Some (take ((span.end - span.begin) / 32) (drop ((span.begin - parts.section.address) / 32) sleds)) else None

-- The sleds of an entry of the index, behind those of the entries before it: the id is the number of the entry, counted from 1. An
-- index has no more sleds than the map.
abbrev pub index_rows : MapParts → (index : Section) → List ℕ → List MapSled → List NumberedSled → ℕ → Result (List NumberedSled) ProgramFault
index_rows parts index table sleds before number =
    NeedsPart (entry_sleds parts sleds (span_by (is_absolute parts index table) parts index table number) (length sleds - length before))
    (Err (Index (index.offset + 16 * number))) λ own.
    Ok (before ++ map (with_id (number + 1)) own)

-- the sleds that an index numbers
abbrev pub index_sleds : MapParts → (index : Section) → List ℕ → List MapSled → Result (List NumberedSled) ProgramFault
index_sleds parts index table sleds = InTurn (index_rows parts index table sleds) [] (range_with_len 0 (length table / 16))

-- each entry of the index is a function; the sleds that no entry has are left out
abbrev pub by_index : List ℕ → MapParts → List MapSled → Section → Result Numbering ProgramFault
by_index file parts sleds index =
    of_elf (section_content file index) >>= λ table.
    First (not (length table % 16 == 0)) (Err (Elf (Entries index.header)))
    (index_sleds parts index table sleds >>= λ numbered.
    Ok (record { sleds = numbered; functions = length table / 16; left_out = length sleds - length numbered }))

-- ---- the ids of a program

-- the sleds of a program with their ids, or the first refusal
abbrev pub numbering_of : List ℕ → MapParts → List MapSled → Result Numbering ProgramFault
numbering_of file parts sleds =
    NeedsPart (section_named parts.names parts.sections (codes "xray_fn_idx" ++ 0 ∷ [])) (Ok (by_function sleds)) (by_index file parts sleds)
