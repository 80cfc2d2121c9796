-- The sections of an ELF file.
use Rattle.std.specs.Prelude.{ℕ, ◌+◌, ◌*◌, ◌==◌, ◌&&◌, not, nat_le, Bool, List, length, take, drop, map, find, slice_get, Option, Some, None, Result, Ok, Err, if◌then◌else◌}
use Rattle.std.specs.List.{range_with_len}
use Rattle.std.specs.Str.{bytes_eq}
use Rattle.xray_io.specs.Rows.{NeedsPart, ◌>>=◌}
use Rattle.elf_file.specs.declared.fault.ElfFault.{ElfFault}
use Rattle.elf_file.specs.declared.fault.ElfFault.TheVariants as faults
use Rattle.elf_file.specs.declared.section.Section.{Section}
use Rattle.elf_file.specs.declared.header.Headers.{Headers}
use Rattle.elf_file.specs.Header.{header_of, names_number}
use Rattle.elf_file.specs.Numbers.{number_at}

-- the section that a header at a place says (`Elf64_Shdr`)
abbrev pub section_at : List ℕ → ℕ → Section
section_at file place = record {
  header = place;
  name = number_at 4 file place;
  kind = number_at 4 file (place + 4);
  address = number_at 8 file (place + 16);
  offset = number_at 8 file (place + 24);
  size = number_at 8 file (place + 32);
  link = number_at 4 file (place + 40);
}

-- the sections whose headers are there, one behind the other
abbrev pub sections_at : List ℕ → Headers → List Section
sections_at file headers = map (λ i. section_at file (headers.at + 64 * i)) (range_with_len 0 headers.count)

-- the sections of a file, or the first refusal of its header
abbrev pub sections_of : List ℕ → Result (List Section) ElfFault
sections_of file = header_of file >>= λ headers. Ok (sections_at file headers)

-- the bytes that the file has for a section; a section without bytes (type 8, `SHT_NOBITS`) has none
unfoldable pub content_of : List ℕ → Section → Option (List ℕ)
content_of file section =
    if not (section.kind == 8) && nat_le (section.offset + section.size) (length file)
    then Some (take section.size (drop section.offset file)) else None

-- the same, or the refusal of the section
abbrev pub section_content : List ℕ → Section → Result (List ℕ) ElfFault
section_content file section = NeedsPart (content_of file section) (Err (faults.Content section.header)) λ bytes. Ok bytes

-- ---- names

-- in a table of names, this name stands at a place; its last byte is a zero
unfoldable pub is_name_at : (names name : List ℕ) → (place : ℕ) → Bool
is_name_at names name place = bytes_eq (take (length name) (drop place names)) name

-- the table of the names of sections, or its refusal
abbrev pub section_names_of : List ℕ → List Section → Result (List ℕ) ElfFault
section_names_of file sections =
    NeedsPart (slice_get sections (names_number file)) (Err (faults.Link 62)) (section_content file)

-- the first section that has this name, whose last byte is a zero
abbrev pub section_named : (names : List ℕ) → List Section → (name : List ℕ) → Option Section
section_named names sections name = find (λ section. is_name_at names name section.name) sections

-- the first section of a type
abbrev pub section_typed : ℕ → List Section → Option Section
section_typed kind sections = find (λ section. section.kind == kind) sections
