-- The words that the relocations of an ELF file set.
use Rattle.std.specs.Prelude.{ℕ, ◌+◌, ◌*◌, ◌/◌, ◌%◌, ◌==◌, ◌&&◌, not, Bool, List, [], ◌∷◌, ◌++◌, length, codes, find, Option, None, Result, Ok, Err, option_map}
use Rattle.std.specs.List.{range_with_len}
use Rattle.xray_io.specs.Rows.{First, NeedsPart, ◌>>=◌}
use Rattle.elf_file.specs.declared.fault.ElfFault.{ElfFault}
use Rattle.elf_file.specs.declared.fault.ElfFault.TheVariants as faults
use Rattle.elf_file.specs.declared.section.Section.{Section}
use Rattle.elf_file.specs.Numbers.{number_at}
use Rattle.elf_file.specs.Sections.{section_content, section_named}

-- for each address, the word that a relocation sets there, if there is one
pub record Settings : Type 0 where
  pub word : ℕ → Option ℕ

-- The relocation of this number (`Elf64_Rela`, 24 bytes) sets the word at an address: its type, in the lower half of the word at 8, is 8
-- (`R_X86_64_RELATIVE`).
unfoldable pub sets_word : List ℕ → (address number : ℕ) → Bool
sets_word table address number = (number_at 4 table (24 * number + 8) == 8) && (number_at 8 table (24 * number) == address)

-- the word that a relocation sets, for a file that lies at the addresses that it says
abbrev pub addend_of : List ℕ → (number : ℕ) → ℕ
addend_of table number = number_at 8 table (24 * number + 16)

-- of these relocations, the first that sets the word at an address
abbrev pub first_addend : List ℕ → List ℕ → ℕ → Option ℕ
first_addend table numbers address = option_map (addend_of table) (find (sets_word table address) numbers)

-- what a table of relocations sets
abbrev pub settings_in : List ℕ → Settings
settings_in table = record { word = first_addend table (range_with_len 0 (length table / 24)) }

-- what the relocations in `.rela.dyn` set, or the refusal of this section; a file may lack it
abbrev pub settings_of : List ℕ → (names : List ℕ) → List Section → Result Settings ElfFault
settings_of file names sections =
    NeedsPart (section_named names sections (codes ".rela.dyn" ++ 0 ∷ [])) (Ok (record { word = λ address. None })) λ section.
    section_content file section >>= λ table.
    First (not (length table % 24 == 0)) (Err (faults.Entries section.header))
    (Ok (settings_in table))
