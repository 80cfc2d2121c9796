-- The steps of reading a table of symbols.
use Rattle.std.proofs.Common.{◌≡◌, ◌%◌, ◌==◌, ℕ, true, List, length, Some, Ok}
use Rattle.std.specs.Prelude.{slice_get}
use Rattle.elf_file.specs.declared.section.Section.{Section}
use Rattle.elf_file.specs.Sections.{section_content}
use Rattle.elf_file.specs.Symbols.{table_names}
use Rattle.elf_file.specs.private.Tables.{names_from}

pub table_steps : (file : List ℕ) (sections : List Section) (section strings : Section) (table names : List ℕ)
    → section_content file section ≡ Ok table → (length table % 24 == 0) ≡ true → slice_get sections section.link ≡ Some strings
    → section_content file strings ≡ Ok names → table_names file sections section ≡ names_from section.offset table names
table_steps file sections section strings table names p q r s = rw (p, q, r, s)
