-- The header of an ELF file, and the refusals of its fields.
use Rattle.std.specs.Prelude.{ℕ, ◌+◌, ◌*◌, ◌==◌, ◌&&◌, ◌||◌, not, nat_lt, List, [], ◌∷◌, length, take, Result, Ok, Err}
use Rattle.std.specs.Str.{bytes_eq}
use Rattle.xray_io.specs.Rows.{First}
use Rattle.elf_file.specs.declared.fault.ElfFault.{ElfFault}
use Rattle.elf_file.specs.declared.fault.ElfFault.TheVariants as faults
use Rattle.elf_file.specs.declared.header.Headers.{Headers}
use Rattle.elf_file.specs.Numbers.{number_at}

-- 0x7F and `ELF`
abbrev pub elf_magic : List ℕ
elf_magic = 0x7F ∷ 0x45 ∷ 0x4C ∷ 0x46 ∷ []

-- 2 for files of 64 bits (`EI_CLASS`)
abbrev pub class_of : List ℕ → ℕ
class_of file = number_at 1 file 4

-- 1 if the lowest byte of a number comes first (`EI_DATA`)
abbrev pub order_of : List ℕ → ℕ
order_of file = number_at 1 file 5

-- 2 for a program at fixed addresses, 3 for a shared object, or a program at any addresses (`e_type`)
abbrev pub type_of : List ℕ → ℕ
type_of file = number_at 2 file 16

-- 62 for x86-64 (`e_machine`)
abbrev pub machine_of : List ℕ → ℕ
machine_of file = number_at 2 file 18

-- where the headers of sections begin (`e_shoff`), how many bytes each has (`e_shentsize`), how many there are (`e_shnum`), and
-- the number of the section that has the names of sections (`e_shstrndx`)
abbrev pub headers_at : List ℕ → ℕ
headers_at file = number_at 8 file 40

abbrev pub header_size : List ℕ → ℕ
header_size file = number_at 2 file 58

abbrev pub header_count : List ℕ → ℕ
header_count file = number_at 2 file 60

abbrev pub names_number : List ℕ → ℕ
names_number file = number_at 2 file 62

-- Where the headers of sections are, or the first refusal of the header's fields, in their order.
unfoldable pub header_of : List ℕ → Result Headers ElfFault
header_of file =
    First (not (bytes_eq (take 4 file) elf_magic)) (Err faults.Magic)
    (First (nat_lt (length file) 64) (Err (faults.Header 0))
    (First (not (class_of file == 2)) (Err faults.Class)
    (First (not (order_of file == 1)) (Err faults.ByteOrder)
    (First (not ((type_of file == 2) || (type_of file == 3))) (Err faults.FileType)
    (First (not (machine_of file == 62)) (Err faults.Machine)
    (First (not (header_count file == 0) && not (header_size file == 64)) (Err (faults.Header 58))
    (First (nat_lt (length file) (headers_at file + 64 * header_count file)) (Err (faults.Header 40))
    (Ok (record { at = headers_at file; count = header_count file })))))))))
