-- The words that a line on err gives for bytes that aren't an ELF file that is read: the name of the refusal and its place,
-- with a blank between them.
use Rattle.std.specs.Prelude.{ℕ, List, ◌++◌, Option, Some, None, codes, decimal}
use Rattle.elf_file.specs.declared.fault.ElfFault.{ElfFault}
use Rattle.elf_file.specs.declared.fault.ElfFault.TheVariants.{Magic, Class, ByteOrder, FileType, Machine, Header, Content, Entries, Link, Name, NoMemory}

-- the words; there are none if memory ran out, since nothing is refused then
abbrev pub elf_words : ElfFault → Option (List ℕ)
elf_words Magic = Some (codes "Magic 0")
elf_words Class = Some (codes "Class 4")
elf_words ByteOrder = Some (codes "ByteOrder 5")
elf_words FileType = Some (codes "FileType 16")
elf_words Machine = Some (codes "Machine 18")
elf_words (Header place) = Some (codes "Header " ++ decimal place)
elf_words (Content place) = Some (codes "Content " ++ decimal place)
elf_words (Entries place) = Some (codes "Entries " ++ decimal place)
elf_words (Link place) = Some (codes "Link " ++ decimal place)
elf_words (Name place) = Some (codes "Name " ++ decimal place)
elf_words NoMemory = None
