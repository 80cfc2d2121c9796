-- The words that a line on err gives for a text that can't be assembled: the name of the refusal and its value, with a
-- blank between them.
use Rattle.std.specs.Prelude.{ℕ, List, ◌++◌, Option, Some, None, codes, decimal}
use Rattle.asm_text.specs.declared.fault.AsmFault.{AsmFault}
use Rattle.asm_text.specs.declared.fault.AsmFault.TheVariants.{Syntax, Register, Range, Repeat, Limit, Label, NoMemory}

-- the words; there are none if memory ran out, since nothing is refused then
abbrev pub asm_words : AsmFault → Option (List ℕ)
asm_words (Syntax line) = Some (codes "Syntax " ++ decimal line)
asm_words (Register line) = Some (codes "Register " ++ decimal line)
asm_words (Range line) = Some (codes "Range " ++ decimal line)
asm_words (Repeat line) = Some (codes "Repeat " ++ decimal line)
asm_words (Limit line) = Some (codes "Limit " ++ decimal line)
asm_words (Label line) = Some (codes "Label " ++ decimal line)
asm_words NoMemory = None
