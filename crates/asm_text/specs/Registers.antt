-- The registers, as an assembler text names them.
use Rattle.std.specs.Prelude.{ℕ, List, [], ◌∷◌, Option, Some, None, codes, option_and_then, position, if◌then◌else◌}
use Rattle.std.specs.Str.{bytes_eq}
use Rattle.subset_decode.specs.Registers.{is_reserved}
use Rattle.asm_text.specs.Names.{before_end}

-- the registers by number: the names of their lower halves, and those of all their 64 bits
abbrev pub names32 : List (List ℕ)
names32 =
    codes "eax" ∷ codes "ecx" ∷ codes "edx" ∷ codes "ebx" ∷ codes "esp" ∷ codes "ebp" ∷ codes "esi" ∷ codes "edi"
    ∷ codes "r8d" ∷ codes "r9d" ∷ codes "r10d" ∷ codes "r11d" ∷ codes "r12d" ∷ codes "r13d" ∷ codes "r14d" ∷ codes "r15d" ∷ []

abbrev pub names64 : List (List ℕ)
names64 =
    codes "rax" ∷ codes "rcx" ∷ codes "rdx" ∷ codes "rbx" ∷ codes "rsp" ∷ codes "rbp" ∷ codes "rsi" ∷ codes "rdi"
    ∷ codes "r8" ∷ codes "r9" ∷ codes "r10" ∷ codes "r11" ∷ codes "r12" ∷ codes "r13" ∷ codes "r14" ∷ codes "r15" ∷ []

-- the number of a register, by its place in one of the two lists
abbrev pub number_in : List (List ℕ) → List ℕ → Option ℕ
number_in names word = position (λ name. bytes_eq name word) names

-- a number that instructions can't name
abbrev pub reserved : ℕ → Option ℕ
reserved n = if is_reserved n then Some n else None

-- the first answer, or else the second
abbrev pub either : Option ℕ → Option ℕ → Option ℕ
either (Some n) other = Some n
either None other = other

-- The register that a word names as an operand of mov, and as one of the others. The names of rsp and r10, of either
-- width, are registers everywhere, and are refused later.
abbrev pub register32 : List ℕ → Option ℕ
register32 word = either (number_in names32 word) (option_and_then reserved (number_in names64 word))

abbrev pub register64 : List ℕ → Option ℕ
register64 word = either (number_in names64 word) (option_and_then reserved (number_in names32 word))

-- the part of a word before the comma (44) at its end
abbrev pub before_comma : List ℕ → Option (List ℕ)
before_comma word = before_end 44 word
