-- The one encoding of each instruction (Intel SDM, volume 2), and which instructions there are.
use Rattle.std.specs.Prelude.{FitsSigned, ℤ, ◌*◌, ◌/◌, ◌≡◌, ◌<◌, ◌^◌, ◌+◌, ◌%◌, ℕ, List, [], ◌∷◌, ◌++◌, Option, find, nat_lt, if◌then◌else◌}
use Rattle.std.specs.Int.{w32, cast_unsigned, to_le_bytes}
use Rattle.subset_decode.specs.declared.instr.Instr.{Instr}
use Rattle.subset_decode.specs.declared.instr.Instr.TheVariants.{Mov, Add, Sub, Push, Pop, Call, Jmp, Jnz, Ret, Out}
use Rattle.subset_decode.specs.Registers.{is_reserved, IsRegister}

-- an opcode with a register in its low three bits, after the prefix 41 for r8 to r15
abbrev pub opcode_of : ℕ → ℕ → List ℕ
opcode_of opcode n = if nat_lt n 8 then (opcode + n % 8) ∷ [] else 0x41 ∷ (opcode + n % 8) ∷ []

-- an opcode on two registers: the prefix with the high bits of their numbers, then the opcode, then
-- the low three bits of each
abbrev pub two_registers : ℕ → ℕ → ℕ → List ℕ
two_registers opcode dst src = (0x48 + 4 * (src / 8) + dst / 8) ∷ opcode ∷ (0xC0 + 8 * (src % 8) + dst % 8) ∷ []

-- the distance of a jump, in two's complement
abbrev pub distance : ℤ → List ℕ
distance rel = to_le_bytes w32 (cast_unsigned w32 rel)

-- the bytes of an instruction
abbrev pub spelling : Instr → List ℕ
spelling (Mov dst imm) = opcode_of 0xB8 dst ++ to_le_bytes w32 imm
spelling (Add dst src) = two_registers 0x01 dst src
spelling (Sub dst src) = two_registers 0x29 dst src
spelling (Push reg) = opcode_of 0x50 reg
spelling (Pop reg) = opcode_of 0x58 reg
spelling (Call rel) = 0xE8 ∷ distance rel
spelling (Jmp rel) = 0xE9 ∷ distance rel
spelling (Jnz rel) = 0x0F ∷ 0x85 ∷ distance rel
spelling Ret = 0xC3 ∷ []
spelling (Out port) = 0xE6 ∷ port ∷ []

-- the registers that an instruction names, the destination before the source
abbrev pub registers : Instr → List ℕ
registers (Mov dst imm) = dst ∷ []
registers (Add dst src) = dst ∷ src ∷ []
registers (Sub dst src) = dst ∷ src ∷ []
registers (Push reg) = reg ∷ []
registers (Pop reg) = reg ∷ []
registers (Call rel) = []
registers (Jmp rel) = []
registers (Jnz rel) = []
registers Ret = []
registers (Out port) = []

-- each register of the instruction is in R, and each other field fits its bytes
abbrev pub HasFields : (ℕ → Type 0) → Instr → Type 0
HasFields R (Mov dst imm) = R dst × (imm < 2 ^ 32)
HasFields R (Add dst src) = R dst × R src
HasFields R (Sub dst src) = R dst × R src
HasFields R (Push reg) = R reg
HasFields R (Pop reg) = R reg
HasFields R (Call rel) = FitsSigned w32 rel
HasFields R (Jmp rel) = FitsSigned w32 rel
HasFields R (Jnz rel) = FitsSigned w32 rel
HasFields R Ret = Unit {0}
HasFields R (Out port) = port < 2 ^ 8

-- an instruction of the subset
abbrev pub IsNamed : Instr → Type 0
IsNamed i = HasFields IsRegister i

-- the same with any of the sixteen registers: all that the bytes could say
abbrev pub IsEncodable : Instr → Type 0
IsEncodable i = HasFields (λ n. n < 16) i

-- the first register of the instruction that can't be named
abbrev pub reserved_register : Instr → Option ℕ
reserved_register i = find is_reserved (registers i)

-- the bytes begin with this prefix
abbrev pub Begins : List ℕ → List ℕ → Type 0
Begins front bytes = (following : List ℕ) × (bytes ≡ front ++ following)
