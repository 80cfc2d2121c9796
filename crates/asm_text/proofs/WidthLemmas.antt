-- How many bytes and sleds the parts of a line have.
use Rattle.std.proofs.Common.{◌≡◌, ℕ, suc, zero, ◌+◌, ◌%◌, ◌<◌, Bool, true, false, cond, List, [], ◌∷◌, ◌++◌, length, subst, eqb, ltb, arith, append-nil}
use Rattle.std.specs.Prelude.{sum_by}
use Rattle.std.specs.Int.{w32, to_le_bytes}
use Rattle.subset_decode.specs.declared.instr.Instr.{Instr}
use Rattle.subset_decode.specs.declared.instr.Instr.TheVariants as instrs
use Rattle.subset_decode.specs.Encoding.{spelling, opcode_of}
use Rattle.xray_image.specs.Units.{Piece, JumpSled, ReturnSled, Align, piece_bytes, sleds_in}
use Rattle.asm_text.specs.declared.statement.Branch.{Branch}
use Rattle.asm_text.specs.declared.statement.Branch.TheVariants as branches
use Rattle.asm_text.specs.Statements.{Operation, Plain, Go, TailJump, Return, Does}
use Rattle.asm_text.specs.Layout.{UnitDraft, Fixed, Jump, parts_of_line, aligned, widths, sleds_of_part, sled_shift, branch_width}

-- a sled after its alignment byte, by the parity of its place
abbrev pub at_parity : ℕ → Piece → List UnitDraft
at_parity r sled = cond (eqb r 0) (Fixed sled ∷ []) (Fixed Align ∷ Fixed sled ∷ [])

widths_at_parity : (r : ℕ) (sled : Piece) → r < 2 → widths (at_parity r sled) ≡ r + length (piece_bytes sled)
widths_at_parity zero sled h = omega arith
widths_at_parity (suc zero) sled h = omega arith
widths_at_parity (suc (suc r)) sled h = absurd (omega arith)

sleds_at_parity : (r : ℕ) (sled : Piece) → r < 2 → sum_by sleds_of_part (at_parity r sled) ≡ sleds_in sled
sleds_at_parity zero sled h = omega arith
sleds_at_parity (suc zero) sled h = omega arith
sleds_at_parity (suc (suc r)) sled h = absurd (omega arith)

widths_before_branch : (r : ℕ) (sled : Piece) (branch : Branch) (name : List ℕ) → r < 2
    → widths (at_parity r sled ++ Jump branch name ∷ []) ≡ r + length (piece_bytes sled) + branch_width branch
widths_before_branch zero sled branch name h = omega arith
widths_before_branch (suc zero) sled branch name h = omega arith
widths_before_branch (suc (suc r)) sled branch name h = absurd (omega arith)

sleds_before_branch : (r : ℕ) (sled : Piece) (branch : Branch) (name : List ℕ) → r < 2 → sum_by sleds_of_part (at_parity r sled ++ Jump branch name ∷ []) ≡ sleds_in sled
sleds_before_branch zero sled branch name h = omega arith
sleds_before_branch (suc zero) sled branch name h = omega arith
sleds_before_branch (suc (suc r)) sled branch name h = absurd (omega arith)

-- the bytes of a sled with its alignment
pub widths_aligned : (place : ℕ) (sled : Piece) → widths (aligned place sled) ≡ place % 2 + length (piece_bytes sled)
widths_aligned place sled = widths_at_parity (place % 2) sled (omega arith)

pub sleds_aligned : (place : ℕ) (sled : Piece) → sum_by sleds_of_part (aligned place sled) ≡ sleds_in sled
sleds_aligned place sled = sleds_at_parity (place % 2) sled (omega arith)

-- the same with a branch after it
pub widths_aligned_branch : (place : ℕ) (sled : Piece) (branch : Branch) (name : List ℕ)
    → widths (aligned place sled ++ Jump branch name ∷ []) ≡ place % 2 + length (piece_bytes sled) + branch_width branch
widths_aligned_branch place sled branch name = widths_before_branch (place % 2) sled branch name (omega arith)

pub sleds_aligned_branch : (place : ℕ) (sled : Piece) (branch : Branch) (name : List ℕ)
    → sum_by sleds_of_part (aligned place sled ++ Jump branch name ∷ []) ≡ sleds_in sled
sleds_aligned_branch place sled branch name = sleds_before_branch (place % 2) sled branch name (omega arith)

-- ---- an instruction line has a byte

low_has_byte : (low : Bool) (opcode : ℕ) (rest : List ℕ) → 0 < length (cond low (opcode ∷ []) (0x41 ∷ opcode ∷ []) ++ rest)
low_has_byte true opcode rest = omega arith
low_has_byte false opcode rest = omega arith

opcode_has_byte : (opcode reg : ℕ) → 0 < length (opcode_of opcode reg)
opcode_has_byte opcode reg = subst (λ (x : List ℕ). 0 < length x) (append-nil (opcode_of opcode reg)) (low_has_byte (ltb reg 8) (opcode + reg % 8) [])

instr_has_byte : (instr : Instr) → 0 < length (spelling instr)
instr_has_byte (instrs.Mov dst imm) = low_has_byte (ltb dst 8) (0xB8 + dst % 8) (to_le_bytes w32 imm)
instr_has_byte (instrs.Add dst src) = omega arith
instr_has_byte (instrs.Sub dst src) = omega arith
instr_has_byte (instrs.Push reg) = opcode_has_byte 0x50 reg
instr_has_byte (instrs.Pop reg) = opcode_has_byte 0x58 reg
instr_has_byte (instrs.Call rel) = omega arith
instr_has_byte (instrs.Jmp rel) = omega arith
instr_has_byte (instrs.Jnz rel) = omega arith
instr_has_byte instrs.Ret = omega arith
instr_has_byte (instrs.Out port) = omega arith

branch_has_byte : (branch : Branch) → 0 < branch_width branch
branch_has_byte branches.Call = omega arith
branch_has_byte branches.Jmp = omega arith
branch_has_byte branches.Jnz = omega arith

plain_width : (place : ℕ) (operation : Operation) → 0 < widths (parts_of_line false place (Does operation))
plain_width place (Plain instr) = omega (arith, instr_has_byte instr)
plain_width place (Go branch name) = omega (arith, branch_has_byte branch)
plain_width place (TailJump name) = omega arith
plain_width place Return = omega arith

pub operation_width : (traced : Bool) (place : ℕ) (operation : Operation) → 0 < widths (parts_of_line traced place (Does operation))
operation_width true place (Plain instr) = plain_width place (Plain instr)
operation_width true place (Go branch name) = plain_width place (Go branch name)
operation_width true place (TailJump name) = omega (arith, widths_aligned_branch place (JumpSled sled_shift) branches.Jmp name)
operation_width true place Return = omega (arith, widths_aligned place (ReturnSled sled_shift))
operation_width false place operation = plain_width place operation
