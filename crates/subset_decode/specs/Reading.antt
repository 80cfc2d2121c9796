-- Reading an instruction byte by byte, for the contracts of the decoder's private functions.
use Rattle.std.specs.Prelude.{ℤ, ◌/◌, ◌≡◌, ℕ, ◌+◌, ◌-◌, ◌%◌, List, [], ◌∷◌, length, take, drop, Result, Ok, Err, nat_lt, ◌==◌, if◌then◌else◌}
use Rattle.std.specs.Int.{w32, cast_signed}
use Rattle.byteorder.specs.Endian.{little_number}
use Rattle.subset_decode.specs.declared.instr.Instr.{Instr}
use Rattle.subset_decode.specs.declared.instr.Instr.TheVariants.{Mov, Add, Sub, Push, Pop, Call, Jmp, Jnz, Ret, Out}
use Rattle.subset_decode.specs.declared.fault.DecodeFault.{DecodeFault}
use Rattle.subset_decode.specs.declared.fault.DecodeFault.TheVariants.{Short, Unknown, Register}
use Rattle.subset_decode.specs.Registers.{is_reserved}

infixl 10 ◌>>=◌
abbrev pub ◌>>=◌ : {A B : Type 0} → Result A DecodeFault → (A → Result B DecodeFault) → Result B DecodeFault
(Ok x) >>= f = f x
(Err e) >>= f = Err e

-- a part of an instruction, or an instruction, and the bytes after it
abbrev pub Read : Type 0 → Type 0
Read A = Result (A × List ℕ) DecodeFault

abbrev pub byte_at : List ℕ → Read ℕ
byte_at [] = Err Short
byte_at (b ∷ rest) = Ok (b, rest)

abbrev pub field_at : List ℕ → Read ℕ
field_at bytes = if nat_lt (length bytes) 4 then Err Short else Ok (little_number 4 (take 4 bytes), drop 4 bytes)

abbrev pub register_of : ℕ → Result ℕ DecodeFault
register_of n = if is_reserved n then Err (Register n) else Ok n

-- the distance of a jump
abbrev pub distance_at : List ℕ → Read ℤ
distance_at bytes = do
  n ← field_at bytes
  Ok (cast_signed w32 n.0, n.1)

-- the opcodes with a register in their low bits, counted from a first register
unfoldable pub low_register_at : ℕ → ℕ → List ℕ → Read Instr
low_register_at from opcode rest =
    if opcode - opcode % 8 == 0xB8 then (do
      dst ← register_of (from + opcode % 8)
      imm ← field_at rest
      Ok (Mov dst imm.0, imm.1))
    else if opcode - opcode % 8 == 0x50 then (do
      reg ← register_of (from + opcode % 8)
      Ok (Push reg, rest))
    else if opcode - opcode % 8 == 0x58 then (do
      reg ← register_of (from + opcode % 8)
      Ok (Pop reg, rest))
    else Err (Unknown opcode)

-- destination and source in a ModRM byte, each counted from a first register
abbrev pub operands_of : ℕ → ℕ → ℕ → Result (ℕ × ℕ) DecodeFault
operands_of dst_from src_from q =
    if nat_lt q 0xC0 then Err (Unknown q) else
    (register_of (dst_from + q % 8) >>= λ dst. register_of (src_from + q / 8 % 8) >>= λ src. Ok (dst, src))

-- the opcodes on two registers
unfoldable pub arithmetic_at : ℕ → ℕ → List ℕ → Read Instr
arithmetic_at dst_from src_from bytes = do
  b ← byte_at bytes
  if b.0 == 0x01 then (do
    q ← byte_at b.1
    r ← operands_of dst_from src_from q.0
    Ok (Add r.0 r.1, q.1)) else if b.0 == 0x29 then (do
      q ← byte_at b.1
      r ← operands_of dst_from src_from q.0
      Ok (Sub r.0 r.1, q.1)) else Err (Unknown b.0)

-- the opcodes of two bytes
unfoldable pub escaped_at : List ℕ → Read Instr
escaped_at bytes = do
  b ← byte_at bytes
  if b.0 == 0x85 then (do
    rel ← distance_at b.1
    Ok (Jnz rel.0, rel.1)) else Err (Unknown b.0)

unfoldable pub instr_at : List ℕ → Read Instr
instr_at bytes = do
  b ← byte_at bytes
  if b.0 == 0x41 then (do
    opcode ← byte_at b.1
    low_register_at 8 opcode.0 opcode.1)
      else if b.0 == 0x48 then arithmetic_at 0 0 b.1
      else if b.0 == 0x49 then arithmetic_at 8 0 b.1
      else if b.0 == 0x4C then arithmetic_at 0 8 b.1
      else if b.0 == 0x4D then arithmetic_at 8 8 b.1
      else if b.0 == 0x0F then escaped_at b.1
      else if b.0 == 0xE8 then (do
        rel ← distance_at b.1
        Ok (Call rel.0, rel.1))
      else if b.0 == 0xE9 then (do
        rel ← distance_at b.1
        Ok (Jmp rel.0, rel.1))
      else if b.0 == 0xC3 then Ok (Ret, b.1)
      else if b.0 == 0xE6 then (do
        port ← byte_at b.1
        Ok (Out port.0, port.1))
      else low_register_at 0 b.0 b.1

-- the first instruction of bytes, or why there is none
abbrev pub first_instr : List ℕ → Result Instr DecodeFault
first_instr bytes = do
  i ← instr_at bytes
  Ok i.0

-- what a function of the decoder returned, as a view of it, is what reading gives
abbrev pub Gives : {X Y : Type 0} → (X → Y) → Result X DecodeFault → Result Y DecodeFault → Type 0
Gives view (Ok x) read = read ≡ Ok (view x)
Gives view (Err f) read = read ≡ Err f
