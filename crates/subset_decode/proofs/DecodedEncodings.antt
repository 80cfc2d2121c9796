-- What the decoder answers at the start of an encoding, whatever follows.
use Rattle.std.proofs.Common.{◌≡◌, ℕ, zero, suc, ◌+◌, ◌*◌, ◌/◌, ◌%◌, ◌<◌, ◌⊎◌, inl, inr, ℤ, Bool, true, false, cond, ltb, List, [], ◌∷◌, ◌++◌, Option, Some, None, Result, Ok, Err, refl, sym, ap, subst, ◌∙◌, append_assoc, arith}
use Rattle.std.proofs.Math.Facts.{Fits-of_z}
use Rattle.std.proofs.lemmas.Bool.{cases_eq, cases_lt, le-ltb}
use Rattle.std.proofs.lemmas.Int.{to_z-of_z}
use Rattle.std.proofs.lemmas.List.{append-nil}
use Rattle.std.specs.Prelude.{FitsSigned, find}
use Rattle.std.specs.Int.{w32, cast_signed, cast_unsigned, to_le_bytes}
use Rattle.subset_decode.specs.declared.instr.Instr.{Instr}
use Rattle.subset_decode.specs.declared.instr.Instr.TheVariants.{Mov, Add, Sub, Push, Pop, Call, Jmp, Jnz, Ret, Out}
use Rattle.subset_decode.specs.declared.fault.DecodeFault.{DecodeFault}
use Rattle.subset_decode.specs.declared.fault.DecodeFault.TheVariants.{Unknown, Register}
use Rattle.subset_decode.specs.Registers.{is_reserved, IsRegister}
use Rattle.subset_decode.specs.Encoding.{opcode_of, two_registers, distance, spelling, IsNamed, IsEncodable, reserved_register, Begins}
use Rattle.subset_decode.specs.Reading.{◌>>=◌, Read, byte_at, field_at, distance_at, register_of, low_register_at, operands_of, arithmetic_at, escaped_at, instr_at}
use Rattle.subset_decode.proofs.Fields.{field_again}

-- a fact of each number below the count
abbrev Table : (ℕ → Type 0) → ℕ → Type 0
Table P zero = Unit {0}
Table P (suc k) = Table P k × P k

each : (P : ℕ → Type 0) (count : ℕ) → Table P count → (n : ℕ) → n < count → P n
each P zero table n lt = absurd (omega arith)
each P (suc k) table n lt =
    elim (cases_eq n k) [
      | inl e ↦ subst P (sym e) table.1
      | inr ne ↦ each P k table.0 n (omega arith)
    ]

-- the instruction, or its first reserved register
abbrev pub outcome : Option ℕ → Instr → List ℕ → Read Instr
outcome None i rest = Ok (i, rest)
outcome (Some n) i rest = Err (Register n)

-- an instruction on one register, after its opcode
abbrev pub one_at : (ℕ → Instr) → ℕ → List ℕ → Read Instr
one_at make n bytes = register_of n >>= λ reg. Ok (make reg, bytes)

-- `mov` after its opcode
abbrev mov_at : ℕ → List ℕ → Read Instr
mov_at n bytes = register_of n >>= λ dst. field_at bytes >>= λ imm. Ok (Mov dst imm.0, imm.1)

mov_opcode : (bytes : List ℕ) (n : ℕ) → n < 16 → instr_at (opcode_of 0xB8 n ++ bytes) ≡ mov_at n bytes
unfolding instr_at low_register_at
mov_opcode bytes n lt = each (λ (k : ℕ). instr_at (opcode_of 0xB8 k ++ bytes) ≡ mov_at k bytes) 16 ((((((((((((((((tt, refl), refl), refl), refl), refl), refl), refl), refl), refl), refl), refl), refl), refl), refl), refl), refl) n lt

push_opcode : (bytes : List ℕ) (n : ℕ) → n < 16 → instr_at (opcode_of 0x50 n ++ bytes) ≡ one_at Push n bytes
unfolding instr_at low_register_at
push_opcode bytes n lt = each (λ (k : ℕ). instr_at (opcode_of 0x50 k ++ bytes) ≡ one_at Push k bytes) 16 ((((((((((((((((tt, refl), refl), refl), refl), refl), refl), refl), refl), refl), refl), refl), refl), refl), refl), refl), refl) n lt

pop_opcode : (bytes : List ℕ) (n : ℕ) → n < 16 → instr_at (opcode_of 0x58 n ++ bytes) ≡ one_at Pop n bytes
unfolding instr_at low_register_at
pop_opcode bytes n lt = each (λ (k : ℕ). instr_at (opcode_of 0x58 k ++ bytes) ≡ one_at Pop k bytes) 16 ((((((((((((((((tt, refl), refl), refl), refl), refl), refl), refl), refl), refl), refl), refl), refl), refl), refl), refl), refl) n lt

one_outcome : (make : ℕ → Instr) (b : Bool) (n : ℕ) (rest : List ℕ) → (cond b (Err (Register n)) (Ok n) >>= λ reg. Ok (make reg, rest)) ≡ outcome (cond b (Some n) None) (make n) rest
one_outcome make true n rest = refl
one_outcome make false n rest = refl

abbrev both_of : Result ℕ DecodeFault → Result ℕ DecodeFault → Result (ℕ × ℕ) DecodeFault
both_of a b = a >>= λ dst. b >>= λ src. Ok (dst, src)

abbrev two_then : (ℕ → ℕ → Instr) → List ℕ → Result (ℕ × ℕ) DecodeFault → Read Instr
two_then make rest r = r >>= λ both. Ok (make both.0 both.1, rest)

two_outcome : (make : ℕ → ℕ → Instr) (a b : Bool) (n m : ℕ) (rest : List ℕ)
    → two_then make rest (both_of (cond a (Err (Register n)) (Ok n)) (cond b (Err (Register m)) (Ok m))) ≡ outcome (cond a (Some n) (cond b (Some m) None)) (make n m) rest
two_outcome make true b n m rest = refl
two_outcome make false true n m rest = refl
two_outcome make false false n m rest = refl

-- what the prefix says of a register, and what the low bits add to it
data Half (n bank bit : ℕ) : Type 0 where
  half : n / 8 ≡ bit → bank + n % 8 ≡ n → Half n bank bit

halves : (n : ℕ) → n < 16 → Half n 0 0 ⊎ Half n 8 1
halves n lt =
    elim (cases_lt n 8) [
      | inl low ↦ inl (half (omega arith) (omega arith))
      | inr high ↦ inr (half (omega arith) (omega arith))
    ]

-- the ModRM byte of two registers
abbrev modrm : ℕ → ℕ → ℕ
modrm dst src = 0xC0 + 8 * (src % 8) + dst % 8

operands_again : (dst_bank src_bank dst src : ℕ) → dst_bank + dst % 8 ≡ dst → src_bank + src % 8 ≡ src
    → operands_of dst_bank src_bank (modrm dst src) ≡ both_of (register_of dst) (register_of src)
operands_again dst_bank src_bank dst src d s =
    let form : ltb (modrm dst src) 0xC0 ≡ false = le-ltb _ _ (omega arith) in
    let low : dst_bank + modrm dst src % 8 ≡ dst = omega (arith, d) in
    let middle : src_bank + modrm dst src / 8 % 8 ≡ src = omega (arith, s) in
    rw (form, low, middle) refl

-- an instruction on two registers, after its opcode
abbrev pub two_at : (ℕ → ℕ → Instr) → ℕ → ℕ → List ℕ → Read Instr
two_at make dst_bank src_bank bytes = byte_at bytes >>= λ q. operands_of dst_bank src_bank q.0 >>= λ r. Ok (make r.0 r.1, q.1)

-- an opcode on two registers is read in this way after each prefix
pub record ReadsTwo (opcode : ℕ) (make : ℕ → ℕ → Instr) : Type 0 where
  pub low_low : (bytes : List ℕ) → instr_at (0x48 ∷ opcode ∷ bytes) ≡ two_at make 0 0 bytes
  pub high_low : (bytes : List ℕ) → instr_at (0x49 ∷ opcode ∷ bytes) ≡ two_at make 8 0 bytes
  pub low_high : (bytes : List ℕ) → instr_at (0x4C ∷ opcode ∷ bytes) ≡ two_at make 0 8 bytes
  pub high_high : (bytes : List ℕ) → instr_at (0x4D ∷ opcode ∷ bytes) ≡ two_at make 8 8 bytes

pub reads_add : ReadsTwo 0x01 Add
unfolding instr_at arithmetic_at
reads_add = record { low_low = λ _. refl; high_low = λ _. refl; low_high = λ _. refl; high_high = λ _. refl }

pub reads_sub : ReadsTwo 0x29 Sub
unfolding instr_at arithmetic_at
reads_sub = record { low_low = λ _. refl; high_low = λ _. refl; low_high = λ _. refl; high_high = λ _. refl }

two_again : (make : ℕ → ℕ → Instr) (dst_bank src_bank dst src : ℕ) (rest : List ℕ) → dst_bank + dst % 8 ≡ dst → src_bank + src % 8 ≡ src
    → two_at make dst_bank src_bank (modrm dst src ∷ rest) ≡ outcome (find is_reserved (dst ∷ src ∷ [])) (make dst src) rest
two_again make dst_bank src_bank dst src rest d s =
    ap (two_then make rest) (operands_again dst_bank src_bank dst src d s)
    ∙ two_outcome make (is_reserved dst) (is_reserved src) dst src rest

two_decided : (opcode : ℕ) (make : ℕ → ℕ → Instr) → ReadsTwo opcode make → (dst src : ℕ) (rest : List ℕ) → dst < 16 → src < 16
    → instr_at (two_registers opcode dst src ++ rest) ≡ outcome (find is_reserved (dst ∷ src ∷ [])) (make dst src) rest
two_decided opcode make reads dst src rest d s =
    elim (halves dst d) [
      | inl low ↦ elim low [
        | half dst_bit dst_is ↦ elim (halves src s) [
          | inl low' ↦ elim low' [ half src_bit src_is ↦ rw (dst_bit, src_bit) (reads.low_low (modrm dst src ∷ rest) ∙ two_again make 0 0 dst src rest dst_is src_is) ]
          | inr high' ↦ elim high' [ half src_bit src_is ↦ rw (dst_bit, src_bit) (reads.low_high (modrm dst src ∷ rest) ∙ two_again make 0 8 dst src rest dst_is src_is) ]
        ]
      ]
      | inr high ↦ elim high [
        | half dst_bit dst_is ↦ elim (halves src s) [
          | inl low' ↦ elim low' [ half src_bit src_is ↦ rw (dst_bit, src_bit) (reads.high_low (modrm dst src ∷ rest) ∙ two_again make 8 0 dst src rest dst_is src_is) ]
          | inr high' ↦ elim high' [ half src_bit src_is ↦ rw (dst_bit, src_bit) (reads.high_high (modrm dst src ∷ rest) ∙ two_again make 8 8 dst src rest dst_is src_is) ]
        ]
      ]
    ]

-- the distance that was written
distance_again : (rel : ℤ) (rest : List ℕ) → FitsSigned w32 rel → distance_at (distance rel ++ rest) ≡ Ok (rel, rest)
distance_again rel rest fits =
    ap (λ (n : Read ℕ). n >>= λ found. Ok (cast_signed w32 found.0, found.1)) (field_again (cast_unsigned w32 rel) rest (Fits-of_z fits).fits)
    ∙ ap (λ (z : ℤ). Ok (z, rest)) (to_z-of_z w32 rel fits)

abbrev pub jump_then : (ℤ → Instr) → Read ℤ → Read Instr
jump_then make d = d >>= λ found. Ok (make found.0, found.1)

jump_again : (make : ℤ → Instr) (rel : ℤ) (rest : List ℕ) → FitsSigned w32 rel → jump_then make (distance_at (distance rel ++ rest)) ≡ Ok (make rel, rest)
jump_again make rel rest fits = ap (jump_then make) (distance_again rel rest fits)

pub decided : (i : Instr) (rest : List ℕ) → IsEncodable i → instr_at (spelling i ++ rest) ≡ outcome (reserved_register i) i rest
unfolding instr_at escaped_at
decided (Mov dst imm) rest fits =
    ap instr_at (append_assoc (opcode_of 0xB8 dst) (to_le_bytes w32 imm) rest)
    ∙ mov_opcode (to_le_bytes w32 imm ++ rest) dst fits.0
    ∙ ap (λ (field : Read ℕ). register_of dst >>= λ dst'. field >>= λ found. Ok (Mov dst' found.0, found.1)) (field_again imm rest fits.1)
    ∙ one_outcome (λ n. Mov n imm) (is_reserved dst) dst rest
decided (Add dst src) rest fits = two_decided 0x01 Add reads_add dst src rest fits.0 fits.1
decided (Sub dst src) rest fits = two_decided 0x29 Sub reads_sub dst src rest fits.0 fits.1
decided (Push reg) rest fits = push_opcode rest reg fits ∙ one_outcome Push (is_reserved reg) reg rest
decided (Pop reg) rest fits = pop_opcode rest reg fits ∙ one_outcome Pop (is_reserved reg) reg rest
decided (Call rel) rest fits = jump_again Call rel rest fits
decided (Jmp rel) rest fits = jump_again Jmp rel rest fits
decided (Jnz rel) rest fits = jump_again Jnz rel rest fits
decided Ret rest fits = refl
decided (Out port) rest fits = refl

reserved_not : (n : ℕ) → IsRegister n → is_reserved n ≡ false
reserved_not n h = grind (arith, h.1, h.2)

-- an instruction of the subset is one of the encodable, and has no reserved register
pub named : (i : Instr) → IsNamed i → IsEncodable i × (reserved_register i ≡ None)
named (Mov dst imm) h = ((h.0.0, h.1), rw (reserved_not dst h.0) refl)
named (Add dst src) h = ((h.0.0, h.1.0), rw (reserved_not dst h.0, reserved_not src h.1) refl)
named (Sub dst src) h = ((h.0.0, h.1.0), rw (reserved_not dst h.0, reserved_not src h.1) refl)
named (Push reg) h = (h.0, rw (reserved_not reg h) refl)
named (Pop reg) h = (h.0, rw (reserved_not reg h) refl)
named (Call rel) h = (h, refl)
named (Jmp rel) h = (h, refl)
named (Jnz rel) h = (h, refl)
named Ret h = (h, refl)
named (Out port) h = (h, refl)

pub decided_named : (i : Instr) (rest : List ℕ) → IsNamed i → instr_at (spelling i ++ rest) ≡ Ok (i, rest)
decided_named i rest h = decided i rest (named i h).0 ∙ ap (λ (o : Option ℕ). outcome o i rest) (named i h).1

pub decided_front : (i : Instr) (bytes : List ℕ) → IsNamed i → (p : Begins (spelling i) bytes) → instr_at bytes ≡ Ok (i, p.0)
decided_front i bytes h p = ap instr_at p.1 ∙ decided_named i p.0 h

-- a prefix decides, whatever follows
abbrev pub Decides : List ℕ → DecodeFault → Type 0
Decides front f = (rest : List ℕ) → instr_at (front ++ rest) ≡ Err f

decided_begun : (front : List ℕ) (f : DecodeFault) (i : Instr) → Decides front f → IsEncodable i → Begins front (spelling i) → outcome (reserved_register i) i [] ≡ Err f
decided_begun front f i d fits p =
    sym (decided i [] fits) ∙ ap instr_at (append-nil (spelling i) ∙ p.1) ∙ d p.0

register_outcome : (o : Option ℕ) (i : Instr) (n : ℕ) → outcome o i [] ≡ Err (Register n) → o ≡ Some n
register_outcome None i n e = absurd cc
register_outcome (Some m) i n e = cc

unknown_outcome : (o : Option ℕ) (i : Instr) (b : ℕ) → outcome o i [] ≡ Err (Unknown b) → ⊥
unknown_outcome None i b e = cc
unknown_outcome (Some m) i b e = cc

-- a prefix that decides for a register begins encodings with this register alone
pub only_register : (front : List ℕ) (n : ℕ) → Decides front (Register n) → (i : Instr) → IsEncodable i → Begins front (spelling i) → reserved_register i ≡ Some n
only_register front n d i fits p = register_outcome (reserved_register i) i n (decided_begun front (Register n) i d fits p)

-- a prefix that decides for an unknown byte begins no encoding
pub begins_none : (front : List ℕ) (b : ℕ) → Decides front (Unknown b) → (i : Instr) → IsEncodable i → Begins front (spelling i) → ⊥
begins_none front b d i fits p = unknown_outcome (reserved_register i) i b (decided_begun front (Unknown b) i d fits p)

abbrev done : {A : Type 0} → A → Result A DecodeFault
done x = Ok x

pub ok_is : {A : Type 0} (x y : A) → done x ≡ done y → x ≡ y
ok_is x y e = cc

pub same_instr : (i j : Instr) (bytes : List ℕ) → IsNamed i → IsNamed j → Begins (spelling i) bytes → Begins (spelling j) bytes → i ≡ j
same_instr i j bytes g h p q =
    ap (λ (x : Instr × List ℕ). x.0) (ok_is (i, p.0) (j, q.0) (sym (decided_front i bytes g p) ∙ decided_front j bytes h q))

ok_outcome : (o : Option ℕ) (i j : Instr) (rest : List ℕ) → outcome o i [] ≡ Ok (j, rest) → o ≡ None
ok_outcome None i j rest e = refl
ok_outcome (Some n) i j rest e = absurd cc

-- an encoding that goes on after an instruction has no reserved register
pub not_reserved : (i j : Instr) → IsNamed i → IsEncodable j → Begins (spelling i) (spelling j) → reserved_register j ≡ None
not_reserved i j h fits p =
    ok_outcome (reserved_register j) j i p.0 (sym (decided j [] fits) ∙ ap instr_at (append-nil (spelling j)) ∙ decided_front i (spelling j) h p)
