-- What the decoder answers is true of the bytes.
use Rattle.std.proofs.Common.{◌≡◌, ℕ, ◌+◌, ◌-◌, ◌/◌, ◌%◌, ◌<◌, ◌≤◌, ◌^◌, inl, inr, ℤ, pos, true, false, eqb, ltb, List, [], ◌∷◌, ◌++◌, length, take, drop, Result, Ok, Err, refl, sym, ap, subst, ◌∙◌, append_assoc, append-nil, lit<, rules, arith}
use Rattle.std.proofs.lemmas.Bool.{cases_Bool, eq-eqb, ltb-true, ltb-false, lt-ltb, le-ltb}
use Rattle.std.proofs.lemmas.Bool.Decides.{eqb_tells}
use Rattle.std.proofs.lemmas.List.{take-append-drop, length-take}
use Rattle.std.proofs.lemmas.Int.{of_z-to_z}
use Rattle.std.specs.Prelude.{FitsSigned}
use Rattle.std.specs.Int.{w32, cast_signed, to_le_bytes}
use Rattle.byteorder.specs.Endian.{little_number}
use Rattle.subset_decode.specs.declared.instr.Instr.{Instr}
use Rattle.subset_decode.specs.declared.instr.Instr.TheVariants.{Mov, Add, Sub, Push, Pop, Call, Jmp, Jnz, Ret, Out}
use Rattle.subset_decode.specs.declared.fault.DecodeFault.{DecodeFault}
use Rattle.subset_decode.specs.declared.fault.DecodeFault.TheVariants.{Unknown, Register}
use Rattle.subset_decode.specs.Registers.{is_reserved, IsRegister}
use Rattle.subset_decode.specs.Encoding.{opcode_of, two_registers, distance, spelling, IsNamed, IsEncodable, Begins}
use Rattle.subset_decode.specs.Refusals.{IsCut, IsUnknownByte, NamesReserved, Refuses, Answers}
use Rattle.subset_decode.specs.Reading.{◌>>=◌, Read, byte_at, field_at, distance_at, register_of, low_register_at, arithmetic_at, escaped_at, instr_at}
use Rattle.subset_decode.proofs.Fields.{IsBytes, IsBytes-rest, IsBytes-take, cut_field, number_back, number_fits}
use Rattle.subset_decode.proofs.DecodedEncodings.{one_at, two_at, jump_then, Decides, only_register, begins_none}

-- what is read stands there, and a fault holds there
abbrev pub Holds : List ℕ → Read Instr → Type 0
Holds bytes (Ok x) = IsNamed x.0 × (bytes ≡ spelling x.0 ++ x.1)
Holds bytes (Err f) = Refuses bytes f

-- an unknown byte decides
stops : (front : List ℕ) (b : ℕ) (rest : List ℕ) → IsCut front → Decides (front ++ b ∷ []) (Unknown b) → IsUnknownByte b (front ++ b ∷ rest)
stops front b rest cut d = (front, (rest, sym (append_assoc front (b ∷ []) rest)), cut, begins_none (front ++ b ∷ []) b d)

-- a register decides
reserves : (front : List ℕ) (n : ℕ) (rest : List ℕ) (i : Instr) → IsEncodable i → Begins front (spelling i) → Decides front (Register n) → NamesReserved n (front ++ rest)
reserves front n rest i fits begins d = (front, (rest, refl), (i, fits, begins), only_register front n d)

-- the opcodes without a prefix name the first eight registers, and those after 41 the others
data Bank : ℕ → List ℕ → Type 0 where
  low : Bank 0 []
  high : Bank 8 (0x41 ∷ [])

-- an opcode after the prefix is read as one with a register in its low bits
abbrev ReadsLow : ℕ → List ℕ → ℕ → Type 0
ReadsLow bank front b = (rest : List ℕ) → instr_at (front ++ b ∷ rest) ≡ low_register_at bank b rest

opcode_is : (bank : ℕ) (front : List ℕ) → Bank bank front → (opcode b : ℕ) → b - b % 8 ≡ opcode → opcode_of opcode (bank + b % 8) ≡ front ++ b ∷ []
opcode_is bank front low opcode b e =
    let small : ltb (0 + b % 8) 8 ≡ true = lt-ltb _ _ (omega arith) in
    let byte : opcode + (0 + b % 8) % 8 ≡ b = omega arith in
    rw (small, byte) refl
opcode_is bank front high opcode b e =
    let large : ltb (8 + b % 8) 8 ≡ false = le-ltb _ _ (omega arith) in
    let byte : opcode + (8 + b % 8) % 8 ≡ b = omega arith in
    rw (large, byte) refl

bank_below : (bank : ℕ) (front : List ℕ) → Bank bank front → (b : ℕ) → bank + b % 8 < 16
bank_below bank front low b = omega arith
bank_below bank front high b = omega arith

-- a prefix of an encoding that lacks some of its bytes is cut off
cut_after : (front : List ℕ) (i : Instr) (next : ℕ) (rest : List ℕ) → IsNamed i → spelling i ≡ front ++ next ∷ rest → IsCut front
cut_after front i next rest h e = (i, h, next, (rest, e ∙ sym (append_assoc front (next ∷ []) rest)))

bank_cut : (bank : ℕ) (front : List ℕ) → Bank bank front → IsCut front
bank_cut bank front low = cut_after [] Ret 0xC3 [] tt refl
bank_cut bank front high = cut_after (0x41 ∷ []) (Push 8) 0x50 [] (search rules) refl

register_is : (n : ℕ) → n < 16 → is_reserved n ≡ false → IsRegister n
register_is n lt e =
    elim (eqb_tells n 4) [
      | inl four ↦ let bad : is_reserved n ≡ true = rw four.0 refl in let both : true ≡ false = sym bad ∙ e in absurd cc
      | inr four ↦ elim (eqb_tells n 10) [
        | inl ten ↦ let bad : is_reserved n ≡ true = rw (four.0, ten.0) refl in let both : true ≡ false = sym bad ∙ e in absurd cc
        | inr ten ↦ (lt, four.1, ten.1)
      ]
    ]

-- instructions with a field of four bytes after their first bytes
abbrev field_then : (ℕ → Instr) → List ℕ → Read Instr
field_then make rest = field_at rest >>= λ k. Ok (make k.0, k.1)

field_holds : (front : List ℕ) (make : ℕ → Instr) → ((k : ℕ) → k < 2 ^ 32 → IsNamed (make k)) → ((k : ℕ) → k < 2 ^ 32 → spelling (make k) ≡ front ++ to_le_bytes w32 k)
    → (rest : List ℕ) → IsBytes rest → Holds (front ++ rest) (field_then make rest)
field_holds front make all spelled rest bytes =
    elim (cases_Bool (ltb (length rest) 4)) [
      | inl short ↦
          let part = cut_field rest (ltb-true (length rest) 4 short) bytes in
          let whole : spelling (make part.number) ≡ ((front ++ rest) ++ part.next ∷ []) ++ part.begins.0 =
          spelled part.number part.fits ∙ ap (λ (x : List ℕ). front ++ x) (part.begins.1 ∙ append_assoc rest (part.next ∷ []) part.begins.0)
          ∙ sym (append_assoc front rest (part.next ∷ part.begins.0)) ∙ sym (append_assoc (front ++ rest) (part.next ∷ []) part.begins.0) in
          rw short (make part.number, all part.number part.fits, part.next, (part.begins.0, whole))
      | inr long ↦
          let number = little_number 4 (take 4 rest) in
          let fits = number_fits (take 4 rest) (IsBytes-take 4 rest bytes) in
          let wide : length (take 4 rest) ≡ 4 = omega (arith, ltb-false (length rest) 4 long, length-take 4 rest) in
          let back = number_back (take 4 rest) wide (IsBytes-take 4 rest bytes) in
          let whole : front ++ rest ≡ spelling (make number) ++ drop 4 rest =
          ap (λ (x : List ℕ). front ++ x) (sym (take-append-drop 4 rest) ∙ ap (λ (x : List ℕ). x ++ drop 4 rest) (sym back))
          ∙ sym (append_assoc front (to_le_bytes w32 number) (drop 4 rest)) ∙ ap (λ (x : List ℕ). x ++ drop 4 rest) (sym (spelled number fits)) in
          rw long (all number fits, whole)
    ]

-- an opcode decides for the register in its low bits
low_reserved : (bank : ℕ) (front : List ℕ) → Bank bank front → (opcode b : ℕ) → b - b % 8 ≡ opcode → (i : Instr) → IsEncodable i → Begins (opcode_of opcode (bank + b % 8)) (spelling i)
    → ReadsLow bank front b → ((t : List ℕ) → low_register_at bank b t ≡ Err (Register (bank + b % 8))) → (rest : List ℕ) → NamesReserved (bank + b % 8) ((front ++ b ∷ []) ++ rest)
low_reserved bank front at opcode b e i fits begins reads decides rest =
    let spelled = opcode_is bank front at opcode b e in
    reserves (front ++ b ∷ []) (bank + b % 8) rest i fits (subst (λ (x : List ℕ). Begins x (spelling i)) spelled begins) (λ t. ap instr_at (append_assoc front (b ∷ []) t) ∙ reads t ∙ decides t)

-- `mov` after its opcode
mov_holds : (bank : ℕ) (front : List ℕ) → Bank bank front → (b : ℕ) (rest : List ℕ) → IsBytes rest → ReadsLow bank front b → b - b % 8 ≡ 0xB8
    → Holds ((front ++ b ∷ []) ++ rest) (register_of (bank + b % 8) >>= λ dst. field_then (Mov dst) rest)
unfolding low_register_at
mov_holds bank front at b rest bytes reads e =
    let test : eqb (b - b % 8) 0xB8 ≡ true = eq-eqb _ _ e in
    let n = bank + b % 8 in
    let below : n < 16 = bank_below bank front at b in
    elim (cases_Bool (is_reserved n)) [
      | inl reserved ↦ rw reserved (low_reserved bank front at 0xB8 b e (Mov n 0) (below, lit< tt) (0 ∷ 0 ∷ 0 ∷ 0 ∷ [], refl) reads (λ t. rw (test, reserved) refl) rest)
      | inr free ↦
          rw free (field_holds (front ++ b ∷ []) (Mov n) (λ k fits. (register_is n below free, fits)) (λ k _. ap (λ (x : List ℕ). x ++ to_le_bytes w32 k) (opcode_is bank front at 0xB8 b e)) rest bytes)
    ]

-- an instruction that is only an opcode with a register
record IsOne (opcode : ℕ) (make : ℕ → Instr) : Type 0 where
  encodable : (n : ℕ) → n < 16 → IsEncodable (make n)
  named : (n : ℕ) → IsRegister n → IsNamed (make n)
  spelled : (n : ℕ) → spelling (make n) ≡ opcode_of opcode n

one_holds : (opcode : ℕ) (make : ℕ → Instr) → IsOne opcode make → (bank : ℕ) (front : List ℕ) → Bank bank front → (b : ℕ) (rest : List ℕ) → ReadsLow bank front b → b - b % 8 ≡ opcode
    → ((t : List ℕ) → low_register_at bank b t ≡ one_at make (bank + b % 8) t) → Holds ((front ++ b ∷ []) ++ rest) (one_at make (bank + b % 8) rest)
one_holds opcode make is bank front at b rest reads e one =
    let n = bank + b % 8 in
    let below : n < 16 = bank_below bank front at b in
    elim (cases_Bool (is_reserved n)) [
      | inl reserved ↦
          rw reserved (low_reserved bank front at opcode b e (make n) (is.encodable n below) ([], is.spelled n ∙ sym (append-nil (opcode_of opcode n))) reads (λ t. one t ∙ rw reserved refl) rest)
      | inr free ↦ rw free (is.named n (register_is n below free), ap (λ (x : List ℕ). x ++ rest) (sym (is.spelled n ∙ opcode_is bank front at opcode b e)))
    ]

is_push : IsOne 0x50 Push
is_push = record { encodable = λ n h. h; named = λ n h. h; spelled = λ n. refl }

is_pop : IsOne 0x58 Pop
is_pop = record { encodable = λ n h. h; named = λ n h. h; spelled = λ n. refl }

low_holds : (bank : ℕ) (front : List ℕ) → Bank bank front → (b : ℕ) (rest : List ℕ) → IsBytes rest → ReadsLow bank front b → Holds ((front ++ b ∷ []) ++ rest) (low_register_at bank b rest)
unfolding low_register_at
low_holds bank front at b rest bytes reads =
    elim (eqb_tells (b - b % 8) 0xB8) [
      | inl mov ↦ rw mov.0 (mov_holds bank front at b rest bytes reads mov.1)
      | inr not_mov ↦ elim (eqb_tells (b - b % 8) 0x50) [
        | inl push ↦ rw (not_mov.0, push.0) (one_holds 0x50 Push is_push bank front at b rest reads push.1 (λ t. rw (not_mov.0, push.0) refl))
        | inr not_push ↦ elim (eqb_tells (b - b % 8) 0x58) [
          | inl pop ↦ rw (not_mov.0, not_push.0, pop.0) (one_holds 0x58 Pop is_pop bank front at b rest reads pop.1 (λ t. rw (not_mov.0, not_push.0, pop.0) refl))
          | inr not_pop ↦
              rw (not_mov.0, not_push.0, not_pop.0) (subst (λ (x : List ℕ). IsUnknownByte b x) (sym (append_assoc front (b ∷ []) rest)) (stops front b rest (bank_cut bank front at) (λ t. ap instr_at (append_assoc front (b ∷ []) t) ∙ reads t ∙ rw (not_mov.0, not_push.0, not_pop.0) refl)))
        ]
      ]
    ]

-- the bytes after the prefix 41
abbrev high_at : List ℕ → Read Instr
high_at rest = byte_at rest >>= λ opcode. low_register_at 8 opcode.0 opcode.1

high_holds : (rest : List ℕ) → IsBytes rest → Holds (0x41 ∷ rest) (high_at rest)
unfolding instr_at low_register_at
high_holds [] bytes = bank_cut 8 (0x41 ∷ []) high
high_holds (b ∷ rest) bytes = low_holds 8 (0x41 ∷ []) high b rest (IsBytes-rest b rest bytes) (λ t. refl)

-- the prefixes of two registers: the destination and the source, each counted from the first register of its bank
data Prefix : ℕ → ℕ → ℕ → Type 0 where
  low_low : Prefix 0 0 0x48
  high_low : Prefix 8 0 0x49
  low_high : Prefix 0 8 0x4C
  high_high : Prefix 8 8 0x4D

prefix_reads : (d s p : ℕ) → Prefix d s p → (bytes : List ℕ) → instr_at (p ∷ bytes) ≡ arithmetic_at d s bytes
unfolding instr_at arithmetic_at
prefix_reads d s p low_low bytes = refl
prefix_reads d s p high_low bytes = refl
prefix_reads d s p low_high bytes = refl
prefix_reads d s p high_high bytes = refl

-- the first registers of the banks can be named
prefix_banks : (d s p : ℕ) → Prefix d s p → IsRegister d × IsRegister s
prefix_banks d s p low_low = (search rules, search rules)
prefix_banks d s p high_low = (search rules, search rules)
prefix_banks d s p low_high = (search rules, search rules)
prefix_banks d s p high_high = (search rules, search rules)

least_modrm : (d s p : ℕ) → Prefix d s p → (opcode : ℕ) → two_registers opcode d s ≡ p ∷ opcode ∷ 0xC0 ∷ []
least_modrm d s p low_low opcode = refl
least_modrm d s p high_low opcode = refl
least_modrm d s p low_high opcode = refl
least_modrm d s p high_high opcode = refl

abbrev three_bytes : ℕ → ℕ → ℕ → List ℕ
three_bytes a b c = a ∷ b ∷ c ∷ []

three : (a b c a' c' : ℕ) → a ≡ a' → c ≡ c' → three_bytes a b c ≡ three_bytes a' b c'
three a b c a' c' e f = rw (e, f) refl

modrm_is : (d s p : ℕ) → Prefix d s p → (opcode q : ℕ) → 0xC0 ≤ q → q < 256 → two_registers opcode (d + q % 8) (s + q / 8 % 8) ≡ p ∷ opcode ∷ q ∷ []
modrm_is d s p low_low opcode q form fits = three _ opcode _ _ _ (omega arith) (omega arith)
modrm_is d s p high_low opcode q form fits = three _ opcode _ _ _ (omega arith) (omega arith)
modrm_is d s p low_high opcode q form fits = three _ opcode _ _ _ (omega arith) (omega arith)
modrm_is d s p high_high opcode q form fits = three _ opcode _ _ _ (omega arith) (omega arith)

operands_below : (d s p : ℕ) → Prefix d s p → (q : ℕ) → (d + q % 8 < 16) × (s + q / 8 % 8 < 16)
operands_below d s p low_low q = (omega arith, omega arith)
operands_below d s p high_low q = (omega arith, omega arith)
operands_below d s p low_high q = (omega arith, omega arith)
operands_below d s p high_high q = (omega arith, omega arith)

-- an instruction that is an opcode on two registers
record IsTwo (opcode : ℕ) (make : ℕ → ℕ → Instr) : Type 0 where
  encodable : (d s : ℕ) → d < 16 → s < 16 → IsEncodable (make d s)
  named : (d s : ℕ) → IsRegister d → IsRegister s → IsNamed (make d s)
  spelled : (d s : ℕ) → spelling (make d s) ≡ two_registers opcode d s

is_add : IsTwo 0x01 Add
is_add = record { encodable = λ d s g h. (g, h); named = λ d s g h. (g, h); spelled = λ d s. refl }

is_sub : IsTwo 0x29 Sub
is_sub = record { encodable = λ d s g h. (g, h); named = λ d s g h. (g, h); spelled = λ d s. refl }

-- the opcode is read in this way after the prefix
abbrev ReadsOperands : ℕ → ℕ → ℕ → ℕ → (ℕ → ℕ → Instr) → Type 0
ReadsOperands d s p opcode make = (t : List ℕ) → instr_at (p ∷ opcode ∷ t) ≡ two_at make d s t

operands_holds : (opcode : ℕ) (make : ℕ → ℕ → Instr) → IsTwo opcode make → (d s p : ℕ) → Prefix d s p → ReadsOperands d s p opcode make → (rest : List ℕ) → IsBytes rest → Holds (p ∷ opcode ∷ rest) (two_at make d s rest)
operands_holds opcode make is d s p at reads [] bytes =
    let banks = prefix_banks d s p at in
    cut_after (p ∷ opcode ∷ []) (make d s) 0xC0 [] (is.named d s banks.0 banks.1) (is.spelled d s ∙ least_modrm d s p at opcode)
operands_holds opcode make is d s p at reads (q ∷ rest) bytes =
    let banks = prefix_banks d s p at in
    let dst = d + q % 8 in
    let src = s + q / 8 % 8 in
    let below = operands_below d s p at q in
    elim (cases_Bool (ltb q 0xC0)) [
      | inl memory ↦
          let cut = cut_after (p ∷ opcode ∷ []) (make d s) 0xC0 [] (is.named d s banks.0 banks.1) (is.spelled d s ∙ least_modrm d s p at opcode) in
          rw memory (stops (p ∷ opcode ∷ []) q rest cut (λ t. reads (q ∷ t) ∙ rw memory refl))
      | inr form ↦
          let spelled : spelling (make dst src) ≡ p ∷ opcode ∷ q ∷ [] = is.spelled dst src ∙ modrm_is d s p at opcode q (ltb-false q 0xC0 form) (bytes 0) in
          let fits = is.encodable dst src below.0 below.1 in
          elim (cases_Bool (is_reserved dst)) [
            | inl reserved ↦ rw (form, reserved) (reserves (p ∷ opcode ∷ q ∷ []) dst rest (make dst src) fits ([], spelled) (λ t. reads (q ∷ t) ∙ rw (form, reserved) refl))
            | inr free ↦ elim (cases_Bool (is_reserved src)) [
              | inl reserved ↦ rw (form, free, reserved) (reserves (p ∷ opcode ∷ q ∷ []) src rest (make dst src) fits ([], spelled) (λ t. reads (q ∷ t) ∙ rw (form, free, reserved) refl))
              | inr free' ↦ rw (form, free, free') (is.named dst src (register_is dst below.0 free) (register_is src below.1 free'), ap (λ (x : List ℕ). x ++ rest) (sym spelled))
            ]
          ]
    ]

arithmetic_holds : (d s p : ℕ) → Prefix d s p → (rest : List ℕ) → IsBytes rest → Holds (p ∷ rest) (arithmetic_at d s rest)
unfolding arithmetic_at
arithmetic_holds d s p at [] bytes =
    let banks = prefix_banks d s p at in
    cut_after (p ∷ []) (Add d s) 0x01 (0xC0 ∷ []) banks (least_modrm d s p at 0x01)
arithmetic_holds d s p at (b ∷ rest) bytes =
    let banks = prefix_banks d s p at in
    let tail = IsBytes-rest b rest bytes in
    elim (eqb_tells b 0x01) [
      | inl add ↦
          rw add.0 (subst (λ (k : ℕ). Holds (p ∷ k ∷ rest) (two_at Add d s rest)) (sym add.1) (operands_holds 0x01 Add is_add d s p at (λ t. prefix_reads d s p at (0x01 ∷ t)) rest tail))
      | inr not_add ↦ elim (eqb_tells b 0x29) [
        | inl sub ↦
            rw (not_add.0, sub.0) (subst (λ (k : ℕ). Holds (p ∷ k ∷ rest) (two_at Sub d s rest)) (sym sub.1) (operands_holds 0x29 Sub is_sub d s p at (λ t. prefix_reads d s p at (0x29 ∷ t)) rest tail))
        | inr not_sub ↦
            let cut = cut_after (p ∷ []) (Add d s) 0x01 (0xC0 ∷ []) banks (least_modrm d s p at 0x01) in
            rw (not_add.0, not_sub.0) (stops (p ∷ []) b rest cut (λ t. prefix_reads d s p at (b ∷ t) ∙ rw (not_add.0, not_sub.0) refl))
      ]
    ]

-- a distance is a field, read as two's complement
jump_field : (make : ℤ → Instr) (rest : List ℕ) → field_then (λ k. make (cast_signed w32 k)) rest ≡ jump_then make (distance_at rest)
jump_field make rest =
    elim (cases_Bool (ltb (length rest) 4)) [
      | inl short ↦ rw short refl
      | inr long ↦ rw long refl
    ]

signed_fits : (k : ℕ) → k < 2 ^ 32 → FitsSigned w32 (cast_signed w32 k)
signed_fits k fits = search rules

jump_holds : (front : List ℕ) (make : ℤ → Instr) → ((rel : ℤ) → FitsSigned w32 rel → IsNamed (make rel)) → ((rel : ℤ) → spelling (make rel) ≡ front ++ distance rel)
    → (rest : List ℕ) → IsBytes rest → Holds (front ++ rest) (jump_then make (distance_at rest))
jump_holds front make all spelled rest bytes =
    subst (Holds (front ++ rest)) (jump_field make rest) (field_holds front (λ k. make (cast_signed w32 k)) (λ k fits. all (cast_signed w32 k) (signed_fits k fits)) (λ k fits. spelled (cast_signed w32 k) ∙ ap (λ (n : ℕ). front ++ to_le_bytes w32 n) (of_z-to_z w32 k fits)) rest bytes)

escaped_holds : (rest : List ℕ) → IsBytes rest → Holds (0x0F ∷ rest) (escaped_at rest)
unfolding instr_at escaped_at
escaped_holds [] bytes = cut_after (0x0F ∷ []) (Jnz (pos 0)) 0x85 (distance (pos 0)) (search rules) refl
escaped_holds (b ∷ rest) bytes =
    elim (eqb_tells b 0x85) [
      | inl jnz ↦
          rw jnz.0 (subst (λ (k : ℕ). Holds (0x0F ∷ k ∷ rest) (jump_then Jnz (distance_at rest))) (sym jnz.1) (jump_holds (0x0F ∷ 0x85 ∷ []) Jnz (λ rel h. h) (λ rel. refl) rest (IsBytes-rest b rest bytes)))
      | inr other ↦ rw other.0 (stops (0x0F ∷ []) b rest (cut_after (0x0F ∷ []) (Jnz (pos 0)) 0x85 (distance (pos 0)) (search rules) refl) (λ t. rw other.0 refl))
    ]

port_holds : (rest : List ℕ) → IsBytes rest → Holds (0xE6 ∷ rest) (byte_at rest >>= λ port. Ok (Out port.0, port.1))
port_holds [] bytes = cut_after (0xE6 ∷ []) (Out 0) 0 [] (lit< tt) refl
port_holds (port ∷ rest) bytes = (bytes 0, refl)

-- a first byte, and what is read after it
first_holds : (b first : ℕ) (rest : List ℕ) (read : Read Instr) → b ≡ first → Holds (first ∷ rest) read → Holds (b ∷ rest) read
first_holds b first rest read e h = subst (λ (k : ℕ). Holds (k ∷ rest) read) (sym e) h

-- the bytes that begin an instruction each
record IsOther (b : ℕ) : Type 0 where
  rex_b : eqb b 0x41 ≡ false
  rex_w : eqb b 0x48 ≡ false
  rex_wb : eqb b 0x49 ≡ false
  rex_wr : eqb b 0x4C ≡ false
  rex_wrb : eqb b 0x4D ≡ false
  escape : eqb b 0x0F ≡ false
  call : eqb b 0xE8 ≡ false
  jmp : eqb b 0xE9 ≡ false
  ret : eqb b 0xC3 ≡ false
  out : eqb b 0xE6 ≡ false

other_reads : (b : ℕ) → IsOther b → (rest : List ℕ) → instr_at (b ∷ rest) ≡ low_register_at 0 b rest
unfolding instr_at
other_reads b o rest = rw (o.rex_b, o.rex_w, o.rex_wb, o.rex_wr, o.rex_wrb, o.escape, o.call, o.jmp, o.ret, o.out) refl

pub instr_holds : (bytes : List ℕ) → IsBytes bytes → Holds bytes (instr_at bytes)
unfolding instr_at
instr_holds [] bytes = bank_cut 0 [] low
instr_holds (b ∷ rest) bytes =
    let tail = IsBytes-rest b rest bytes in
    elim (eqb_tells b 0x41) [
      | inl e ↦ rw e.0 (first_holds b 0x41 rest (high_at rest) e.1 (high_holds rest tail))
      | inr rex_b ↦ elim (eqb_tells b 0x48) [
        | inl e ↦ rw (rex_b.0, e.0) (first_holds b 0x48 rest (arithmetic_at 0 0 rest) e.1 (arithmetic_holds 0 0 0x48 low_low rest tail))
        | inr rex_w ↦ elim (eqb_tells b 0x49) [
          | inl e ↦ rw (rex_b.0, rex_w.0, e.0) (first_holds b 0x49 rest (arithmetic_at 8 0 rest) e.1 (arithmetic_holds 8 0 0x49 high_low rest tail))
          | inr rex_wb ↦ elim (eqb_tells b 0x4C) [
            | inl e ↦ rw (rex_b.0, rex_w.0, rex_wb.0, e.0) (first_holds b 0x4C rest (arithmetic_at 0 8 rest) e.1 (arithmetic_holds 0 8 0x4C low_high rest tail))
            | inr rex_wr ↦ elim (eqb_tells b 0x4D) [
              | inl e ↦ rw (rex_b.0, rex_w.0, rex_wb.0, rex_wr.0, e.0) (first_holds b 0x4D rest (arithmetic_at 8 8 rest) e.1 (arithmetic_holds 8 8 0x4D high_high rest tail))
              | inr rex_wrb ↦ elim (eqb_tells b 0x0F) [
                | inl e ↦ rw (rex_b.0, rex_w.0, rex_wb.0, rex_wr.0, rex_wrb.0, e.0) (first_holds b 0x0F rest (escaped_at rest) e.1 (escaped_holds rest tail))
                | inr escape ↦ elim (eqb_tells b 0xE8) [
                  | inl e ↦ rw (rex_b.0, rex_w.0, rex_wb.0, rex_wr.0, rex_wrb.0, escape.0, e.0) (first_holds b 0xE8 rest (jump_then Call (distance_at rest)) e.1 (jump_holds (0xE8 ∷ []) Call (λ rel h. h) (λ rel. refl) rest tail))
                  | inr call ↦ elim (eqb_tells b 0xE9) [
                    | inl e ↦ rw (rex_b.0, rex_w.0, rex_wb.0, rex_wr.0, rex_wrb.0, escape.0, call.0, e.0) (first_holds b 0xE9 rest (jump_then Jmp (distance_at rest)) e.1 (jump_holds (0xE9 ∷ []) Jmp (λ rel h. h) (λ rel. refl) rest tail))
                    | inr jmp ↦ elim (eqb_tells b 0xC3) [
                      | inl e ↦ rw (rex_b.0, rex_w.0, rex_wb.0, rex_wr.0, rex_wrb.0, escape.0, call.0, jmp.0, e.0) (first_holds b 0xC3 rest (Ok (Ret, rest)) e.1 (tt, refl))
                      | inr ret ↦ elim (eqb_tells b 0xE6) [
                        | inl e ↦ rw (rex_b.0, rex_w.0, rex_wb.0, rex_wr.0, rex_wrb.0, escape.0, call.0, jmp.0, ret.0, e.0) (first_holds b 0xE6 rest (byte_at rest >>= λ port. Ok (Out port.0, port.1)) e.1 (port_holds rest tail))
                        | inr out ↦
                            let other : IsOther b = record { rex_b = rex_b.0; rex_w = rex_w.0; rex_wb = rex_wb.0; rex_wr = rex_wr.0; rex_wrb = rex_wrb.0; escape = escape.0; call = call.0; jmp = jmp.0; ret = ret.0; out = out.0 } in
                            rw (other_reads b other rest) (low_holds 0 [] low b rest tail (other_reads b other))
                      ]
                    ]
                  ]
                ]
              ]
            ]
          ]
        ]
      ]
    ]

abbrev pub answer_of : Read Instr → Result Instr DecodeFault
answer_of (Ok x) = Ok x.0
answer_of (Err f) = Err f

pub Answers_is : (bytes : List ℕ) (read : Read Instr) → Holds bytes read → Answers bytes (answer_of read)
Answers_is bytes (Ok x) h = (h.0, (x.1, h.1))
Answers_is bytes (Err f) h = h

pub found : (bytes : List ℕ) (i : Instr) (rest : List ℕ) → IsBytes bytes → instr_at bytes ≡ Ok (i, rest) → IsNamed i × (bytes ≡ spelling i ++ rest)
found bytes i rest fits e = subst (Holds bytes) e (instr_holds bytes fits)

pub refused : (bytes : List ℕ) (f : DecodeFault) → IsBytes bytes → instr_at bytes ≡ Err f → Refuses bytes f
refused bytes f fits e = subst (Holds bytes) e (instr_holds bytes fits)
