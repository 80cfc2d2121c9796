-- The pieces of a code: a code has at most one list of pieces.
use Rattle.std.proofs.Common.{◌≡◌, ◌≢◌, ℕ, ◌+◌, ◌^◌, ◌<◌, ◌*◌, ◌/◌, ◌%◌, Bool, true, false, cond, ltb, List, [], ◌∷◌, ◌++◌, length, refl, sym, ap, subst, ◌∙◌, arith}
use Rattle.std.specs.Prelude.{⊤}
use Rattle.std.specs.List.{flat_map, AllByRecursion}
use Rattle.std.specs.Int.{w32, to_le_bytes}
use Rattle.byteorder.specs.Endian.{little_bytes}
use Rattle.std.proofs.lemmas.Nat.{from_le_bytes-to_le_bytes_4}
use Rattle.std.proofs.lemmas.List.{append_cancel_left, append-nil, length-append}
use Rattle.std.specs.Int.{from_le_bytes}
use Rattle.subset_decode.specs.declared.instr.Instr.{Instr}
use Rattle.subset_decode.specs.declared.instr.Instr.TheVariants.{Mov, Add, Sub, Push, Pop, Call, Jmp, Jnz, Ret, Out}
use Rattle.subset_decode.specs.Encoding.{opcode_of, two_registers, distance, spelling, IsNamed, Begins}
use Rattle.xray_image.specs.Units.{Piece, Instruction, JumpSled, ReturnSled, Align, nop_bytes, piece_bytes, IsPiece, IsUnits}

-- bytes begin with at most one instruction
abbrev pub OneInstruction : Type 0
OneInstruction =
    (i j : Instr) (bytes : List ℕ) → IsNamed i → IsNamed j → Begins (spelling i) bytes → Begins (spelling j) bytes → i ≡ j

-- Bytes that don't begin as a jump sled or an alignment byte, nor with the second byte of a return sled. If they begin
-- with a return, they are that return alone.
pub record Opens (bytes : List ℕ) : Type 0 where
  pub first : ℕ
  pub rest : List ℕ
  pub begins : bytes ≡ first ∷ rest
  pub no_jump : first ≢ 0xEB
  pub no_second : first ≢ 0x2E
  pub no_align : first ≢ 0x90
  pub return_alone : first ≡ 0xC3 → rest ≡ []

opens_with : (first : ℕ) (rest : List ℕ) → first ≢ 0xEB → first ≢ 0x2E → first ≢ 0x90 → first ≢ 0xC3 → Opens (first ∷ rest)
opens_with first rest no_jump no_second no_align no_return =
    record { first = first; rest = rest; begins = refl; no_jump = no_jump; no_second = no_second; no_align = no_align; return_alone = λ e. absurd (no_return e) }

opens_low : (low : Bool) (opcode : ℕ) (rest : List ℕ) → Opens (opcode ∷ rest) → Opens (cond low (opcode ∷ []) (0x41 ∷ opcode ∷ []) ++ rest)
opens_low true opcode rest o = o
opens_low false opcode rest o = opens_with 0x41 (opcode ∷ rest) (λ e. omega arith) (λ e. omega arith) (λ e. omega arith) (λ e. omega arith)

-- the prefixes of an instruction on two registers are 48 to 4D
opens_two : (opcode dst src : ℕ) → dst < 16 → src < 16 → Opens (two_registers opcode dst src)
opens_two opcode dst src d s = opens_with (0x48 + 4 * (src / 8) + dst / 8) _ (λ e. omega arith) (λ e. omega arith) (λ e. omega arith) (λ e. omega arith)

pub opens : (i : Instr) → IsNamed i → Opens (spelling i)
opens (Mov dst imm) h = opens_low (ltb dst 8) (0xB8 + dst % 8) (to_le_bytes w32 imm) (opens_with (0xB8 + dst % 8) (to_le_bytes w32 imm) (λ e. omega arith) (λ e. omega arith) (λ e. omega arith) (λ e. omega arith))
opens (Add dst src) h = opens_two 0x01 dst src h.0.0 h.1.0
opens (Sub dst src) h = opens_two 0x29 dst src h.0.0 h.1.0
opens (Push reg) h = subst Opens (append-nil (opcode_of 0x50 reg)) (opens_low (ltb reg 8) (0x50 + reg % 8) [] (opens_with (0x50 + reg % 8) [] (λ e. omega arith) (λ e. omega arith) (λ e. omega arith) (λ e. omega arith)))
opens (Pop reg) h = subst Opens (append-nil (opcode_of 0x58 reg)) (opens_low (ltb reg 8) (0x58 + reg % 8) [] (opens_with (0x58 + reg % 8) [] (λ e. omega arith) (λ e. omega arith) (λ e. omega arith) (λ e. omega arith)))
opens (Call rel) h = opens_with 0xE8 (distance rel) (λ e. omega arith) (λ e. omega arith) (λ e. omega arith) (λ e. omega arith)
opens (Jmp rel) h = opens_with 0xE9 (distance rel) (λ e. omega arith) (λ e. omega arith) (λ e. omega arith) (λ e. omega arith)
opens (Jnz rel) h = opens_with 0x0F (0x85 ∷ distance rel) (λ e. omega arith) (λ e. omega arith) (λ e. omega arith) (λ e. omega arith)
opens Ret h = record { first = 0xC3; rest = []; begins = refl; no_jump = λ e. omega arith; no_second = λ e. omega arith; no_align = λ e. omega arith; return_alone = λ e. refl }
opens (Out port) h = opens_with 0xE6 (port ∷ []) (λ e. omega arith) (λ e. omega arith) (λ e. omega arith) (λ e. omega arith)

head_same : (x y : ℕ) (xs ys : List ℕ) → x ∷ xs ≡ y ∷ ys → x ≡ y
head_same x y xs ys e = cc

apart : (x y : ℕ) (xs ys : List ℕ) → x ≢ y → x ∷ xs ≡ y ∷ ys → ⊥
apart x y xs ys differ e = differ (head_same x y xs ys e)

tail_same : (x y : ℕ) (xs ys : List ℕ) → x ∷ xs ≡ y ∷ ys → xs ≡ ys
tail_same x y xs ys e = cc

-- an instruction begins with no byte but its first
pub other_byte : (i : Instr) (b : ℕ) (s t : List ℕ) (o : Opens (spelling i)) → o.first ≢ b → spelling i ++ s ≡ b ∷ t → ⊥
other_byte i b s t o differs e =
    let front : spelling i ++ s ≡ o.first ∷ (o.rest ++ s) = ap (λ (x : List ℕ). x ++ s) o.begins in
    differs (head_same o.first b (o.rest ++ s) t (sym front ∙ e))

-- ---- a return and the byte after it

-- a piece that is an instruction, and what follows it, don't begin as a return sled
abbrev pub IsNoReturnSled : Piece → List ℕ → Type 0
IsNoReturnSled (Instruction i) following = (rest : List ℕ) → spelling i ++ following ≡ 0xC3 ∷ 0x2E ∷ rest → ⊥
IsNoReturnSled (JumpSled shift) following = ⊤
IsNoReturnSled (ReturnSled shift) following = ⊤
IsNoReturnSled Align following = ⊤

-- no pieces begin with the second byte of a return sled
no_second : (ps : List Piece) (rest : List ℕ) → AllByRecursion IsPiece ps → flat_map piece_bytes ps ≡ 0x2E ∷ rest → ⊥
no_second [] rest fits e = absurd cc
no_second (Instruction i ∷ ps) rest fits e = other_byte i 0x2E (flat_map piece_bytes ps) rest (opens i fits.0) (opens i fits.0).no_second e
no_second (JumpSled shift ∷ ps) rest fits e = apart 0xEB 0x2E _ _ (λ h. omega arith) e
no_second (ReturnSled shift ∷ ps) rest fits e = apart 0xC3 0x2E _ _ (λ h. omega arith) e
no_second (Align ∷ ps) rest fits e = apart 0x90 0x2E _ _ (λ h. omega arith) e

-- so an instruction before pieces doesn't begin as a return sled
pub return_alone : (i : Instr) (ps : List Piece) (rest : List ℕ) → IsNamed i → AllByRecursion IsPiece ps → spelling i ++ flat_map piece_bytes ps ≡ 0xC3 ∷ 0x2E ∷ rest → ⊥
return_alone i ps rest named fits e =
    let o = opens i named in
    let bytes = flat_map piece_bytes ps in
    let front : o.first ∷ (o.rest ++ bytes) ≡ 0xC3 ∷ 0x2E ∷ rest = sym (ap (λ (x : List ℕ). x ++ bytes) o.begins) ∙ e in
    let alone : o.rest ≡ [] = o.return_alone (head_same o.first 0xC3 (o.rest ++ bytes) (0x2E ∷ rest) front) in
    no_second ps rest fits (ap (λ (x : List ℕ). x ++ bytes) (sym alone) ∙ tail_same o.first 0xC3 (o.rest ++ bytes) (0x2E ∷ rest) front)

no_return_sled_at : (p : Piece) (ps : List Piece) → IsPiece p → AllByRecursion IsPiece ps → IsNoReturnSled p (flat_map piece_bytes ps)
no_return_sled_at (Instruction i) ps fit fits = λ rest. return_alone i ps rest fit fits
no_return_sled_at (JumpSled shift) ps fit fits = tt
no_return_sled_at (ReturnSled shift) ps fit fits = tt
no_return_sled_at Align ps fit fits = tt

-- ---- one piece

-- the displacement of a nop is the number that its bytes spell
same_shift : (a b : ℕ) (s t : List ℕ) → a < 2 ^ 32 → b < 2 ^ 32 → little_bytes 4 a ++ s ≡ little_bytes 4 b ++ t → a ≡ b
same_shift a b s t la lb e =
    let four : to_le_bytes w32 a ≡ to_le_bytes w32 b = cc in
    sym (from_le_bytes-to_le_bytes_4 a la) ∙ ap (from_le_bytes w32) four ∙ from_le_bytes-to_le_bytes_4 b lb

same_nop : (a b : ℕ) (s t : List ℕ) → a < 2 ^ 32 → b < 2 ^ 32 → nop_bytes a ++ s ≡ nop_bytes b ++ t → a ≡ b
same_nop a b s t la lb e = same_shift a b s t la lb cc

-- no piece begins another
pub same_piece : OneInstruction → (p q : Piece) (s t : List ℕ) → IsPiece p → IsPiece q → IsNoReturnSled p s → IsNoReturnSled q t → piece_bytes p ++ s ≡ piece_bytes q ++ t → p ≡ q
same_piece one (Instruction i) (Instruction j) s t p q _ _ e = ap Instruction (one i j (spelling i ++ s) p q (s, refl) (t, e))
same_piece one (Instruction i) (JumpSled b) s t p q _ _ e = absurd (other_byte i 0xEB s _ (opens i p) (opens i p).no_jump e)
same_piece one (Instruction i) (ReturnSled b) s t p q alone _ e = absurd (alone _ e)
same_piece one (Instruction i) Align s t p q _ _ e = absurd (other_byte i 0x90 s _ (opens i p) (opens i p).no_align e)
same_piece one (JumpSled a) (Instruction j) s t p q _ _ e = absurd (other_byte j 0xEB t _ (opens j q) (opens j q).no_jump (sym e))
same_piece one (JumpSled a) (JumpSled b) s t p q _ _ e = ap JumpSled (same_nop a b s t p q cc)
same_piece one (JumpSled a) (ReturnSled b) s t p q _ _ e = absurd (apart 0xEB 0xC3 _ _ (λ h. omega arith) e)
same_piece one (JumpSled a) Align s t p q _ _ e = absurd (apart 0xEB 0x90 _ _ (λ h. omega arith) e)
same_piece one (ReturnSled a) (Instruction j) s t p q _ alone e = absurd (alone _ (sym e))
same_piece one (ReturnSled a) (JumpSled b) s t p q _ _ e = absurd (apart 0xC3 0xEB _ _ (λ h. omega arith) e)
same_piece one (ReturnSled a) (ReturnSled b) s t p q _ _ e = ap ReturnSled (same_nop a b s t p q cc)
same_piece one (ReturnSled a) Align s t p q _ _ e = absurd (apart 0xC3 0x90 _ _ (λ h. omega arith) e)
same_piece one Align (Instruction j) s t p q _ _ e = absurd (other_byte j 0x90 t _ (opens j q) (opens j q).no_align (sym e))
same_piece one Align (JumpSled b) s t p q _ _ e = absurd (apart 0x90 0xEB _ _ (λ h. omega arith) e)
same_piece one Align (ReturnSled b) s t p q _ _ e = absurd (apart 0x90 0xC3 _ _ (λ h. omega arith) e)
same_piece one Align Align s t p q _ _ e = refl

-- a piece has a byte
low_has_byte : (low : Bool) (opcode : ℕ) (rest : List ℕ) → 0 < length (cond low (opcode ∷ []) (0x41 ∷ opcode ∷ []) ++ rest)
low_has_byte true opcode rest = omega arith
low_has_byte false opcode rest = omega arith

instr_has_byte : (i : Instr) → 0 < length (spelling i)
instr_has_byte (Mov dst imm) = low_has_byte (ltb dst 8) (0xB8 + dst % 8) (to_le_bytes w32 imm)
instr_has_byte (Add dst src) = omega arith
instr_has_byte (Sub dst src) = omega arith
instr_has_byte (Push reg) = subst (λ (x : List ℕ). 0 < length x) (append-nil (opcode_of 0x50 reg)) (low_has_byte (ltb reg 8) (0x50 + reg % 8) [])
instr_has_byte (Pop reg) = subst (λ (x : List ℕ). 0 < length x) (append-nil (opcode_of 0x58 reg)) (low_has_byte (ltb reg 8) (0x58 + reg % 8) [])
instr_has_byte (Call rel) = omega arith
instr_has_byte (Jmp rel) = omega arith
instr_has_byte (Jnz rel) = omega arith
instr_has_byte Ret = omega arith
instr_has_byte (Out port) = omega arith

pub piece_has_byte : (p : Piece) → 0 < length (piece_bytes p)
piece_has_byte (Instruction i) = instr_has_byte i
piece_has_byte (JumpSled a) = omega arith
piece_has_byte (ReturnSled a) = omega arith
piece_has_byte Align = omega arith

-- ---- lists of pieces

-- a code without bytes has no pieces
no_pieces : (p : Piece) (ps : List Piece) → [] ≡ flat_map piece_bytes (p ∷ ps) → ⊥
no_pieces p ps e =
    let h = ap length e in
    omega (arith, length-append (piece_bytes p) (flat_map piece_bytes ps), piece_has_byte p)

same_pieces : OneInstruction → (ps qs : List Piece) → AllByRecursion IsPiece ps → AllByRecursion IsPiece qs → flat_map piece_bytes ps ≡ flat_map piece_bytes qs → ps ≡ qs
same_pieces one [] [] fits fits' e = refl
same_pieces one [] (q ∷ qs) fits fits' e = absurd (no_pieces q qs e)
same_pieces one (p ∷ ps) [] fits fits' e = absurd (no_pieces p ps (sym e))
same_pieces one (p ∷ ps) (q ∷ qs) fits fits' e =
    let rest = flat_map piece_bytes ps in
    let rest' = flat_map piece_bytes qs in
    let same : p ≡ q = same_piece one p q rest rest' fits.0 fits'.0 (no_return_sled_at p ps fits.0 fits.1) (no_return_sled_at q qs fits'.0 fits'.1) e in
    let following : rest ≡ rest' = append_cancel_left (piece_bytes p) rest rest' (e ∙ ap (λ (x : Piece). piece_bytes x ++ rest') (sym same)) in
    ap (λ (x : Piece). x ∷ ps) same ∙ ap (λ (x : List Piece). q ∷ x) (same_pieces one ps qs fits.1 fits'.1 following)

-- no code has two lists of units
pub one_list : OneInstruction → (code : List ℕ) (ps qs : List Piece) → IsUnits code ps → IsUnits code qs → ps ≡ qs
one_list one code ps qs p q = same_pieces one ps qs p.pieces_fit q.pieces_fit (sym p.whole ∙ q.whole)

-- ---- the first piece

-- the piece that the bytes begin with is the first of the pieces
pub first_is : OneInstruction → (p first : Piece) (others : List Piece) (bytes following : List ℕ) → IsPiece p → bytes ≡ piece_bytes p ++ following → IsNoReturnSled p following → IsUnits bytes (first ∷ others) → p ≡ first
first_is one p first others bytes following fits e alone u =
    same_piece one p first following (flat_map piece_bytes others) fits u.pieces_fit.0 alone (no_return_sled_at first others u.pieces_fit.0 u.pieces_fit.1) (sym e ∙ u.whole)

-- the same for a return
pub no_return_sled : (first : Piece) (others : List Piece) (bytes nop : List ℕ) → bytes ≡ 0xC3 ∷ 0x2E ∷ nop → ((shift : ℕ) → Begins (nop_bytes shift) nop → ⊥) → IsUnits bytes (first ∷ others) → ⊥
no_return_sled (Instruction i) others bytes nop e none u = return_alone i others nop u.pieces_fit.0 u.pieces_fit.1 (sym u.whole ∙ e)
no_return_sled (JumpSled shift) others bytes nop e none u = apart 0xC3 0xEB _ _ (λ h. omega arith) (sym e ∙ u.whole)
no_return_sled (ReturnSled shift) others bytes nop e none u = none shift (flat_map piece_bytes others, tail_same 0x2E 0x2E _ _ (tail_same 0xC3 0xC3 _ _ (sym e ∙ u.whole)))
no_return_sled Align others bytes nop e none u = apart 0xC3 0x90 _ _ (λ h. omega arith) (sym e ∙ u.whole)
