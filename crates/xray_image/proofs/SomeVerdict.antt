-- The table decides each file in some way.
use Rattle.std.proofs.Common.{◌≡◌, ◌≢◌, ℕ, zero, suc, ◌+◌, ◌-◌, ◌%◌, ◌<◌, ◌≤◌, ◌^◌, inl, inr, List, [], ◌∷◌, ◌++◌, length, get_or, take, drop, map, Option, Some, None, Ok, Err, refl, sym, ap, subst, ◌∙◌, arith}
use Rattle.std.specs.Prelude.{◌⊎◌, All, Result, codes, slice_get}
use Rattle.std.proofs.lemmas.Bool.{cases_eq, cases_lt}
use Rattle.std.proofs.lemmas.List.{get_or_past, length-append, length-map}
use Rattle.std.proofs.lemmas.List.Elements.{All-tail, All-take, All-drop}
use Rattle.std.proofs.lemmas.Option.{slice_get_past, slice_get_within}
use Rattle.byteorder.specs.Endian.{little_number, little_bytes}
use Rattle.subset_decode.specs.declared.instr.Instr.{Instr}
use Rattle.subset_decode.specs.declared.fault.DecodeFault.{DecodeFault}
use Rattle.subset_decode.specs.Encoding.{Begins}
use Rattle.subset_decode.specs.Refusals.{Answers}
use Rattle.xray_io.specs.Rows.{Is, Needs, NeedsEach, NeedsPart}
use Rattle.xray_image.specs.declared.fault.ImageFault.{ImageFault}
use Rattle.xray_image.specs.declared.fault.ImageFault.TheVariants as faults
use Rattle.xray_image.specs.declared.fault.Which.TheVariants as limits
use Rattle.xray_image.specs.declared.unit.Unit.{Unit}
use Rattle.xray_image.specs.Units.{Piece, Instruction, JumpSled, ReturnSled, Align, IsPiece, SledPlace, nop_bytes, piece_bytes, places_from}
use Rattle.xray_image.specs.private.SledPieces.{IsSled}
use Rattle.xray_image.specs.Container.{Function, MapEntry, Parts, base_address, code_length, entry_count, entry_index, function_count, magic, parts_of, version}
use Rattle.xray_image.specs.Program.{BranchReaches, IsEntryOf, IsFunction, Program, Reaches, program_of}
use Rattle.xray_image.specs.Table.{BeginsAsSled, BranchesRightly, FitsAt, FunctionIsFit, HasOneAddress, NeedsUnits, ReadsAs, ReadsParts, ReadsProgram, StandUpTo, StandsAt, UnitFault, ImageReading, place_of_unit}
use Rattle.xray_image.proofs.Acceptance.{code_is}
use Rattle.xray_image.proofs.KnownConditions.{Known, known_below, known_both, known_branch, known_entry, known_front, known_function, known_item, known_list, known_most, known_option, known_reach}
use Rattle.xray_image.proofs.Nops.{IsBytes, nop_found}
use Rattle.xray_image.proofs.Pieces.{piece_has_byte}
use Rattle.xray_image.proofs.UnitPlaces.{stand_are, units_stand}
use Rattle.xray_image.proofs.Scans.{from_below}
use Rattle.xray_image.proofs.TableRows.{OneAnswer}
use Rattle.xray_image.proofs.NoUnits.{no_even, no_jump, no_return, no_whole}

-- ---- bytes

-- each number is a byte
abbrev AreBytes : List ℕ → Type 0
AreBytes bytes = All (λ b. b < 256) bytes

-- each place of bytes has a byte, or 0
all_bytes : (bytes : List ℕ) → AreBytes bytes → IsBytes bytes
all_bytes bytes all i =
    elim (cases_lt i (length bytes)) [
      | inl within ↦ all i 0 within
      | inr past ↦ rw (get_or_past bytes i 0 past) (omega arith)
    ]

-- the rest after a prefix of bytes is bytes
after_front : (front following : List ℕ) → AreBytes (front ++ following) → AreBytes following
after_front [] following all = all
after_front (x ∷ xs) following all = after_front xs following (All-tail (λ b. b < 256) x (xs ++ following) all)

-- the same for bytes that are a prefix and a rest
bytes_after : (bytes front following : List ℕ) → bytes ≡ front ++ following → AreBytes bytes → AreBytes following
bytes_after bytes front following e all = after_front front following (subst AreBytes e all)

-- ---- one place

-- the nop that bytes begin with, or none
abbrev NopOf : List ℕ → Type 0
NopOf bytes = ((shift : ℕ) × (shift < 2 ^ 32) × Begins (nop_bytes shift) bytes) ⊎ ((shift : ℕ) → Begins (nop_bytes shift) bytes → ⊥)

-- bytes begin with a nop, or they don't
some_nop : (bytes : List ℕ) → AreBytes bytes → NopOf bytes
some_nop bytes all = by_front (known_front (0x66 ∷ 0x0F ∷ 0x1F ∷ 0x84 ∷ 0x00 ∷ []) bytes)
  where
    by_length : (field : List ℕ) → bytes ≡ 0x66 ∷ 0x0F ∷ 0x1F ∷ 0x84 ∷ 0x00 ∷ field → (length field < 4) ⊎ (4 ≤ length field) → NopOf bytes
    by_length field e (inl short) = inr (λ shift b. let h = ap length (sym e ∙ b.1) in absurd (omega arith))
    by_length field e (inr long) =
        let found = nop_found bytes field (little_number 4 field) (all_bytes bytes all) e long refl in
        inl (little_number 4 field, found.0, found.1)

    by_front : Known (Begins (0x66 ∷ 0x0F ∷ 0x1F ∷ 0x84 ∷ 0x00 ∷ []) bytes) → NopOf bytes
    by_front (inl b) = by_length b.0 b.1 (cases_lt (length b.0) 4)
    by_front (inr fails) = inr (λ shift b. fails (little_bytes 4 shift ++ b.0, b.1))

-- the sled that bytes begin with, or none
abbrev SledOf : List ℕ → Type 0
SledOf bytes =
    ((piece : Piece) × IsSled piece × IsPiece piece × Begins (piece_bytes piece) bytes)
    ⊎ ((piece : Piece) → IsSled piece → Begins (piece_bytes piece) bytes → ⊥)

-- bytes begin with a sled, or they don't
some_sled : (bytes : List ℕ) → AreBytes bytes → SledOf bytes
some_sled bytes all = by_front (known_front (0xEB ∷ 0x09 ∷ []) bytes) (known_front (0xC3 ∷ 0x2E ∷ []) bytes)
  where
    jump : (nop : List ℕ) → bytes ≡ 0xEB ∷ 0x09 ∷ nop → NopOf nop → SledOf bytes
    jump nop e (inl (shift, fits, b)) = inl (JumpSled shift, tt, fits, (b.0, e ∙ ap (λ (ns : List ℕ). 0xEB ∷ 0x09 ∷ ns) b.1))
    jump nop e (inr none) = inr (no_jump bytes nop e none)

    returns : (nop : List ℕ) → bytes ≡ 0xC3 ∷ 0x2E ∷ nop → NopOf nop → SledOf bytes
    returns nop e (inl (shift, fits, b)) = inl (ReturnSled shift, tt, fits, (b.0, e ∙ ap (λ (ns : List ℕ). 0xC3 ∷ 0x2E ∷ ns) b.1))
    returns nop e (inr none) = inr (no_return bytes nop e none)

    neither : (Begins (0xEB ∷ 0x09 ∷ []) bytes → ⊥) → (Begins (0xC3 ∷ 0x2E ∷ []) bytes → ⊥)
        → (piece : Piece) → IsSled piece → Begins (piece_bytes piece) bytes → ⊥
    neither no_jumps no_returns (Instruction i) sled b = sled
    neither no_jumps no_returns (JumpSled shift) sled b = no_jumps (nop_bytes shift ++ b.0, b.1)
    neither no_jumps no_returns (ReturnSled shift) sled b = no_returns (nop_bytes shift ++ b.0, b.1)
    neither no_jumps no_returns Align sled b = sled

    by_front : Known (Begins (0xEB ∷ 0x09 ∷ []) bytes) → Known (Begins (0xC3 ∷ 0x2E ∷ []) bytes) → SledOf bytes
    by_front (inl b) other = jump b.0 b.1 (some_nop b.0 (bytes_after bytes (0xEB ∷ 0x09 ∷ []) b.0 b.1 all))
    by_front (inr fails) (inl b) = returns b.0 b.1 (some_nop b.0 (bytes_after bytes (0xC3 ∷ 0x2E ∷ []) b.0 b.1 all))
    by_front (inr fails) (inr fails') = inr (neither fails fails')

-- the bytes begin with no unit, and why
record NoneStands (address : ℕ) (bytes : List ℕ) : Type 0 where
  none : (piece : Piece) (following : List ℕ) → StandsAt address bytes piece following → ⊥
  why : (place : ℕ) → (fault : ImageFault) × UnitFault place bytes fault

-- the bytes begin with a unit, or they don't
abbrev UnitOf : ℕ → List ℕ → Type 0
UnitOf address bytes = ((piece : Piece) × ((following : List ℕ) × StandsAt address bytes piece following)) ⊎ NoneStands address bytes

-- the decoder has an answer to any bytes
abbrev SomeAnswer : Type 0
SomeAnswer = (bytes : List ℕ) → AreBytes bytes → (a : Result Instr DecodeFault) × Answers bytes a

-- a whole sled stands at an even address
sled_stands : (address : ℕ) (bytes : List ℕ) (piece : Piece) → IsSled piece → IsPiece piece → (b : Begins (piece_bytes piece) bytes)
    → address % 2 ≡ 0 → StandsAt address bytes piece b.0
sled_stands address bytes (Instruction i) sled fits b even = absurd sled
sled_stands address bytes (JumpSled shift) sled fits b even = record { spelled = b.1; fits = fits; place = even }
sled_stands address bytes (ReturnSled shift) sled fits b even = record { spelled = b.1; fits = fits; place = even }
sled_stands address bytes Align sled fits b even = absurd sled

-- bytes that begin as a sled
sled_unit : (address : ℕ) (bytes : List ℕ) → AreBytes bytes → BeginsAsSled bytes → (get_or bytes 0 0 ≡ 0x90 → ⊥) → UnitOf address bytes
sled_unit address bytes all begins other = by_sled (some_sled bytes all) (cases_eq (address % 2) 0)
  where
    by_sled : SledOf bytes → Known (address % 2 ≡ 0) → UnitOf address bytes
    by_sled (inl (piece, sled, fits, b)) (inl even) = inl (piece, (b.0, sled_stands address bytes piece sled fits b even))
    by_sled (inl (piece, sled, fits, b)) (inr odd) =
        inr (record { none = no_even address bytes begins other odd; why = λ place. (faults.Sled place, inl (begins, refl)) })
    by_sled (inr none) even = inr (record { none = no_whole address bytes begins other none; why = λ place. (faults.Sled place, inl (begins, refl)) })

-- for other bytes, the decoder answers
plain_unit : OneAnswer → (address : ℕ) (bytes : List ℕ) → (BeginsAsSled bytes → ⊥) → (get_or bytes 0 0 ≡ 0x90 → ⊥)
    → (a : Result Instr DecodeFault) → Answers bytes a → UnitOf address bytes
plain_unit one address bytes plain other (Ok i) (named, b) =
    inl (Instruction i, (b.0, record { spelled = b.1; fits = named; place = plain }))
plain_unit one address bytes plain other (Err f) refused =
    inr (record { none = none; why = λ place. (faults.Code place f, inr (plain, (f, refused, refl))) })
  where
    no_fault : (i : Instr) → ◌≡◌ {A = Result Instr DecodeFault} (Ok i) (Err f) → ⊥
    no_fault i e = cc

    none : (piece : Piece) (following : List ℕ) → StandsAt address bytes piece following → ⊥
    none (Instruction i) following s = no_fault i (one bytes (Ok i) (Err f) (s.fits, (following, s.spelled)) refused)
    none (JumpSled shift) following s = plain (inl ((0x09 ∷ nop_bytes shift) ++ following, s.spelled))
    none (ReturnSled shift) following s = plain (inr (nop_bytes shift ++ following, s.spelled))
    none Align following s = other (ap (λ (ns : List ℕ). get_or ns 0 0) s.spelled)

-- bytes begin with a unit, or they don't
some_unit : SomeAnswer → OneAnswer → (address first : ℕ) (rest : List ℕ) → AreBytes (first ∷ rest) → UnitOf address (first ∷ rest)
some_unit some one address first rest all =
    by_first (cases_eq first 0x90) (known_front (0xEB ∷ []) (first ∷ rest)) (known_front (0xC3 ∷ 0x2E ∷ []) (first ∷ rest))
  where
    by_first : Known (first ≡ 0x90) → Known (Begins (0xEB ∷ []) (first ∷ rest)) → Known (Begins (0xC3 ∷ 0x2E ∷ []) (first ∷ rest))
        → UnitOf address (first ∷ rest)
    by_first (inl e) jump returns = inl (Align, (rest, record { spelled = ap (λ (n : ℕ). n ∷ rest) e; fits = tt; place = tt }))
    by_first (inr other) (inl jump) returns = sled_unit address (first ∷ rest) all (inl jump) other
    by_first (inr other) (inr no_jumps) (inl returns) = sled_unit address (first ∷ rest) all (inr returns) other
    by_first (inr other) (inr no_jumps) (inr no_returns) =
        let answer = some (first ∷ rest) all in
        plain_unit one address (first ∷ rest) (λ begins. elim begins [ inl b ↦ no_jumps b | inr b ↦ no_returns b ]) other answer.0 answer.1

-- ---- all places

-- bytes are left, and they begin with no unit
record Stops (address : ℕ) (left : List ℕ) : Type 0 where
  some_left : left ≢ []
  stands : NoneStands address left

-- units that stand up to the end, or up to where none follows
record Front (address : ℕ) (bytes : List ℕ) : Type 0 where
  pieces : List Piece
  end : ℕ
  left : List ℕ
  stand : StandUpTo address bytes pieces end left
  ends : (left ≡ []) ⊎ Stops end left

-- no bytes are no units
no_bytes : (address : ℕ) → Front address []
no_bytes address = record { pieces = []; end = address; left = []; stand = (refl, refl); ends = inl refl }

-- one unit before others
one_before : (address : ℕ) (bytes : List ℕ) (piece : Piece) (following : List ℕ) → StandsAt address bytes piece following
    → Front (address + length (piece_bytes piece)) following → Front address bytes
one_before address bytes piece following stands rest =
    record { pieces = piece ∷ rest.pieces; end = rest.end; left = rest.left; stand = (following, stands, rest.stand); ends = rest.ends }

-- Units stand up to the end, or up to where none follows. Each has a byte, so there are at most as many units as bytes.
some_front : SomeAnswer → OneAnswer → (most address : ℕ) (bytes : List ℕ) → length bytes ≤ most → AreBytes bytes → Front address bytes
some_front some one most address [] short all = no_bytes address
some_front some one zero address (x ∷ xs) short all = absurd (omega arith)
some_front some one (suc most) address (x ∷ xs) short all =
    by_unit (λ next following few here. some_front some one most next following few here) (some_unit some one address x xs all)
  where
    fewer : (piece : Piece) (following : List ℕ) → StandsAt address (x ∷ xs) piece following → length following ≤ most
    fewer piece following s =
        let h = ap length s.spelled in
        omega (arith, length-append (piece_bytes piece) following, piece_has_byte piece)

    by_unit : ((next : ℕ) (following : List ℕ) → length following ≤ most → AreBytes following → Front next following) → UnitOf address (x ∷ xs)
        → Front address (x ∷ xs)
    by_unit go (inl (piece, (following, s))) =
        one_before address (x ∷ xs) piece following s
        (go (address + length (piece_bytes piece)) following (fewer piece following s) (bytes_after (x ∷ xs) (piece_bytes piece) following s.spelled all))
    by_unit go (inr none) =
        record { pieces = []; end = address; left = x ∷ xs; stand = (refl, refl); ends = inr (record { some_left = λ e. cc; stands = none }) }

-- ---- rows

-- something of which this holds
abbrev pub SomeVerdict : (ImageReading → Type 0) → Type 0
SomeVerdict reads = (verdict : ImageReading) × reads verdict

-- a row decides if its condition is known and what follows decides
some_needs : (condition : Type 0) (fault : ImageFault) (follows : ImageReading → Type 0) → Known condition → (condition → SomeVerdict follows)
    → SomeVerdict (Needs condition (Is (Err fault)) follows)
some_needs condition fault follows (inl holds) rest = let r = rest holds in (r.0, inr (holds, r.1))
some_needs condition fault follows (inr fails) rest = (Err fault, inl (fails, refl))

-- the first number below a bound for which a condition doesn't hold
abbrev FirstBelow : (ℕ → Type 0) → ℕ → Type 0
FirstBelow C n = ((i : ℕ) × (C i → ⊥) × ((j : ℕ) → j < i → C j)) ⊎ ((j : ℕ) → j < n → C j)

-- below a bound there is a first number for which a condition doesn't hold, or it holds for all
first_below : (C : ℕ → Type 0) → ((i : ℕ) → Known (C i)) → (n : ℕ) → FirstBelow C n
first_below C known zero = inr (λ j lt. absurd (omega arith))
first_below C known (suc n) = by_rest (first_below C known n) (known n)
  where
    by_rest : FirstBelow C n → Known (C n) → FirstBelow C (suc n)
    by_rest (inl found) here = inl found
    by_rest (inr below) (inl holds) =
        inr (λ j lt. elim (cases_eq j n) [ inl e ↦ subst C (sym e) holds | inr apart ↦ below j (omega arith) ])
    by_rest (inr below) (inr fails) = inl (n, fails, below)

-- a row over all numbers decides if from some number on nothing is asked
some_needs_each : (condition : ℕ → Type 0) (fault : ℕ → ImageFault) (follows : ImageReading → Type 0) → ((i : ℕ) → Known (condition i)) → (n : ℕ)
    → ((i : ℕ) → n ≤ i → condition i) → SomeVerdict follows → SomeVerdict (NeedsEach condition (λ i. Is (Err (fault i))) follows)
some_needs_each condition fault follows known n beyond rest = by_first (first_below condition known n)
  where
    by_first : FirstBelow condition n → SomeVerdict (NeedsEach condition (λ i. Is (Err (fault i))) follows)
    by_first (inl (i, fails, below)) = (Err (fault i), inl (i, fails, below, refl))
    by_first (inr below) = (rest.0, inr (from_below condition n below beyond, rest.1))

-- the row of the units decides
some_needs_units : SomeAnswer → OneAnswer → (base : ℕ) (code : List ℕ) → AreBytes code → (follows : List Piece → ImageReading → Type 0)
    → ((pieces : List Piece) → SomeVerdict (follows pieces)) → SomeVerdict (NeedsUnits base code follows)
some_needs_units some one base code all follows rest =
    let f = some_front some one (length code) base code (omega arith) all in
    by_end f f.ends
  where
    by_end : (f : Front base code) → (f.left ≡ []) ⊎ Stops f.end f.left → SomeVerdict (NeedsUnits base code follows)
    by_end f (inl e) =
        let to_end : StandUpTo base code f.pieces f.end [] = subst (λ (left : List ℕ). StandUpTo base code f.pieces f.end left) e f.stand in
        let are = stand_are base code f.pieces f.end to_end in
        let r = rest f.pieces in
        (r.0, inr (f.pieces, units_stand base code f.pieces are.0 are.1, r.1))
    by_end f (inr stops) =
        let why = stops.stands.why (f.end - base) in (
          Err why.0,
          inl (
            why.0,
            record {
              front = f.pieces;
              address = f.end;
              left = f.left;
              stand = f.stand;
              some_left = stops.some_left;
              none_goes_on = stops.stands.none;
              why = why.1;
            },
            refl,
          ),
        )

-- a row over a part that may be missing decides
some_part : {X : Type 0} (o : Option X) (fault : ImageFault) (follows : X → ImageReading → Type 0) → ((x : X) → o ≡ Some x → SomeVerdict (follows x))
    → SomeVerdict (NeedsPart o (Is (Err fault)) follows)
some_part None fault follows some = (Err fault, refl)
some_part (Some x) fault follows some = some x refl

-- ---- the table

-- nothing is asked of numbers past the end
no_item : {X : Type 0} (xs : List X) (i : ℕ) (P : X → Type 0) → length xs ≤ i → (x : X) → slice_get xs i ≡ Some x → P x
no_item xs i P past x e = absurd (let within = slice_get_within xs i x e in omega arith)

-- the numbers of two lists past both ends
both_past : (entries : List MapEntry) (places : List SledPlace) (i : ℕ) → length entries + length places ≤ i → HasOneAddress places entries i
both_past entries places i past =
    slice_get_past (map (λ e. e.sled) entries) i (omega (arith, length-map entries (λ e. e.sled)))
    ∙ sym (slice_get_past (map (λ p. p.address) places) i (omega (arith, length-map places (λ p. p.address))))

-- the function of this number is fit, or not
known_fit : (base : ℕ) (units : List Unit) (functions : List Function) (i : ℕ) → Known (FunctionIsFit base units functions i)
known_fit base units functions i = known_item (slice_get functions i) _ (λ f. known_function base units (take i functions) f)

-- the sled and the entry of this number fit each other, or not
known_at : (places : List SledPlace) (entries : List MapEntry) (Fits : SledPlace → MapEntry → Type 0)
    → ((place : SledPlace) (entry : MapEntry) → Known (Fits place entry)) → (i : ℕ) → Known (FitsAt places entries Fits i)
known_at places entries Fits known i =
    turned (known_item (slice_get places i) (λ place. (entry : MapEntry) → slice_get entries i ≡ Some entry → Fits place entry)
    (λ place. known_item (slice_get entries i) (Fits place) (known place)))
  where
    turned : Known ((place : SledPlace) → slice_get places i ≡ Some place → (entry : MapEntry) → slice_get entries i ≡ Some entry → Fits place entry)
        → Known (FitsAt places entries Fits i)
    turned (inl all) = inl (λ place entry at at'. all place at entry at')
    turned (inr fails) = inr (λ all. fails (λ place at entry at'. all place entry at at'))

-- what the program of some pieces reads as
some_program : (entries : List MapEntry) (places : List SledPlace) (program : Program) → SomeVerdict (ReadsProgram entries places program)
some_program entries places program =
    some_needs_each (FunctionIsFit program.base program.units program.functions) (λ i. faults.Names i) _
    (known_fit program.base program.units program.functions) (length program.functions) (λ i past f e. no_item program.functions i (IsFunction program.base program.units (take i program.functions)) past f e)
    (some_needs_each (HasOneAddress places entries) (λ i. faults.MapOrder i) _ (λ i. known_option _ _) (length entries + length places) (both_past entries places)
    (some_needs_each (FitsAt places entries (IsEntryOf program.functions)) (λ i. faults.Odd i) _
    (known_at places entries (IsEntryOf program.functions) (known_entry program.functions)) (length places)
    (λ i past place entry e e'. no_item places i (λ p. IsEntryOf program.functions p entry) past place e)
    (some_needs_each (FitsAt places entries (Reaches program.trampolines)) (λ i. faults.Far i) _
    (known_at places entries (Reaches program.trampolines) (known_reach program.trampolines)) (length places)
    (λ i past place entry e e'. no_item places i (λ p. Reaches program.trampolines p entry) past place e)
    (some_needs_each (BranchesRightly program.units) (λ i. faults.Target (place_of_unit program.base program.units i)) _
    (λ i. known_item (slice_get program.units i) _ (known_branch program.units)) (length program.units)
    (λ i past u e. no_item program.units i (BranchReaches program.units) past u e)
    (Ok program, refl)))))

-- the code is bytes of the file
code_bytes : (bytes : List ℕ) (parts : Parts) → parts_of bytes ≡ Some parts → AreBytes bytes → AreBytes parts.code
code_bytes bytes parts e all =
    subst AreBytes (sym (code_is bytes parts e))
    (All-take (λ b. b < 256) (code_length bytes) (drop 64 bytes) (All-drop (λ b. b < 256) 64 bytes all))

-- what the parts read as
some_parts : SomeAnswer → OneAnswer → (bytes : List ℕ) → AreBytes bytes → SomeVerdict (ReadsParts bytes)
some_parts some one bytes all =
    some_part (parts_of bytes) faults.Short _
    (λ parts e. some_needs (parts.rest ≡ []) faults.Trailing _ (known_list parts.rest [])
    (λ nothing_after. some_needs_units some one (base_address bytes) parts.code (code_bytes bytes parts e all) _
    (λ pieces. some_program parts.entries (places_from (base_address bytes) pieces) (program_of bytes parts pieces))))

-- each file reads as something
pub some_verdict : SomeAnswer → OneAnswer → (bytes : List ℕ) → AreBytes bytes → SomeVerdict (ReadsAs bytes)
some_verdict some one bytes all =
    some_needs (64 ≤ length bytes) faults.Short _ (known_most 64 (length bytes))
    (λ long. some_needs (magic bytes ≡ codes "XRIM") faults.Magic _ (known_list (magic bytes) (codes "XRIM"))
    (λ begins. some_needs (version bytes ≡ 1) faults.Version _ (cases_eq (version bytes) 1)
    (λ first. some_needs (code_length bytes ≤ 1048576) (faults.Limit limits.Code) _ (known_most (code_length bytes) 1048576)
    (λ code. some_needs ((0 < function_count bytes) × (function_count bytes ≤ 1024)) (faults.Limit limits.Functions) _
    (known_both (0 < function_count bytes) (function_count bytes ≤ 1024) (known_below 0 (function_count bytes)) (known_most (function_count bytes) 1024))
    (λ functions. some_needs (entry_count bytes ≤ 4096) (faults.Limit limits.Sleds) _ (known_most (entry_count bytes) 4096)
    (λ sleds. some_needs (entry_index bytes < function_count bytes) (faults.Limit limits.Entry) _ (known_below (entry_index bytes) (function_count bytes))
    (λ entry. some_needs ((base_address bytes % 16 ≡ 0) × (base_address bytes ≤ 0x7FFF00000000)) (faults.Limit limits.Base) (ReadsParts bytes)
    (known_both (base_address bytes % 16 ≡ 0) (base_address bytes ≤ 0x7FFF00000000) (cases_eq (base_address bytes % 16) 0) (known_most (base_address bytes) 0x7FFF00000000))
    (λ base. some_parts some one bytes all))))))))
