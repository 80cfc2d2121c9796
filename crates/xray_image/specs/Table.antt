-- The refusals of image files: each check, in order, and what follows if it fails.
use Rattle.std.specs.Prelude.{◌≡◌, ◌≢◌, ◌<◌, ◌≤◌, ◌+◌, ◌-◌, ◌%◌, ◌⊎◌, ℕ, List, [], ◌∷◌, ◌++◌, length, take, Some, Result, Ok, Err, codes, map, slice_get, slice_index, ⊤}
use Rattle.xray_io.specs.Rows.{Is, Needs, NeedsEach, NeedsPart}
use Rattle.subset_decode.specs.declared.fault.DecodeFault.{DecodeFault}
use Rattle.subset_decode.specs.Encoding.{Begins}
use Rattle.subset_decode.specs.Refusals.{Answers}
use Rattle.xray_image.specs.declared.fault.ImageFault.{ImageFault}
use Rattle.xray_image.specs.declared.fault.ImageFault.TheVariants as faults
use Rattle.xray_image.specs.declared.fault.Which.TheVariants as limits
use Rattle.xray_image.specs.declared.unit.Unit.{Unit}
use Rattle.xray_image.specs.Units.{Piece, Instruction, JumpSled, ReturnSled, Align, IsPiece, piece_bytes, SledPlace, places_from}
use Rattle.xray_image.specs.Container.{Function, MapEntry, magic, version, base_address, code_length, function_count, entry_count, entry_index, parts_of}
use Rattle.xray_image.specs.Limits.{highest_base, most_code, most_functions, most_sleds}
use Rattle.xray_image.specs.Program.{Program, IsFunction, IsEntryOf, Reaches, BranchReaches, addresses, program_of}

-- what a file reads as: the program that it holds, or the reason why it is refused
abbrev pub ImageReading : Type 0
ImageReading = Result Program ImageFault

-- ---- units

-- bytes begin as a sled: with the jump of an entry or tail sled, or with the return and the second byte of an exit sled
abbrev pub BeginsAsSled : List ℕ → Type 0
BeginsAsSled bytes = Begins (0xEB ∷ []) bytes ⊎ Begins (0xC3 ∷ 0x2E ∷ []) bytes

-- sleds have even addresses, and no instruction stands where bytes begin as a sled
abbrev pub MayStand : ℕ → List ℕ → Piece → Type 0
MayStand address bytes (Instruction instr) = BeginsAsSled bytes → ⊥
MayStand address bytes (JumpSled shift) = address % 2 ≡ 0
MayStand address bytes (ReturnSled shift) = address % 2 ≡ 0
MayStand address bytes Align = ⊤

-- at this address, the bytes begin with this unit, and `following` is the rest
pub record StandsAt (address : ℕ) (bytes : List ℕ) (piece : Piece) (following : List ℕ) : Type 0 where
  pub spelled : bytes ≡ piece_bytes piece ++ following
  pub fits : IsPiece piece
  pub place : MayStand address bytes piece

-- from this address to the end, units stand one after the other, and `left` is the rest of the bytes
abbrev pub StandUpTo : ℕ → List ℕ → List Piece → ℕ → List ℕ → Type 0
StandUpTo address bytes [] end left = (end ≡ address) × (left ≡ bytes)
StandUpTo address bytes (piece ∷ pieces) end left =
    (following : List ℕ) × StandsAt address bytes piece following
    × StandUpTo (address + length (piece_bytes piece)) following pieces end left

-- why the bytes at a place of the code begin with no unit: a sled is begun and isn't one, or the decoder's fault
abbrev pub UnitFault : ℕ → List ℕ → ImageFault → Type 0
UnitFault place bytes fault =
    (BeginsAsSled bytes × (fault ≡ faults.Sled place))
    ⊎ ((BeginsAsSled bytes → ⊥) × ((f : DecodeFault) × Answers bytes (Err f) × (fault ≡ faults.Code place f)))

-- units stand up to an address where no unit follows, though bytes are left
pub record UnitsStop (base : ℕ) (code : List ℕ) (fault : ImageFault) : Type 0 where
  pub front : List Piece
  pub address : ℕ
  pub left : List ℕ
  pub stand : StandUpTo base code front address left
  pub some_left : left ≢ []
  pub none_goes_on : (piece : Piece) (following : List ℕ) → StandsAt address left piece following → ⊥
  pub why : UnitFault (address - base) left fault

-- The units have to be the whole code. The first place where no unit stands decides.
abbrev pub NeedsUnits : ℕ → List ℕ → (List Piece → ImageReading → Type 0) → ImageReading → Type 0
NeedsUnits base code follows verdict =
    ((fault : ImageFault) × UnitsStop base code fault × (verdict ≡ Err fault))
    ⊎ ((pieces : List Piece) × StandUpTo base code pieces (base + length code) [] × follows pieces verdict)

-- ---- conditions with a number

-- the function of this number, if there is one, may come after those before it
abbrev pub FunctionIsFit : ℕ → List Unit → List Function → ℕ → Type 0
FunctionIsFit base units functions i =
    (f : Function) → slice_get functions i ≡ Some f → IsFunction base units (take i functions) f

-- the entry and the sled of this number have one address, or neither exists
abbrev pub HasOneAddress : List SledPlace → List MapEntry → ℕ → Type 0
HasOneAddress places entries i =
    slice_get (map (λ e. e.sled) entries) i ≡ slice_get (map (λ p. p.address) places) i

-- the sled and the entry of this number, if both exist, fit each other
abbrev pub FitsAt : List SledPlace → List MapEntry → (SledPlace → MapEntry → Type 0) → ℕ → Type 0
FitsAt places entries Fits i =
    (place : SledPlace) (entry : MapEntry)
    → slice_get places i ≡ Some place → slice_get entries i ≡ Some entry → Fits place entry

-- the unit of this number, if there is one and it branches, goes to a unit
abbrev pub BranchesRightly : List Unit → ℕ → Type 0
BranchesRightly units i = (u : Unit) → slice_get units i ≡ Some u → BranchReaches units u

-- the place in the code of the unit of this number
abbrev pub place_of_unit : ℕ → List Unit → ℕ → ℕ
place_of_unit base units i = slice_index (addresses units) i - base

-- ---- the table

-- after the units: the functions, the map's order, its entries, the distances and the branches
abbrev pub ReadsProgram : List MapEntry → List SledPlace → Program → ImageReading → Type 0
ReadsProgram entries places program =
    NeedsEach (FunctionIsFit program.base program.units program.functions) (λ i. Is (Err (faults.Names i)))
    (NeedsEach (HasOneAddress places entries) (λ i. Is (Err (faults.MapOrder i)))
    (NeedsEach (FitsAt places entries (IsEntryOf program.functions)) (λ i. Is (Err (faults.Odd i)))
    (NeedsEach (FitsAt places entries (Reaches program.trampolines)) (λ i. Is (Err (faults.Far i)))
    (NeedsEach (BranchesRightly program.units) (λ i. Is (Err (faults.Target (place_of_unit program.base program.units i))))
    (Is (Ok program))))))

-- after the header: the parts, no bytes after them, and the units of the code
abbrev pub ReadsParts : List ℕ → ImageReading → Type 0
ReadsParts bytes =
    NeedsPart (parts_of bytes) (Is (Err faults.Short))
    (λ parts. Needs (parts.rest ≡ []) (Is (Err faults.Trailing))
    (NeedsUnits (base_address bytes) parts.code
    (λ pieces. ReadsProgram parts.entries (places_from (base_address bytes) pieces) (program_of bytes parts pieces))))

-- What the bytes of a file read as: the program that they hold, or the first refusal of the table.
abbrev pub ReadsAs : List ℕ → ImageReading → Type 0
ReadsAs bytes =
    Needs (64 ≤ length bytes) (Is (Err faults.Short))
    (Needs (magic bytes ≡ codes "XRIM") (Is (Err faults.Magic))
    (Needs (version bytes ≡ 1) (Is (Err faults.Version))
    (Needs (code_length bytes ≤ most_code) (Is (Err (faults.Limit limits.Code)))
    (Needs ((0 < function_count bytes) × (function_count bytes ≤ most_functions)) (Is (Err (faults.Limit limits.Functions)))
    (Needs (entry_count bytes ≤ most_sleds) (Is (Err (faults.Limit limits.Sleds)))
    (Needs (entry_index bytes < function_count bytes) (Is (Err (faults.Limit limits.Entry)))
    (Needs ((base_address bytes % 16 ≡ 0) × (base_address bytes ≤ highest_base)) (Is (Err (faults.Limit limits.Base)))
    (ReadsParts bytes))))))))
