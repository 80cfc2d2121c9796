-- What an accepted image file holds, and which files are accepted.
use Rattle.std.specs.Prelude.{◌≡◌, ◌≢◌, ◌<◌, ◌+◌, ◌%◌, ◌+ℤ◌, ◌-ℤ◌, ◌||◌, ◌&&◌, ◌⊎◌, ℕ, ℤ, pos, zero, suc, List, [], ◌∷◌, length, take, Bool, true, false, not, nat_le, ◌==◌, if◌then◌else◌, Option, Some, None, map, filter, All, Contains, slice_get, IfSome, FitsSigned}
use Rattle.std.specs.Int.{w32}
use Rattle.std.specs.Option.{option_map_or, unwrap_or}
use Rattle.std.specs.List.{zip, last_or, list_any, position_or_len}
use Rattle.subset_decode.specs.declared.instr.Instr.{Instr}
use Rattle.subset_decode.specs.declared.instr.Instr.TheVariants.{Mov, Add, Sub, Push, Pop, Call, Jmp, Jnz, Ret, Out}
use Rattle.subset_decode.specs.Encoding.{spelling}
use Rattle.xray_image.specs.declared.sled.Sled.{Sled}
use Rattle.xray_image.specs.declared.sled.SledKind.{SledKind}
use Rattle.xray_image.specs.declared.sled.SledKind.TheVariants.{Entry, Exit, Tail, Args}
use Rattle.xray_image.specs.declared.unit.Unit.{Unit}
use Rattle.xray_image.specs.declared.unit.What.TheVariants.{Plain}
use Rattle.xray_image.specs.Units.{Piece, IsUnits, units_from, SledPlace, places_from}
use Rattle.xray_image.specs.Container.{Function, MapEntry, Parts, base_address, entry_index, number8_at, parts_of}
use Rattle.xray_image.specs.Header.{HasHeader}

-- the handlers' trampolines, by the kind of the sleds that call them
pub record Trampolines : Type 0 where
  pub entry : ℕ
  pub exit : ℕ
  pub tail : ℕ
  pub args : ℕ

abbrev pub trampoline_of : Trampolines → SledKind → ℕ
trampoline_of t Entry = t.entry
trampoline_of t Exit = t.exit
trampoline_of t Tail = t.tail
trampoline_of t Args = t.args

-- a program as its image file says: what contracts see of an `Image`
pub record Program : Type 0 where
  -- the address of the code's first byte
  pub base : ℕ
  -- the address at which threads start
  pub entry : ℕ
  pub code : List ℕ
  pub functions : List Function
  pub units : List Unit
  pub sleds : List Sled
  pub trampolines : Trampolines

-- the addresses at which units begin
abbrev pub addresses : List Unit → List ℕ
addresses units = map (λ u. u.address) units

-- ---- functions

-- letters, digits, `_`, `.` and `$`
abbrev pub is_name_byte : ℕ → Bool
is_name_byte b =
    (nat_le 65 b && nat_le b 90) || (nat_le 97 b && nat_le b 122) || (nat_le 48 b && nat_le b 57)
    || (b == 95) || (b == 46) || (b == 36)

-- the first function begins at the base, and each other one above the one before it
abbrev pub BeginsAfter : ℕ → Option Function → ℕ → Type 0
BeginsAfter base None start = start ≡ base
BeginsAfter base (Some before) start = before.start < start

-- a function that may come after these: at a unit, in ascending order, with a name of its own
pub record IsFunction (base : ℕ) (units : List Unit) (before : List Function) (f : Function) : Type 0 where
  pub at_unit : Contains (addresses units) f.start
  pub in_order : BeginsAfter base (last_or None before) f.start
  pub has_name : f.name ≢ []
  pub name_bytes : All (λ b. is_name_byte b ≡ true) f.name
  pub own_name : All (λ g. g.name ≢ f.name) before

abbrev pub AreFunctions : ℕ → List Unit → List Function → Type 0
AreFunctions base units functions =
    (i : ℕ) (f : Function) → slice_get functions i ≡ Some f → IsFunction base units (take i functions) f

-- an address lies in the last function that begins at it or below
abbrev pub LiesIn : List Function → ℕ → ℕ → Type 0
LiesIn functions address start =
    last_or None (map (λ f. f.start) (filter (λ f. nat_le f.start address) functions)) ≡ Some start

-- ---- the sled map

-- the kind of the map with this number: 0 entry, 1 exit, 2 tail, 3 entry with argument logging; no other number is a
-- kind
abbrev pub numbered_kind : ℕ → Option SledKind
numbered_kind zero = Some Entry
numbered_kind (suc zero) = Some Exit
numbered_kind (suc (suc zero)) = Some Tail
numbered_kind (suc (suc (suc zero))) = Some Args
numbered_kind (suc (suc (suc (suc n)))) = None

-- the kind of a number that is one; accepted maps have no others (`KindFits`)
abbrev pub kind_of : ℕ → SledKind
kind_of number = unwrap_or (numbered_kind number) Entry

-- exit sleds begin with a return; entry sleds, with or without argument logging, and tail sleds begin with a jump
abbrev pub KindFits : Bool → ℕ → Type 0
KindFits true kind = kind ≡ 1
KindFits false kind = (kind ≡ 0) ⊎ (kind ≡ 2) ⊎ (kind ≡ 3)

-- an entry agrees with the code about the sled at its place
pub record IsEntryOf (functions : List Function) (place : SledPlace) (entry : MapEntry) : Type 0 where
  pub in_function : LiesIn functions place.address entry.function
  pub kind : KindFits place.returns entry.kind
  pub known_version : entry.version < 3

-- a patched sled's call or jump reaches the trampoline: its 32 bits count from the sled's end
abbrev pub Reaches : Trampolines → SledPlace → MapEntry → Type 0
Reaches trampolines place entry =
    FitsSigned w32 (pos (trampoline_of trampolines (kind_of entry.kind)) -ℤ pos (place.address + 11))

-- P holds of each place and the entry of the same number
abbrev pub EachSled : List SledPlace → List MapEntry → (SledPlace → MapEntry → Type 0) → Type 0
EachSled places entries P =
    (i : ℕ) (place : SledPlace) (entry : MapEntry)
    → slice_get places i ≡ Some place → slice_get entries i ≡ Some entry → P place entry

-- the numbers of a list without repetitions and without those seen before, in the order in which they first appear
abbrev pub distinct : List ℕ → List ℕ → List ℕ
distinct seen [] = []
distinct seen (x ∷ xs) = if list_any (λ y. y == x) seen then distinct seen xs else x ∷ distinct (x ∷ seen) xs

-- function ids count from 1 over the functions of the map's entries, in the order of the map
abbrev pub id_of : List MapEntry → ℕ → ℕ
id_of entries function = 1 + position_or_len (λ f. f == function) (distinct [] (map (λ e. e.function) entries))

-- the sled at a place, with what its entry says
abbrev pub sled_of : List MapEntry → SledPlace × MapEntry → Sled
sled_of entries (place, entry) = record {
  address = place.address;
  function = entry.function;
  id = id_of entries entry.function;
  kind = kind_of entry.kind;
  always = not (entry.always == 0);
  shift = place.shift;
}

-- ---- branches

-- where a branch goes, as a whole number: the address after it, plus the distance that it names
abbrev pub branch_target : ℕ → Instr → Option ℤ
branch_target following (Mov dst imm) = None
branch_target following (Add dst src) = None
branch_target following (Sub dst src) = None
branch_target following (Push reg) = None
branch_target following (Pop reg) = None
branch_target following (Call rel) = Some (pos following +ℤ rel)
branch_target following (Jmp rel) = Some (pos following +ℤ rel)
branch_target following (Jnz rel) = Some (pos following +ℤ rel)
branch_target following Ret = None
branch_target following (Out port) = None

-- if a unit branches, it goes to a unit
abbrev pub BranchReaches : List Unit → Unit → Type 0
BranchReaches units u =
    (instr : Instr) → u.what ≡ Plain instr
    → IfSome (branch_target (u.address + length (spelling instr)) instr)
    (λ target. (address : ℕ) × (target ≡ pos address) × Contains (addresses units) address)

-- each branch of the units goes to a unit
abbrev pub BranchesReach : List Unit → Type 0
BranchesReach units = (u : Unit) → Contains units u → BranchReaches units u

-- ---- the file

-- what the parts of a file and the pieces of its code say
abbrev pub program_of : List ℕ → Parts → List Piece → Program
program_of bytes parts pieces = record {
  base = base_address bytes;
  entry = option_map_or (λ f. f.start) (slice_get parts.functions (entry_index bytes)) 0;
  code = parts.code;
  functions = parts.functions;
  units = units_from (base_address bytes) 0 pieces;
  sleds = map (sled_of parts.entries) (zip (places_from (base_address bytes) pieces) parts.entries);
  trampolines = record { entry = number8_at bytes 32; exit = number8_at bytes 40; tail = number8_at bytes 48; args = number8_at bytes 56 };
}

-- The bytes are an accepted image file, and the program is what it holds.
pub record IsAccepted (bytes : List ℕ) (program : Program) : Type 0 where
  pub header : HasHeader bytes
  pub parts : Parts
  pub reaches : parts_of bytes ≡ Some parts
  pub nothing_after : parts.rest ≡ []
  pub pieces : List Piece
  pub units : IsUnits parts.code pieces
  pub even_sleds : All (λ place. place.address % 2 ≡ 0) (places_from (base_address bytes) pieces)
  pub functions : AreFunctions (base_address bytes) program.units parts.functions
  pub map_order : map (λ e. e.sled) parts.entries ≡ map (λ p. p.address) (places_from (base_address bytes) pieces)
  pub entries : EachSled (places_from (base_address bytes) pieces) parts.entries (IsEntryOf parts.functions)
  pub near : EachSled (places_from (base_address bytes) pieces) parts.entries (Reaches program.trampolines)
  pub branches : BranchesReach program.units
  pub holds : program ≡ program_of bytes parts pieces
