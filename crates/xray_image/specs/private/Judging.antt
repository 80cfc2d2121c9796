-- What is checked after the units, for the contracts of the reader's private functions.
use Rattle.std.specs.List.Sorted.{IsStrictlyIncreasing}
use Rattle.xray_image.specs.Container.{Function, MapEntry}
use Rattle.std.specs.Prelude.{◌≡◌, ◌≢◌, ◌<◌, ℕ, List, [], map, Bool, true, Option, Some, None, All, Contains}
use Rattle.std.specs.List.{list_any}
use Rattle.std.specs.Str.{bytes_eq}
use Rattle.xray_image.specs.Program.{Program, is_name_byte, IsEntryOf, Reaches}
use Rattle.xray_image.specs.Units.{SledPlace}
use Rattle.xray_image.specs.Table.{FunctionIsFit, HasOneAddress, FitsAt, BranchesRightly}

-- bytes that may be a function's name
pub record IsName (name : List ℕ) : Type 0 where
  pub has_bytes : name ≢ []
  pub name_bytes : All (λ b. is_name_byte b ≡ true) name

-- the first function begins at the base, and each other one above the one before it
abbrev pub IsAbove : ℕ → Option ℕ → ℕ → Type 0
IsAbove base None start = start ≡ base
IsAbove base (Some last) start = last < start

-- a function may come after one that begins at `last`, in a code whose units begin at these addresses
pub record StandsAfter (base : ℕ) (addresses : List ℕ) (last : Option ℕ) (f : Function) : Type 0 where
  pub above : IsAbove base last f.start
  pub at_unit : Contains addresses f.start
  pub named : IsName f.name

-- whether a name is one of these names
abbrev pub is_among : List (List ℕ) → List ℕ → Bool
is_among names name = list_any (bytes_eq name) names

-- functions ascend by address
abbrev pub Ascend : List Function → Type 0
Ascend functions = IsStrictlyIncreasing (map (λ f. f.start) functions)

-- what is true of a program that is read: its functions, the order of the map, its entries, the distances and the
-- branches
pub record IsJudged (entries : List MapEntry) (places : List SledPlace) (program : Program) : Type 0 where
  pub functions : (i : ℕ) → FunctionIsFit program.base program.units program.functions i
  pub order : (i : ℕ) → HasOneAddress places entries i
  pub entries_fit : (i : ℕ) → FitsAt places entries (IsEntryOf program.functions) i
  pub near : (i : ℕ) → FitsAt places entries (Reaches program.trampolines) i
  pub branches : (i : ℕ) → BranchesRightly program.units i
