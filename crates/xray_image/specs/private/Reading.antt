-- Reading byte by byte, for the contracts of the reader's private functions.
use Rattle.std.specs.Prelude.{◌≡◌, ◌<◌, ◌≤◌, ◌+◌, ◌%◌, ℕ, List, [], length, drop}
use Rattle.xray_image.specs.declared.fault.ImageFault.{ImageFault}
use Rattle.xray_image.specs.declared.unit.Unit.{Unit}
use Rattle.xray_image.specs.Units.{Piece, SledPlace, units_from, places_from}
use Rattle.xray_image.specs.Table.{StandUpTo}

-- sleds stand at even addresses
abbrev pub IsEven : SledPlace → Type 0
IsEven place = place.address % 2 ≡ 0

-- the units of a code and the sleds among them
pub record HasUnits (base : ℕ) (code : List ℕ) (units : List Unit) (places : List SledPlace) : Type 0 where
  pub pieces : List Piece
  pub stand : StandUpTo base code pieces (base + length code) []
  pub units_are : units ≡ units_from base 0 pieces
  pub places_are : places ≡ places_from base pieces

-- the units up to a place of the code, and the sleds among them
pub record IsReadTo (base : ℕ) (code : List ℕ) (at : ℕ) (units : List Unit) (places : List SledPlace) : Type 0 where
  pub front : List Piece
  pub within : at ≤ length code
  pub stand : StandUpTo base code front (base + at) (drop at code)
  pub units_are : units ≡ units_from base 0 front
  pub places_are : places ≡ places_from base front
  pub few : length places ≤ at

-- a scan of the numbers from 0 on ends at the least for which the condition doesn't hold, and answers its fault
pub record IsFirstFault (condition : ℕ → Type 0) (fault : ℕ → ImageFault) (answer : ImageFault) : Type 0 where
  pub number : ℕ
  pub fails : condition number → ⊥
  pub holds_below : (j : ℕ) → j < number → condition j
  pub is : answer ≡ fault number
