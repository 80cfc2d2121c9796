-- What was read of a name so far, and one read more.
use Rattle.std.specs.Prelude.{◌≡◌, ℕ, ◌+◌, ◌<◌, List, [], ◌∷◌, length, take, Result, Ok, Err}
use Rattle.xray_io.specs.Calls.{CallMade, Read}
use Rattle.xray_io.specs.Desk.{Entry, Holds}
use Rattle.xray_io.specs.declared.faults.ReadError.{ReadError}
use Rattle.xray_io.specs.declared.faults.ReadError.TheVariants as errors
use Rattle.xray_io.specs.declared.faults.ReadFail.{ReadFail}

-- it was fed the first bytes of what a name holds, so many
pub record IsFedFront {F : Type 0} (Fed : F → List ℕ → Type 0) (feed : F) (entry : Entry) (count : ℕ) : Type 0 where
  pub bytes : List ℕ
  pub has : Fed feed bytes
  pub counted : length bytes ≡ count
  pub front : (content : List ℕ) → entry ≡ Holds content → bytes ≡ take count content

-- One read, from this byte on, into this much room. It is a part of a reading of at most `limit` bytes.
abbrev pub IsPiece : List ℕ → (limit from room : ℕ) → Result ℕ ReadError → List CallMade → Type 0
IsPiece name limit from room (Ok got) calls = calls ≡ Read name from room (Ok got) ∷ []
IsPiece name limit from room (Err errors.ReadFault) calls = (fail : ReadFail) × (calls ≡ Read name from room (Err fail) ∷ [])
IsPiece name limit from room (Err errors.TooLong) calls =
    (got : ℕ) × (from + got ≡ limit + 1) × (calls ≡ Read name from room (Ok got) ∷ [])
IsPiece name limit from room (Err errors.NoMemory) calls =
    (got : ℕ) × (0 < got) × (calls ≡ Read name from room (Ok got) ∷ [])
