-- The calls by which a name is read whole.
use Rattle.std.specs.Prelude.{◌≡◌, ℕ, ◌+◌, ◌<◌, ◌≤◌, List, [], ◌∷◌, ◌++◌, length, Result, Ok, Err, Vec}
use Rattle.std.specs.declared.alloc.Global.{Global}
use Rattle.xray_io.specs.Calls.{CallMade, Read}
use Rattle.xray_io.specs.Desk.{Entry, Holds}
use Rattle.xray_io.specs.declared.faults.ReadError.{ReadError}
use Rattle.xray_io.specs.declared.faults.ReadError.TheVariants as errors
use Rattle.xray_io.specs.declared.faults.ReadFail.{ReadFail}

-- reads of this name that each gave bytes, from one byte to another: each begins where the one before it ended, and
-- none asks for a byte past the first `bound`
abbrev pub Reads : List ℕ → (bound from to : ℕ) → List CallMade → Type 0
Reads name bound from to [] = from ≡ to
Reads name bound from to (Read n at room (Ok got) ∷ calls) =
    (n ≡ name) × (at ≡ from) × (at + room ≤ bound) × (0 < got) × Reads name bound (at + got) to calls
Reads name bound from to (call ∷ calls) = ⊥

-- such reads from the first byte on, and then one more, with this answer
pub record ReadsUpTo (name : List ℕ) (bound to : ℕ) (answer : Result ℕ ReadFail) (calls : List CallMade) : Type 0 where
  pub earlier : List CallMade
  pub room : ℕ
  pub reads : Reads name bound 0 to earlier
  pub some : 0 < room
  pub within : to + room ≤ bound
  pub last : calls ≡ earlier ++ Read name to room answer ∷ []

-- the last read failed
abbrev pub ReadsUpToFault : List ℕ → (bound : ℕ) → List CallMade → Type 0
ReadsUpToFault name bound calls = (to : ℕ) × (fail : ReadFail) × ReadsUpTo name bound to (Err fail) calls

-- the last read gave bytes, if there was one
abbrev pub ReadsSome : List ℕ → (bound : ℕ) → List CallMade → Type 0
ReadsSome name bound calls = (to : ℕ) × Reads name bound 0 to calls

-- The reads that answer a request for the whole of a name, by how many bytes that was. They end with one that gives
-- nothing, with one that fails, or with the first byte that is too many. If an allocation is refused, they may end after
-- any byte.
abbrev pub IsReading : List ℕ → (limit : ℕ) → Result ℕ ReadError → List CallMade → Type 0
IsReading name limit (Ok count) calls = ReadsUpTo name (limit + 1) count (Ok 0) calls
IsReading name limit (Err errors.ReadFault) calls = ReadsUpToFault name (limit + 1) calls
IsReading name limit (Err errors.TooLong) calls = Reads name (limit + 1) 0 (limit + 1) calls
IsReading name limit (Err errors.NoMemory) calls = ReadsSome name (limit + 1) calls

-- how many bytes were read, if they were kept
abbrev pub count_read : Result (Vec ℕ Global) ReadError → Result ℕ ReadError
count_read (Ok content) = Ok (length content.items)
count_read (Err error) = Err error

-- It was fed all bytes that a name holds, so many.
pub record IsFedWhole {F : Type 0} (Fed : F → List ℕ → Type 0) (feed : F) (entry : Entry) (count : ℕ) : Type 0 where
  pub bytes : List ℕ
  pub has : Fed feed bytes
  pub counted : length bytes ≡ count
  pub whole : (content : List ℕ) → entry ≡ Holds content → bytes ≡ content
