-- What comes of a command line, and how a call ends: its status, and its line on err.
use Rattle.std.specs.Prelude.{ℕ, List, [], ◌∷◌, ◌++◌, Option, Some, None, codes}

-- What comes of a command line. Four outcomes write nothing: the words say no command; an input can't be read; it has
-- too many bytes; or it is refused, by its kind and for a reason. Two outcomes leave outputs, each with a name and its
-- bytes, and a text on out: all is well, or something is wrong all the same.
pub data Outcome : Type 0 where
  BadLine : Outcome
  Unread : (name : List ℕ) → Outcome
  TooLong : (name : List ℕ) → Outcome
  Refused : (name kind refusal : List ℕ) → Outcome
  Done : (outputs : List (List ℕ × List ℕ)) → (text : List ℕ) → Outcome
  Fell : (outputs : List (List ℕ × List ℕ)) → (text trouble : List ℕ) → Outcome

-- what an outcome writes: its outputs and its text, or nothing
abbrev pub written_by : Outcome → Option (List (List ℕ × List ℕ) × List ℕ)
written_by BadLine = None
written_by (Unread name) = None
written_by (TooLong name) = None
written_by (Refused name kind refusal) = None
written_by (Done outputs text) = Some (outputs, text)
written_by (Fell outputs text trouble) = Some (outputs, text)

-- the program's status
abbrev pub status_of : Outcome → ℕ
status_of (Done outputs text) = 0
status_of BadLine = 1
status_of (Refused name kind refusal) = 2
status_of (Unread name) = 3
status_of (TooLong name) = 6
status_of (Fell outputs text trouble) = 7

-- a line on err: what is wrong, after the program's name
abbrev pub err_line : List ℕ → List ℕ
err_line text = codes "xray: " ++ text ++ 10 ∷ []

-- the line on err, which is empty if all is done
abbrev pub err_line_of : Outcome → List ℕ
err_line_of (Done outputs text) = []
err_line_of BadLine = err_line (codes "bad command line")
err_line_of (Refused name kind refusal) = err_line (name ++ codes ": " ++ kind ++ codes " " ++ refusal)
err_line_of (Unread name) = err_line (name ++ codes ": read fault")
err_line_of (TooLong name) = err_line (name ++ codes ": too long")
err_line_of (Fell outputs text trouble) = err_line trouble

-- How a call ends: with an outcome; at an output of this name, one of these outputs, that can't be written; at out,
-- which is named `output`; or because memory ran out.
pub data Ending : Type 0 where
  With : Outcome → Ending
  Unwritten : (name : List ℕ) → (outputs : List (List ℕ × List ℕ)) → Ending
  NoMemory : Ending

-- its status
abbrev pub status_at : Ending → ℕ
status_at (With outcome) = status_of outcome
status_at (Unwritten name outputs) = 4
status_at NoMemory = 5

-- its line on err
abbrev pub err_line_at : Ending → List ℕ
err_line_at (With outcome) = err_line_of outcome
err_line_at (Unwritten name outputs) = err_line (name ++ codes ": write fault")
err_line_at NoMemory = err_line (codes "out of memory")
