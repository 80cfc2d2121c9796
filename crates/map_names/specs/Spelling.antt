-- How a line of a sled map is spelled: as pieces, one after the other.
use Rattle.std.specs.Prelude.{◌≡◌, ◌≢◌, ◌<◌, ◌==◌, ◌||◌, ◌⊎◌, not, All, IsTrue, ℕ, List, [], ◌∷◌, ◌++◌, codes, filter, length, Some, None, if◌then◌else◌}
use Rattle.std.specs.List.{flat_map}
use Rattle.std.specs.Str.Lines.{lines}
use Rattle.text_lines.specs.Numbers.{number_of}
use Rattle.map_names.specs.Entries.{NamedFunction, before_ending, is_address, is_kind, is_plain_byte, is_truth}
use Rattle.map_names.specs.Maps.{is_comment}

-- ---- names between single marks

-- a byte of such a name: a mark (39) is doubled
abbrev pub single_byte : ℕ → List ℕ
single_byte b = if b == 39 then 39 ∷ 39 ∷ [] else b ∷ []

-- a mark, the name, and a mark
abbrev pub single_quoted : List ℕ → List ℕ
single_quoted name = 39 ∷ flat_map single_byte name ++ 39 ∷ []

-- ---- names between double marks

-- a byte by itself, or behind a backslash (92)
pub data Letter : Type 0 where
  Itself : ℕ → Letter
  Escaped : ℕ → Letter

-- neither a mark (34) nor a backslash is by itself
abbrev pub IsLetter : Letter → Type 0
IsLetter (Itself b) = (b ≢ 34) × (b ≢ 92)
IsLetter (Escaped b) = Unit {0}

abbrev pub letter_text : Letter → List ℕ
letter_text (Itself b) = b ∷ []
letter_text (Escaped b) = 92 ∷ b ∷ []

-- What it says of the name: an escaped mark or backslash says itself. Other escapes stay in the name as they are written.
abbrev pub letter_name : Letter → List ℕ
letter_name (Itself b) = b ∷ []
letter_name (Escaped b) = if b == 34 || b == 92 then b ∷ [] else 92 ∷ b ∷ []

-- a mark, letters that say the name, and a mark
pub record IsDoubleQuoted (written name : List ℕ) : Type 0 where
  pub letters : List Letter
  pub each : All IsLetter letters
  pub text : written ≡ 34 ∷ flat_map letter_text letters ++ 34 ∷ []
  pub says : name ≡ flat_map letter_name letters

-- ---- names

-- a name without marks, which has some bytes, and only those that need no marks
pub record IsPlain (written name : List ℕ) : Type 0 where
  pub some : 0 < length written
  pub bytes : All (λ b. IsTrue (is_plain_byte b)) written
  pub same : name ≡ written

-- this is written for a name
abbrev pub SpellsName : (written name : List ℕ) → Type 0
SpellsName written name = (written ≡ single_quoted name) ⊎ IsDoubleQuoted written name ⊎ IsPlain written name

-- ---- lines

-- the brace at the end of a line, with a blank before it or without one
abbrev pub IsBrace : List ℕ → Type 0
IsBrace brace = (brace ≡ codes " }") ⊎ (brace ≡ codes "}")

-- a version, which may be missing
abbrev pub IsVersion : List ℕ → Type 0
IsVersion version =
    (version ≡ []) ⊎ (version ≡ codes ", version: 0") ⊎ (version ≡ codes ", version: 1") ⊎ (version ≡ codes ", version: 2")

-- the end of a line: perhaps a version, and a brace
pub record IsEnding (ending : List ℕ) : Type 0 where
  pub version : List ℕ
  pub brace : List ℕ
  pub version_is : IsVersion version
  pub brace_is : IsBrace brace
  pub joined : ending ≡ version ++ brace

-- This is the field of a name, before the end of a line. A brace without a blank before it stands directly behind the last
-- word.
pub record HasName (named ending name : List ℕ) : Type 0 where
  pub written : List ℕ
  pub spelled : SpellsName written name
  pub labelled : named ≡ codes ", function-name: " ++ written
  pub direct : ending ≡ codes "}" → before_ending (codes " ") written ≡ None

-- a field is missing, and so is the name
abbrev pub HasNoName : (named name : List ℕ) → Type 0
HasNoName named name = (named ≡ []) × (name ≡ [])

-- the line is the pieces of an entry, joined
pub record SpellsEntry (line : List ℕ) (entry : NamedFunction) : Type 0 where
  pub id : List ℕ
  pub address : List ℕ
  pub function : List ℕ
  pub kind : List ℕ
  pub always : List ℕ
  pub named : List ℕ
  pub ending : List ℕ
  pub id_is : number_of id ≡ Some entry.id
  pub address_is : IsTrue (is_address address)
  pub function_is : IsTrue (is_address function)
  pub kind_is : IsTrue (is_kind kind)
  pub always_is : IsTrue (is_truth always)
  pub name_is : HasName named ending entry.name ⊎ HasNoName named entry.name
  pub ending_is : IsEnding ending
  pub joined : line
      ≡ codes "- { id: " ++ id ++ codes ", address: " ++ address ++ codes ", function: " ++ function ++ codes ", kind: " ++ kind
      ++ codes ", always-instrument: " ++ always ++ named ++ ending

-- ---- texts

-- each line is that of the entry at its place
abbrev pub SpellEach : List (List ℕ) → List NamedFunction → Type 0
SpellEach [] [] = Unit {0}
SpellEach [] (entry ∷ entries) = ⊥
SpellEach (line ∷ said) [] = ⊥
SpellEach (line ∷ said) (entry ∷ entries) = SpellsEntry line entry × SpellEach said entries

-- the lines of the text that are no comments are `---`, a line for each entry, and `...`
pub record SpellsMap (text : List ℕ) (entries : List NamedFunction) : Type 0 where
  pub said : List (List ℕ)
  pub each : SpellEach said entries
  pub whole : filter (λ line. not (is_comment line)) (lines text) ≡ codes "---" ∷ said ++ codes "..." ∷ []
