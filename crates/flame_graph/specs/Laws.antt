-- What is true of every flame graph. Lengths are in thousandths of a pixel, as they are printed.
use Rattle.std.specs.Prelude.{◌≡◌, ◌≢◌, ◌⊎◌, ◌↔◌, ◌+◌, ◌-◌, ◌<◌, ◌≤◌, ◌==◌, ◌&&◌, ◌||◌, All, Bool, IsTrue, false, true, not, ℕ, List, ◌∷◌, ◌++◌, codes, length, nat_le, take, filter, sum_by, Contains}
use Rattle.std.specs.List.{AllPairs}
use Rattle.std.specs.Str.{IsUtf8}
use Rattle.fdr_record.specs.declared.event.Event.{Event}
use Rattle.stack_rebuild.specs.Stacks.{PathRow, stack_of_threads}
use Rattle.stack_rebuild.specs.Weights.{IsAllTimed, begins, left_over, overrun, weight_of}
use Rattle.flame_graph.specs.FlameText.{shortened, xml_text}
use Rattle.flame_graph.specs.Frames.{calls_of, frames, is_begun, own_sum, frame_place}
use Rattle.flame_graph.specs.Picture.{across, left_of, width_of}

-- ---- which frames there are

-- a path of some function that is a prefix of the path of a row
pub record IsRowPrefix (rows : List PathRow) (frame : List ℕ) : Type 0 where
  pub some : 0 < length frame
  pub row : PathRow
  pub there : Contains rows row
  pub rest : List ℕ
  pub whole : frame ++ rest ≡ row.path

-- the frames are exactly these prefixes
abbrev pub AreRowPrefixes : List PathRow → Type 0
AreRowPrefixes rows = (frame : List ℕ) → Contains (frames rows) frame ↔ IsRowPrefix rows frame

-- no frame is listed twice
abbrev pub NoneTwice : List PathRow → Type 0
NoneTwice rows = AllPairs (λ frame later. frame ≢ later) (frames rows)

-- ---- where they begin

-- the place of a frame is the time of the rows that stand before the first one whose path begins with it
abbrev pub BeginsAtItsRows : List PathRow → List ℕ → Type 0
BeginsAtItsRows rows frame =
    (before later : List PathRow) (first : PathRow) → rows ≡ before ++ first ∷ later → is_begun before frame ≡ false → begins frame first.path ≡ true
    → frame_place rows frame ≡ own_sum before

-- ---- how wide they are

-- a frame of the stacks of threads weighs as much as the sum that is shown of it, and what is in no sum
abbrev pub WeighsItsCalls : List (List Event) → List ℕ → Type 0
WeighsItsCalls threads frame =
    let rows = stack_of_threads threads in
    weight_of rows frame ≡ (calls_of rows frame).sum + sum_by (λ events. left_over events frame + overrun events frame) threads

-- it weighs just this sum if each call on its path and below it has its exit, and took at least as long as the calls
-- made directly in it
abbrev pub WeighsItsSum : List (List Event) → List ℕ → Type 0
WeighsItsSum threads frame =
    let rows = stack_of_threads threads in 0 < length frame → All (IsAllTimed frame) threads → weight_of rows frame ≡ (calls_of rows frame).sum

-- ---- frames of one height

-- if two frames are equally high, the first one ends no farther to the right than the other one begins
abbrev pub IsLeftOf : List PathRow → List ℕ → List ℕ → Type 0
IsLeftOf rows frame later = length frame ≡ length later → left_of rows frame + width_of rows frame ≤ left_of rows later

-- frames of one height don't overlap, and are listed from left to right
abbrev pub NoneOverlap : List PathRow → Type 0
NoneOverlap rows = AllPairs (IsLeftOf rows) (frames rows)

-- ---- frames on frames

-- What a frame stands on: the frame of its caller, which lacks the innermost function. A frame of one function stands on
-- the whole, which has no function, and whose weight is that of all rows.
abbrev pub below : List ℕ → List ℕ
below frame = take (length frame - 1) frame

-- a frame doesn't stick out of another one, to the left or to the right
pub record IsWithin (rows : List PathRow) (frame other : List ℕ) : Type 0 where
  pub left : left_of rows other ≤ left_of rows frame
  pub right : left_of rows frame + width_of rows frame ≤ left_of rows other + width_of rows other

-- no frame sticks out of what it stands on
abbrev pub NoneSticksOut : List PathRow → Type 0
NoneSticksOut rows = All (λ frame. IsWithin rows frame (below frame)) (frames rows)

-- whether a frame is in the lowest row
abbrev pub is_lowest : List ℕ → Bool
is_lowest frame = length frame == 1

-- if any time was spent, the widths of the lowest row add up to the whole
abbrev pub LowestAddUp : List PathRow → Type 0
LowestAddUp rows = 0 < own_sum rows → sum_by (width_of rows) (filter is_lowest (frames rows)) ≡ across

-- ---- names

-- what is shown of a name, under the pointer and as a label that has room for this many characters, is UTF-8
abbrev pub NamesAreText : Type 0
NamesAreText = (name : List ℕ) (room : ℕ) → IsUtf8 (xml_text name) × IsUtf8 (shortened room name)

-- a byte that a text of XML may have, as it is or to begin an escape: no control character of ASCII, and none of `"`, `<` and
-- `>`
abbrev pub is_text_byte : ℕ → Bool
is_text_byte b = nat_le 32 b && not (b == 127 || b == 34 || b == 60 || b == 62)

-- what follows an ampersand that begins an escape
abbrev pub EndsEscape : List ℕ → Type 0
EndsEscape text =
    (rest : List ℕ) × ((text ≡ codes "amp;" ++ rest) ⊎ (text ≡ codes "lt;" ++ rest) ⊎ (text ≡ codes "gt;" ++ rest) ⊎ (text ≡ codes "quot;" ++ rest))

-- a text has only such bytes, and each `&` in it (38) begins an escape
pub record IsEscaped (text : List ℕ) : Type 0 where
  pub bytes : All (λ b. IsTrue (is_text_byte b)) text
  pub ampersands : (before after : List ℕ) → text ≡ before ++ 38 ∷ after → EndsEscape after

-- what is shown of a name is escaped, under the pointer and as a label
abbrev pub NamesAreEscaped : Type 0
NamesAreEscaped = (name : List ℕ) (room : ℕ) → IsEscaped (xml_text name) × IsEscaped (shortened room name)
