-- What the fields of marks say, and what is true of them.
use Rattle.std.specs.Prelude.{◌≡◌, ◌≤◌, ◌+◌, ◌/◌, vec_capacity}
use Rattle.handler_word.specs.declared.marks.Marks.TheInside.{Inside}
use Rattle.handler_word.specs.private.Bits.{marks_from, IsFilledTo}
use Rattle.handler_word.specs.MarkList.{MarkList, recorded_count}

-- the marks that the fields say
abbrev pub marks_in : Inside → MarkList
marks_in a = record { items = marks_from a.bytes.items 0 a.len; room = a.room }

-- the bytes are those of the marks and of their room, and the recorded ones are counted
pub record IsPacked (a : Inside) : Type 0 where
  pub within : a.len ≤ a.room
  pub filled : IsFilledTo a.bytes.items a.len
  pub room : (a.room + 1) / 2 ≤ vec_capacity a.bytes
  pub recorded : a.recorded ≡ recorded_count (marks_from a.bytes.items 0 a.len)
