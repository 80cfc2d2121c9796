-- The marks of a thread, as contracts see them.
use Rattle.std.specs.Prelude.{ℕ, List, Bool, true, false, count_by}
use Rattle.handler_word.specs.declared.mark.Mark.{Mark}
use Rattle.handler_word.specs.declared.mark.Mark.TheVariants.{Skipped, NoHandler, NotLogging, Recorded, RecordedArg}

-- the marks, in the order of the passings, and how many there may be
pub record MarkList : Type 0 where
  pub items : List Mark
  pub room : ℕ

-- whether the passing recorded an event, with its argument or without
abbrev pub is_recorded : Mark → Bool
is_recorded Skipped = false
is_recorded NoHandler = false
is_recorded NotLogging = false
is_recorded Recorded = true
is_recorded RecordedArg = true

-- how many passings recorded an event
abbrev pub recorded_count : List Mark → ℕ
recorded_count marks = count_by is_recorded marks
