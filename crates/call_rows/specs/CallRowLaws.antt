-- What a caller may rely on of the rows of calls.
use Rattle.std.specs.Prelude.{◌≡◌, ◌<◌, ◌==◌, Bool, IsTrue, ℕ, List, [], length, filter, reverse, sum_by, MatchOption}
use Rattle.std.specs.List.{list_any}
use Rattle.fdr_record.specs.declared.event.Event.{Event}
use Rattle.fdr_file.specs.declared.trace.Block.{Block}
use Rattle.fdr_file.specs.ThreadEvents.{ThreadEvent}
use Rattle.stack_rebuild.specs.declared.call.Call.{Call}
use Rattle.stack_rebuild.specs.declared.call.Pair.{Pair}
use Rattle.stack_rebuild.specs.Calls.{enters}
use Rattle.stack_rebuild.specs.Histories.{ThreadPair, history_of_thread}
use Rattle.stack_rebuild.specs.PairLaws.{event_at}
use Rattle.stack_rebuild.specs.Stacks.{open_before}
use Rattle.account_report.specs.declared.row.AccountRow.{AccountRow}
use Rattle.call_rows.specs.declared.row.CallRow.{CallRow}
use Rattle.call_rows.specs.CallRows.{call_row, call_rows_of, event_number_at}

-- the rows of a function
abbrev pub rows_of_function : ℕ → List CallRow → List CallRow
rows_of_function func rows = filter (λ row. row.func == func) rows

-- The pairs of a function in an account are its calls, and their durations too.
pub record SumsCalls (blocks : List Block) (row : AccountRow) : Type 0 where
  pub count : row.count ≡ length (rows_of_function row.func (call_rows_of blocks))
  pub sum : row.sum ≡ sum_by (λ call. call.duration) (rows_of_function row.func (call_rows_of blocks))

-- whether the call with its entry at a position is among some calls
abbrev pub is_open_at : ℕ → List Call → Bool
is_open_at at calls = list_any (λ call. call.entry == at) calls

-- An event of a thread encloses a pair of it: it is an earlier entry, and its call is open just before the pair's entry and
-- just before the pair's exit.
pub record Encloses (events : List Event) (at : ℕ) (pair : Pair) : Type 0 where
  pub earlier : at < pair.entry
  pub entry : IsTrue (enters (event_at events at).kind)
  pub begins : IsTrue (is_open_at at (open_before events pair.entry))
  pub ends : IsTrue (is_open_at at (open_before events pair.exit))

-- The parent of a call is the number of an entry of its thread that encloses it. A call has none exactly if nothing is
-- open just before its entry.
abbrev pub HasItsParent : List ThreadEvent → ThreadPair → Type 0
HasItsParent history made =
    let own = reverse (history_of_thread made.thread history) in
    MatchOption (call_row history made).parent (open_before own made.pair.entry ≡ [])
    (λ parent. (at : ℕ) × (event_number_at history made.thread at ≡ parent) × Encloses own at made.pair)
