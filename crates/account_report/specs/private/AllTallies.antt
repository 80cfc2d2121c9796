-- What is kept of all functions while events are taken: those with low ids are in a list, and the others in a table.
use Rattle.std.specs.Prelude.{◌≡◌, ◌≤◌, ◌++◌, ◌&&◌, ℕ, List, length, nat_eq, nat_le, nat_lt, is_some, if◌then◌else◌}
use Rattle.std.specs.HashMap.{get}
use Rattle.fdr_file.specs.ThreadEvents.{ThreadEvent}
use Rattle.stack_rebuild.specs.Calls.{Standing, standing_after}
use Rattle.stack_rebuild.specs.Histories.{history_of_thread}
use Rattle.account_report.specs.declared.tallies.Tallies.{Tallies}
use Rattle.account_report.specs.declared.tallies.TheConstants.{FEW}
use Rattle.account_report.specs.private.Tallies.{Tallied, first_entries, has_event, tally_tabled, tally_listed, tally_of}

-- the tally of a function
abbrev pub tally_in : Tallies → ℕ → Tallied
tally_in tallies func = if nat_lt func FEW then tally_listed tallies.first.items func else tally_tabled tallies.others func

-- what is kept of the functions is what a history says of them
pub record AreTallies (tallies : Tallies) (history : List ThreadEvent) : Type 0 where
  pub each : (func : ℕ) → tally_in tallies func ≡ tally_of history func
  pub few : length tallies.first.items ≤ FEW
  pub present : (func : ℕ) → is_some (get nat_eq tallies.others func) ≡ (nat_le FEW func && has_event history func)

-- the calls of a thread and the tallies of the functions, after a history
pub record Reached (thread : ℕ) (history : List ThreadEvent) (calls : Standing) (tallies : Tallies) : Type 0 where
  pub stands : calls ≡ standing_after (history_of_thread thread history)
  pub tallied : AreTallies tallies history

-- the functions that had an event
abbrev pub entries_in : Tallies → List (ℕ × Tallied)
entries_in tallies = first_entries 0 tallies.first.items ++ tallies.others.entries
