-- What is kept of each function while events are taken, for the contracts of private functions.
use Rattle.std.specs.Prelude.{◌+◌, ◌-◌, ◌==◌, ◌||◌, Bool, ℕ, List, [], ◌∷◌, ◌++◌, length, map, count_by, nat_eq, nat_lt, slice_index_or, unwrap_or, if◌then◌else◌, Option}
use Rattle.std.specs.List.{list_any}
use Rattle.std.specs.Option.{option_to_list}
use Rattle.std.specs.HashMap.{get, HashMap}
use Rattle.std.specs.declared.hash.FoldHasher.{FoldHasher}
use Rattle.std.specs.declared.hash.BuildHasherDefault.{BuildHasherDefault}
use Rattle.fdr_record.specs.declared.event.Kind.{Kind}
use Rattle.fdr_record.specs.declared.event.Kind.TheVariants.{Entry, Exit, TailExit, EntryArgs}
use Rattle.fdr_file.specs.ThreadEvents.{ThreadEvent}
use Rattle.stack_rebuild.specs.declared.call.Pair.{Pair}
use Rattle.stack_rebuild.specs.Calls.{Standing, standing_after}
use Rattle.account_report.specs.declared.row.AccountRow.{AccountRow}
use Rattle.account_report.specs.Account.{durations_of, is_entry_of, is_exit_of, row_from}
use Rattle.account_report.specs.Ascending.{ascending}

-- the durations of a function, and how many entries and exits it had
pub record Tallied : Type 0 where
  pub durations : List ℕ
  pub entries : ℕ
  pub exits : ℕ

abbrev pub no_tally : Tallied
no_tally = record { durations = []; entries = 0; exits = 0 }

abbrev pub tally_of : List ThreadEvent → ℕ → Tallied
tally_of history func = record {
  durations = durations_of func history;
  entries = count_by (is_entry_of func) history;
  exits = count_by (is_exit_of func) history;
}

-- an event of the function, and the pair that it makes
abbrev pub with_event : Kind → List ℕ → Tallied → Tallied
with_event Entry durations tally = record tally { durations = tally.durations ++ durations; entries = tally.entries + 1 }
with_event EntryArgs durations tally = record tally { durations = tally.durations ++ durations; entries = tally.entries + 1 }
with_event Exit durations tally = record tally { durations = tally.durations ++ durations; exits = tally.exits + 1 }
with_event TailExit durations tally = record tally { durations = tally.durations ++ durations; exits = tally.exits + 1 }

abbrev pub durations_in : Option Pair → List ℕ
durations_in pair = map (λ p. p.duration) (option_to_list pair)

-- tables with numbers as keys
abbrev pub Table : Type 0 → Type 0
Table X = HashMap ℕ X (BuildHasherDefault FoldHasher)

-- the tally of a function in a list, by its id
abbrev pub tally_listed : List Tallied → ℕ → Tallied
tally_listed first func = slice_index_or first func no_tally

-- the tally of a function in a table
abbrev pub tally_tabled : Table Tallied → ℕ → Tallied
tally_tabled others func = unwrap_or (get nat_eq others func) no_tally

-- whether a function had an event
abbrev pub has_events : Tallied → Bool
has_events tally = nat_lt 0 tally.entries || nat_lt 0 tally.exits

abbrev pub standing_in : Table Standing → ℕ → Standing
standing_in threads thread = unwrap_or (get nat_eq threads thread) (standing_after [])

-- a function has an event in a history
abbrev pub has_event : List ThreadEvent → ℕ → Bool
has_event history func = list_any (λ e. e.event.func == func) history

-- the row of a function with these durations, in any order, and with these numbers of entries and exits; each pair has
-- one of both
abbrev pub row_with : ℕ → List ℕ → ℕ → ℕ → AccountRow
row_with func durations entries exits =
    let sorted = ascending durations in row_from func sorted (entries - length sorted) (exits - length sorted)

-- the row of a function in a table
abbrev pub row_of_entry : ℕ × Tallied → AccountRow
row_of_entry (func, tally) = row_with func tally.durations tally.entries tally.exits

-- the functions in a list that had an event, the first of which has this id
abbrev pub first_entries : ℕ → List Tallied → List (ℕ × Tallied)
first_entries func [] = []
first_entries func (tally ∷ later) = if has_events tally then (func, tally) ∷ first_entries (func + 1) later else first_entries (func + 1) later
