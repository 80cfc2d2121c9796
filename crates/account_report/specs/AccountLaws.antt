-- What a caller may rely on of the rows of an account.
use Rattle.std.specs.Prelude.{◌≡◌, ◌+◌, ◌==◌, Bool, false, ℕ, List, [], ◌∷◌, reverse, sum_by, count_by, if◌then◌else◌}
use Rattle.fdr_file.specs.declared.trace.Block.{Block}
use Rattle.fdr_file.specs.ThreadEvents.{thread_events}
use Rattle.stack_rebuild.specs.Stacks.{stack_of}
use Rattle.account_report.specs.declared.row.AccountRow.{AccountRow}
use Rattle.account_report.specs.Account.{is_entry_of, is_exit_of}

-- Each entry into the function is in one of its pairs, or is counted as an entry in no pair. So is each exit or tail
-- exit.
pub record CountsEach (blocks : List Block) (row : AccountRow) : Type 0 where
  pub entries : row.count + row.entries ≡ count_by (is_entry_of row.func) (thread_events blocks)
  pub exits : row.count + row.exits ≡ count_by (is_exit_of row.func) (thread_events blocks)

-- whether a path ends in a function
abbrev pub begins_in : ℕ → List ℕ → Bool
begins_in func [] = false
begins_in func (f ∷ inner) = f == func

abbrev pub ends_in : ℕ → List ℕ → Bool
ends_in func path = begins_in func (reverse path)

-- The pairs of the function are those of the stacks whose paths end in it, and their durations too.
pub record SumsStacks (blocks : List Block) (row : AccountRow) : Type 0 where
  pub count : row.count ≡ sum_by (λ stack. if ends_in row.func stack.path then stack.count else 0) (stack_of blocks)
  pub sum : row.sum ≡ sum_by (λ stack. if ends_in row.func stack.path then stack.sum else 0) (stack_of blocks)
