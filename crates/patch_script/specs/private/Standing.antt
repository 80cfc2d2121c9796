-- What the commands so far have done, as it is stored.
use Rattle.std.specs.Prelude.{◌≡◌, ℕ, zero, suc, Bool, true, false, ◌==◌, ◌||◌, List, slice_index_or, Option, Some, None, if◌then◌else◌}
use Rattle.std.specs.List.{list_any}
use Rattle.patch_script.specs.declared.command.PatchCommand.{PatchCommand}
use Rattle.patch_script.specs.declared.command.PatchCommand.TheVariants as commands
use Rattle.patch_script.specs.declared.standing.Hold.{Hold}
use Rattle.patch_script.specs.declared.standing.Hold.TheVariants.{Free, Held, Released}
use Rattle.patch_script.specs.declared.standing.Holds.{Holds}
use Rattle.patch_script.specs.declared.standing.Log.{Log}
use Rattle.patch_script.specs.declared.standing.Log.TheVariants.{Uninitialized, Initialized, Finalized}
use Rattle.patch_script.specs.declared.standing.Standing.{Standing}
use Rattle.patch_script.specs.Micros.{is_go, hold_of}
use Rattle.patch_script.specs.Refusals.{has_go, is_released, is_init, is_finalize}

-- the hold of a thread, by its number from 1
abbrev pub hold_in : Holds → ℕ → Hold
hold_in holds zero = Free
hold_in holds (suc n) = slice_index_or holds.threads n Free

-- the same, with another hold for one thread
abbrev pub with_hold : Holds → ℕ → Hold → ℕ → Hold
with_hold holds thread hold other = if thread == other then hold else hold_in holds other

-- the passing that a thread is held before
abbrev pub passing_of : Hold → Option ℕ
passing_of Free = None
passing_of (Held passing) = Some passing
passing_of (Released passing) = Some passing

abbrev pub was_released : Hold → Bool
was_released Free = false
was_released (Held passing) = false
was_released (Released passing) = true

abbrev pub is_held : Hold → Bool
is_held Free = false
is_held (Held passing) = true
is_held (Released passing) = false

abbrev pub any_held : Holds → Bool
any_held holds = list_any is_held holds.threads

-- the log was initialized, and finalized
abbrev pub was_initialized : Log → Bool
was_initialized Uninitialized = false
was_initialized Initialized = true
was_initialized Finalized = true

abbrev pub was_finalized : Log → Bool
was_finalized Uninitialized = false
was_finalized Initialized = false
was_finalized Finalized = true

-- the hold of a thread that is released
abbrev pub released_of : Hold → Hold
released_of Free = Free
released_of (Held passing) = Released passing
released_of (Released passing) = Released passing

-- the hold of a thread after a command
abbrev pub hold_after : ℕ → PatchCommand → Hold → Hold
hold_after thread (commands.Hold held passing) hold = if held == thread then Held passing else hold
hold_after thread (commands.Release released) hold = if released == thread then released_of hold else hold
hold_after thread commands.Patch hold = hold
hold_after thread commands.Unpatch hold = hold
hold_after thread (commands.PatchFunction id) hold = hold
hold_after thread (commands.UnpatchFunction id) hold = hold
hold_after thread commands.SetHandler hold = hold
hold_after thread commands.RemoveHandler hold = hold
hold_after thread commands.SetArgHandler hold = hold
hold_after thread commands.RemoveArgHandler hold = hold
hold_after thread commands.Init hold = hold
hold_after thread commands.Finalize hold = hold
hold_after thread commands.Go hold = hold
hold_after thread (commands.Await named count) hold = hold

-- the log after a command
abbrev pub log_after : PatchCommand → Log → Log
log_after commands.Init log = Initialized
log_after commands.Finalize log = Finalized
log_after commands.Patch log = log
log_after commands.Unpatch log = log
log_after (commands.PatchFunction id) log = log
log_after (commands.UnpatchFunction id) log = log
log_after commands.SetHandler log = log
log_after commands.RemoveHandler log = log
log_after commands.SetArgHandler log = log
log_after commands.RemoveArgHandler log = log
log_after (commands.Hold thread passing) log = log
log_after commands.Go log = log
log_after (commands.Release thread) log = log
log_after (commands.Await thread count) log = log

-- the new standing is the old one after a command
pub record Follows (old : Standing) (command : PatchCommand) (new : Standing) : Type 0 where
  pub going : new.going ≡ (old.going || is_go command)
  pub log : new.log ≡ log_after command old.log
  pub holds : (thread : ℕ) → hold_in new.holds thread ≡ hold_after thread command (hold_in old.holds thread)

-- the holds are those of the commands
pub record AreHolds (script : List PatchCommand) (holds : Holds) : Type 0 where
  pub passings : (thread : ℕ) → passing_of (hold_in holds thread) ≡ hold_of thread script
  pub released : (thread : ℕ) → was_released (hold_in holds thread) ≡ is_released thread script

pub record IsStanding (script : List PatchCommand) (standing : Standing) : Type 0 where
  pub going : standing.going ≡ has_go script
  pub initialized : was_initialized standing.log ≡ list_any is_init script
  pub finalized : was_finalized standing.log ≡ list_any is_finalize script
  pub holds : AreHolds script standing.holds
