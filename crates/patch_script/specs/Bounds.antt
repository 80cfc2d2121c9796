-- The bounds of passings: how far the patcher may have come while a thread makes a passing.
use Rattle.std.specs.Prelude.{ℕ, List, Bool, false, ◌==◌, ◌&&◌, nat_lt}
use Rattle.std.specs.List.{position_or_len}
use Rattle.xray_image.specs.Program.{Program}
use Rattle.patch_script.specs.declared.command.PatchCommand.{PatchCommand}
use Rattle.patch_script.specs.declared.micro.Micro.{Micro}
use Rattle.patch_script.specs.declared.micro.Micro.TheVariants.{Store, Await, End}
use Rattle.patch_script.specs.Micros.{micros}

-- at this micro step the patcher waits until the thread has made this passing, counted from 0
abbrev pub awaits_passing : ℕ → ℕ → Micro → Bool
awaits_passing thread passing (Store word value) = false
awaits_passing thread passing (Await awaited count) = (awaited == thread) && nat_lt passing count
awaits_passing thread passing End = false

-- the bound of a thread's passing: the number of the first micro step that awaits it, or of all micro steps if none
-- does
abbrev pub bound_of : Program → ℕ → List PatchCommand → ℕ → ℕ → ℕ
bound_of program threads script thread passing = position_or_len (awaits_passing thread passing) (micros program threads script)
