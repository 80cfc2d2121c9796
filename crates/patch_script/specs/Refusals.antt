-- The refusals of scripts, in the order of the checks: line by line, for each line in the order of its rows, and then
-- at the end of the text. Each row is a condition on the commands before the line.
use Rattle.std.specs.Prelude.{◌≡◌, ℕ, ◌||◌, ◌&&◌, ◌==◌, Bool, true, false, not, nat_lt, nat_le, List, [], ◌∷◌, ◌++◌, length, map, Option, None, is_some, Result, Ok, Err, if◌then◌else◌}
use Rattle.std.specs.Option.{option_map_or}
use Rattle.std.specs.List.{list_any}
use Rattle.xray_io.specs.Rows.{First, NeedsPart, InTurn}
use Rattle.text_lines.specs.Words.{is_clean, words_of}
use Rattle.xray_image.specs.Program.{Program}
use Rattle.xray_image.specs.Ids.{id_count}
use Rattle.patch_script.specs.declared.command.PatchCommand.{PatchCommand}
use Rattle.patch_script.specs.declared.command.PatchCommand.TheVariants as commands
use Rattle.patch_script.specs.declared.fault.ScriptFault.{ScriptFault}
use Rattle.patch_script.specs.declared.fault.ScriptFault.TheVariants.{Limit, Syntax, Function, Thread, Go, Hold, Log, SelfWait}
use Rattle.patch_script.specs.Micros.{is_go, hold_of}
use Rattle.patch_script.specs.Limits.{most_commands}
use Rattle.patch_script.specs.Language.{command_of}

-- the commands of a script, each with the number of its line
abbrev pub Lines : Type 0
Lines = List (ℕ × PatchCommand)

abbrev pub commands_of : Lines → List PatchCommand
commands_of lines = map (λ line. line.1) lines

-- ---- what the commands so far have done

abbrev pub has_go : List PatchCommand → Bool
has_go before = list_any is_go before

abbrev pub is_held : ℕ → List PatchCommand → Bool
is_held thread before = is_some (hold_of thread before)

abbrev pub releases : ℕ → PatchCommand → Bool
releases thread (commands.Release released) = released == thread
releases thread _ = false

abbrev pub is_released : ℕ → List PatchCommand → Bool
is_released thread before = list_any (releases thread) before

abbrev pub is_init : PatchCommand → Bool
is_init commands.Init = true
is_init _ = false

abbrev pub is_finalize : PatchCommand → Bool
is_finalize commands.Finalize = true
is_finalize _ = false

-- ---- the rows of a line, by the commands before it

-- ids and threads count from 1
abbrev pub is_beyond : ℕ → ℕ → Bool
is_beyond count number = number == 0 || nat_lt count number

abbrev pub names_no_function : Program → PatchCommand → Bool
names_no_function program (commands.PatchFunction id) = is_beyond (id_count program) id
names_no_function program (commands.UnpatchFunction id) = is_beyond (id_count program) id
names_no_function program commands.Patch = false
names_no_function program commands.Unpatch = false
names_no_function program commands.SetHandler = false
names_no_function program commands.RemoveHandler = false
names_no_function program commands.SetArgHandler = false
names_no_function program commands.RemoveArgHandler = false
names_no_function program commands.Init = false
names_no_function program commands.Finalize = false
names_no_function program (commands.Hold thread passing) = false
names_no_function program commands.Go = false
names_no_function program (commands.Release thread) = false
names_no_function program (commands.Await thread count) = false

abbrev pub names_no_thread : ℕ → PatchCommand → Bool
names_no_thread threads (commands.Hold thread passing) = is_beyond threads thread
names_no_thread threads (commands.Release thread) = is_beyond threads thread
names_no_thread threads (commands.Await thread count) = is_beyond threads thread
names_no_thread threads commands.Patch = false
names_no_thread threads commands.Unpatch = false
names_no_thread threads (commands.PatchFunction id) = false
names_no_thread threads (commands.UnpatchFunction id) = false
names_no_thread threads commands.SetHandler = false
names_no_thread threads commands.RemoveHandler = false
names_no_thread threads commands.SetArgHandler = false
names_no_thread threads commands.RemoveArgHandler = false
names_no_thread threads commands.Init = false
names_no_thread threads commands.Finalize = false
names_no_thread threads commands.Go = false

-- Threads are held before `go`, and released and awaited after it. There is one `go`.
abbrev pub is_misplaced : List PatchCommand → PatchCommand → Bool
is_misplaced before commands.Go = has_go before
is_misplaced before (commands.Hold thread passing) = has_go before
is_misplaced before (commands.Release thread) = not (has_go before)
is_misplaced before (commands.Await thread count) = not (has_go before)
is_misplaced before commands.Patch = false
is_misplaced before commands.Unpatch = false
is_misplaced before (commands.PatchFunction id) = false
is_misplaced before (commands.UnpatchFunction id) = false
is_misplaced before commands.SetHandler = false
is_misplaced before commands.RemoveHandler = false
is_misplaced before commands.SetArgHandler = false
is_misplaced before commands.RemoveArgHandler = false
is_misplaced before commands.Init = false
is_misplaced before commands.Finalize = false

-- a thread is held once, and a held thread is released once
abbrev pub breaks_hold : List PatchCommand → PatchCommand → Bool
breaks_hold before (commands.Hold thread passing) = is_held thread before
breaks_hold before (commands.Release thread) = not (is_held thread before) || is_released thread before
breaks_hold before commands.Patch = false
breaks_hold before commands.Unpatch = false
breaks_hold before (commands.PatchFunction id) = false
breaks_hold before (commands.UnpatchFunction id) = false
breaks_hold before commands.SetHandler = false
breaks_hold before commands.RemoveHandler = false
breaks_hold before commands.SetArgHandler = false
breaks_hold before commands.RemoveArgHandler = false
breaks_hold before commands.Init = false
breaks_hold before commands.Finalize = false
breaks_hold before commands.Go = false
breaks_hold before (commands.Await thread count) = false

-- the log is initialized once, and finalized once after that
abbrev pub breaks_log : List PatchCommand → PatchCommand → Bool
breaks_log before commands.Init = list_any is_init before
breaks_log before commands.Finalize = not (list_any is_init before) || list_any is_finalize before
breaks_log before commands.Patch = false
breaks_log before commands.Unpatch = false
breaks_log before (commands.PatchFunction id) = false
breaks_log before (commands.UnpatchFunction id) = false
breaks_log before commands.SetHandler = false
breaks_log before commands.RemoveHandler = false
breaks_log before commands.SetArgHandler = false
breaks_log before commands.RemoveArgHandler = false
breaks_log before (commands.Hold thread passing) = false
breaks_log before commands.Go = false
breaks_log before (commands.Release thread) = false
breaks_log before (commands.Await thread count) = false

-- a thread that is held before a passing, and not released, makes no more passings than the ones before it
abbrev pub waits_for_itself : List PatchCommand → PatchCommand → Bool
waits_for_itself before (commands.Await thread count) =
    option_map_or (λ passing. nat_lt passing count) (hold_of thread before) false && not (is_released thread before)
waits_for_itself before commands.Patch = false
waits_for_itself before commands.Unpatch = false
waits_for_itself before (commands.PatchFunction id) = false
waits_for_itself before (commands.UnpatchFunction id) = false
waits_for_itself before commands.SetHandler = false
waits_for_itself before commands.RemoveHandler = false
waits_for_itself before commands.SetArgHandler = false
waits_for_itself before commands.RemoveArgHandler = false
waits_for_itself before commands.Init = false
waits_for_itself before commands.Finalize = false
waits_for_itself before (commands.Hold thread passing) = false
waits_for_itself before commands.Go = false
waits_for_itself before (commands.Release thread) = false

-- no row refuses a command that follows these
pub record IsAdmitted (program : Program) (threads : ℕ) (before : List PatchCommand) (command : PatchCommand) : Type 0 where
  pub function : names_no_function program command ≡ false
  pub thread : names_no_thread threads command ≡ false
  pub place : is_misplaced before command ≡ false
  pub hold : breaks_hold before command ≡ false
  pub log : breaks_log before command ≡ false
  pub wait : waits_for_itself before command ≡ false

-- the lines with one more, or the first row that refuses it
abbrev pub judged : Program → ℕ → Lines → ℕ → PatchCommand → Result Lines ScriptFault
judged program threads before number command =
    First (names_no_function program command) (Err (Function number))
    (First (names_no_thread threads command) (Err (Thread number))
    (First (is_misplaced (commands_of before) command) (Err (Go number))
    (First (breaks_hold (commands_of before) command) (Err (Hold number))
    (First (breaks_log (commands_of before) command) (Err (Log number))
    (First (waits_for_itself (commands_of before) command) (Err (SelfWait number))
    (Ok (before ++ (number, command) ∷ [])))))))

-- words that aren't a command are refused earlier
abbrev pub spoken : Program → ℕ → Lines → ℕ → Option PatchCommand → Result Lines ScriptFault
spoken program threads before number said =
    NeedsPart said (Err (Syntax number)) (λ command. judged program threads before number command)

-- the command of a line, which has to be clean
abbrev pub command_in : List ℕ → Option PatchCommand
command_in line = if is_clean line then command_of (words_of line) else None

-- A line without words is skipped. The 1,025th line with words is refused before anything else is checked.
abbrev pub with_line : Program → ℕ → Lines → ℕ × List ℕ → Result Lines ScriptFault
with_line program threads before (number, line) =
    First (length (words_of line) == 0) (Ok before)
    (First (nat_le most_commands (length before)) (Err (Limit number))
    (spoken program threads before number (command_in line)))

-- the commands of all lines, after those before them, or the first refusal
abbrev pub read_lines : Program → ℕ → Lines → List (ℕ × List ℕ) → Result Lines ScriptFault
read_lines program threads before lines = InTurn (λ said line. with_line program threads said line) before lines

-- ---- the rows at the end of the text

-- a command holds a thread that no command releases
abbrev pub holds_for_good : List PatchCommand → PatchCommand → Bool
holds_for_good script (commands.Hold thread passing) = not (is_released thread script)
holds_for_good script _ = false

-- what is missing at the end is refused with the number after the last line
abbrev pub ended : ℕ → Lines → Result Lines ScriptFault
ended number lines =
    First (not (has_go (commands_of lines))) (Err (Go number))
    (First (list_any (holds_for_good (commands_of lines)) (commands_of lines)) (Err (Hold number))
    (Ok lines))
