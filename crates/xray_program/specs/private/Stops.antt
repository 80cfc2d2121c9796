-- What ends a call before all is done: its status and its line on err.
use Rattle.std.specs.Prelude.{◌≡◌, ℕ, List, [], Option, None, Result, Ok, Err}
use Rattle.command_words.specs.Words.{Command}
use Rattle.fault_words.specs.Words.{words_text}
use Rattle.xray_program.specs.Outcomes.{BadLine, Unread, TooLong, Refused, Unwritten, NoMemory, err_line, err_line_of, err_line_at}
use Rattle.xray_program.specs.declared.stop.Stop.{Stop}
use Rattle.xray_program.specs.declared.stop.Stop.TheVariants as stops

-- the status
abbrev pub stop_status : Stop → ℕ
stop_status stops.BadLine = 1
stop_status (stops.Refused name kind words) = 2
stop_status (stops.Unread name) = 3
stop_status (stops.Unwritten name) = 4
stop_status stops.NoMemory = 5
stop_status (stops.TooLong name) = 6
stop_status (stops.Fell trouble) = 7

-- the line on err
abbrev pub stop_line : Stop → List ℕ
stop_line stops.BadLine = err_line_of BadLine
stop_line (stops.Refused name kind words) = err_line_of (Refused name.now kind.now (words_text words))
stop_line (stops.Unread name) = err_line_of (Unread name.now)
stop_line (stops.Unwritten name) = err_line_at (Unwritten name.now [])
stop_line stops.NoMemory = err_line_at NoMemory
stop_line (stops.TooLong name) = err_line_of (TooLong name.now)
stop_line (stops.Fell trouble) = err_line (words_text trouble)

-- why words say no command: they say none, or memory ran out while they were read
abbrev pub IsUnsaid : Option Command → Stop → Type 0
IsUnsaid said stops.BadLine = said ≡ None
IsUnsaid said stops.NoMemory = Unit {0}
IsUnsaid said stop = ⊥

-- the status and the line of a call that went like this: 0 and none if nothing stopped it
abbrev pub answer_of : {X : Type 0} → Result X Stop → ℕ
answer_of (Ok value) = 0
answer_of (Err stop) = stop_status stop

abbrev pub told_of : {X : Type 0} → Result X Stop → List ℕ
told_of (Ok value) = []
told_of (Err stop) = stop_line stop
