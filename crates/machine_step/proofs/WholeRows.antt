-- Worked examples of the loads of passings, checked by computing.
use Rattle.std.proofs.Common.{◌≡◌, ℕ, List, [], ◌∷◌, true, Some, None, refl}
use Rattle.xray_image.specs.declared.sled.Sled.{Sled}
use Rattle.xray_image.specs.declared.sled.SledKind.TheVariants.{Entry, Exit, Args}
use Rattle.xray_image.specs.Program.{Program}
use Rattle.handler_word.specs.declared.mark.Mark.TheVariants.{Skipped, NoHandler, NotLogging, Recorded, RecordedArg}
use Rattle.machine_step.specs.Loads.{Load, marks_of, next_load, recording_of}
use Rattle.machine_step.specs.Whole.{loads_by_passing}

-- a function with a sled at its entry and one at its exit
two_sleds : List Sled
two_sleds =
    record { address = 4096; function = 4096; id = 1; kind = Entry; always = true; shift = 512 }
    ∷ record { address = 4114; function = 4096; id = 1; kind = Exit; always = true; shift = 512 } ∷ []

example : Program
example = record { base = 4096; entry = 4096; code = []; functions = []; units = []; sleds = two_sleds; trampolines = record { entry = 0x201000; exit = 0x201010; tail = 0x201020; args = 0x201030 } }

load : ℕ → ℕ → Load
load word value = record { word = word; value = value }

-- at the entry a patched head with its other parts, and no handler
at_entry : List Load
at_entry = load 0 0xBA41 ∷ load 1 1 ∷ load 2 0xE8 ∷ load 3 0x1FFFF5 ∷ load 8 0 ∷ []

-- A thread is held at its second passing, which is the exit. It loads its release word until that is 1, and then an
-- unpatched head.
at_exit : List Load
at_exit = load 10 0 ∷ load 10 1 ∷ load 4 0xBAC3 ∷ []

both_passings : loads_by_passing example 1 1 (Some 1) 0 (0 ∷ 1 ∷ [])
    (load 0 0xBA41 ∷ load 1 1 ∷ load 2 0xE8 ∷ load 3 0x1FFFF5 ∷ load 8 0 ∷ load 10 0 ∷ load 10 1 ∷ load 4 0xBAC3 ∷ [])
    ≡ at_entry ∷ at_exit ∷ []
unfolding example two_sleds load at_entry at_exit
both_passings = refl

both_marks : marks_of example 1 1 (Some 1) (0 ∷ 1 ∷ [])
    (load 0 0xBA41 ∷ load 1 1 ∷ load 2 0xE8 ∷ load 3 0x1FFFF5 ∷ load 8 0 ∷ load 10 0 ∷ load 10 1 ∷ load 4 0xBAC3 ∷ [])
    ≡ NoHandler ∷ Skipped ∷ []
unfolding example two_sleds load
both_marks = refl

-- a passing without a mark isn't one of them
open_passing : loads_by_passing example 1 1 None 0 (0 ∷ 1 ∷ []) (load 0 0xBA41 ∷ load 1 1 ∷ []) ≡ []
unfolding example two_sleds load
open_passing = refl

opcode_next : next_load example 1 1 None (0 ∷ 1 ∷ []) (load 0 0xBA41 ∷ load 1 1 ∷ []) ≡ Some 2
unfolding example two_sleds load
opcode_next = refl

-- the same function, whose sled at the entry logs arguments
arg_sleds : List Sled
arg_sleds =
    record { address = 4096; function = 4096; id = 1; kind = Args; always = true; shift = 512 }
    ∷ record { address = 4114; function = 4096; id = 1; kind = Exit; always = true; shift = 512 } ∷ []

args_example : Program
args_example = record example { sleds = arg_sleds }

-- the loads of its patched parts, and some after them
entered : List Load → List Load
entered loads = load 0 0xBA41 ∷ load 1 1 ∷ load 2 0xE8 ∷ load 3 0x200025 ∷ loads

-- the argument handler word comes after the offset
arg_handler_next : next_load args_example 1 1 None (0 ∷ 1 ∷ []) (entered []) ≡ Some 12
unfolding example args_example arg_sleds load entered
arg_handler_next = refl

-- if it is 1, the state word comes next, and the event is recorded with its argument
state_next : next_load args_example 1 1 None (0 ∷ 1 ∷ []) (entered (load 12 1 ∷ [])) ≡ Some 9
unfolding example args_example arg_sleds load entered
state_next = refl

records_argument : recording_of args_example 1 1 None (0 ∷ 1 ∷ []) (entered (load 12 1 ∷ [])) ≡ RecordedArg
unfolding example args_example arg_sleds load entered
records_argument = refl

with_argument : marks_of args_example 1 1 None (0 ∷ 1 ∷ []) (entered (load 12 1 ∷ load 9 2 ∷ [])) ≡ RecordedArg ∷ []
unfolding example args_example arg_sleds load entered
with_argument = refl

finalizing : marks_of args_example 1 1 None (0 ∷ 1 ∷ []) (entered (load 12 1 ∷ load 9 3 ∷ [])) ≡ NotLogging ∷ []
unfolding example args_example arg_sleds load entered
finalizing = refl

-- if it is 0, the handler word comes next
handler_next : next_load args_example 1 1 None (0 ∷ 1 ∷ []) (entered (load 12 0 ∷ [])) ≡ Some 8
unfolding example args_example arg_sleds load entered
handler_next = refl

without_argument : marks_of args_example 1 1 None (0 ∷ 1 ∷ []) (entered (load 12 0 ∷ load 8 1 ∷ load 9 2 ∷ [])) ≡ Recorded ∷ []
unfolding example args_example arg_sleds load entered
without_argument = refl

neither_handler : marks_of args_example 1 1 None (0 ∷ 1 ∷ []) (entered (load 12 0 ∷ load 8 0 ∷ [])) ≡ NoHandler ∷ []
unfolding example args_example arg_sleds load entered
neither_handler = refl
