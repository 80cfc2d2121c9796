-- A thread that executes the code, whose sleds have the bytes that the thread loaded.
-- In the plain run a sled is only counted, whatever its bytes are. Here each passing decodes its bytes, and does what the
-- Intel SDM says of them. Only the instructions of a patched sled write r10, and none reads it.
use Rattle.std.specs.Prelude.{◌≡◌, ◌+◌, ◌-ℤ◌, ◌==◌, ℕ, ℤ, pos, zero, suc, List, [], ◌∷◌, ◌++◌, length, take, if◌then◌else◌, find, nat_eq, Option, Some, None, option_and_then, option_map, slice_get, slice_set}
use Rattle.std.specs.Int.{to_le_bytes, w64}
use Rattle.std.specs.List.{flat_map, starts_with}
use Rattle.std.specs.Option.{option_map_or}
use Rattle.subset_decode.specs.declared.instr.Instr.TheVariants.{Mov, Call, Jmp}
use Rattle.subset_decode.specs.Encoding.{spelling}
use Rattle.xray_image.specs.declared.sled.Sled.{Sled}
use Rattle.xray_image.specs.declared.unit.What.{What}
use Rattle.xray_image.specs.declared.unit.What.TheVariants as whats
use Rattle.xray_image.specs.Program.{Program, Trampolines, trampoline_of}
use Rattle.sled_words.specs.CodeBytes.{part_size}
use Rattle.sled_words.specs.declared.part.Part.{Part}
use Rattle.sled_words.specs.declared.part.Part.TheVariants.{Head, Id, Opcode, Offset}
use Rattle.sled_words.specs.Words.{word_of}
use Rattle.machine_step.specs.declared.end.End.{End}
use Rattle.machine_step.specs.declared.end.End.TheVariants as ends
use Rattle.machine_step.specs.declared.limits.Limits.{Limits}
use Rattle.machine_step.specs.Loads.{Load}
use Rattle.machine_step.specs.PlainStep.{Ends, Goes, Next, State, does, fuelled, opening, returns}
use Rattle.machine_step.specs.Traced.{sleds_passed}
use Rattle.machine_step.specs.Whole.{loads_by_passing}
use Rattle.traced_run.specs.Runs.{ThreadRun}

-- ---- the bytes that a passing fetches

-- the bytes of a part of a sled that was loaded as this value, in little-endian order
abbrev pub loaded_bytes : Part → ℕ → List ℕ
loaded_bytes part value = take (part_size part) (to_le_bytes w64 value)

-- the bytes of a part of a sled, if a passing with these loads loaded it
abbrev pub part_fetched : ℕ → List Load → Part → List ℕ
part_fetched k loads part = option_map_or (λ load. loaded_bytes part load.value) (find (λ load. load.word == word_of k part) loads) []

-- the bytes of a sled that a passing fetched: those of the parts that it loaded, in the order of the sled
abbrev pub bytes_fetched : ℕ → List Load → List ℕ
bytes_fetched k loads = flat_map (part_fetched k loads) (Head ∷ Id ∷ Opcode ∷ Offset ∷ [])

-- ---- what they do

-- a state with this number in r10
abbrev pub with_r10 : ℕ → State → State
with_r10 r s = record s { registers = slice_set s.registers 10 r }

-- the state after a number of bytes
abbrev pub past : ℕ → State → State
past count s = record s { address = s.address + count }

-- the distance to the trampoline of a sled's kind, from the address after the sled, where the thread is at the sled
abbrev pub to_trampoline : Trampolines → Sled → State → ℤ
to_trampoline trampolines sled s = pos (trampoline_of trampolines sled.kind) -ℤ pos (s.address + 11)

-- What instructions do at a sled. A jump over the nine bytes after it goes on after the sled. A return returns, and needs
-- fuel. The move of the sled's id to r10 comes before a call of its trampoline or a jump to it. A trampoline gives the id
-- to the handler, keeps all registers, the zero flag and the stack, and returns to the address on top of the stack: after
-- a call to the address after the sled, and after a jump to the caller of the function.
abbrev pub sled_rows : Trampolines → Limits → Sled → State → List (List ℕ × Next)
sled_rows trampolines limits sled s =
    (0xEB ∷ 0x09 ∷ [], Goes (past 11 s))
    ∷ (0xC3 ∷ [], fuelled limits s (returns s s.stack))
    ∷ (spelling (Mov 10 sled.id) ++ spelling (Call (to_trampoline trampolines sled s)), Goes (past 11 (with_r10 sled.id s)))
    ∷ (spelling (Mov 10 sled.id) ++ spelling (Jmp (to_trampoline trampolines sled s)), fuelled limits (with_r10 sled.id s) (returns (with_r10 sled.id s) s.stack))
    ∷ []

-- The step at a sled whose bytes these are: that of the instructions with which they begin. With all other bytes there is
-- no step: those of a sled that is patched in part, with another id, or with another target.
abbrev pub sled_step : Trampolines → Limits → Sled → State → List ℕ → Option Next
sled_step trampolines limits sled s bytes =
    option_map (λ row. row.1) (find (λ row. starts_with nat_eq bytes row.0) (sled_rows trampolines limits sled s))

-- ---- runs

-- the step at a unit; `loads` has the loads of each passing, the first passing first
abbrev pub unit_step : Program → Limits → List (List Load) → State → What → Option Next
unit_step program limits loads s (whats.Plain instr) = Some (fuelled limits s (does s (s.address + length (spelling instr)) instr))
unit_step program limits loads s (whats.Sled k) =
    if s.passings == limits.passings then Some (Ends ends.Passings s)
    else option_and_then (λ sled. option_and_then
    (λ own. sled_step program.trampolines limits sled (record s { passings = s.passings + 1 }) (bytes_fetched k own))
    (slice_get loads s.passings)) (slice_get program.sleds k)
unit_step program limits loads s whats.Pad = Some (Goes (past 1 s))

-- the step of a thread, if it has one: that at the unit at its address, or its end if there is no unit
abbrev pub code_step : Program → Limits → List (List Load) → State → Option Next
code_step program limits loads s =
    option_map_or (λ u. unit_step program limits loads s u.what) (find (λ u. u.address == s.address) program.units)
    (Some (Ends ends.BadTarget s))

-- the end and the last state of a thread, if it comes to an end in at most this many steps
abbrev pub executed : Program → Limits → List (List Load) → ℕ → State → Option (End × State)
executed program limits loads zero s = None
executed program limits loads (suc n) s = after (code_step program limits loads s) (executed program limits loads n)
  where
    after : Option Next → (State → Option (End × State)) → Option (End × State)
    after None later = None
    after (Some (Goes next)) later = later next
    after (Some (Ends end last)) later = Some (end, last)

-- With these loads the thread executes the code from the entry function on, and comes to the end of the run. As it has at
-- most one step from a state, it comes to no other end. Its last state is that of the run except for
-- r10. The other registers, the zero flag, the stack, the output and the counts are the same.
pub record Executes (program : Program) (limits : Limits) (threads number : ℕ) (hold : Option ℕ) (run : ThreadRun) (loads : List Load) : Type 0 where
  pub steps : ℕ
  pub r10 : ℕ
  pub ends : executed program limits (loads_by_passing program threads number hold 0 (sleds_passed run.passed) loads) steps
      (opening program number) ≡ Some (run.end, with_r10 r10 run.last)
