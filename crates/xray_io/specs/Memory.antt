-- What a desk and a sink in memory show.
use Rattle.std.specs.Prelude.{◌≡◌, ℕ, ◌+◌, ◌-◌, ◌^◌, ◌<◌, ◌≤◌, List, length, Option, Some, None, Vec}
use Rattle.std.proofs.Common.{sym, ap, subst, ◌∙◌}
use Rattle.std.proofs.Math.Nat.{add-zero, add_assoc, le-add_right, le_trans, lt_of_not-le, not-le_of_lt}
use Rattle.std.proofs.lemmas.List.{length-append}
use Rattle.std.specs.BTreeMap.{get_by_text}
use Rattle.std.specs.declared.alloc.Global.{Global}
use Rattle.xray_io.specs.Calls.{CallMade, HoldsOfNone, Composes}
use Rattle.xray_io.specs.Desk.{Entry, Absent, Holds}
use Rattle.xray_io.specs.declared.memory.MemDesk.{MemDesk}
use Rattle.xray_io.specs.declared.memory.MemSink.{MemSink}

-- what a desk holds of a name, by the answer of its map
abbrev pub entry_of : Option (Vec ℕ Global) → Entry
entry_of None = Absent
entry_of (Some bytes) = Holds bytes.items

-- what the desk holds of a name
abbrev pub desk_entry : MemDesk → List ℕ → Entry
desk_entry desk name = entry_of (get_by_text desk.names name)

-- the numbers of the calls that are to fail
abbrev pub desk_failing : MemDesk → List ℕ
desk_failing desk = desk.calls.failing.items

-- how many calls there were
abbrev pub desk_calls : MemDesk → ℕ
desk_calls desk = desk.calls.made

-- The count of calls went up by one for each of these calls, unless it has come to its last value.
abbrev pub Counts : MemDesk → MemDesk → List CallMade → Type 0
Counts old new calls = desk_calls new < 2 ^ 64 - 1 → desk_calls new ≡ desk_calls old + length calls

pub counts_none : HoldsOfNone Counts
counts_none desk = λ below. sym (add-zero (desk_calls desk))

pub counts_both : Composes Counts
counts_both first second third calls later p q = λ below.
    let up : desk_calls second ≤ desk_calls third = subst (λ n. desk_calls second ≤ n) (sym (q below)) (le-add_right (desk_calls second) (length later)) in
    let before = p (lt_of_not-le (λ over. not-le_of_lt below (le_trans over up))) in
    q below ∙ ap (λ n. n + length later) before ∙ add_assoc (desk_calls first) (length calls) (length later)
    ∙ ap (λ n. desk_calls first + n) (sym (length-append calls later))

-- how many writes failed because memory ran out
abbrev pub desk_refused : MemDesk → ℕ
desk_refused desk = desk.refused

-- how many reads have failed
abbrev pub desk_read_faults : MemDesk → ℕ
desk_read_faults desk = desk.read_faults

-- how many writes have failed
abbrev pub desk_write_faults : MemDesk → ℕ
desk_write_faults desk = desk.write_faults

-- all that was written to the sink
abbrev pub sink_bytes : MemSink → List ℕ
sink_bytes sink = sink.bytes.items

-- the numbers of the calls that are to fail
abbrev pub sink_failing : MemSink → List ℕ
sink_failing sink = sink.calls.failing.items

-- how many calls there were
abbrev pub sink_calls : MemSink → ℕ
sink_calls sink = sink.calls.made

-- how many writes have failed
abbrev pub sink_faults : MemSink → ℕ
sink_faults sink = sink.faults

-- how many writes failed because memory ran out
abbrev pub sink_refused : MemSink → ℕ
sink_refused sink = sink.refused
