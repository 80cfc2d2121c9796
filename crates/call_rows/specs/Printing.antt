-- Calls that are printed as they end.
use Rattle.std.specs.Prelude.{◌≡◌, ◌++◌, ℕ, List, Option, Result, Ok, Err}
use Rattle.xray_io.specs.Calls.{Write}
use Rattle.xray_io.specs.Sink.{AddsPrefix}
use Rattle.xray_io.specs.Text.{AddsText}
use Rattle.xray_io.specs.Writes.{WritesText}
use Rattle.xray_io.specs.declared.faults.WriteFault.{WriteFault}
use Rattle.xray_io.specs.declared.text.Text.{Text}
use Rattle.call_rows.specs.declared.printing.CallsFault.{CallsFault}
use Rattle.call_rows.specs.declared.printing.CallsFault.TheVariants.{NoMemory, Unwritten}

-- the answer to a writer of calls
abbrev pub CallsAnswer : Type 0
CallsAnswer = Result (Unit {0}) CallsFault

-- On Ok exactly this text was written to a sink. If a write failed, a prefix of it was written, and the sink counted a
-- fault. If memory ran out, a prefix of it was written.
abbrev pub WritesCalls : {S : Type 0} → (S → Option (List ℕ)) → (S → ℕ) → (S → S → List Write → Type 0)
    → S → S → List ℕ → CallsAnswer → Type 0
WritesCalls written faults along old new text (Ok done) = WritesText written faults along old new text (Ok tt)
WritesCalls written faults along old new text (Err Unwritten) = (fault : WriteFault) × WritesText written faults along old new text (Err fault)
WritesCalls written faults along old new text (Err NoMemory) = AddsPrefix (written old) (written new) text

-- the same of a text that is on its way to a sink
abbrev pub AddsCalls : {S : Type 0} → (S → Option (List ℕ)) → (S → ℕ) → (S → S → List Write → Type 0)
    → Text S → Text S → List ℕ → CallsAnswer → Type 0
AddsCalls written faults along old new text (Ok done) = AddsText written faults along old new text (Ok tt)
AddsCalls written faults along old new text (Err Unwritten) = (fault : WriteFault) × AddsText written faults along old new text (Err fault)
AddsCalls written faults along old new text (Err NoMemory) =
    (shown : List ℕ) × (rest : List ℕ) × (text ≡ shown ++ rest) × AddsText written faults along old new shown (Ok tt)
