-- What the steps of a Text add up to.
use Rattle.std.proofs.Common.{◌≡◌, ℕ, ◌+◌, ◌≤◌, List, [], ◌++◌, length, Option, Ok, ap, sym, subst, ◌∙◌}
use Rattle.std.proofs.lemmas.List.{append-nil}
use Rattle.xray_io.specs.Calls.{Write, Composes}
use Rattle.xray_io.specs.Text.{sink_of, loan_of, waiting, most_waiting, AddsText, Waits}
use Rattle.xray_io.specs.Writes.{Answer, Sends, sends_on}
use Rattle.xray_io.specs.declared.text.Text.{Text}

-- room was made, and then bytes were added
pub adds_after : {S : Type 0} {written : S → Option (List ℕ)} {faults : S → ℕ} {along : S → S → List Write → Type 0} → Composes along
    → (first second third : Text S) (bytes : List ℕ) (answer : Answer) → Sends written faults along (sink_of first) (sink_of second) (waiting first) (waiting second) (Ok tt)
    → (length (waiting first) + length bytes ≤ most_waiting → Waits first second [] (Ok tt)) → loan_of second ≡ loan_of first
    → AddsText written faults along second third bytes answer → AddsText written faults along first third bytes answer
adds_after both first second third bytes answer sent fits loan adds = record {
  sends = sends_on both bytes sent adds.sends;
  gathers = λ within.
      let room = fits within in
      let same : waiting second ≡ waiting first = room.waits ∙ append-nil (waiting first) in
      let P : List ℕ → Type 0 = λ w. length w + length bytes ≤ most_waiting in
      let kept = adds.gathers (subst P (sym same) within) in
      record { ok = kept.ok; sink = kept.sink ∙ room.sink; waits = kept.waits ∙ ap (λ (w : List ℕ). w ++ bytes) same };
  loan = adds.loan ∙ loan;
}
