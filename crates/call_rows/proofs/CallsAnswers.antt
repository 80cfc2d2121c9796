-- What a writer of calls answers.
use Rattle.std.proofs.Common.{◌≡◌, ◌++◌, ◌∙◌, ℕ, List, [], Option, Ok, Err, refl, ap, sym, subst, append_assoc}
use Rattle.std.specs.Prelude.{IsErrAnd}
use Rattle.xray_io.specs.Calls.{Composes, Write}
use Rattle.xray_io.specs.Sink.{AddsPrefix}
use Rattle.xray_io.specs.Text.{AddsText, adds_more, sink_of, waiting, writes_all, writes_failed}
use Rattle.xray_io.specs.Writes.{Sends, WritesText, prefix_of}
use Rattle.xray_io.specs.declared.faults.WriteFault.{WriteFault}
use Rattle.xray_io.specs.declared.text.Text.{Text}
use Rattle.call_rows.specs.declared.printing.CallsFault.{CallsFault}
use Rattle.call_rows.specs.declared.printing.CallsFault.TheVariants.{NoMemory, Unwritten}
use Rattle.call_rows.specs.Printing.{AddsCalls, CallsAnswer, WritesCalls}

pub calls_unwritten : {S : Type 0} {written : S → Option (List ℕ)} {faults : S → ℕ} {along : S → S → List Write → Type 0}
    → {first second : Text S} {x : List ℕ} {error : WriteFault} → AddsText written faults along first second x (Err error)
    → (answer : CallsAnswer) → IsErrAnd answer (λ e. e ≡ Unwritten) → AddsCalls written faults along first second x answer
calls_unwritten p (Ok done) is = absurd is
calls_unwritten {written = written} {faults = faults} {along = along} {first = first} {second = second} {x = x} {error = error} p (Err fault) is =
    let P : CallsFault → Type 0 = λ e. AddsCalls written faults along first second x (Err e) in
    subst P (sym is) (error, p)

pub calls_refused : {S : Type 0} {written : S → Option (List ℕ)} {faults : S → ℕ} {along : S → S → List Write → Type 0}
    → {first second : Text S} (shown rest whole : List ℕ) → whole ≡ shown ++ rest → AddsText written faults along first second shown (Ok tt)
    → (answer : CallsAnswer) → IsErrAnd answer (λ e. e ≡ NoMemory) → AddsCalls written faults along first second whole answer
calls_refused shown rest whole same p (Ok done) is = absurd is
calls_refused {written = written} {faults = faults} {along = along} {first = first} {second = second} shown rest whole same p (Err fault) is =
    let P : CallsFault → Type 0 = λ e. AddsCalls written faults along first second whole (Err e) in
    subst P (sym is) (shown, rest, same, p)

-- a text was added, and then calls
pub text_then_calls : {S : Type 0} {written : S → Option (List ℕ)} {faults : S → ℕ} {along : S → S → List Write → Type 0} → Composes along
    → {first second : Text S} (third : Text S) {x : List ℕ} (y : List ℕ) → AddsText written faults along first second x (Ok tt)
    → (answer : CallsAnswer) → AddsCalls written faults along second third y answer → AddsCalls written faults along first third (x ++ y) answer
text_then_calls both third y p (Ok done) q = adds_more both p q
text_then_calls both third y p (Err Unwritten) q = (q.0, adds_more both p q.1)
text_then_calls both third {x = x} y p (Err NoMemory) q =
    (x ++ q.0, q.1, ap (λ (l : List ℕ). x ++ l) q.2 ∙ sym (append_assoc x q.0 q.1), adds_more both p q.3)

-- the answer to a sink, if calls couldn't be added to an empty text
pub failed_calls : {S : Type 0} (written : S → Option (List ℕ)) (faults : S → ℕ) (along : S → S → List Write → Type 0)
    → (start : S) (first second : Text S) (text : List ℕ) → sink_of first ≡ start → waiting first ≡ [] → (fault : CallsFault)
    → AddsCalls written faults along first second text (Err fault) → (answer : CallsAnswer) → IsErrAnd answer (λ e. e ≡ fault)
    → WritesCalls written faults along start (sink_of second) text answer
failed_calls written faults along start first second text is empty fault p (Ok done) same = absurd same
failed_calls written faults along start first second text is empty Unwritten p (Err given) same =
    let P : CallsFault → Type 0 = λ e. WritesCalls written faults along start (sink_of second) text (Err e) in
    subst P (sym same) (p.0, writes_failed start first second is empty p.1 (Err p.0) refl)
failed_calls {S = S} written faults along start first second text is empty NoMemory p (Err given) same =
    let P : CallsFault → Type 0 = λ e. WritesCalls written faults along start (sink_of second) text (Err e) in
    let Q : List ℕ → Type 0 = λ w. Sends written faults along (sink_of first) (sink_of second) (w ++ p.0) (waiting second) (Ok tt) in
    let From : S → Type 0 = λ s. AddsPrefix (written s) (written (sink_of second)) text in
    subst P (sym same) (subst From is (prefix_more (subst Q empty p.3.sends)))
  where
    longer : (rest : List ℕ) → Sends written faults along (sink_of first) (sink_of second) p.0 (waiting second) (Ok tt)
        → Sends written faults along (sink_of first) (sink_of second) (p.0 ++ rest) (waiting second ++ rest) (Ok tt)
    longer rest sends = record {
      sent = sends.sent;
      rest = sends.rest ++ rest;
      order = ap (λ (l : List ℕ). l ++ rest) sends.order ∙ append_assoc sends.sent sends.rest rest;
      all = ap (λ (l : List ℕ). l ++ rest) sends.all;
      told = sends.told;
      calm = sends.calm;
      fault = sends.fault;
      later = sends.later;
      went = sends.went;
    }

    prefix_more : Sends written faults along (sink_of first) (sink_of second) p.0 (waiting second) (Ok tt) → AddsPrefix (written (sink_of first)) (written (sink_of second)) text
    prefix_more sends =
        let R : List ℕ → Type 0 = λ t. AddsPrefix (written (sink_of first)) (written (sink_of second)) t in
        subst R (sym p.2) (prefix_of (longer p.1 sends))

-- all calls were added to an empty text, which was then ended
pub ended_calls : {S : Type 0} (written : S → Option (List ℕ)) (faults : S → ℕ) (along : S → S → List Write → Type 0) → Composes along
    → (start end : S) (first second : Text S) (text : List ℕ) → sink_of first ≡ start → waiting first ≡ []
    → AddsText written faults along first second text (Ok tt) → (error : WriteFault) → WritesText written faults along (sink_of second) end (waiting second) (Err error)
    → (answer : CallsAnswer) → IsErrAnd answer (λ e. e ≡ Unwritten) → WritesCalls written faults along start end text answer
ended_calls written faults along both start end first second text is empty p error q (Ok done) same = absurd same
ended_calls written faults along both start end first second text is empty p error q (Err given) same =
    let P : CallsFault → Type 0 = λ e. WritesCalls written faults along start end text (Err e) in
    subst P (sym same) (error, writes_all both start end first second is empty p q)
