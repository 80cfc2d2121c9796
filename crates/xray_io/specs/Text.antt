-- What a Text was given, and what became of it.
use Rattle.std.specs.Prelude.{◌≡◌, ℕ, ◌+◌, ◌≤◌, List, [], ◌++◌, length, Option, Ok, Err, IsOk, IsErrAnd, refl}
use Rattle.std.proofs.Common.{sym, ap, subst, ◌∙◌, append_assoc}
use Rattle.std.proofs.Math.Nat.{add_assoc, le-add_right, le_trans}
use Rattle.std.proofs.lemmas.Bool.{false≢true}
use Rattle.std.proofs.lemmas.List.{append-nil, length-append}
use Rattle.xray_io.specs.Calls.{Write, HoldsOfNone, Composes}
use Rattle.xray_io.specs.Writes.{Answer, Sends, WritesText, sends_nothing, sends_on, sends_rest, sends_stop, sends_failed}
use Rattle.xray_io.specs.declared.faults.WriteFault.{WriteFault}
use Rattle.xray_io.specs.declared.text.Text.{Text}

-- the sink that it writes to
abbrev pub sink_of : {S : Type 0} → Text S → S
sink_of text = text.sink.now

-- which loan of the sink it holds
abbrev pub loan_of : {S : Type 0} → Text S → ℕ
loan_of text = text.sink.ghost_name

-- the bytes that wait for the sink
abbrev pub waiting : {S : Type 0} → Text S → List ℕ
waiting text = text.waiting

-- the most bytes that a Text lets wait
abbrev pub most_waiting : ℕ
most_waiting = 4096

-- these bytes only wait: the sink wasn't called
pub record Waits {S : Type 0} (old new : Text S) (bytes : List ℕ) (answer : Answer) : Type 0 where
  pub ok : IsOk answer
  pub sink : sink_of new ≡ sink_of old
  pub waits : waiting new ≡ waiting old ++ bytes

-- A Text was given these bytes. On Ok a prefix of all that waited and of these was written, and the rest waits. Bytes
-- that fit beside those that wait only wait. On Err a write failed, and a prefix was written.
pub record AddsText {S : Type 0} (written : S → Option (List ℕ)) (faults : S → ℕ) (along : S → S → List Write → Type 0)
    (old new : Text S) (bytes : List ℕ) (answer : Answer) : Type 0 where
  pub sends : Sends written faults along (sink_of old) (sink_of new) (waiting old ++ bytes) (waiting new) answer
  pub gathers : length (waiting old) + length bytes ≤ most_waiting → Waits old new bytes answer
  pub loan : loan_of new ≡ loan_of old

-- ---- laws

-- a Text that nothing is done to was given no bytes
pub adds_nothing : {S : Type 0} {written : S → Option (List ℕ)} {faults : S → ℕ} {along : S → S → List Write → Type 0} → HoldsOfNone along
    → (text : Text S) → AddsText written faults along text text [] (Ok tt)
adds_nothing {written = written} {faults = faults} {along = along} none text = record {
  sends =
      let P : List ℕ → Type 0 = λ bytes. Sends written faults along (sink_of text) (sink_of text) bytes (waiting text) (Ok tt) in
      subst P (sym (append-nil (waiting text))) (sends_nothing none (sink_of text) (waiting text));
  gathers = λ fits. record { ok = refl; sink = refl; waits = sym (append-nil (waiting text)) };
  loan = refl;
}

-- the bytes that wait, those that were given, and those that were given then, counted in two ways
sizes : (w x y : List ℕ) → length w + length (x ++ y) ≡ (length w + length x) + length y
sizes w x y = ap (λ n. length w + n) (length-append x y) ∙ sym (add_assoc (length w) (length x) (length y))

fits_first : (w x y : List ℕ) → length w + length (x ++ y) ≤ most_waiting → length w + length x ≤ most_waiting
fits_first w x y fits =
    let P : ℕ → Type 0 = λ n. n ≤ most_waiting in
    le_trans (le-add_right (length w + length x) (length y)) (subst P (sizes w x y) fits)

-- one text was added, and then another
pub adds_more : {S : Type 0} {written : S → Option (List ℕ)} {faults : S → ℕ} {along : S → S → List Write → Type 0} → Composes along
    → {first second third : Text S} {x y : List ℕ} {answer : Answer}
    → AddsText written faults along first second x (Ok tt) → AddsText written faults along second third y answer
    → AddsText written faults along first third (x ++ y) answer
adds_more {written = written} {faults = faults} {along = along} both {first = first} {second = second} {third = third} {x = x} {y = y} {answer = answer} p q = record {
  sends =
      let P : List ℕ → Type 0 = λ bytes. Sends written faults along (sink_of first) (sink_of third) bytes (waiting third) answer in
      subst P (append_assoc (waiting first) x y) (sends_on both y p.sends q.sends);
  gathers = λ fits.
      let one = p.gathers (fits_first (waiting first) x y fits) in
      let P : ℕ → Type 0 = λ n. n ≤ most_waiting in
      let size : (length (waiting first) + length x) + length y ≡ length (waiting second) + length y =
      ap (λ n. n + length y) (sym (ap length one.waits ∙ length-append (waiting first) x)) in
      let two = q.gathers (subst P (sizes (waiting first) x y ∙ size) fits) in
      record {
        ok = two.ok;
        sink = two.sink ∙ one.sink;
        waits = two.waits ∙ ap (λ (l : List ℕ). l ++ y) one.waits ∙ append_assoc (waiting first) x y;
      };
  loan = q.loan ∙ p.loan;
}

-- a text couldn't be added, and another was to follow
pub adds_stop : {S : Type 0} {written : S → Option (List ℕ)} {faults : S → ℕ} {along : S → S → List Write → Type 0}
    → {first second : Text S} {x : List ℕ} {error : WriteFault} (y : List ℕ) → AddsText written faults along first second x (Err error)
    → AddsText written faults along first second (x ++ y) (Err error)
adds_stop {written = written} {faults = faults} {along = along} {first = first} {second = second} {x = x} {error = error} y p = record {
  sends =
      let P : List ℕ → Type 0 = λ bytes. Sends written faults along (sink_of first) (sink_of second) bytes (waiting second) (Err error) in
      subst P (append_assoc (waiting first) x y) (sends_stop y (waiting second) p.sends);
  gathers = λ fits. absurd (false≢true (p.gathers (fits_first (waiting first) x y fits)).ok);
  loan = p.loan;
}

-- a text was added, another couldn't be, and more was to follow
pub adds_within : {S : Type 0} {written : S → Option (List ℕ)} {faults : S → ℕ} {along : S → S → List Write → Type 0} → Composes along
    → {first second third : Text S} {x y whole : List ℕ} {error : WriteFault} (rest : List ℕ)
    → AddsText written faults along first second x (Ok tt) → AddsText written faults along second third y (Err error) → (x ++ y) ++ rest ≡ whole
    → AddsText written faults along first third whole (Err error)
adds_within {written = written} {faults = faults} {along = along} both {first = first} {third = third} {error = error} rest p q is =
    let P : List ℕ → Type 0 = λ bytes. AddsText written faults along first third bytes (Err error) in
    subst P is (adds_stop rest (adds_more both p q))

-- the caller gets the same fault
pub adds_failed : {S : Type 0} {written : S → Option (List ℕ)} {faults : S → ℕ} {along : S → S → List Write → Type 0}
    → {first second : Text S} {x : List ℕ} {error : WriteFault} → AddsText written faults along first second x (Err error)
    → (answer : Answer) → IsErrAnd answer (λ e. e ≡ error) → AddsText written faults along first second x answer
adds_failed p (Ok done) is = absurd is
adds_failed {written = written} {faults = faults} {along = along} {first = first} {second = second} {x = x} p (Err error) is =
    let P : WriteFault → Type 0 = λ e. AddsText written faults along first second x (Err e) in
    subst P (sym is) p

-- a text is added to an empty Text, which is then ended: the text is written, with the answer of the end
pub writes_all : {S : Type 0} {written : S → Option (List ℕ)} {faults : S → ℕ} {along : S → S → List Write → Type 0} → Composes along
    → (start end : S) (first second : Text S) {bytes : List ℕ} {answer : Answer} → sink_of first ≡ start → waiting first ≡ []
    → AddsText written faults along first second bytes (Ok tt) → WritesText written faults along (sink_of second) end (waiting second) answer
    → WritesText written faults along start end bytes answer
writes_all {S = S} {written = written} {faults = faults} {along = along} both start end first second {bytes = bytes} {answer = answer} is empty p q =
    let From : S → Type 0 = λ s. WritesText written faults along s end bytes answer in
    let P : List ℕ → Type 0 = λ w. Sends written faults along (sink_of first) (sink_of second) (w ++ bytes) (waiting second) (Ok tt) in
    subst From is (sends_rest both (subst P empty p.sends) q)

-- a text that couldn't be added wasn't written whole
pub writes_failed : {S : Type 0} {written : S → Option (List ℕ)} {faults : S → ℕ} {along : S → S → List Write → Type 0}
    → (start : S) (first second : Text S) {bytes : List ℕ} {error : WriteFault} → sink_of first ≡ start → waiting first ≡ []
    → AddsText written faults along first second bytes (Err error) → (answer : Answer) → IsErrAnd answer (λ e. e ≡ error)
    → WritesText written faults along start (sink_of second) bytes answer
writes_failed start first second is empty p (Ok done) fails = absurd fails
writes_failed {S = S} {written = written} {faults = faults} {along = along} start first second {bytes = bytes} {error = error} is empty p (Err given) fails =
    let From : S → Type 0 = λ s. WritesText written faults along s (sink_of second) bytes (Err given) in
    let P : List ℕ → Type 0 = λ w. Sends written faults along (sink_of first) (sink_of second) (w ++ bytes) (waiting second) (Err error) in
    let E : WriteFault → Type 0 = λ e. Sends written faults along (sink_of first) (sink_of second) bytes [] (Err e) in
    subst From is (subst E (sym fails) (sends_failed (subst P empty p.sends)))
