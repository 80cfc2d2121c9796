-- How bytes are written to a sink.
use Rattle.std.specs.Prelude.{◌≡◌, ℕ, ◌+◌, ◌≤◌, List, [], ◌∷◌, ◌++◌, length, take, Option, Some, None, option_map, Result, Ok, Err, OnOk, OnErr, refl}
use Rattle.std.proofs.Common.{sym, ap, subst, ◌∙◌, append_assoc}
use Rattle.std.proofs.Math.Nat.{zero-add, add_assoc, le_refl, le-add_right}
use Rattle.std.proofs.lemmas.List.{append-nil, length-append}
use Rattle.std.proofs.Math.Seq.{take-append_seam}
use Rattle.std.proofs.lemmas.Result.{on_ok_weaker, on_err_weaker}
use Rattle.xray_io.specs.Calls.{Write, Wrote, Went, Composes, HoldsOfNone, went_on}
use Rattle.xray_io.specs.Faults.{Rose}
use Rattle.xray_io.specs.Sink.{Adds, AddsPrefix}
use Rattle.xray_io.specs.declared.faults.Failed.{Failed}
use Rattle.xray_io.specs.declared.faults.WriteFault.{WriteFault}

-- how many bytes these writes took together
abbrev pub taken : List Write → ℕ
taken [] = 0
taken (Wrote offered (Ok count) ∷ writes) = count + taken writes
taken (Wrote offered (Err failed) ∷ writes) = taken writes

-- none of them failed
abbrev pub NoneFailed : List Write → Type 0
NoneFailed [] = Unit {0}
NoneFailed (Wrote offered (Ok count) ∷ writes) = NoneFailed writes
NoneFailed (Wrote offered (Err failed) ∷ writes) = ⊥

-- the last of them failed, and none before it
pub record LastFailed (writes : List Write) : Type 0 where
  pub earlier : List Write
  pub offered : ℕ
  pub failed : Failed
  pub none : NoneFailed earlier
  pub last : writes ≡ earlier ++ Wrote offered (Err failed) ∷ []

-- the answer to a writer of text
abbrev pub Answer : Type 0
Answer = Result (Unit {0}) WriteFault

-- the writes that may lead to this answer: none comes after one that failed
abbrev pub MayAnswer : Answer → List Write → Type 0
MayAnswer (Ok done) writes = NoneFailed writes
MayAnswer (Err fault) writes = LastFailed writes

-- these writes took this many bytes together, and led to this answer
pub record TookWrites (count : ℕ) (answer : Answer) (writes : List Write) : Type 0 where
  pub bytes : taken writes ≡ count
  pub answered : MayAnswer answer writes

-- Of these bytes, a prefix was written to a sink: `sent`. On Ok, `left` is the rest, and no fault was counted. On Err a
-- write failed and was counted, and no write came after it.
pub record Sends {S : Type 0} (written : S → Option (List ℕ)) (faults : S → ℕ) (along : S → S → List Write → Type 0)
    (old new : S) (bytes left : List ℕ) (answer : Answer) : Type 0 where
  pub sent : List ℕ
  pub rest : List ℕ
  pub order : bytes ≡ sent ++ rest
  pub all : OnOk answer (rest ≡ left)
  pub told : Adds (written old) (written new) sent
  pub calm : OnOk answer (faults new ≡ faults old)
  pub fault : OnErr answer (Rose (faults old) (faults new))
  pub later : faults old ≤ faults new
  pub went : Went (along old new) (TookWrites (length sent) answer)

-- On Ok exactly this text was written to a sink, and nothing is left of it. On Err a prefix of it was.
abbrev pub WritesText : {S : Type 0} → (S → Option (List ℕ)) → (S → ℕ) → (S → S → List Write → Type 0)
    → S → S → List ℕ → Answer → Type 0
WritesText written faults along old new text answer = Sends written faults along old new text [] answer

-- ---- laws

taken_both : (writes later : List Write) → taken (writes ++ later) ≡ taken writes + taken later
taken_both [] later = sym (zero-add (taken later))
taken_both (Wrote offered (Ok count) ∷ writes) later = ap (λ n. count + n) (taken_both writes later) ∙ sym (add_assoc count (taken writes) (taken later))
taken_both (Wrote offered (Err failed) ∷ writes) later = taken_both writes later

none_both : (writes later : List Write) → NoneFailed writes → NoneFailed later → NoneFailed (writes ++ later)
none_both [] later p q = q
none_both (Wrote offered (Ok count) ∷ writes) later p q = none_both writes later p q
none_both (Wrote offered (Err failed) ∷ writes) later p q = absurd p

may_both : (answer : Answer) (writes later : List Write) → NoneFailed writes → MayAnswer answer later → MayAnswer answer (writes ++ later)
may_both (Ok done) writes later p q = none_both writes later p q
may_both (Err fault) writes later p q = record {
  earlier = writes ++ q.earlier;
  offered = q.offered;
  failed = q.failed;
  none = none_both writes q.earlier p q.none;
  last = ap (λ (l : List Write). writes ++ l) q.last ∙ sym (append_assoc writes q.earlier (Wrote q.offered (Err q.failed) ∷ []));
}

-- writes, and then other writes
pub take_both : (m n : ℕ) (answer : Answer) (writes later : List Write) → TookWrites m (Ok tt) writes → TookWrites n answer later → TookWrites (m + n) answer (writes ++ later)
take_both m n answer writes later p q = record {
  bytes = taken_both writes later ∙ ap (λ k. k + taken later) p.bytes ∙ ap (λ k. m + k) q.bytes;
  answered = may_both answer writes later p.answered q.answered;
}

-- nothing was written
pub adds_none : (a : Option (List ℕ)) → Adds a a []
adds_none a = record { told = none a }
  where
    none : (a : Option (List ℕ)) → a ≡ option_map (λ before. before ++ []) a
    none None = refl
    none (Some before) = ap Some (sym (append-nil before))

-- bytes were written, and then more
pub adds_both : (a b c : Option (List ℕ)) (x y : List ℕ) → Adds a b x → Adds b c y → Adds a c (x ++ y)
adds_both a b c x y p q = record { told = q.told ∙ ap (option_map (λ before. before ++ y)) p.told ∙ both a }
  where
    both : (a : Option (List ℕ)) → option_map (λ before. before ++ y) (option_map (λ before. before ++ x) a) ≡ option_map (λ before. before ++ (x ++ y)) a
    both None = refl
    both (Some before) = ap Some (append_assoc before x y)

-- nothing was written of what is left
pub sends_nothing : {S : Type 0} {written : S → Option (List ℕ)} {faults : S → ℕ} {along : S → S → List Write → Type 0} → HoldsOfNone along
    → (sink : S) (bytes : List ℕ) → Sends written faults along sink sink bytes bytes (Ok tt)
sends_nothing {written = written} {faults = faults} none sink bytes = record {
  sent = [];
  rest = bytes;
  order = refl;
  all = refl;
  told = adds_none (written sink);
  calm = refl;
  fault = tt;
  later = le_refl (faults sink);
  went = record { calls = []; way = none sink; are = record { bytes = refl; answered = tt } };
}

-- bytes were written, and then what was left of them and more
pub sends_on : {S : Type 0} {written : S → Option (List ℕ)} {faults : S → ℕ} {along : S → S → List Write → Type 0} → Composes along
    → {first second third : S} {bytes left after : List ℕ} (more : List ℕ) {answer : Answer}
    → Sends written faults along first second bytes left (Ok tt) → Sends written faults along second third (left ++ more) after answer
    → Sends written faults along first third (bytes ++ more) after answer
sends_on {written = written} {faults = faults} {along = along} both {first = first} {second = second} {third = third} {bytes = bytes} {left = left} {after = after} more {answer = answer} p q = record {
  sent = p.sent ++ q.sent;
  rest = q.rest;
  order =
      ap (λ (l : List ℕ). l ++ more) p.order ∙ append_assoc p.sent p.rest more ∙ ap (λ (l : List ℕ). p.sent ++ (l ++ more)) p.all
      ∙ ap (λ (l : List ℕ). p.sent ++ l) q.order ∙ sym (append_assoc p.sent q.sent q.rest);
  all = q.all;
  told = adds_both (written first) (written second) (written third) p.sent q.sent p.told q.told;
  calm = on_ok_weaker answer (λ same. same ∙ p.calm) q.calm;
  fault = on_err_weaker answer (λ rose. let P : ℕ → Type 0 = λ n. Rose n (faults third) in subst P p.calm rose) q.fault;
  later = let P : ℕ → Type 0 = λ n. n ≤ faults third in subst P p.calm q.later;
  went =
      let P : ℕ → Type 0 = λ n. Went (along first third) (TookWrites n answer) in
      subst P (sym (length-append p.sent q.sent)) (went_on along both first second third _ _ (TookWrites (length p.sent + length q.sent) answer) p.went q.went (take_both (length p.sent) (length q.sent) answer));
}

-- a write failed, and more was to follow
pub sends_stop : {S : Type 0} {written : S → Option (List ℕ)} {faults : S → ℕ} {along : S → S → List Write → Type 0}
    → {first second : S} {bytes left : List ℕ} {error : WriteFault} (more after : List ℕ) → Sends written faults along first second bytes left (Err error)
    → Sends written faults along first second (bytes ++ more) after (Err error)
sends_stop more after p = record {
  sent = p.sent;
  rest = p.rest ++ more;
  order = ap (λ (l : List ℕ). l ++ more) p.order ∙ append_assoc p.sent p.rest more;
  all = tt;
  told = p.told;
  calm = tt;
  fault = p.fault;
  later = p.later;
  went = p.went;
}

-- bytes were written, and then some of what was left of them
pub sends_rest : {S : Type 0} {written : S → Option (List ℕ)} {faults : S → ℕ} {along : S → S → List Write → Type 0} → Composes along
    → {first second third : S} {bytes left after : List ℕ} {answer : Answer}
    → Sends written faults along first second bytes left (Ok tt) → Sends written faults along second third left after answer
    → Sends written faults along first third bytes after answer
sends_rest {written = written} {faults = faults} {along = along} both {first = first} {second = second} {third = third} {bytes = bytes} {left = left} {after = after} {answer = answer} p q =
    let From : List ℕ → Type 0 = λ l. Sends written faults along second third l after answer in
    let To : List ℕ → Type 0 = λ l. Sends written faults along first third l after answer in
    subst To (append-nil bytes) (sends_on both [] p (subst From (sym (append-nil left)) q))

-- if a write failed, nothing is said of what is left
pub sends_failed : {S : Type 0} {written : S → Option (List ℕ)} {faults : S → ℕ} {along : S → S → List Write → Type 0}
    → {first second : S} {bytes left after : List ℕ} {error : WriteFault} → Sends written faults along first second bytes left (Err error)
    → Sends written faults along first second bytes after (Err error)
sends_failed p = record { sent = p.sent; rest = p.rest; order = p.order; all = tt; told = p.told; calm = tt; fault = p.fault; later = p.later; went = p.went }

-- a prefix was written
pub prefix_of : {S : Type 0} {written : S → Option (List ℕ)} {faults : S → ℕ} {along : S → S → List Write → Type 0}
    → {old new : S} {bytes left : List ℕ} {answer : Answer} → Sends written faults along old new bytes left answer
    → AddsPrefix (written old) (written new) bytes
prefix_of {written = written} {old = old} {bytes = bytes} p = record {
  count = length p.sent;
  within =
      let P : ℕ → Type 0 = λ n. length p.sent ≤ n in
      subst P (sym (ap length p.order ∙ length-append p.sent p.rest)) (le-add_right (length p.sent) (length p.rest));
  told =
      let front : take (length p.sent) bytes ≡ p.sent = ap (take (length p.sent)) p.order ∙ take-append_seam p.sent p.rest in
      p.told.told ∙ ap (λ (l : List ℕ). option_map (λ before. before ++ l) (written old)) (sym front);
}

-- on Ok all of a text was written
pub text_of_writes : {S : Type 0} {written : S → Option (List ℕ)} {faults : S → ℕ} {along : S → S → List Write → Type 0}
    → {old new : S} {text : List ℕ} → WritesText written faults along old new text (Ok tt) → Adds (written old) (written new) text
text_of_writes {written = written} {old = old} {new = new} p =
    let P : List ℕ → Type 0 = λ l. Adds (written old) (written new) l in
    subst P (sym (p.order ∙ ap (λ (l : List ℕ). p.sent ++ l) p.all ∙ append-nil p.sent)) p.told
