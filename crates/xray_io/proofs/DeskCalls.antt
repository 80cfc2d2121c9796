-- Reads and writes, one after the other.
use Rattle.std.proofs.Common.{◌≡◌, ℕ, ◌+◌, ◌-◌, ◌<◌, ◌≤◌, List, [], ◌∷◌, ◌++◌, Result, Ok, Err, Option, length, take, drop, refl, sym, ap, subst, arith, length-take}
use Rattle.std.specs.Result.{IsErrAnd}
use Rattle.std.proofs.lemmas.List.{drop-drop, take-append-drop, take_rest}
use Rattle.xray_io.specs.declared.faults.Failed.{Failed}
use Rattle.xray_io.specs.declared.faults.ReadError.{ReadError}
use Rattle.xray_io.specs.declared.faults.ReadError.TheVariants as errors
use Rattle.xray_io.specs.declared.faults.WriteFault.{WriteFault}
use Rattle.xray_io.specs.Calls.{CallMade, Read, Write, Wrote, Went, Composes, went_on}
use Rattle.xray_io.specs.Faults.{Rose}
use Rattle.xray_io.specs.Reads.{IsReading, Reads, ReadsUpTo}
use Rattle.xray_io.specs.Sink.{Adds}
use Rattle.xray_io.specs.Writes.{Sends, adds_none, sends_rest}
use Rattle.xray_io.specs.private.Pieces.{IsPiece}

-- ---- reads

-- reads, and then those that go on
reads_on : (name : List ℕ) (bound from at to : ℕ) (calls later : List CallMade) → Reads name bound from at calls → Reads name bound at to later → Reads name bound from to (calls ++ later)
reads_on name bound from at to [] later p q =
    let P : ℕ → Type 0 = λ k. Reads name bound k to later in subst P (sym p) q
reads_on name bound from at to (Read n start room (Ok got) ∷ calls) later p q =
    (p.0, p.1, p.2, p.3, reads_on name bound (start + got) at to calls later p.4 q)
reads_on name bound from at to (call ∷ calls) later p q = absurd p

one_read : (name : List ℕ) (bound from room got to : ℕ) (later : List CallMade) → from + room ≤ bound → 0 < got → to ≡ from + got → later ≡ Read name from room (Ok got) ∷ [] → Reads name bound from to later
one_read name bound from room got to later fits some sum are =
    let P : List CallMade → Type 0 = Reads name bound from to in
    subst P (sym are) (refl, refl, fits, some, sym sum)

-- reads up to a byte, and a piece more
pub reads_more : {S : Type 0} {along : S → S → List CallMade → Type 0} → Composes along → (first second third : S) (name : List ℕ) (limit from room got to : ℕ)
    → from + room ≤ limit + 1 → 0 < got → to ≡ from + got
    → Went (along first second) (Reads name (limit + 1) 0 from) → Went (along second third) (IsPiece name limit from room (Ok got)) → Went (along first third) (Reads name (limit + 1) 0 to)
reads_more {along = along} both first second third name limit from room got to fits some sum went then =
    went_on along both first second third _ _ (Reads name (limit + 1) 0 to) went then
    (λ calls later p q. reads_on name (limit + 1) 0 from to calls later p (one_read name (limit + 1) from room got to later fits some sum q))

up_to : (name : List ℕ) (bound from room : ℕ) (answer : _) (calls later : List CallMade) → 0 < room → from + room ≤ bound → Reads name bound 0 from calls → later ≡ Read name from room answer ∷ [] → ReadsUpTo name bound from answer (calls ++ later)
up_to name bound from room answer calls later some fits p is = record {
  earlier = calls;
  room = room;
  reads = p;
  some = some;
  within = fits;
  last = ap (λ (l : List CallMade). calls ++ l) is;
}

-- reads up to a byte, and then one that gave nothing
pub reads_end : {S : Type 0} {along : S → S → List CallMade → Type 0} → Composes along → (first second third : S) (name : List ℕ) (limit from room got : ℕ)
    → 0 < room → from + room ≤ limit + 1 → got ≡ 0
    → Went (along first second) (Reads name (limit + 1) 0 from) → Went (along second third) (IsPiece name limit from room (Ok got))
    → Went (along first third) (ReadsUpTo name (limit + 1) from (Ok 0))
reads_end {along = along} both first second third name limit from room got some fits none went then =
    let P : ℕ → Type 0 = λ n. Went (along second third) (IsPiece name limit from room (Ok n)) in
    went_on along both first second third _ _ (ReadsUpTo name (limit + 1) from (Ok 0)) went (subst P none then)
    (λ calls later p q. up_to name (limit + 1) from room (Ok 0) calls later some fits p q)

stops : (name : List ℕ) (limit from room : ℕ) (error : ReadError) (calls later : List CallMade) → 0 < room → from ≤ limit → from + room ≤ limit + 1 → Reads name (limit + 1) 0 from calls → IsPiece name limit from room (Err error) later → IsReading name limit (Err error) (calls ++ later)
stops name limit from room errors.ReadFault calls later some below fits p q = (from, q.0, up_to name (limit + 1) from room (Err q.0) calls later some fits p q.1)
stops name limit from room errors.TooLong calls later some below fits p (got, up, is) =
    reads_on name (limit + 1) 0 from (limit + 1) calls later p (one_read name (limit + 1) from room got (limit + 1) later fits (omega arith) (sym up) is)
stops name limit from room errors.NoMemory calls later some below fits p (got, more, is) =
    (from + got, reads_on name (limit + 1) 0 from (from + got) calls later p (one_read name (limit + 1) from room got (from + got) later fits more refl is))

err_is : {X E : Type 0} (answer : Result X E) (error : E) → IsErrAnd answer (λ e. e ≡ error) → answer ≡ Err error
err_is (Ok value) error is = absurd is
err_is (Err given) error is = ap Err is

-- reads up to a byte, and then one that failed, or gave too much, or gave more than there is memory for
pub reads_stop : {S : Type 0} {along : S → S → List CallMade → Type 0} → Composes along → (first second third : S) (name : List ℕ) (limit from room : ℕ) (error : ReadError)
    → 0 < room → from ≤ limit → from + room ≤ limit + 1
    → Went (along first second) (Reads name (limit + 1) 0 from) → Went (along second third) (IsPiece name limit from room (Err error))
    → (answer : Result ℕ ReadError) → IsErrAnd answer (λ e. e ≡ error) → Went (along first third) (IsReading name limit answer)
reads_stop {along = along} both first second third name limit from room error some below fits went then answer is =
    let P : Result ℕ ReadError → Type 0 = λ a. Went (along first third) (IsReading name limit a) in
    subst P (sym (err_is answer error is)) (went_on along both first second third _ _ (IsReading name limit (Err error)) went then
    (λ calls later p q. stops name limit from room error calls later some below fits p q))

-- ---- writes

-- one write that was taken
pub sends_one : {S : Type 0} {written : S → Option (List ℕ)} {faults : S → ℕ} {along : S → S → List Write → Type 0} (old new : S) (bytes : List ℕ) (offered n : ℕ)
    → n ≤ length bytes → Adds (written old) (written new) (take n bytes) → faults new ≡ faults old → along old new (Wrote offered (Ok n) ∷ [])
    → Sends written faults along old new bytes (drop n bytes) (Ok tt)
sends_one old new bytes offered n within adds calm way = record {
  sent = take n bytes;
  rest = drop n bytes;
  order = sym (take-append-drop n bytes);
  all = refl;
  told = adds;
  calm = calm;
  fault = tt;
  later = omega arith;
  went = record { calls = Wrote offered (Ok n) ∷ []; way = way; are = record { bytes = omega (arith, length-take n bytes); answered = tt } };
}

-- the bytes before a place were written, and then n more
pub sends_more : {S : Type 0} {written : S → Option (List ℕ)} {faults : S → ℕ} {along : S → S → List Write → Type 0} → Composes along
    → (first second third : S) (bytes : List ℕ) (i offered n : ℕ) → Sends written faults along first second bytes (drop i bytes) (Ok tt)
    → n ≤ length (take (length bytes - i) (drop i bytes)) → Adds (written second) (written third) (take n (take (length bytes - i) (drop i bytes)))
    → faults third ≡ faults second → along second third (Wrote offered (Ok n) ∷ [])
    → Sends written faults along first third bytes (drop (i + n) bytes) (Ok tt)
sends_more {written = written} {faults = faults} {along = along} both first second third bytes i offered n sent within adds calm way =
    let all : take (length bytes - i) (drop i bytes) ≡ drop i bytes = take_rest bytes i in
    let Fits : List ℕ → Type 0 = λ l. n ≤ length l in
    let Add : List ℕ → Type 0 = λ l. Adds (written second) (written third) (take n l) in
    let To : List ℕ → Type 0 = λ l. Sends written faults along first third bytes l (Ok tt) in
    subst To (drop-drop n i bytes) (sends_rest both sent (sends_one second third (drop i bytes) offered n (subst Fits all within) (subst Add all adds) calm way))

-- one write that failed
pub sends_none : {S : Type 0} {written : S → Option (List ℕ)} {faults : S → ℕ} {along : S → S → List Write → Type 0} (old new : S) (bytes after : List ℕ) (offered : ℕ) (failed : Failed) (error : WriteFault)
    → written new ≡ written old → Rose (faults old) (faults new) → faults old ≤ faults new → along old new (Wrote offered (Err failed) ∷ [])
    → Sends written faults along old new bytes after (Err error)
sends_none {written = written} old new bytes after offered failed error same rose later way = record {
  sent = [];
  rest = bytes;
  order = refl;
  all = tt;
  told =
      let P : Option (List ℕ) → Type 0 = λ w. Adds (written old) w [] in
      subst P (sym same) (adds_none (written old));
  calm = tt;
  fault = rose;
  later = later;
  went = record {
    calls = Wrote offered (Err failed) ∷ [];
    way = way;
    are = record { bytes = refl; answered = record { earlier = []; offered = offered; failed = failed; none = tt; last = refl } };
  };
}
