-- The laws of all commands, each by one induction over what a command takes and leaves.
use Rattle.std.proofs.Common.{◌≡◌, ◌≢◌, ◌⊎◌, ◌∙◌, ℕ, List, length, Some, None, inl, inr, refl, sym, ap, subst, arith}
use Rattle.xray_io.specs.Desk.{Entry, Untold, Absent, Holds}
use Rattle.xray_program.specs.Doings.{AllHeld, Chooses, Comes, Doing, Finds, Gives, HoldsInput, IsDetermined, IsUnrefused, IsWriting, Leaves, LeadsTo, Leaving, MayLeave, RefusesIf, Takes, Taking}
use Rattle.xray_program.specs.Outcomes.{Outcome, BadLine, Unread, TooLong, Refused, Done, Fell, status_of, written_by}
use Rattle.xray_program.specs.Taking.{Form, Take}
use Rattle.xray_program.specs.private.Lawful.{AreKinds, IsLawful, IsLawfulDoing, IsUnique, LeavesWriting}
use Rattle.xray_program.proofs.InputMeanings.{AnyOutcome, HoldsBytes, IsAlone, IsRefusal, SomeOutcome, refuse_alone, some_refuse, some_take, take_alone}

-- ---- something comes

some_left : (l : Leaving) → IsLawful l → SomeOutcome (MayLeave l)
some_left (RefusesIf reason name kind next) lawful = some_refuse reason name kind (MayLeave next) (λ none. some_left next (lawful none))
some_left (Finds Is next) lawful =
    let rest = some_left (next lawful.0.0) (lawful.2 lawful.0.0 lawful.0.1) in (rest.0, (lawful.0.0, lawful.0.1, rest.1))
some_left (Chooses Is next) lawful =
    let rest = some_written (next lawful.0.0) (lawful.1 lawful.0.0 lawful.0.1) in (rest.0, (lawful.0.0, lawful.0.1, rest.1))
  where
    some_written : (l : Leaving) → LeavesWriting l → SomeOutcome (MayLeave l)
    some_written (RefusesIf reason name kind next) writes = absurd writes
    some_written (Finds Is next) writes = absurd writes
    some_written (Chooses Is next) writes = absurd writes
    some_written (Leaves outcome) writes = (outcome, refl)
some_left (Leaves outcome) lawful = (outcome, refl)

some_led : {Y : Type 0} {names : List (List ℕ)} (inputs : Taking Y names) (Lawful : Y → Type 0) (Follows : Y → Outcome → Type 0) → AreKinds inputs Lawful
    → ((y : Y) → Lawful y → SomeOutcome (Follows y)) → (held : List ℕ → Entry) → ((n : List ℕ) → held n ≢ Untold) → HoldsBytes held
    → SomeOutcome (LeadsTo inputs held Follows)
some_led (Takes form name next) Lawful Follows kinds later held told holds =
    some_take form kinds.0.judged held name (λ value. LeadsTo (next value) held Follows) (told name) holds
    (λ bytes value reads. some_led (next value) Lawful Follows (kinds.1 bytes value reads) later held told holds)
some_led (Gives y) Lawful Follows kinds later held told holds = later y kinds

pub some_comes : (doing : Doing) → IsLawfulDoing doing → (held : List ℕ → Entry) → ((n : List ℕ) → held n ≢ Untold) → HoldsBytes held
    → SomeOutcome (Comes doing held)
some_comes doing law = some_led doing.takes _ _ law (λ y. some_left (doing.leaves y))

-- ---- only one thing comes if nothing is chosen, and nothing comes beside a refusal

one_left : (l : Leaving) → IsLawful l → IsDetermined l → IsAlone AnyOutcome (MayLeave l)
one_left (RefusesIf reason name kind next) lawful det a b sort x y =
    refuse_alone AnyOutcome reason name kind (MayLeave next) (λ none. one_left next (lawful none) det) a b sort x y
one_left (Finds Is next) lawful det a b sort (v, is, x) (w, so, y) =
    one_left (next v) (lawful.2 v is) (det v) a b sort x (subst (λ u. MayLeave (next u) b) (lawful.1 w v so is) y)
one_left (Chooses Is next) lawful det a b sort x y = absurd det
one_left (Leaves outcome) lawful det a b sort x y = y ∙ sym x

never_refused : (l : Leaving) → LeavesWriting l → (outcome : Outcome) → IsRefusal outcome → MayLeave l outcome → ⊥
never_refused (RefusesIf reason name kind next) writes outcome none x = writes
never_refused (Finds Is next) writes outcome none x = writes
never_refused (Chooses Is next) writes outcome none x = writes
never_refused (Leaves left) writes outcome none x = writes (ap written_by (sym x) ∙ none)

refusal_left : (l : Leaving) → IsLawful l → IsAlone IsRefusal (MayLeave l)
refusal_left (RefusesIf reason name kind next) lawful a b sort x y =
    refuse_alone IsRefusal reason name kind (MayLeave next) (λ none. refusal_left next (lawful none)) a b sort x y
refusal_left (Finds Is next) lawful a b sort (v, is, x) (w, so, y) =
    refusal_left (next v) (lawful.2 v is) a b sort x (subst (λ u. MayLeave (next u) b) (lawful.1 w v so is) y)
refusal_left (Chooses Is next) lawful a b sort (v, is, x) y = absurd (never_refused (next v) (lawful.1 v is) a sort x)
refusal_left (Leaves outcome) lawful a b sort x y = y ∙ sym x

alone_led : {Y : Type 0} {names : List (List ℕ)} (inputs : Taking Y names) (Lawful : Y → Type 0) (Sort : Outcome → Type 0) (Follows : Y → Outcome → Type 0)
    → AreKinds inputs Lawful → ((y : Y) → Lawful y → IsAlone Sort (Follows y)) → (held : List ℕ → Entry) → ((n : List ℕ) → held n ≢ Untold)
    → IsAlone Sort (LeadsTo inputs held Follows)
alone_led (Takes form name next) Lawful Sort Follows kinds later held told a b sort x y =
    take_alone form kinds.0.unique Sort held name (λ value. LeadsTo (next value) held Follows) (told name)
    (λ bytes value reads. alone_led (next value) Lawful Sort Follows (kinds.1 bytes value reads) later held told) a b sort x y
alone_led (Gives v) Lawful Sort Follows kinds later held told a b sort x y = later v kinds a b sort x y

pub one_comes : (doing : Doing) → IsLawfulDoing doing → ((y : doing.Values) → IsDetermined (doing.leaves y)) → (held : List ℕ → Entry)
    → ((n : List ℕ) → held n ≢ Untold) → IsAlone AnyOutcome (Comes doing held)
one_comes doing law det = alone_led doing.takes _ AnyOutcome _ law (λ y lawful. one_left (doing.leaves y) lawful (det y))

pub refusal_comes : (doing : Doing) → IsLawfulDoing doing → (held : List ℕ → Entry) → ((n : List ℕ) → held n ≢ Untold) → IsAlone IsRefusal (Comes doing held)
refusal_comes doing law = alone_led doing.takes _ IsRefusal _ law (λ y. refusal_left (doing.leaves y))

-- ---- if each input is accepted, and none is refused after all, all is written

-- nothing is wrong, or something is
abbrev pub IsWritten : Outcome → Type 0
IsWritten outcome = (status_of outcome ≡ 0) ⊎ (status_of outcome ≡ 7)

writing : (outcome : Outcome) → IsWriting outcome → IsWritten outcome
writing BadLine writes = absurd (writes refl)
writing (Unread name) writes = absurd (writes refl)
writing (TooLong name) writes = absurd (writes refl)
writing (Refused name kind refusal) writes = absurd (writes refl)
writing (Done outputs text) writes = inl refl
writing (Fell outputs text trouble) writes = inr refl

-- an input that is held and accepted leads on to what follows it
accepted_leads : {X : Type 0} (P : Outcome → Type 0) (form : Form X) → IsUnique form → (held : List ℕ → Entry) (name : List ℕ)
    (next : X → Outcome → Type 0) (value : X) → HoldsInput form (held name) value
    → ((outcome : Outcome) → next value outcome → P outcome) → (outcome : Outcome) → Take form held name next outcome → P outcome
accepted_leads P form is held name next value at done outcome (inl (gone, same)) = absurd (never at.bytes (sym at.holds ∙ gone))
  where
    never : (bytes : List ℕ) → Holds bytes ≡ Absent → ⊥
    never bytes e = cc
accepted_leads P form is held name next value at done outcome (inr (bytes, may, inl (long, same))) =
    let alike : bytes ≡ at.bytes = rw at.holds at may in
    absurd (omega (arith, ap length alike, long, at.within))
accepted_leads P form is held name next value at done outcome (inr (bytes, may, inr (within, inl (refusal, refused, same)))) =
    let alike : bytes ≡ at.bytes = rw at.holds at may in
    absurd (is.not_both at.bytes value refusal at.reads (subst (λ b. form.Refuses b refusal) alike refused))
accepted_leads P form is held name next value at done outcome (inr (bytes, may, inr (within, inr (other, reads, comes)))) =
    let alike : bytes ≡ at.bytes = rw at.holds at may in
    let same = is.one at.bytes other value (subst (λ b. form.Reads b other) alike reads) at.reads in
    done outcome (subst (λ v. next v outcome) same comes)

written_left : (l : Leaving) → IsUnrefused l → (outcome : Outcome) → MayLeave l outcome → IsWritten outcome
written_left (RefusesIf reason name kind next) (none, later) outcome x = written_left next later outcome (rw none at x)
written_left (Finds Is next) later outcome (value, is, x) = written_left (next value) (later value is) outcome x
written_left (Chooses Is next) later outcome (value, is, x) = written_left (next value) (later value is) outcome x
written_left (Leaves left) later outcome x = subst IsWritten (sym x) (writing left later)

accepted_led : {Y : Type 0} {names : List (List ℕ)} (inputs : Taking Y names) (Lawful Then : Y → Type 0) (P : Outcome → Type 0) (Follows : Y → Outcome → Type 0)
    → AreKinds inputs Lawful → (held : List ℕ → Entry) → AllHeld inputs held Then → ((y : Y) → Then y → (outcome : Outcome) → Follows y outcome → P outcome)
    → (outcome : Outcome) → LeadsTo inputs held Follows outcome → P outcome
accepted_led (Takes form name next) Lawful Then P Follows kinds held (value, at, later) goes outcome x =
    accepted_leads P form kinds.0.unique held name (λ v. LeadsTo (next v) held Follows) value at
    (accepted_led (next value) Lawful Then P Follows (kinds.1 at.bytes value at.reads) held later goes) outcome x
accepted_led (Gives y) Lawful Then P Follows kinds held later goes outcome x = goes y later outcome x

pub accepted_done : (doing : Doing) → IsLawfulDoing doing → (held : List ℕ → Entry) → AllHeld doing.takes held (λ y. IsUnrefused (doing.leaves y))
    → (outcome : Outcome) → Comes doing held outcome → IsWritten outcome
accepted_done doing law held accepted = accepted_led doing.takes _ _ IsWritten _ law held accepted (λ y. written_left (doing.leaves y))

-- ---- no outcome has status 7 if none is left that has

abbrev IsNot7 : Outcome → Type 0
IsNot7 outcome = status_of outcome ≢ 7

-- none is left that has
abbrev pub IsSound : Leaving → Type 0
IsSound (RefusesIf reason name kind next) = IsSound next
IsSound (Finds {X} Is next) = (value : X) → IsSound (next value)
IsSound (Chooses {X} Is next) = (value : X) → IsSound (next value)
IsSound (Leaves outcome) = IsNot7 outcome

other_status : (outcome other : Outcome) (n : ℕ) → outcome ≡ other → status_of other ≡ n → n ≢ 7 → IsNot7 outcome
other_status outcome other n is status differs seven = differs (sym status ∙ (ap status_of (sym is) ∙ seven))

sound_left : (l : Leaving) → IsSound l → (outcome : Outcome) → MayLeave l outcome → IsNot7 outcome
sound_left (RefusesIf None name kind next) sound outcome x = sound_left next sound outcome x
sound_left (RefusesIf (Some refusal) name kind next) sound outcome x = other_status outcome _ 2 x refl (λ e. omega arith)
sound_left (Finds Is next) sound outcome (value, is, x) = sound_left (next value) (sound value) outcome x
sound_left (Chooses Is next) sound outcome (value, is, x) = sound_left (next value) (sound value) outcome x
sound_left (Leaves left) sound outcome x = λ seven. sound (ap status_of (sym x) ∙ seven)

sound_led : {Y : Type 0} {names : List (List ℕ)} (inputs : Taking Y names) (Follows : Y → Outcome → Type 0)
    → ((y : Y) (outcome : Outcome) → Follows y outcome → IsNot7 outcome) → (held : List ℕ → Entry) (outcome : Outcome) → LeadsTo inputs held Follows outcome
    → IsNot7 outcome
sound_led (Takes form name next) Follows later held outcome (inl (gone, is)) = other_status outcome _ 3 is refl (λ e. omega arith)
sound_led (Takes form name next) Follows later held outcome (inr (bytes, may, inl (long, is))) = other_status outcome _ 6 is refl (λ e. omega arith)
sound_led (Takes form name next) Follows later held outcome (inr (bytes, may, inr (within, inl (refusal, refused, is)))) =
    other_status outcome _ 2 is refl (λ e. omega arith)
sound_led (Takes form name next) Follows later held outcome (inr (bytes, may, inr (within, inr (value, reads, x)))) =
    sound_led (next value) Follows later held outcome x
sound_led (Gives y) Follows later held outcome x = later y outcome x

pub never_7 : (doing : Doing) → ((y : doing.Values) → IsSound (doing.leaves y)) → (held : List ℕ → Entry) (outcome : Outcome) → Comes doing held outcome
    → IsNot7 outcome
never_7 doing sound held outcome x = sound_led doing.takes _ (λ y. sound_left (doing.leaves y) (sound y)) held outcome x
