-- How an output is made: its name is created, and its bytes are put at its end.
use Rattle.std.specs.Prelude.{◌≡◌, ◌≢◌, ◌⊎◌, ℕ, ◌≤◌, List, [], ◌∷◌, ◌++◌, length, map, Option, Some, None, unwrap_or, Ok, Err, OnOk, OnErr, refl}
use Rattle.std.proofs.Common.{sym, ap, subst, ◌∙◌, inl, inr}
use Rattle.std.proofs.lemmas.List.{append-nil}
use Rattle.std.proofs.lemmas.Result.{on_ok_weaker, on_err_weaker}
use Rattle.xray_io.specs.Calls.{CallMade, Create, Write, Went, Composes, append_call}
use Rattle.xray_io.specs.Desk.{Entry, Untold, Absent, Holds, empty_entry, made_to_hold}
use Rattle.xray_io.specs.DeskFile.{bytes_held, desk_of, name_of, AppendsAlong}
use Rattle.xray_io.specs.Sink.{Adds}
use Rattle.xray_io.specs.declared.desk_file.DeskFile.{DeskFile}
use Rattle.xray_io.specs.Faults.{Rose}
use Rattle.xray_io.specs.Writes.{Answer, TookWrites, WritesText}
use Rattle.xray_io.specs.declared.faults.Failed.{Failed}
use Rattle.xray_io.specs.declared.faults.WriteFault.{WriteFault}

-- a name was created, and then this many bytes were put at its end by appends that led to this answer
pub record Makes (name : List ℕ) (count : ℕ) (answer : Answer) (calls : List CallMade) : Type 0 where
  pub writes : List Write
  pub take : TookWrites count answer writes
  pub are : calls ≡ Create name (Ok tt) ∷ map (append_call name) writes

-- the name couldn't be created, and holds what it held
pub record CreationFails (name : List ℕ) (old new : Entry) (calls : List CallMade) : Type 0 where
  pub failed : Failed
  pub are : calls ≡ Create name (Err failed) ∷ []
  pub same : new ≡ old

-- the name was created, and then an append failed: it holds a prefix of the bytes
pub record AppendFails (name bytes : List ℕ) (old new : Entry) (answer : Answer) (calls : List CallMade) : Type 0 where
  pub sent : List ℕ
  pub rest : List ℕ
  pub order : bytes ≡ sent ++ rest
  pub holds : new ≡ made_to_hold old sent
  pub makes : Makes name (length sent) answer calls

-- what the name holds and which calls were made, for each answer
abbrev pub IsMaking : (name bytes : List ℕ) → (old new : Entry) → Answer → List CallMade → Type 0
IsMaking name bytes old new (Ok done) calls = (new ≡ made_to_hold old bytes) × Makes name (length bytes) (Ok done) calls
IsMaking name bytes old new (Err fault) calls = CreationFails name old new calls ⊎ AppendFails name bytes old new (Err fault) calls

-- The name was made to hold these bytes. Nothing else of the desk changed. On Err the last call failed, and was
-- counted.
pub record MakesOutput {D : Type 0} (held : D → List ℕ → Entry) (read_faults write_faults : D → ℕ) (along : D → D → List CallMade → Type 0)
    (old new : D) (name bytes : List ℕ) (answer : Answer) : Type 0 where
  pub went : Went (along old new) (IsMaking name bytes (held old name) (held new name) answer)
  pub others : (other : List ℕ) → other ≢ name → held new other ≡ held old other
  pub reads : read_faults new ≡ read_faults old
  pub calm : OnOk answer (write_faults new ≡ write_faults old)
  pub fault : OnErr answer (Rose (write_faults old) (write_faults new))
  pub later : write_faults old ≤ write_faults new

-- A text was put at the end of a name, and nothing else of the desk changed. A writer of text does this to the desk of
-- a `DeskFile`.
pub record AppendsText {D : Type 0} (held : D → List ℕ → Entry) (read_faults write_faults : D → ℕ) (along : D → D → List CallMade → Type 0)
    (old new : D) (name text : List ℕ) (answer : Answer) : Type 0 where
  pub writes : WritesText (λ desk. bytes_held (held desk name)) write_faults (λ before after writes. along before after (map (append_call name) writes)) old new text answer
  pub there : held old name ≢ Absent → held new name ≢ Absent
  pub others : (other : List ℕ) → other ≢ name → held new other ≡ held old other
  pub reads : read_faults new ≡ read_faults old

-- ---- laws

-- what a writer of text does to a `DeskFile`, as it looks from the desk
pub appends_text : {D : Type 0} {held : D → List ℕ → Entry} {read_faults write_faults : D → ℕ} {along : D → D → List CallMade → Type 0}
    → (old new : DeskFile D) {text : List ℕ} {answer : Answer}
    → WritesText (λ file. bytes_held (held (desk_of file) (name_of file))) (λ file. write_faults (desk_of file)) (AppendsAlong held read_faults along) old new text answer
    → AppendsText held read_faults write_faults along (desk_of old) (desk_of new) (name_of old) text answer
appends_text {held = held} old new p = record {
  writes = record {
    sent = p.sent;
    rest = p.rest;
    order = p.order;
    all = p.all;
    told =
        let P : List ℕ → Type 0 = λ name. Adds (bytes_held (held (desk_of old) (name_of old))) (bytes_held (held (desk_of new) name)) p.sent in
        subst P p.went.way.on.name p.told;
    calm = p.calm;
    fault = p.fault;
    later = p.later;
    went = record { calls = p.went.calls; way = p.went.way.calls; are = p.went.are };
  };
  there = p.went.way.on.there;
  others = p.went.way.on.others;
  reads = p.went.way.on.reads;
}

IsSomething : Option (List ℕ) → Type 0
IsSomething None = ⊥
IsSomething (Some bytes) = Unit {0}

some_none : (bytes : List ℕ) → Some bytes ≡ None → ⊥
unfolding IsSomething
some_none bytes e = subst IsSomething e tt

IsHeld : Entry → Type 0
IsHeld Untold = ⊥
IsHeld Absent = ⊥
IsHeld (Holds bytes) = Unit {0}

held_absent : (bytes : List ℕ) → Holds bytes ≡ Absent → ⊥
unfolding IsHeld
held_absent bytes e = subst IsHeld e tt

same_bytes : (xs ys : List ℕ) → Some xs ≡ Some ys → xs ≡ ys
same_bytes xs ys e = ap (λ (o : Option (List ℕ)). unwrap_or o []) e

-- what was put at the end of an emptied name is all that it holds
holds : (old new : Entry) (sent : List ℕ) → (empty_entry old ≢ Absent → new ≢ Absent) → Adds (bytes_held (empty_entry old)) (bytes_held new) sent → new ≡ made_to_hold old sent
holds Untold Untold sent there adds = refl
holds Untold Absent sent there adds = absurd (some_none [] adds.told)
holds Untold (Holds bytes) sent there adds = absurd (some_none bytes adds.told)
holds Absent Untold sent there adds = absurd (some_none sent (sym adds.told))
holds Absent Absent sent there adds = absurd (there (held_absent []) refl)
holds Absent (Holds bytes) sent there adds = ap Holds (same_bytes bytes sent adds.told)
holds (Holds before) Untold sent there adds = absurd (some_none sent (sym adds.told))
holds (Holds before) Absent sent there adds = absurd (there (held_absent []) refl)
holds (Holds before) (Holds bytes) sent there adds = ap Holds (same_bytes bytes sent adds.told)

making : {D : Type 0} {held : D → List ℕ → Entry} {read_faults write_faults : D → ℕ} {along : D → D → List CallMade → Type 0}
    → (first second third : D) (name bytes : List ℕ) → held second name ≡ empty_entry (held first name) → (answer : Answer)
    → (text : AppendsText held read_faults write_faults along second third name bytes answer)
    → IsMaking name bytes (held first name) (held third name) answer (Create name (Ok tt) ∷ map (append_call name) text.writes.went.calls)
making {held = held} first second third name bytes is (Ok done) text =
    let P : Entry → Type 0 = λ entry. (entry ≢ Absent → held third name ≢ Absent) → Adds (bytes_held entry) (bytes_held (held third name)) text.writes.sent → held third name ≡ made_to_hold (held first name) text.writes.sent in
    let all : text.writes.sent ≡ bytes = sym (text.writes.order ∙ ap (λ (l : List ℕ). text.writes.sent ++ l) text.writes.all ∙ append-nil text.writes.sent) in
    let T : List ℕ → Type 0 = λ l. (held third name ≡ made_to_hold (held first name) l) × Makes name (length l) (Ok done) (Create name (Ok tt) ∷ map (append_call name) text.writes.went.calls) in
    subst T all (
      subst P (sym is) (holds (held first name) (held third name) text.writes.sent) text.there text.writes.told,
      record { writes = text.writes.went.calls; take = text.writes.went.are; are = refl },
    )
making {held = held} first second third name bytes is (Err fault) text =
    let P : Entry → Type 0 = λ entry. (entry ≢ Absent → held third name ≢ Absent) → Adds (bytes_held entry) (bytes_held (held third name)) text.writes.sent → held third name ≡ made_to_hold (held first name) text.writes.sent in
    inr (record {
      sent = text.writes.sent;
      rest = text.writes.rest;
      order = text.writes.order;
      holds = subst P (sym is) (holds (held first name) (held third name) text.writes.sent) text.there text.writes.told;
      makes = record { writes = text.writes.went.calls; take = text.writes.went.are; are = refl };
    })

-- a name was created, and then a text was put at its end
pub makes_output : {D : Type 0} {held : D → List ℕ → Entry} {read_faults write_faults : D → ℕ} {along : D → D → List CallMade → Type 0} → Composes along
    → (first second third : D) {name bytes : List ℕ} {answer : Answer} → along first second (Create name (Ok tt) ∷ [])
    → held second name ≡ empty_entry (held first name) → ((other : List ℕ) → other ≢ name → held second other ≡ held first other)
    → read_faults second ≡ read_faults first → write_faults second ≡ write_faults first
    → AppendsText held read_faults write_faults along second third name bytes answer
    → MakesOutput held read_faults write_faults along first third name bytes answer
makes_output {held = held} {write_faults = write_faults} both first second third {name = name} {bytes = bytes} {answer = answer} way is others reads calm text = record {
  went = record {
    calls = Create name (Ok tt) ∷ map (append_call name) text.writes.went.calls;
    way = both _ _ _ _ _ way text.writes.went.way;
    are = making first second third name bytes is answer text;
  };
  others = λ other differs. text.others other differs ∙ others other differs;
  reads = text.reads ∙ reads;
  calm = on_ok_weaker answer (λ same. same ∙ calm) text.writes.calm;
  fault = on_err_weaker answer (λ rose. let P : ℕ → Type 0 = λ n. Rose n (write_faults third) in subst P calm rose) text.writes.fault;
  later = let P : ℕ → Type 0 = λ n. n ≤ write_faults third in subst P calm text.writes.later;
}

-- a name couldn't be created
pub makes_nothing : {D : Type 0} {held : D → List ℕ → Entry} {read_faults write_faults : D → ℕ} {along : D → D → List CallMade → Type 0}
    → (old new : D) {name bytes : List ℕ} {failed : Failed} {error : WriteFault} → along old new (Create name (Err failed) ∷ [])
    → held new ≡ held old → read_faults new ≡ read_faults old → Rose (write_faults old) (write_faults new) → write_faults old ≤ write_faults new
    → MakesOutput held read_faults write_faults along old new name bytes (Err error)
makes_nothing old new {name = name} {failed = failed} way same reads rose later = record {
  went = record {
    calls = Create name (Err failed) ∷ [];
    way = way;
    are = inl (record { failed = failed; are = refl; same = ap (λ (h : List ℕ → Entry). h name) same });
  };
  others = λ other differs. ap (λ (h : List ℕ → Entry). h other) same;
  reads = reads;
  calm = tt;
  fault = rose;
  later = later;
}
