-- A name of a desk as a sink.
use Rattle.std.specs.Prelude.{◌≡◌, ◌≢◌, ℕ, List, [], map, Option, Some, None, refl}
use mathlib.Core.Path.{sym, ap, subst, ◌∙◌}
use mathlib.Core.List.{map-append}
use Rattle.xray_io.specs.Calls.{CallMade, Write, append_call, HoldsOfNone, Composes}
use Rattle.xray_io.specs.Desk.{Entry, Untold, Absent, Holds}
use Rattle.xray_io.specs.declared.desk_file.DeskFile.{DeskFile}

-- the desk that is written to
abbrev pub desk_of : {D : Type 0} → DeskFile D → D
desk_of file = file.desk.now

-- which loan of the desk it holds
abbrev pub desk_loan : {D : Type 0} → DeskFile D → ℕ
desk_loan file = file.desk.ghost_name

-- the name that is written to
abbrev pub name_of : {D : Type 0} → DeskFile D → List ℕ
name_of file = file.name.now

-- the bytes of a name, if the desk reports them; a name that isn't held has none
abbrev pub bytes_held : Entry → Option (List ℕ)
bytes_held Untold = None
bytes_held Absent = Some []
bytes_held (Holds bytes) = Some bytes

-- Only one name was written to. It is the same name of the same desk. A name that was held still is. The other names
-- hold what they held, and no read has failed.
pub record WritesOn {D : Type 0} (held : D → List ℕ → Entry) (read_faults : D → ℕ) (old new : DeskFile D) : Type 0 where
  pub loan : desk_loan new ≡ desk_loan old
  pub name : name_of new ≡ name_of old
  pub there : held (desk_of old) (name_of old) ≢ Absent → held (desk_of new) (name_of old) ≢ Absent
  pub others : (other : List ℕ) → other ≢ name_of old → held (desk_of new) other ≡ held (desk_of old) other
  pub reads : read_faults (desk_of new) ≡ read_faults (desk_of old)

-- nothing was done
pub writes_nothing : {D : Type 0} (held : D → List ℕ → Entry) (read_faults : D → ℕ) (file : DeskFile D) → WritesOn held read_faults file file
writes_nothing held read_faults file = record {
  loan = refl;
  name = refl;
  there = λ was. was;
  others = λ other differs. refl;
  reads = refl;
}

-- one name was written to, and then again
pub writes_both : {D : Type 0} (held : D → List ℕ → Entry) (read_faults : D → ℕ) (first second third : DeskFile D) → WritesOn held read_faults first second → WritesOn held read_faults second third → WritesOn held read_faults first third
writes_both held read_faults first second third p q = record {
  loan = q.loan ∙ p.loan;
  name = q.name ∙ p.name;
  there = λ was absent.
      q.there (λ gone. p.there was (ap (held (desk_of second)) (sym p.name) ∙ gone)) (ap (held (desk_of third)) p.name ∙ absent);
  others = λ other differs. q.others other (λ same. differs (same ∙ p.name)) ∙ p.others other differs;
  reads = q.reads ∙ p.reads;
}

-- one name was written to, by these appends
pub record AppendsAlong {D : Type 0} (held : D → List ℕ → Entry) (read_faults : D → ℕ) (along : D → D → List CallMade → Type 0)
    (old new : DeskFile D) (writes : List Write) : Type 0 where
  pub on : WritesOn held read_faults old new
  pub calls : along (desk_of old) (desk_of new) (map (append_call (name_of old)) writes)

-- nothing was done
pub appends_nothing : {D : Type 0} (held : D → List ℕ → Entry) (read_faults : D → ℕ) (along : D → D → List CallMade → Type 0) → HoldsOfNone along → HoldsOfNone (AppendsAlong held read_faults along)
appends_nothing held read_faults along none file = record { on = writes_nothing held read_faults file; calls = none (desk_of file) }

-- one name was written to, and then again
pub appends_both : {D : Type 0} (held : D → List ℕ → Entry) (read_faults : D → ℕ) (along : D → D → List CallMade → Type 0) → Composes along → Composes (AppendsAlong held read_faults along)
appends_both held read_faults along both first second third writes later p q = record {
  on = writes_both held read_faults first second third p.on q.on;
  calls =
      let Way : List CallMade → Type 0 = along (desk_of first) (desk_of third) in
      let To : List ℕ → Type 0 = λ name. along (desk_of second) (desk_of third) (map (append_call name) later) in
      subst Way (sym (map-append (append_call (name_of first)) writes later)) (both _ _ _ _ _ p.calls (subst To p.on.name q.calls));
}
