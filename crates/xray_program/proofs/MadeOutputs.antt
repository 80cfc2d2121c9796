-- Outputs that are made, and texts that are written.
use Rattle.std.proofs.Common.{◌≡◌, ◌≢◌, ◌∙◌, ℕ, List, [], ◌∷◌, Ok, Err, inl, inr, refl, sym, arith, subst}
use Rattle.std.proofs.lemmas.List.{append-nil}
use Rattle.std.proofs.lemmas.List.Elements.{All-from_recursion, All-nil}
use Rattle.xray_io.specs.Calls.{CallMade, Composes, Went, went_on}
use Rattle.xray_io.specs.Desk.{Entry, made_to_hold}
use Rattle.xray_io.specs.Faults.{Rose}
use Rattle.xray_io.specs.Outputs.{IsMaking, MakesOutput}
use Rattle.xray_io.specs.World.{DeskView, desk_view}
use Rattle.xray_io.specs.declared.faults.WriteFault.{WriteFault}
use Rattle.xray_program.specs.Order.{FailsAtOutput, MakesAll}
use Rattle.xray_program.specs.Outputs.{OutputsAreWhole, AreUntouched, FailsAt, HoldsPrefix}
use Rattle.xray_program.specs.private.Works.{KeepsOthers}

pub none_whole : (old new : List ℕ → Entry) → OutputsAreWhole [] old new
none_whole old new = All-nil (λ output. new output.0 ≡ made_to_hold (old output.0) output.1)

none_touched : (old new : List ℕ → Entry) → AreUntouched [] old new
none_touched old new = All-nil (λ output. new output.0 ≡ old output.0)

-- the only output was made
pub whole_one : (name bytes : List ℕ) (old new : List ℕ → Entry) (calls : List CallMade) → IsMaking name bytes (old name) (new name) (Ok tt) calls
    → OutputsAreWhole ((name, bytes) ∷ []) old new
whole_one name bytes old new calls making =
    All-from_recursion (λ output. new output.0 ≡ made_to_hold (old output.0) output.1) ((name, bytes) ∷ []) (making.0, tt)

-- it failed
prefix : (name bytes : List ℕ) (old new : Entry) (fault : WriteFault) (calls : List CallMade) → IsMaking name bytes old new (Err fault) calls → HoldsPrefix old new bytes
prefix name bytes old new fault calls (inl fails) = inl fails.same
prefix name bytes old new fault calls (inr fails) = inr (fails.sent, fails.rest, fails.order, fails.holds)

pub fails_one : (name bytes : List ℕ) (old new : DeskView) (fault : WriteFault) (calls : List CallMade)
    → IsMaking name bytes (old.held name) (new.held name) (Err fault) calls → Rose old.write_faults new.write_faults
    → FailsAt ((name, bytes) ∷ []) old new name
fails_one name bytes old new fault calls making rose = record {
  earlier = [];
  bytes = bytes;
  later = [];
  order = refl;
  fault = rose;
  whole = none_whole old.held new.held;
  prefix = prefix name bytes (old.held name) (new.held name) fault calls making;
  untouched = none_touched old.held new.held;
}

-- a name that isn't that of the only output holds what it held
pub keeps_others : (name : List ℕ) (old new : DeskView) → ((other : List ℕ) → other ≢ name → new.held other ≡ old.held other)
    → KeepsOthers (name ∷ []) old new
keeps_others name old new others other not = others other (λ same. not (0, omega arith, sym same))

-- the calls that made the only output, or that failed to
pub makes_one : (name bytes : List ℕ) (old new : Entry) (Way : List CallMade → Type 0) → Went Way (IsMaking name bytes old new (Ok tt))
    → Went Way (MakesAll ((name, bytes) ∷ []))
makes_one name bytes old new Way went =
    record { calls = went.calls; way = went.way; are = (went.calls, [], sym (append-nil went.calls), went.are.1, refl) }

pub unmade_one : (name bytes : List ℕ) (old new : DeskView) (fault : WriteFault) (Way : List CallMade → Type 0)
    → Went Way (IsMaking name bytes (old.held name) (new.held name) (Err fault)) → Went Way (FailsAtOutput ((name, bytes) ∷ []) old new name)
unmade_one name bytes old new fault Way went = record {
  calls = went.calls;
  way = went.way;
  are = record {
    earlier = [];
    bytes = bytes;
    later = [];
    turn = refl;
    before = [];
    last = went.calls;
    order = refl;
    makes = refl;
    fault = fault;
    fails = went.are;
  };
}

-- ---- two outputs, of different names

-- the first failed
pub fails_first : {D : Type 0} {held : D → List ℕ → Entry} {read_faults write_faults : D → ℕ} {along : D → D → List CallMade → Type 0}
    → (old new : D) (name bytes next more : List ℕ) (fault : WriteFault) → name ≢ next
    → MakesOutput held read_faults write_faults along old new name bytes (Err fault)
    → FailsAt ((name, bytes) ∷ (next, more) ∷ []) (desk_view held read_faults write_faults old) (desk_view held read_faults write_faults new) name
fails_first {held = held} old new name bytes next more fault differ made = record {
  earlier = [];
  bytes = bytes;
  later = (next, more) ∷ [];
  order = refl;
  fault = made.fault;
  whole = none_whole (held old) (held new);
  prefix = prefix name bytes (held old name) (held new name) fault made.went.calls made.went.are;
  untouched = All-from_recursion (λ output. held new output.0 ≡ held old output.0) ((next, more) ∷ [])
      (made.others next (λ same. differ (sym same)), tt);
}

-- the second failed
pub fails_second : {D : Type 0} {held : D → List ℕ → Entry} {read_faults write_faults : D → ℕ} {along : D → D → List CallMade → Type 0}
    → (first second third : D) (name bytes next more : List ℕ) (fault : WriteFault) → name ≢ next
    → MakesOutput held read_faults write_faults along first second name bytes (Ok tt)
    → MakesOutput held read_faults write_faults along second third next more (Err fault)
    → FailsAt ((name, bytes) ∷ (next, more) ∷ []) (desk_view held read_faults write_faults first) (desk_view held read_faults write_faults third) next
fails_second {held = held} {write_faults = write_faults} first second third name bytes next more fault differ one other = record {
  earlier = (name, bytes) ∷ [];
  bytes = more;
  later = [];
  order = refl;
  fault = let P : ℕ → Type 0 = λ n. Rose n (write_faults third) in subst P one.calm other.fault;
  whole = All-from_recursion (λ output. held third output.0 ≡ made_to_hold (held first output.0) output.1) ((name, bytes) ∷ [])
      (other.others name differ ∙ one.went.are.0, tt);
  prefix =
      let P : Entry → Type 0 = λ entry. HoldsPrefix entry (held third next) more in
      subst P (one.others next (λ same. differ (sym same)))
      (prefix next more (held second next) (held third next) fault other.went.calls other.went.are);
  untouched = none_touched (held first) (held third);
}

-- the calls
pub makes_two : {D : Type 0} {held : D → List ℕ → Entry} {read_faults write_faults : D → ℕ} {along : D → D → List CallMade → Type 0} → Composes along
    → (first second third : D) (name bytes next more : List ℕ)
    → MakesOutput held read_faults write_faults along first second name bytes (Ok tt)
    → MakesOutput held read_faults write_faults along second third next more (Ok tt)
    → Went (along first third) (MakesAll ((name, bytes) ∷ (next, more) ∷ []))
makes_two {along = along} both first second third name bytes next more one other =
    went_on along both first second third _ _ (MakesAll ((name, bytes) ∷ (next, more) ∷ [])) one.went other.went
    (λ calls later p q. (calls, later, refl, p.1, (later, [], sym (append-nil later), q.1, refl)))

pub unmade_first : {D : Type 0} {held : D → List ℕ → Entry} {read_faults write_faults : D → ℕ} {along : D → D → List CallMade → Type 0}
    → (old new : D) (name bytes next more : List ℕ) (fault : WriteFault)
    → MakesOutput held read_faults write_faults along old new name bytes (Err fault)
    → Went (along old new) (FailsAtOutput ((name, bytes) ∷ (next, more) ∷ []) (desk_view held read_faults write_faults old)
    (desk_view held read_faults write_faults new) name)
unmade_first old new name bytes next more fault made = record {
  calls = made.went.calls;
  way = made.went.way;
  are = record {
    earlier = [];
    bytes = bytes;
    later = (next, more) ∷ [];
    turn = refl;
    before = [];
    last = made.went.calls;
    order = refl;
    makes = refl;
    fault = fault;
    fails = made.went.are;
  };
}

pub unmade_second : {D : Type 0} {held : D → List ℕ → Entry} {read_faults write_faults : D → ℕ} {along : D → D → List CallMade → Type 0} → Composes along
    → (first second third : D) (name bytes next more : List ℕ) (fault : WriteFault) → name ≢ next
    → MakesOutput held read_faults write_faults along first second name bytes (Ok tt)
    → MakesOutput held read_faults write_faults along second third next more (Err fault)
    → Went (along first third) (FailsAtOutput ((name, bytes) ∷ (next, more) ∷ []) (desk_view held read_faults write_faults first)
    (desk_view held read_faults write_faults third) next)
unmade_second {held = held} {along = along} both first second third name bytes next more fault differ one other =
    went_on along both first second third _ _ _ one.went other.went (λ calls later p q. record {
      earlier = (name, bytes) ∷ [];
      bytes = more;
      later = [];
      turn = refl;
      before = calls;
      last = later;
      order = refl;
      makes = (calls, [], sym (append-nil calls), p.1, refl);
      fault = fault;
      fails =
          let P : Entry → Type 0 = λ entry. IsMaking next more entry (held third next) (Err fault) later in
          subst P (one.others next (λ same. differ (sym same))) q;
    })
