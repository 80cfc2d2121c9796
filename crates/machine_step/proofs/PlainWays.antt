-- Steps on the way of a plain run.
use Rattle.std.proofs.Common.{◌≡◌, ℕ, zero, suc, ◌+◌, ◌==◌, Bool, true, false, List, [], ◌∷◌, ◌++◌, length, refl, sym, ap, ◌∙◌, subst, inl, inr, append-nil, append_assoc, length-append, arith}
use Rattle.std.specs.Prelude.{if◌then◌else◌}
use Rattle.subset_decode.specs.declared.instr.Instr.{Instr}
use Rattle.subset_decode.specs.declared.instr.Instr.TheVariants.{Mov, Add, Sub, Push, Pop, Call, Jmp, Jnz, Ret, Out}
use Rattle.subset_decode.specs.Encoding.{spelling}
use Rattle.xray_image.specs.declared.sled.SledKind.{SledKind}
use Rattle.xray_image.specs.declared.sled.SledKind.TheVariants as kinds
use Rattle.xray_image.specs.declared.unit.What.{What}
use Rattle.xray_image.specs.declared.unit.What.TheVariants as whats
use Rattle.xray_image.specs.Program.{Program}
use Rattle.machine_step.specs.declared.limits.Limits.{Limits}
use Rattle.machine_step.specs.declared.end.End.{End}
use Rattle.machine_step.specs.declared.end.End.TheVariants as ends
use Rattle.machine_step.specs.PlainStep.{State, Next, Goes, Ends, Passing, PlainStep, PlainRun, RunsTo, UnitStep, opening, after_passing, does, returns, popped, stack_limit, output_limit}
use Rattle.machine_step.specs.Course.{Reaches, ComesTo}
use Rattle.machine_step.proofs.OneUnit.{OneUnit}
use Rattle.machine_step.proofs.OneEnd.{Passes, same_step}

-- ---- longer ways

-- one step after a way
pub reaches_more : (program : Program) (limits : Limits) (thread n : ℕ) (s t u : State) (passed made : List Passing)
    → Reaches program limits thread n s passed t → PlainStep program limits thread t made (Goes u)
    → Reaches program limits thread (suc n) s (passed ++ made) u
reaches_more program limits thread zero s t u passed made (none, same) step = (
  made,
  [],
  u,
  subst (λ (x : State). PlainStep program limits thread x made (Goes u)) same step,
  (refl, refl),
  ap (λ (ps : List Passing). ps ++ made) none ∙ sym (append-nil made),
)
reaches_more program limits thread (suc n) s t u passed made (first, later, mid, step', rest, joined) step = (
  first,
  later ++ made,
  mid,
  step',
  reaches_more program limits thread n mid t u later made rest step,
  ap (λ (ps : List Passing). ps ++ made) joined ∙ append_assoc first later made,
)

-- a run after a way
pub runs_after : (program : Program) (limits : Limits) (thread n n' : ℕ) (s t last : State) (passed later : List Passing) (end : End)
    → Reaches program limits thread n s passed t → RunsTo program limits thread n' t later end last
    → (m : ℕ) × RunsTo program limits thread m s (passed ++ later) end last
runs_after program limits thread zero n' s t last passed later end (none, same) run = (
  n',
  subst (λ (ps : List Passing). RunsTo program limits thread n' s (ps ++ later) end last) (sym none)
      (subst (λ (x : State). RunsTo program limits thread n' x later end last) same run),
)
runs_after program limits thread (suc n) n' s t last passed later end (first, rest, mid, step, reached, joined) run =
    let following = runs_after program limits thread n n' mid t last rest later end reached run in (
      suc following.0,
      (first, rest ++ later, mid, step, following.1, ap (λ (ps : List Passing). ps ++ later) joined ∙ append_assoc first rest later),
    )

-- a way after a way
pub reaches_after : (program : Program) (limits : Limits) (thread n n' : ℕ) (s t u : State) (passed later : List Passing)
    → Reaches program limits thread n s passed t → Reaches program limits thread n' t later u
    → (m : ℕ) × Reaches program limits thread m s (passed ++ later) u
reaches_after program limits thread zero n' s t u passed later (none, same) way = (
  n',
  subst (λ (ps : List Passing). Reaches program limits thread n' s (ps ++ later) u) (sym none)
      (subst (λ (x : State). Reaches program limits thread n' x later u) same way),
)
reaches_after program limits thread (suc n) n' s t u passed later (first, rest, mid, step, reached, joined) way =
    let following = reaches_after program limits thread n n' mid t u rest later reached way in (
      suc following.0,
      (first, rest ++ later, mid, step, following.1, ap (λ (ps : List Passing). ps ++ later) joined ∙ append_assoc first rest later),
    )

-- ---- the passing that a run comes to is its next one

-- after those up to a passing, the passings of a run go on like this
pub record GoesOnBy (all passed : List Passing) (next : Passing) : Type 0 where
  pub later : List Passing
  pub is : all ≡ passed ++ next ∷ later

next_by : (program : Program) → OneUnit program → (limits : Limits) (thread n n' : ℕ) (s t last : State) (passed all : List Passing)
    (next : Passing) (following : Next) (end : End)
    → Reaches program limits thread n s passed t → PlainStep program limits thread t (next ∷ []) following
    → RunsTo program limits thread n' s all end last → GoesOnBy all passed next
next_by program one limits thread zero zero s t last passed all next following end (none, same) step run =
    let there = subst (λ (x : State). PlainStep program limits thread x (next ∷ []) following) same step in
    let made = (same_step program one limits thread s all (next ∷ []) (Ends end last) following run there).0 in
    record { later = []; is = made ∙ sym (ap (λ (ps : List Passing). ps ++ next ∷ []) none) }
next_by program one limits thread zero (suc n') s t last passed all next following end (none, same) step (first, later, mid, step', rest, joined) =
    let there = subst (λ (x : State). PlainStep program limits thread x (next ∷ []) following) same step in
    let made = (same_step program one limits thread s first (next ∷ []) (Goes mid) following step' there).0 in
    record {
      later = later;
      is = joined ∙ (ap (λ (ps : List Passing). ps ++ later) made ∙ sym (ap (λ (ps : List Passing). ps ++ next ∷ later) none));
    }
next_by program one limits thread (suc n) zero s t last passed all next following end (first, rest, mid, step', reached, joined) step run =
    let other = (same_step program one limits thread s all first (Ends end last) (Goes mid) run step').1 in absurd cc
next_by program one limits thread (suc n) (suc n') s t last passed all next following end (first, rest, mid, step', reached, joined) step (first', later, mid', step'', run, joined') =
    let same = same_step program one limits thread s first first' (Goes mid) (Goes mid') step' step'' in
    let mids : mid' ≡ mid = cc in
    let on = next_by program one limits thread n n' mid t last rest later next following end reached step
    (subst (λ (x : State). RunsTo program limits thread n' x later end last) mids run) in
    record {
      later = on.later;
      is = joined' ∙ (ap (λ (ps : List Passing). ps ++ later) (sym same.0)
          ∙ (ap (λ (ps : List Passing). first ++ ps) on.is
          ∙ (sym (append_assoc first rest (next ∷ on.later)) ∙ sym (ap (λ (ps : List Passing). ps ++ next ∷ on.later) joined))));
    }

pub next_of_run : (program : Program) → OneUnit program → (limits : Limits) (thread : ℕ) (passed all : List Passing) (s : State) (next : Passing)
    (end : End) (last : State)
    → ComesTo program limits thread passed s next → PlainRun program limits thread all end last → GoesOnBy all passed next
next_of_run program one limits thread passed all s next end last comes (n, run) =
    next_by program one limits thread comes.steps n (opening program thread) s last passed all next comes.following end comes.reached comes.passes run

-- ---- passings are counted

abbrev passings_of : Next → ℕ
passings_of (Goes s) = s.passings
passings_of (Ends end s) = s.passings

by_flag : (b : Bool) (x y : Next) (n : ℕ) → passings_of x ≡ n → passings_of y ≡ n → passings_of (if b then x else y) ≡ n
by_flag true x y n is is' = is
by_flag false x y n is is' = is'

returns_count : (s : State) (stack : List ℕ) → passings_of (returns s stack) ≡ s.passings
returns_count s [] = refl
returns_count s (address ∷ stack) = refl

popped_count : (s : State) (following reg : ℕ) (stack : List ℕ) → passings_of (popped s following reg stack) ≡ s.passings
popped_count s following reg [] = refl
popped_count s following reg (value ∷ stack) = refl

does_count : (s : State) (following : ℕ) (instr : Instr) → passings_of (does s following instr) ≡ s.passings
does_count s following (Mov dst imm) = refl
does_count s following (Add dst src) = refl
does_count s following (Sub dst src) = refl
does_count s following (Push reg) = by_flag (length s.stack == stack_limit) _ _ s.passings refl refl
does_count s following (Pop reg) = popped_count s following reg s.stack
does_count s following (Call rel) = by_flag (length s.stack == stack_limit) _ _ s.passings refl refl
does_count s following (Jmp rel) = refl
does_count s following (Jnz rel) = refl
does_count s following Ret = returns_count s s.stack
does_count s following (Out port) = by_flag (length s.output == output_limit) _ _ s.passings refl refl

after_count : (limits : Limits) (s : State) (kind : SledKind) → passings_of (after_passing limits s kind) ≡ s.passings
after_count limits s kinds.Entry = refl
after_count limits s kinds.Tail = refl
after_count limits s kinds.Args = refl
after_count limits s kinds.Exit = by_flag (s.instructions == limits.fuel) (Ends ends.Fuel s) (returns s s.stack) s.passings refl (returns_count s s.stack)

sled_count : (program : Program) (limits : Limits) (thread k : ℕ) (s : State) (spent : Bool) (made : List Passing) (next : Next)
    → Passes program limits thread s k spent made next → passings_of next ≡ s.passings + length made
sled_count program limits thread k s true made next (none, is) =
    let count : length made ≡ 0 = ap length none in
    let same : passings_of next ≡ s.passings = ap passings_of is in omega arith
sled_count program limits thread k s false made next (sled, found, one, is) =
    let count : length made ≡ 1 = ap length one in
    let more : passings_of next ≡ s.passings + 1 = ap passings_of is ∙ after_count limits (record s { passings = s.passings + 1 }) sled.kind in omega arith

unit_count : (program : Program) (limits : Limits) (thread : ℕ) (s : State) (what : What) (made : List Passing) (next : Next)
    → UnitStep program limits thread s what made next → passings_of next ≡ s.passings + length made
unit_count program limits thread s (whats.Plain instr) made next (none, is) =
    let count : length made ≡ 0 = ap length none in
    let same : passings_of next ≡ s.passings = ap passings_of is
    ∙ by_flag (s.instructions == limits.fuel) (Ends ends.Fuel s) (does s (s.address + length (spelling instr)) instr) s.passings refl
    (does_count s (s.address + length (spelling instr)) instr) in omega arith
unit_count program limits thread s (whats.Sled k) made next step = sled_count program limits thread k s (s.passings == limits.passings) made next step
unit_count program limits thread s whats.Pad made next (none, is) =
    let count : length made ≡ 0 = ap length none in
    let same : passings_of next ≡ s.passings = ap passings_of is in omega arith

step_count : (program : Program) (limits : Limits) (thread : ℕ) (s : State) (made : List Passing) (next : Next)
    → PlainStep program limits thread s made next → passings_of next ≡ s.passings + length made
step_count program limits thread s made next (inl (far, none, is)) =
    let count : length made ≡ 0 = ap length none in
    let same : passings_of next ≡ s.passings = ap passings_of is in omega arith
step_count program limits thread s made next (inr (u, among, at, step)) = unit_count program limits thread s u.what made next step

-- as many passings are counted as there are on the way
pub way_count : (program : Program) (limits : Limits) (thread n : ℕ) (s t : State) (passed : List Passing)
    → Reaches program limits thread n s passed t → t.passings ≡ s.passings + length passed
way_count program limits thread zero s t passed (none, same) =
    let count : length passed ≡ 0 = ap length none in
    let at : t.passings ≡ s.passings = ap (λ (x : State). x.passings) same in omega arith
way_count program limits thread (suc n) s t passed (first, later, mid, step, rest, joined) =
    let count : length passed ≡ length first + length later = ap length joined ∙ length-append first later in
    let here : mid.passings ≡ s.passings + length first = step_count program limits thread s first (Goes mid) step in
    let there = way_count program limits thread n mid t later rest in omega arith

pub run_count : (program : Program) (limits : Limits) (thread n : ℕ) (s last : State) (passed : List Passing) (end : End)
    → RunsTo program limits thread n s passed end last → last.passings ≡ s.passings + length passed
run_count program limits thread zero s last passed end step = step_count program limits thread s passed (Ends end last) step
run_count program limits thread (suc n) s last passed end (first, later, mid, step, rest, joined) =
    let count : length passed ≡ length first + length later = ap length joined ∙ length-append first later in
    let here : mid.passings ≡ s.passings + length first = step_count program limits thread s first (Goes mid) step in
    let there = run_count program limits thread n mid last later end rest in omega arith
