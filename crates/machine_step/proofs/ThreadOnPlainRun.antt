-- A traced thread on its plain run.
use Rattle.std.proofs.Common.{◌≡◌, ℕ, suc, ◌<◌, ◌==◌, Bool, true, false, List, [], ◌∷◌, ◌++◌, length, Option, Some, None, refl, sym, ap, ◌∙◌, subst, arith}
use Rattle.std.specs.Prelude.{if◌then◌else◌, slice_get}
use Rattle.std.proofs.lemmas.Bool.{eqb-false}
use Rattle.xray_image.specs.declared.sled.Sled.{Sled}
use Rattle.xray_image.specs.Program.{Program}
use Rattle.machine_step.specs.declared.end.End.{End}
use Rattle.machine_step.specs.declared.cpu.Cpu.TheInside.{Inside}
use Rattle.machine_step.specs.PlainStep.{State, Passing, PlainRun, passing_at}
use Rattle.machine_step.specs.Course.{ComesTo}
use Rattle.machine_step.specs.private.Inside.{traced, IsAtPassing, IsPastEnd, IsSound}
use Rattle.machine_step.specs.Loads.{is_held_at}
use Rattle.machine_step.specs.private.Machine.{state_at}
use Rattle.machine_step.specs.private.Stages.{word_at, first_stage, stage_by}
use Rattle.machine_step.specs.Traced.{IsBeforePassing, IsAtEnd, BeginsPassing, sleds_passed, first_word}
use Rattle.machine_step.specs.Traced.{state_at as traced_at}
use Rattle.machine_step.proofs.Accepted.{are_in_order}
use Rattle.machine_step.proofs.OneUnit.{accepted_units}
use Rattle.machine_step.proofs.OneEnd.{same_step}
use Rattle.machine_step.proofs.PlainWays.{GoesOnBy, next_of_run}
use Rattle.machine_step.proofs.WayToSled.{at_passing}

-- ---- where it is

-- the passing that the thread is before
pub record Before (a : Inside) (place k : ℕ) (at : IsAtPassing a place k) : Type 0 where
  pub sled : Sled
  pub found : slice_get a.steps.now.sleds k ≡ Some sled
  pub next_is : at.next ≡ passing_at a.limits a.thread (state_at at.address a.machine) k sled
  pub left : a.machine.passings < a.limits.passings

if_some_left : (spent : Bool) (o : Option ℕ) (k : ℕ) → (if spent then None else o) ≡ Some k → spent ≡ false
if_some_left true o k is = absurd cc
if_some_left false o k is = refl

pub before_of : (a : Inside) → IsSound a → (place k : ℕ) (at : IsAtPassing a place k) → Before a place k at
before_of a sound place k at =
    let here = at_passing a.steps.now (are_in_order sound.setup.bytes a.steps.now sound.setup.accepted) a.limits a.thread at.address place k a.machine
    at.at.step sound.within at.at.placed at.at.is_step at.at.due in
    let made = (same_step a.steps.now (accepted_units sound.setup.bytes a.steps.now sound.setup.accepted) a.limits a.thread (state_at at.address a.machine)
    (at.next ∷ []) (passing_at a.limits a.thread (state_at at.address a.machine) k here.sled ∷ []) at.comes.following here.next
    at.comes.passes here.passes).0 in
    let other = eqb-false a.machine.passings a.limits.passings (if_some_left (a.machine.passings == a.limits.passings) _ k at.at.due) in
    let within = sound.within in
    record {
      sled = here.sled;
      found = here.found;
      next_is = cc;
      left = omega (arith, within.passings);
    }

-- the state, as contracts see it
same_state : (a : Inside) → IsSound a → (address : ℕ) → state_at address a.machine ≡ traced_at address (traced a)
same_state a sound address =
    ap (λ n. let s : State = record {
      address = address;
      registers = a.machine.registers;
      zero_flag = a.machine.zero_flag;
      stack = a.machine.stack;
      output = a.machine.output;
      instructions = a.machine.instructions;
      passings = n;
    } in s) (sym sound.made)

pub stands_before : (a : Inside) → IsSound a → (place k : ℕ) → IsAtPassing a place k → IsBeforePassing (traced a)
stands_before a sound place k at = record {
  passed = at.passed;
  next = at.next;
  address = at.address;
  count = at.count ∙ sym sound.made;
  comes = subst (λ (s : State). ComesTo a.steps.now a.limits a.thread at.passed s at.next) (same_state a sound at.address) at.comes;
}

pub stands_past : (a : Inside) → IsSound a → (end : End) → IsPastEnd a end → IsAtEnd (traced a) end
stands_past a sound end past = record {
  passed = past.passed;
  address = past.address;
  count = past.count ∙ sym sound.made;
  run = subst (λ (s : State). PlainRun a.steps.now a.limits a.thread past.passed end s) (same_state a sound past.address) past.run;
}

-- ---- the passings of its run

pub found_after : {X : Type 0} (xs : List X) (x : X) (ys : List X) → slice_get (xs ++ x ∷ ys) (length xs) ≡ Some x
found_after [] x ys = refl
found_after (first ∷ xs) x ys = found_after xs x ys

-- lists that are split after prefixes of equal length
pub same_split : {X : Type 0} (xs ys : List X) (x y : X) (xs' ys' : List X) → length xs ≡ length ys → xs ++ x ∷ xs' ≡ ys ++ y ∷ ys'
    → (x ≡ y) × (xs' ≡ ys')
same_split [] [] x y xs' ys' long same = (cc, cc)
same_split [] (first ∷ ys) x y xs' ys' long same = absurd (omega arith)
same_split (first ∷ xs) [] x y xs' ys' long same = absurd (omega arith)
same_split (first ∷ xs) (other ∷ ys) x y xs' ys' long same =
    let rest : xs ++ x ∷ xs' ≡ ys ++ y ∷ ys' = cc in same_split xs ys x y xs' ys' (omega arith) rest

pub sleds_split : (passed : List Passing) (next : Passing) (later : List Passing)
    → sleds_passed (passed ++ next ∷ later) ≡ sleds_passed passed ++ next.sled ∷ sleds_passed later
sleds_split [] next later = refl
sleds_split (first ∷ passed) next later = ap (λ ks. first.sled ∷ ks) (sleds_split passed next later)

pub sleds_length : (passed : List Passing) → length (sleds_passed passed) ≡ length passed
sleds_length [] = refl
sleds_length (first ∷ passed) = ap suc (sleds_length passed)

-- the run goes on with the passing that it is before
pub goes_on_by : (a : Inside) → IsSound a → (place k : ℕ) (at : IsAtPassing a place k) (all : List Passing) (end : End) (last : State)
    → PlainRun a.steps.now a.limits a.thread all end last → GoesOnBy all at.passed at.next
goes_on_by a sound place k at all end last run =
    next_of_run a.steps.now (accepted_units sound.setup.bytes a.steps.now sound.setup.accepted) a.limits a.thread at.passed all (state_at at.address a.machine)
    at.next end last at.comes run

-- ---- a gate is opened

first_word_by : (program : Program) (threads thread k : ℕ) (held : Bool)
    → (if held then Rattle.sled_words.specs.Words.release_word program thread else Rattle.sled_words.specs.Words.word_of k Rattle.sled_words.specs.declared.part.Part.TheVariants.Head)
    ≡ word_at program threads thread k (stage_by held)
first_word_by program threads thread k true = refl
first_word_by program threads thread k false = refl

pub first_word_is : (a : Inside) → IsSound a → (k : ℕ) → first_word (traced a) k ≡ word_at a.steps.now a.threads a.thread k (first_stage a.hold a.machine.passings)
first_word_is a sound k =
    first_word_by a.steps.now a.threads a.thread k (is_held_at a.hold (length a.marks.items))
    ∙ ap (λ n. word_at a.steps.now a.threads a.thread k (first_stage a.hold n)) sound.made

-- the first word of the passing that the thread is before
pub begins_at : (a : Inside) → IsSound a → (place k : ℕ) → IsAtPassing a place k → (all : List Passing) (end : End) (last : State) (next : Option ℕ)
    → PlainRun a.steps.now a.limits a.thread all end last → BeginsPassing (traced a) all next
    → next ≡ Some (word_at a.steps.now a.threads a.thread k (first_stage a.hold a.machine.passings))
begins_at a sound place k at all end last next run begins =
    let on = goes_on_by a sound place k at all end last run in
    let before = before_of a sound place k at in
    let long : length a.marks.items ≡ length at.passed = sound.made ∙ sym at.count in
    let found : slice_get all (length a.marks.items) ≡ Some at.next =
    ap (slice_get all) long ∙ (ap (λ (ps : List Passing). slice_get ps (length at.passed)) on.is ∙ found_after at.passed at.next on.later) in
    let same : begins.passing ≡ at.next = one begins.passing at.next (sym begins.found ∙ found) in
    let sled : begins.passing.sled ≡ k = ap (λ (p : Passing). p.sled) (same ∙ before.next_is) in
    begins.first ∙ (ap (λ s. Some (first_word (traced a) s)) sled ∙ ap Some (first_word_is a sound k))
  where
    one : (p q : Passing) → Some p ≡ Some q → p ≡ q
    one p q is = cc
