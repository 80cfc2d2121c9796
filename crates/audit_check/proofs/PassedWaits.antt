-- The waits that a follower has passed, and the bound of a passing.
use Rattle.std.proofs.Common.{◌≡◌, ℕ, ◌+◌, ◌<◌, ◌≤◌, true, false, List, length, Some, sym, ap, subst, ◌∙◌, arith, inl, inr}
use Rattle.std.specs.Prelude.{slice_get}
use Rattle.std.proofs.lemmas.Bool.{cases_lt}
use Rattle.std.proofs.lemmas.Option.{same_Some}
use Rattle.xray_image.specs.Program.{Program}
use Rattle.patch_script.specs.declared.command.PatchCommand.{PatchCommand}
use Rattle.patch_script.specs.declared.micro.Micro.{Micro}
use Rattle.patch_script.specs.Bounds.{bound_of}
use Rattle.patch_script.specs.Micros.{micros}
use Rattle.audit_check.specs.declared.follower.Follower.{Follower}
use Rattle.audit_check.specs.declared.switches.Awaited.{Awaited}
use Rattle.audit_check.specs.private.Judging.{ArePassed, FindsBound, Judges, StopsAt, bounds_passing}
use Rattle.audit_check.specs.private.Switches.{awaits_from}
use Rattle.audit_check.proofs.PassingBounds.{bound_at, no_bound}
use Rattle.audit_check.proofs.WalkedThread.{take_all}

-- one more wait is passed
pub passed_one : (f : Follower) (passing count : ℕ) (awaited : Awaited) → slice_get f.course.now.awaits.items count ≡ Some awaited
    → bounds_passing f.thread passing awaited ≡ false → ArePassed f passing count → ArePassed f passing (count + 1)
passed_one f passing count awaited found none passed = λ i other low is. elim (cases_lt i count) [
  | inl less ↦ passed i other less is
  | inr more ↦
      let same : i ≡ count = omega arith in
      let equal : awaited ≡ other = same_Some awaited other (sym found ∙ (ap (slice_get f.course.now.awaits.items) (sym same) ∙ is)) in
      subst (λ (a : Awaited). bounds_passing f.thread passing a ≡ false) equal none
]

pub passed_next : (f g : Follower) (awaited : Awaited) → g ≡ record f { awaits = g.awaits } → slice_get f.course.now.awaits.items g.awaits ≡ Some awaited
    → bounds_passing g.thread g.passing awaited ≡ false → ArePassed g f.passing g.awaits → ArePassed g f.passing (g.awaits + 1)
passed_next f g awaited same found none passed =
    passed_one g f.passing g.awaits awaited
    (subst (λ (x : Follower). slice_get x.course.now.awaits.items g.awaits ≡ Some awaited) (sym same) found)
    (subst (λ n. bounds_passing g.thread n awaited ≡ false) (ap (λ (x : Follower). x.passing) same) none) passed

-- ---- the bound

module _ (program : Program) (threads : ℕ) (script : List PatchCommand) (f : Follower) (judges : Judges program threads script f) where
  abbrev steps : List Micro
  steps = micros program threads script

  awaits_are : f.course.now.awaits.items ≡ awaits_from 0 steps
  awaits_are = judges.course.awaits ∙ ap (awaits_from 0) (take_all steps)

  found_bound : (passing number : ℕ) (awaited : Awaited) → slice_get f.course.now.awaits.items number ≡ Some awaited → ArePassed f passing number
      → bounds_passing f.thread passing awaited ≡ true → awaited.place ≡ bound_of program threads script f.thread passing
  found_bound passing number awaited is none met =
      let there : slice_get (awaits_from 0 steps) number ≡ Some awaited = sym (ap (λ (l : List Awaited). slice_get l number) awaits_are) ∙ is in
      let at = bound_at f.thread passing 0 steps number awaited there
      (subst (λ (l : List Awaited). (i : ℕ) (a : Awaited) → i < number → slice_get l i ≡ Some a → bounds_passing f.thread passing a ≡ false) awaits_are none) met in
      omega (arith, at)

  end_bound : (passing number : ℕ) → length f.course.now.awaits.items ≤ number → ArePassed f passing number
      → f.course.now.total ≡ bound_of program threads script f.thread passing
  end_bound passing number past none =
      let all : (i : ℕ) (a : Awaited) → i < length f.course.now.awaits.items → slice_get f.course.now.awaits.items i ≡ Some a
      → bounds_passing f.thread passing a ≡ false = λ i a low is. none i a (omega (arith, low, past)) is in
      judges.course.total ∙ sym (no_bound f.thread passing 0 steps
      (subst (λ (l : List Awaited). (i : ℕ) (a : Awaited) → i < length l → slice_get l i ≡ Some a → bounds_passing f.thread passing a ≡ false) awaits_are all))

-- a follower that has passed all waits that don't bound the passing
pub bound_some : (f g : Follower) (awaited : Awaited) → g ≡ record f { awaits = g.awaits } → slice_get g.course.now.awaits.items g.awaits ≡ Some awaited
    → StopsAt g f.passing g.awaits → ArePassed g f.passing g.awaits → FindsBound f f.passing awaited.place
bound_some f g awaited same is stops passed = λ program threads script judges.
    let there : slice_get f.course.now.awaits.items g.awaits ≡ Some awaited =
    subst (λ (x : Follower). slice_get x.course.now.awaits.items g.awaits ≡ Some awaited) same is in
    let stops_there : StopsAt f f.passing g.awaits = subst (λ (x : Follower). StopsAt x f.passing g.awaits) same stops in
    found_bound program threads script f judges f.passing g.awaits awaited there
    (subst (λ (x : Follower). ArePassed x f.passing g.awaits) same passed) (stops_there awaited there)

pub bound_none : (f g : Follower) → g ≡ record f { awaits = g.awaits } → length g.course.now.awaits.items ≤ g.awaits → ArePassed g f.passing g.awaits
    → FindsBound f f.passing g.course.now.total
bound_none f g same past passed = λ program threads script judges.
    let there : length f.course.now.awaits.items ≤ g.awaits = subst (λ (x : Follower). length x.course.now.awaits.items ≤ g.awaits) same past in
    let total : g.course.now.total ≡ f.course.now.total = ap (λ (x : Follower). x.course.now.total) same in
    total ∙ end_bound program threads script f judges f.passing g.awaits there (subst (λ (x : Follower). ArePassed x f.passing g.awaits) same passed)
