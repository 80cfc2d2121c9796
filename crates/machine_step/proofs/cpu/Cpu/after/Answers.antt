use Rattle.std.proofs.Common.{◌≡◌, ◌<◌, ◌++◌, ◌∷◌, List, [], refl, sym, subst, ◌∙◌}
use Rattle.std.proofs.lemmas.Bool.{false≢true}
use Rattle.handler_word.specs.declared.mark.Mark.{Mark}
use Rattle.machine_step.specs.declared.underway.Underway.{Underway}
use Rattle.machine_step.specs.Loads.{Load, sled_logs_args}
use Rattle.machine_step.specs.PlainStep.{Passing}
use Rattle.machine_step.specs.Traced.{Allows, ending_mark, HasLoaded, IsKept, Traced, load_of, loads_left}
use Rattle.machine_step.specs.Underway.{IsPassingOf, in_passing}
use Rattle.machine_step.proofs.GivenThread.{leads}
use Rattle.machine_step.proofs.UnderwayPassing.{kept_never, loads_on, mark_by, nearer_by, still_free}
use Rattle.machine_step.proofs.cpu.Cpu.after.Goals as goal

pub returns-in-Loads-clause-of : goal.returns-in-Loads-clause-of
returns-in-Loads-clause-of c = record {
  exists = c.requires.underway.exists;
  head = c.requires.underway.head;
  free = still_free (sled_logs_args c.image.result.now c.args.underway.sled) c.args.underway c.in-Loads.stage c.args.value c.requires.underway.free (sym c.in-Loads.ensures);
}

pub returns-in-Loads-clause-loads : goal.returns-in-Loads-clause-loads
returns-in-Loads-clause-loads c =
    let u = c.args.underway in
    let value = c.args.value in
    let next : Underway = record { sled = u.sled; stage = c.in-Loads.stage } in
    let following = leads c.self.inside _ u.sled u.stage value _ c.image.ensures.program c.in-Loads.ensures in
    subst (λ (t : Traced). IsPassingOf t u → Allows (in_passing t u) (in_passing t u).want value → (passed : List Passing) (loads : List Load)
    → HasLoaded (in_passing t u) passed loads → HasLoaded (in_passing t next) passed (loads ++ load_of (in_passing t u).want value)) c.self.view_is
    (λ of. loads_on c.self.inside c.self.invariant u of c.in-Loads.stage value following) c.requires.underway c.requires.allowed

pub returns-in-Loads-clause-free : goal.returns-in-Loads-clause-free
returns-in-Loads-clause-free c =
    let u = c.args.underway in
    subst (λ (t : Traced). IsPassingOf t u → IsKept (in_passing t u) c.args.value → ⊥) c.self.view_is
    (λ of. kept_never c.self.inside c.self.invariant u of c.args.value) c.requires.underway

pub returns-in-Loads-clause-nearer : goal.returns-in-Loads-clause-nearer
returns-in-Loads-clause-nearer c =
    let u = c.args.underway in
    let next : Underway = record { sled = u.sled; stage = c.in-Loads.stage } in
    let following = leads c.self.inside _ u.sled u.stage c.args.value _ c.image.ensures.program c.in-Loads.ensures in
    subst (λ (t : Traced). IsPassingOf t u → loads_left (in_passing t next) < loads_left (in_passing t u)) c.self.view_is
    (λ of. nearer_by c.self.inside c.self.invariant u of c.in-Loads.stage c.args.value following) c.requires.underway

pub returns-in-Ends-clause-free : goal.returns-in-Ends-clause-free
returns-in-Ends-clause-free c =
    let u = c.args.underway in
    subst (λ (t : Traced). IsPassingOf t u → IsKept (in_passing t u) c.args.value → ⊥) c.self.view_is
    (λ of. kept_never c.self.inside c.self.invariant u of c.args.value) c.requires.underway

pub returns-in-Loads-clause-ends : goal.returns-in-Loads-clause-ends
returns-in-Loads-clause-ends c =
    let u = c.args.underway in
    let following = leads c.self.inside _ u.sled u.stage c.args.value _ c.image.ensures.program c.in-Loads.ensures in
    let none = subst (λ (t : Traced). IsPassingOf t u → ending_mark t.program (in_passing t u).recording (in_passing t u).want c.args.value ≡ []) c.self.view_is
    (λ of. mark_by c.self.inside c.self.invariant u of c.args.value _ following) c.requires.underway in (
      λ some. none,
      λ is. refl,
    )

pub returns-in-Ends-clause-ends : goal.returns-in-Ends-clause-ends
returns-in-Ends-clause-ends c =
    let u = c.args.underway in
    let mark : Mark = c.in-Ends.field-0 in
    let following = leads c.self.inside _ u.sled u.stage c.args.value _ c.image.ensures.program c.in-Ends.ensures in
    let one = subst (λ (t : Traced). IsPassingOf t u → ending_mark t.program (in_passing t u).recording (in_passing t u).want c.args.value ≡ mark ∷ []) c.self.view_is
    (λ of. mark_by c.self.inside c.self.invariant u of c.args.value _ following) c.requires.underway in (
      λ some. absurd (false≢true some),
      λ is. absurd (no_item mark (sym one ∙ is)),
    )
  where
    no_item : (mark : Mark) → mark ∷ [] ≡ [] → ⊥
    no_item mark is = cc
