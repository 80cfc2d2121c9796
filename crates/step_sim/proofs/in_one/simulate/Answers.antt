use Rattle.std.proofs.Common.{◌≡◌, Err, Ok, ap, subst, sym}
use Rattle.std.specs.Prelude.{◌↔◌, All, Result}
use Rattle.std.proofs.lemmas.Result.{err_from_is_err_and}
use Rattle.step_sim.specs.declared.sim_fault.SimFault.TheVariants.{Waits}
use Rattle.step_sim.specs.Schedules.{AreTurnsOf}
use Rattle.step_sim.specs.Starts.{Start}
use Rattle.step_sim.proofs.in_one.simulate.Goals as goal

same_fault : {X E : Type 0} (fault other : E) → ◌≡◌ {A = Result X E} (Err fault) (Err other) → fault ≡ other
same_fault fault other e = cc

no_fault : {X E : Type 0} (x : X) (fault : E) → ◌≡◌ {A = Result X E} (Ok x) (Err fault) → ⊥
no_fault x fault e = cc

-- a fault is the same, whatever it comes in place of
alike : {X Y E : Type 0} (fault other : E) (P : Type 0) → ◌≡◌ {A = Result X E} (Err fault) (Err other) ↔ P → ◌≡◌ {A = Result Y E} (Err fault) (Err other) ↔ P
alike fault other P is = (λ e. is.0 (ap Err (same_fault fault other e)), λ p. ap Err (same_fault fault other (is.1 p)))

pub returns-in_err-start-clause-waits : goal.returns-in_err-start-clause-waits
returns-in_err-start-clause-waits c line =
    let p = err_from_is_err_and c.from_residual.result c.from_residual.ensures.1 in
    rw (p.1, p.2) (alike _ (Waits line) _ (c.in_err-start.ensures.waits line))

pub play-requires : goal.play-requires
play-requires c =
    subst (λ (s : Start). All (AreTurnsOf s.setup.threads) c.args.schedule.now) (sym c.in_ok-start.ensures.start) c.requires.turns

pub returns-clause-waits : goal.returns-clause-waits
returns-clause-waits c line = (
  λ e. absurd (no_fault c.play.result (Waits line) e),
  λ found. absurd (no_fault c.in_ok-start.start (Waits line) ((c.in_ok-start.ensures.waits line).1 found)),
)
