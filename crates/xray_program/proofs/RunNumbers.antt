-- The numbers of the audit of a run have at most 64 bits.
use Rattle.std.proofs.Common.{◌≡◌, ◌<◌, ◌^◌, ℕ, zero, suc, List, [], ◌∷◌, length, Some, refl, arith, subst}
use Rattle.std.specs.Prelude.{All, slice_get}
use Rattle.std.specs.List.{AllByRecursion}
use Rattle.std.proofs.lemmas.List.Elements.{All-cons, All-from_recursion, All-nil}
use Rattle.std.proofs.lemmas.Option.{get_or_from_slice_get, slice_get_within}
use Rattle.audit_check.specs.Statements.{HasCounts, MayState, run_statement}
use Rattle.machine_step.specs.Setups.{IsSetup}
use Rattle.machine_step.specs.declared.setup.Setup.{Setup}
use Rattle.trace_flush.specs.Audit.{ThreadAudit}
use Rattle.trace_flush.specs.Lines.{audits_of}
use Rattle.trace_flush.specs.Telling.{HasNumbers, HasRunNumbers, HasSetupNumbers, setup_numbers}
use Rattle.traced_run.specs.Runs.{ThreadRun}

-- those of a setup that a run may have
setup_has : (setup : Setup) → IsSetup setup → HasSetupNumbers setup
setup_has setup is =
    let Small : ℕ → Type 0 = λ n. n < 2 ^ 64 in
    let clocks : AllByRecursion Small (setup.pid ∷ setup.wall.secs ∷ setup.wall.micros ∷ setup.frequency ∷ []) =
    (omega (arith, is.pid), (is.wall_is.secs, (omega (arith, is.wall_is.micros), (is.frequency, tt)))) in
    let cpus : AllByRecursion Small (setup.limits.cpus ∷ setup.limits.migrate ∷ setup.pid ∷ setup.wall.secs ∷ setup.wall.micros ∷ setup.frequency ∷ []) =
    (omega (arith, is.limits_are.few_cpus), (omega (arith, is.limits_are.short_stay), clocks)) in
    All-from_recursion Small (setup_numbers setup) (
      omega (arith, is.few_threads),
      (
        omega (arith, is.most),
        (
          omega (arith, is.few_buffers),
          (
            omega (arith, is.limits_are.fuel),
            (omega (arith, is.limits_are.passings), (is.limits_are.tick, (is.limits_are.tsc, cpus))),
          ),
        ),
      ),
    )

each_of : (P : ThreadAudit → Type 0) (threads : List ThreadAudit) → ((i : ℕ) (said : ThreadAudit) → slice_get threads i ≡ Some said → P said) → All P threads
each_of P [] each = All-nil P
each_of P (said ∷ threads) each = All-cons P said threads (each zero said refl) (each_of P threads (λ i s found. each (suc i) s found))

-- those of what an audit may state of runs
pub has_run_numbers : (setup : Setup) (runs : List ThreadRun) → MayState (run_statement setup runs) → HasRunNumbers setup runs
has_run_numbers setup runs may = record {
  setup_has = setup_has setup may.names.setup_is;
  threads_have = each_of HasNumbers (audits_of setup runs) (λ i said found.
      let within : i < length (audits_of setup runs) = slice_get_within (audits_of setup runs) i said found in
      let counts : HasCounts said = subst HasCounts (get_or_from_slice_get (audits_of setup runs) i said said found) (may.counts i said within) in
      record {
        number = omega (arith, may.names.numbered i said found, within, may.names.count, may.names.setup_is.few_threads);
        passings = omega (arith, counts.passings);
        recorded = omega (arith, counts.recorded);
        segments = omega (arith, counts.segments);
        first = omega (arith, counts.first);
        marks = omega (arith, counts.marks);
      });
}
