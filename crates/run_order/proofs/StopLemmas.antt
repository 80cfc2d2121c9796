-- Stops: the loads at a place, and what is left after it.
use Rattle.std.proofs.Common.{◌≡◌, ℕ, zero, suc, ◌+◌, ◌*◌, ◌<◌, List, [], ◌∷◌, ◌++◌, append-nil, Bool, true, false, cond, refl, sym, ap, subst, ◌∙◌, arith}
use Rattle.std.specs.Prelude.{◌==◌, replicate}
use Rattle.std.proofs.lemmas.Bool.Decides.{nat_tests}
use Rattle.std.proofs.lemmas.List.Sums.{sum_by-append}
use Rattle.std.proofs.lemmas.List.Folds.{sum_by-replicate}
use Rattle.step_sim.specs.declared.turns.Turns.{Turns}
use Rattle.step_sim.specs.declared.turns.Turns.TheVariants.{Thread}
use Rattle.run_order.specs.declared.lines.ScheduleLines.{ScheduleLines}
use Rattle.audit_check.specs.declared.stop.Stop.{Stop}
use Rattle.run_order.specs.private.Ordered.{load_line}
use Rattle.run_order.specs.private.Lines.{HasJoined}
use Rattle.audit_check.specs.Stops.{places_of}
use Rattle.run_order.specs.private.Stops.{AreStops, Passes, loads_at}

abbrev tally : Bool → ℕ
tally passes = cond passes 1 0

-- the loads at a place are those of the first stop, if it is there, and those of the others
loads-cons : (place : ℕ) (stop : Stop) (later : List Stop)
    → loads_at place (stop ∷ later) ≡ stop.loads * tally (stop.place == place) + loads_at place later
loads-cons place stop later =
    sum_by-append (λ other. tally (other == place)) (replicate stop.loads stop.place) (places_of later)
    ∙ ap (λ n. n + loads_at place later) (sum_by-replicate (λ other. tally (other == place)) stop.loads stop.place)

times_one : (n : ℕ) (place other : ℕ) → other ≡ place → n * tally (other == place) ≡ n
times_one n place other e =
    let one : tally (other == place) ≡ tally true = ap tally (let is : (other == place) ≡ true = grind (arith, nat_tests) in is) in
    ap (λ m. n * m) one ∙ (let e : n * 1 ≡ n = omega arith in e)

times_none : (n : ℕ) (place other : ℕ) → (other ≡ place → ⊥) → n * tally (other == place) ≡ 0
times_none n place other apart =
    let none : tally (other == place) ≡ tally false = ap tally (let is : (other == place) ≡ false = grind (arith, nat_tests) in is) in
    ap (λ m. n * m) none ∙ (let e : n * 0 ≡ 0 = omega arith in e)

-- none is before the first
pub loads_none : (place from : ℕ) (stops : List Stop) → AreStops from stops → place < from → loads_at place stops ≡ 0
loads_none place from [] are low = refl
loads_none place from (stop ∷ later) are low =
    omega (
      arith,
      loads-cons place stop later,
      times_none stop.loads place stop.place (λ e. omega (arith, e, are.0, low)),
      loads_none place (stop.place + 1) later are.2 (omega (arith, are.0, low)),
    )

-- those of the first stop
pub first_loads : (place : ℕ) (stop : Stop) (later : List Stop) → AreStops place (stop ∷ later) → stop.place ≡ place
    → loads_at place (stop ∷ later) ≡ stop.loads
first_loads place stop later are here =
    omega (
      arith,
      loads-cons place stop later,
      times_one stop.loads place stop.place here,
      loads_none place (stop.place + 1) later are.2 (omega (arith, here)),
    )

pub first_passes : (place : ℕ) (stop : Stop) (later : List Stop) → stop.place ≡ place → Passes place (stop ∷ later) later
first_passes place stop later here = record {
  stops = λ are. subst (λ (p : ℕ). AreStops (p + 1) later) here are.2;
  same = λ other are after.
      omega (arith, loads-cons other stop later, times_none stop.loads other stop.place (λ e. omega (arith, e, here, after)));
}

-- a first stop at another place
pub other_loads : (place : ℕ) (stop : Stop) (later : List Stop) → AreStops place (stop ∷ later) → (stop.place ≡ place → ⊥)
    → loads_at place (stop ∷ later) ≡ 0
other_loads place stop later are apart = loads_none place (place + 1) (stop ∷ later) (omega (arith, are.0, apart), are.1, are.2) (omega arith)

pub other_passes : (place : ℕ) (stop : Stop) (later : List Stop) → (stop.place ≡ place → ⊥) → Passes place (stop ∷ later) (stop ∷ later)
other_passes place stop later apart = record {
  stops = λ are. (omega (arith, are.0, apart), are.1, are.2);
  same = λ other are after. refl;
}

pub none_passes : (place : ℕ) → Passes place [] []
none_passes place = record { stops = λ are. tt; same = λ other are after. refl }

-- ---- lines

some_line : (thread loads : ℕ) → 0 < loads → load_line thread loads ≡ Thread thread loads ∷ []
some_line thread zero some = absurd (omega (arith, some))
some_line thread (suc loads) some = refl

pub first_line : (place thread : ℕ) (stop : Stop) (later : List Stop) → AreStops place (stop ∷ later) → stop.place ≡ place
    → load_line thread (loads_at place (stop ∷ later)) ≡ Thread thread stop.loads ∷ []
first_line place thread stop later are here =
    ap (load_line thread) (first_loads place stop later are here) ∙ some_line thread stop.loads are.1

pub other_line : (place thread : ℕ) (stop : Stop) (later : List Stop) → AreStops place (stop ∷ later) → (stop.place ≡ place → ⊥)
    → load_line thread (loads_at place (stop ∷ later)) ≡ []
other_line place thread stop later are apart = ap (load_line thread) (other_loads place stop later are apart)

-- lines to which nothing is added
pub none_added : (turns none : List Turns) (lines : ScheduleLines) → none ≡ [] → HasJoined turns lines → HasJoined (turns ++ none) lines
none_added turns none lines e are =
    subst (λ (ls : List Turns). HasJoined ls lines) (sym (ap (λ (ls : List Turns). turns ++ ls) e ∙ append-nil turns)) are
