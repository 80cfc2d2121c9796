-- A passing that a traced thread makes without loads.
use Rattle.std.proofs.Common.{◌≡◌, ℕ, ◌+◌, ◌*◌, ◌-◌, ◌<◌, ◌≤◌, List, [], ◌∷◌, ◌++◌, length, Some, sym, ap, subst, ◌∙◌, arith, length-append}
use Rattle.std.specs.Prelude.{slice_get}
use Rattle.handler_word.specs.declared.mark.Mark.{Mark}
use Rattle.handler_word.specs.MarkList.{MarkList}
use Rattle.xray_image.specs.Program.{Program}
use Rattle.machine_step.specs.declared.cpu.Cpu.TheInside.{Inside}
use Rattle.machine_step.specs.declared.end.End.{End}
use Rattle.machine_step.specs.declared.machine.Machine.{Machine}
use Rattle.machine_step.specs.declared.stand.Stand.{Stand}
use Rattle.machine_step.specs.declared.stand.Stand.TheVariants.{Gate, Loading, Ended}
use Rattle.machine_step.specs.private.Inside.{traced, want_at, IsSound}
use Rattle.machine_step.specs.PlainStep.{Passing, PlainRun, State}
use Rattle.machine_step.specs.Traced.{IsLoad, loads_left, stage_count, steps_left}
use Rattle.machine_step.proofs.ThreadAfterLoad.{IsBetween, passed_on}
use Rattle.machine_step.proofs.OpenedPassing.{gate_at}
use Rattle.machine_step.proofs.ThreadOnPlainRun.{before_of, found_after, goes_on_by}

-- the passing that it is before
pub passing_here : (a : Inside) → (sound : IsSound a) → (place k : ℕ) → a.stand ≡ Gate place k → (all : List Passing) (end : End) (last : State)
    → PlainRun a.steps.now a.limits a.thread all end last → (p : Passing) × (slice_get all (length a.marks.items) ≡ Some p) × (p.sled ≡ k)
passing_here a sound place k is all end last run =
    let at = gate_at a sound place k is in
    let before = before_of a sound place k at in
    let on = goes_on_by a sound place k at all end last run in
    let here : length a.marks.items ≡ length at.passed = sound.made ∙ sym at.count in (
      at.next,
      ap (slice_get all) here ∙ (ap (λ (ps : List Passing). slice_get ps (length at.passed)) on.is ∙ found_after at.passed at.next on.later),
      ap (λ (p : Passing). p.sled) before.next_is,
    )

-- it doesn't want a load then
pub wants_no_load : (program : Program) (threads thread made : ℕ) (stand : Stand) → IsBetween stand → IsLoad (want_at program threads thread made stand) → ⊥
wants_no_load program threads thread made (Gate place k) between load = load
wants_no_load program threads thread made (Loading place k at) between load = between
wants_no_load program threads thread made (Ended end) between load = load

-- before another passing, all stages of that one are left
steps_between : (program : Program) (threads thread made : ℕ) (stand : Stand) → IsBetween stand
    → steps_left program threads thread (want_at program threads thread made stand) ≤ stage_count program threads thread
steps_between program threads thread made (Gate place k) between = omega arith
steps_between program threads thread made (Loading place k at) between = absurd between
steps_between program threads thread made (Ended end) between = omega arith

fewer : (count left before steps : ℕ) → 0 < count → before ≡ left + 1 → steps ≤ count → count * left + steps < count * before + count
fewer count left before steps some is low =
    let all : count * before ≡ count * (left + 1) = ap (λ n. count * n) is in omega (arith, all)

-- it is nearer to its end
pub nearer_passed : (a : Inside) → (sound : IsSound a) → (place k : ℕ) → a.stand ≡ Gate place k → (m : Machine) (ms : MarkList) (stand : Stand) (mark : Mark)
    → ms.items ≡ a.marks.items ++ mark ∷ [] → IsBetween stand → loads_left (traced (passed_on a m ms stand)) < loads_left (traced a)
nearer_passed a sound place k is m ms stand mark more between =
    let program = a.steps.now in
    let before = before_of a sound place k (gate_at a sound place k is) in
    let long : length ms.items ≡ length a.marks.items + 1 = ap length more ∙ length-append a.marks.items (mark ∷ []) in
    let count = stage_count program a.threads a.thread in
    let old : steps_left program a.threads a.thread (traced a).want ≡ count =
    ap (λ (s : Stand). steps_left program a.threads a.thread (want_at program a.threads a.thread a.machine.passings s)) is in
    let new = steps_between program a.threads a.thread m.passings stand between in
    let left = a.limits.passings - length ms.items in
    let more_left : a.limits.passings - length a.marks.items ≡ left + 1 = omega (arith, before.left, sound.made) in
    let less = fewer count left (a.limits.passings - length a.marks.items) (steps_left program a.threads a.thread (want_at program a.threads a.thread m.passings stand))
    (omega arith) more_left new in
    subst (λ n. loads_left (traced (passed_on a m ms stand)) < count * (a.limits.passings - length a.marks.items) + n) (sym old) less
