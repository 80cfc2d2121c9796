-- Runs that are the same except for their losses.
use Rattle.std.proofs.Common.{◌≡◌, ◌∙◌, ℕ, suc, ◌+◌, ◌-◌, List, [], ◌∷◌, ◌++◌, length, map, refl, sym, ap, arith}
use Rattle.std.specs.Prelude.{Some, slice_get, sum_by}
use Rattle.std.specs.List.{enumerate_from}
use Rattle.std.proofs.lemmas.List.Sums.{sum_by-cons}
use Rattle.handler_word.specs.declared.mark.Mark.{Mark}
use Rattle.machine_step.specs.declared.end.End.{End}
use Rattle.machine_step.specs.declared.setup.Setup.{Setup}
use Rattle.machine_step.specs.Texts.{state_text}
use Rattle.trace_flush.specs.Audit.{ThreadAudit}
use Rattle.trace_flush.specs.Lines.{audit_of}
use Rattle.traced_run.specs.Kept.{segment_count}
use Rattle.traced_run.specs.Losses.{AreLost, recycled_of, without_losses}
use Rattle.traced_run.specs.Runs.{ThreadRun}
use Rattle.xray_program.specs.OrderReplays.{stated_of}
use Rattle.xray_program.specs.Traced.{state_texts}

-- ---- what doesn't depend on losses

texts_without : (n : ℕ) (runs : List ThreadRun) → state_texts n runs ≡ state_texts n (without_losses runs)
texts_without n [] = refl
texts_without n (run ∷ runs) =
    ap (λ (later : List ℕ). state_text n run.end run.last run.marks ++ later) (texts_without (n + 1) runs)

-- the state texts
pub texts_same : (n : ℕ) (runs others : List ThreadRun) → without_losses runs ≡ without_losses others → state_texts n runs ≡ state_texts n others
texts_same n runs others same = texts_without n runs ∙ ap (state_texts n) same ∙ sym (texts_without n others)

abbrev behind : ℕ → ThreadRun → ℕ
behind size run = segment_count size run - 1

segments_without : (size : ℕ) (runs : List ThreadRun) → sum_by (behind size) runs ≡ sum_by (behind size) (without_losses runs)
segments_without size [] = refl
segments_without size (run ∷ runs) =
    let rest = segments_without size runs in
    let one = sum_by-cons (behind size) run runs in
    let two = sum_by-cons (behind size) (record run { lost = 0 }) (without_losses runs) in
    omega (arith, rest, one, two)

-- how many segments aren't the last one of their thread
segments_same : (size : ℕ) (runs others : List ThreadRun) → without_losses runs ≡ without_losses others
    → sum_by (behind size) runs ≡ sum_by (behind size) others
segments_same size runs others same = segments_without size runs ∙ ap (sum_by (behind size)) same ∙ sym (segments_without size others)

-- ---- runs that lose nothing

none_lost : (runs : List ThreadRun) → recycled_of runs ≡ 0 → without_losses runs ≡ runs
none_lost [] none = refl
none_lost (run ∷ runs) none =
    let sum = sum_by-cons (λ (r : ThreadRun). r.lost) run runs in
    let here : 0 ≡ run.lost = omega (arith, sum, none) in
    let rest : recycled_of runs ≡ 0 = omega (arith, sum, none) in
    ap (λ n. record run { lost = n } ∷ without_losses runs) here ∙ ap (λ (rs : List ThreadRun). run ∷ rs) (none_lost runs rest)

-- if runs lose nothing, a queue with as many spare buffers loses nothing of runs that are the same except for their losses
pub nothing_lost : (size spare : ℕ) (runs others : List ThreadRun) → AreLost size spare runs → AreLost size spare others
    → without_losses others ≡ without_losses runs → recycled_of runs ≡ 0 → others ≡ runs
nothing_lost size spare runs others lost lost' same none =
    let segments = segments_same size others runs same in
    let other_none : recycled_of others ≡ 0 = omega (arith, segments, none, lost.recycled, lost'.recycled) in
    sym (none_lost others other_none) ∙ same ∙ none_lost runs none

-- ---- what is stated of them

abbrev outline : ThreadRun → End × ℕ × List Mark
outline run = (run.end, length run.marks, run.marks)

outline_without : (runs : List ThreadRun) → map outline runs ≡ map outline (without_losses runs)
outline_without [] = refl
outline_without (run ∷ runs) = ap (λ (os : List (End × ℕ × List Mark)). outline run ∷ os) (outline_without runs)

outline_stated : (setup : Setup) (n : ℕ) (runs : List ThreadRun) → map stated_of (map (audit_of setup) (enumerate_from n runs)) ≡ map outline runs
outline_stated setup n [] = refl
outline_stated setup n (run ∷ runs) = ap (λ (os : List (End × ℕ × List Mark)). outline run ∷ os) (outline_stated setup (n + 1) runs)

outline_said : (runs : List ThreadRun) (threads : List ThreadAudit) → length runs ≡ length threads
    → map (λ (run : ThreadRun). run.marks) runs ≡ map (λ (said : ThreadAudit). said.marks) threads
    → ((i : ℕ) (said : ThreadAudit) (run : ThreadRun) → slice_get threads i ≡ Some said → slice_get runs i ≡ Some run
    → (said.end ≡ run.end) × (length said.marks ≡ said.passings))
    → map outline runs ≡ map stated_of threads
outline_said [] [] count marks each = refl
outline_said [] (said ∷ threads) count marks each = absurd (omega (arith, count))
outline_said (run ∷ runs) [] count marks each = absurd (omega (arith, count))
outline_said (run ∷ runs) (said ∷ threads) count marks each =
    let own : run.marks ≡ said.marks = cc in
    let later : map (λ (r : ThreadRun). r.marks) runs ≡ map (λ (t : ThreadAudit). t.marks) threads = cc in
    let here = each 0 said run refl refl in
    let end : run.end ≡ said.end = sym here.0 in
    let passings : length run.marks ≡ said.passings = ap (λ (ms : List Mark). length ms) own ∙ here.1 in
    let same : outline run ≡ stated_of said = cc in
    ap (λ (o : End × ℕ × List Mark). o ∷ map outline runs) same
    ∙ ap (λ (os : List (End × ℕ × List Mark)). stated_of said ∷ os)
    (outline_said runs threads (omega (arith, count)) later (λ i s r at at'. each (suc i) s r at at'))

-- their audit states of each thread what a statement says of runs that are the same except for their losses
pub stated_same : (setup : Setup) (replayed runs : List ThreadRun) (threads : List ThreadAudit) → without_losses replayed ≡ without_losses runs
    → length runs ≡ length threads → map (λ (run : ThreadRun). run.marks) runs ≡ map (λ (said : ThreadAudit). said.marks) threads
    → ((i : ℕ) (said : ThreadAudit) (run : ThreadRun) → slice_get threads i ≡ Some said → slice_get runs i ≡ Some run
    → (said.end ≡ run.end) × (length said.marks ≡ said.passings))
    → map stated_of (map (audit_of setup) (enumerate_from 1 replayed)) ≡ map stated_of threads
stated_same setup replayed runs threads same count marks each =
    outline_stated setup 1 replayed ∙ outline_without replayed ∙ ap (map outline) same ∙ sym (outline_without runs)
    ∙ outline_said runs threads count marks each
