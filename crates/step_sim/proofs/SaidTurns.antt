-- A text that is a schedule gives turns only to its threads.
use Rattle.std.proofs.Common.{◌≡◌, ◌<◌, ◌≤◌, ◌++◌, ◌∙◌, ℕ, Bool, true, false, List, [], ◌∷◌, length, Some, None, Ok, Err, ltb, refl, sym, arith}
use Rattle.std.specs.Str.Lines.{lines}
use Rattle.xray_io.specs.Rows.{First, InTurn}
use Rattle.std.specs.Prelude.{nat_le, ◌&&◌}
use Rattle.std.specs.List.{All, flat_map}
use Rattle.std.proofs.lemmas.List.Elements.{All-cons, All-nil, All-append}
use Rattle.step_sim.specs.declared.fault.ScheduleFault.{ScheduleFault}
use Rattle.step_sim.specs.declared.line.Said.{Said}
use Rattle.step_sim.specs.declared.line.Said.TheVariants.{Nothing, Loads, Steps, Unknown}
use Rattle.step_sim.specs.declared.turns.Turns.{Turns}
use Rattle.step_sim.specs.declared.turns.Turns.TheVariants.{Thread, Patcher}
use Rattle.step_sim.specs.Along.{NamesThread}
use Rattle.step_sim.specs.declared.fault.ScheduleFault.TheVariants as faults
use Rattle.step_sim.specs.Schedules.{AreTurnsOf, is_count, is_thread, line_rows, said_by, schedule_of, turns_said}
use Rattle.step_sim.specs.private.Faults.{decided, line_faults, line_turns, said_faults, unless}
use Rattle.text_lines.specs.Lines.{numbered_lines}
use Rattle.text_lines.specs.Words.{words_of}
use Rattle.step_sim.proofs.ScheduleFaults.{lines_decide}

-- ---- lists without faults

left_none : {X : Type 0} (xs ys : List X) → xs ++ ys ≡ [] → xs ≡ []
left_none [] ys is = refl
left_none (x ∷ xs) ys is = absurd cc

right_none : {X : Type 0} (xs ys : List X) → xs ++ ys ≡ [] → ys ≡ []
right_none [] ys is = is
right_none (x ∷ xs) ys is = absurd cc

holds : (test : Bool) (fault : ScheduleFault) → unless test fault ≡ [] → test ≡ true
holds true fault is = refl
holds false fault is = absurd cc

-- ---- what a line says

first_holds : (one other : Bool) → (one && other) ≡ true → one ≡ true
first_holds true other is = refl
first_holds false other is = absurd cc

one_at_least : (n : ℕ) → nat_le 1 n ≡ true → 0 < n
one_at_least n is = grind arith

both_hold : (one other : Bool) → (one && other) ≡ true → other ≡ true
both_hold true other is = is
both_hold false other is = absurd cc

at_most : (n most : ℕ) → nat_le n most ≡ true → n ≤ most
at_most n most is = grind arith

turns_one : (threads number : ℕ) (said : Said) → said_faults threads number said ≡ [] → All (AreTurnsOf threads) (turns_said said)
turns_one threads number Nothing none = All-nil (AreTurnsOf threads)
turns_one threads number (Loads None count) none = absurd (let there = holds (is_thread threads None) _ (right_none _ _ none) in cc)
turns_one threads number (Loads (Some thread) None) none = All-nil (AreTurnsOf threads)
turns_one threads number (Loads (Some thread) (Some count)) none =
    let there = holds (is_thread threads (Some thread)) _ (right_none _ _ none) in
    let counted = holds (is_count (Some count)) (faults.Syntax number) (left_none _ _ none) in
    All-cons (AreTurnsOf threads) _ [] (
      one_at_least thread (first_holds _ _ there),
      at_most thread threads (both_hold (nat_le 1 thread) (nat_le thread threads) there),
      one_at_least count counted,
    ) (All-nil (AreTurnsOf threads))
turns_one threads number (Steps None) none = All-nil (AreTurnsOf threads)
turns_one threads number (Steps (Some count)) none =
    let counted = holds (is_count (Some count)) (faults.Syntax number) (left_none _ _ none) in
    All-cons (AreTurnsOf threads) _ [] (one_at_least count counted) (All-nil (AreTurnsOf threads))
turns_one threads number Unknown none = All-nil (AreTurnsOf threads)

-- ---- all lines

turns_all : (threads : ℕ) (lines : List (ℕ × List ℕ)) → flat_map (line_faults threads) lines ≡ [] → All (AreTurnsOf threads) (flat_map line_turns lines)
turns_all threads [] none = All-nil (AreTurnsOf threads)
turns_all threads ((number, line) ∷ lines) none =
    let here = right_none _ _ (left_none (line_faults threads (number, line)) _ none) in
    All-append (AreTurnsOf threads) (line_turns (number, line)) (flat_map line_turns lines)
    (turns_one threads number (said_by (words_of line)) here)
    (turns_all threads lines (right_none (line_faults threads (number, line)) _ none))

decided_so : (faults : List ScheduleFault) (turns schedule : List Turns) → decided faults turns ≡ Ok schedule → (faults ≡ []) × (turns ≡ schedule)
decided_so [] turns schedule is = (refl, cc)
decided_so (fault ∷ later) turns schedule is = absurd cc

pub turns_within : (threads : ℕ) (text : List ℕ) (schedule : List Turns) → schedule_of threads text ≡ Ok schedule → All (AreTurnsOf threads) schedule
turns_within threads text schedule is = by_count (ltb 1048576 (length (lines text))) is
  where
    by_count : (long : Bool) → First long (Err faults.Limit) (InTurn (λ turns line. line_rows threads turns line) [] (numbered_lines text)) ≡ Ok schedule
        → All (AreTurnsOf threads) schedule
    by_count true e = absurd cc
    by_count false e =
        let so = decided_so (flat_map (line_faults threads) (numbered_lines text)) (flat_map line_turns (numbered_lines text)) schedule
        (sym (lines_decide threads [] (numbered_lines text)) ∙ e) in
        rw (← so.1) (turns_all threads (numbered_lines text) so.0)

names_of : (threads : ℕ) (turns : Turns) → AreTurnsOf threads turns → NamesThread turns
names_of threads (Thread thread count) of = of.0
names_of threads (Patcher count) of = tt

pub names_threads : (threads : ℕ) (text : List ℕ) (schedule : List Turns) → schedule_of threads text ≡ Ok schedule → All NamesThread schedule
names_threads threads text schedule is = λ k d within. names_of threads _ (turns_within threads text schedule is k d within)
