-- A schedule that is written of turns is read as these turns.
use Rattle.std.proofs.Common.{◌≡◌, ℕ, suc, ◌+◌, ◌≤◌, true, ◌&&◌, List, [], ◌∷◌, ◌++◌, length, map, Some, refl, ap, ◌∙◌, arith}
use Rattle.std.specs.Prelude.{All, Ok, decimal}
use Rattle.std.specs.List.{enumerate_from, flat_map, list_all}
use Rattle.std.specs.Str.Lines.{lines}
use Rattle.std.proofs.lemmas.Bool.{and_from, le-leb}
use Rattle.std.proofs.lemmas.List.{length-map}
use Rattle.text_lines.specs.Words.{words_of}
use Rattle.text_lines.specs.Written.{is_written_word, are_written_words, written_line, WrittenNumbersRead, WrittenTextsRead}
use Rattle.step_sim.specs.declared.fault.ScheduleFault.TheVariants as faults
use Rattle.step_sim.specs.declared.line.Said.{Said}
use Rattle.step_sim.specs.declared.line.Said.TheVariants.{Loads, Steps}
use Rattle.step_sim.specs.declared.turns.Turns.{Turns}
use Rattle.step_sim.specs.declared.turns.Turns.TheVariants.{Thread, Patcher}
use Rattle.step_sim.specs.Schedules.{AreTurnsOf, said_by, turns_said}
use Rattle.step_sim.specs.private.Faults.{decided, line_faults, line_turns, said_faults, unless}
use Rattle.step_sim.specs.WrittenSchedules.{HasWords, schedule_text, turn_words, WrittenSchedulesRead}
use Rattle.step_sim.proofs.ScheduleFaults.{schedule_begins}

-- what the line of turns says
abbrev said_of : Turns → Said
said_of (Thread thread count) = Loads (Some thread) (Some count)
said_of (Patcher count) = Steps (Some count)

module _ (threads : ℕ) (low : threads ≤ 4294967295) (texts : WrittenTextsRead) (numbers : WrittenNumbersRead) where
  number_word : (n : ℕ) → n ≤ 4294967295 → is_written_word (decimal n) ≡ true
  number_word n h = numbers.word n (omega (arith, h))

  turn_written : (turns : Turns) → AreTurnsOf threads turns → HasWords turns → are_written_words (turn_words turns) ≡ true
  turn_written (Thread thread count) h fits =
      and_from (is_written_word (decimal thread)) (is_written_word (decimal count) && true) (number_word thread (omega (arith, h.1, low)))
      (and_from (is_written_word (decimal count)) true (number_word count fits) refl)
  turn_written (Patcher count) h fits = and_from (is_written_word (decimal count)) true (number_word count fits) refl

  turn_said : (turns : Turns) → AreTurnsOf threads turns → HasWords turns → said_by (turn_words turns) ≡ said_of turns
  turn_said (Thread thread count) h fits = rw (numbers.short thread (omega (arith, h.1, low)), numbers.short count fits) refl
  turn_said (Patcher count) h fits = rw (numbers.short count fits) refl

  no_faults : (number : ℕ) (turns : Turns) → AreTurnsOf threads turns → said_faults threads number (said_of turns) ≡ []
  no_faults number (Thread thread count) h =
      rw (le-leb 1 count (omega (arith, h.2)), le-leb 1 thread (omega (arith, h.0)), le-leb thread threads (omega (arith, h.1))) refl
  no_faults number (Patcher count) h = rw (le-leb 1 count (omega (arith, h))) refl

  gives_turns : (turns : Turns) → turns_said (said_of turns) ≡ turns ∷ []
  gives_turns (Thread thread count) = refl
  gives_turns (Patcher count) = refl

  line_said : (turns : Turns) → AreTurnsOf threads turns → HasWords turns → said_by (words_of (written_line (turn_words turns))) ≡ said_of turns
  line_said turns h fits = ap said_by (texts.words (turn_words turns) (turn_written turns h fits)) ∙ turn_said turns h fits

  -- ---- all lines

  lines_fit : (number : ℕ) (all : List Turns) → All (AreTurnsOf threads) all → All HasWords all
      → flat_map (line_faults threads) (enumerate_from number (map written_line (map turn_words all))) ≡ []
  lines_fit number [] of fits = refl
  lines_fit number (turns ∷ all) of fits =
      let mine = of 0 turns (omega arith) in
      let short = fits 0 turns (omega arith) in
      let line = written_line (turn_words turns) in
      let left = flat_map (line_faults threads) (enumerate_from (number + 1) (map written_line (map turn_words all))) in
      ap (λ t. (unless t (faults.Syntax number) ++ said_faults threads number (said_by (words_of line))) ++ left) (texts.clean (turn_words turns) (turn_written turns mine short))
      ∙ ap (λ s. said_faults threads number s ++ left) (line_said turns mine short)
      ∙ ap (λ fs. fs ++ left) (no_faults number turns mine)
      ∙ lines_fit (number + 1) all (λ k d lt. of (suc k) d (omega (arith, lt))) (λ k d lt. fits (suc k) d (omega (arith, lt)))

  lines_give : (number : ℕ) (all : List Turns) → All (AreTurnsOf threads) all → All HasWords all
      → flat_map line_turns (enumerate_from number (map written_line (map turn_words all))) ≡ all
  lines_give number [] of fits = refl
  lines_give number (turns ∷ all) of fits =
      let left = flat_map line_turns (enumerate_from (number + 1) (map written_line (map turn_words all))) in
      ap (λ s. turns_said s ++ left) (line_said turns (of 0 turns (omega arith)) (fits 0 turns (omega arith)))
      ∙ ap (λ ts. ts ++ left) (gives_turns turns)
      ∙ ap (λ (ts : List Turns). turns ∷ ts) (lines_give (number + 1) all (λ k d lt. of (suc k) d (omega (arith, lt))) (λ k d lt. fits (suc k) d (omega (arith, lt))))

  all_written : (all : List Turns) → All (AreTurnsOf threads) all → All HasWords all → list_all are_written_words (map turn_words all) ≡ true
  all_written [] of fits = refl
  all_written (turns ∷ all) of fits =
      and_from (are_written_words (turn_words turns)) (list_all are_written_words (map turn_words all))
      (turn_written turns (of 0 turns (omega arith)) (fits 0 turns (omega arith)))
      (all_written all (λ k d lt. of (suc k) d (omega (arith, lt))) (λ k d lt. fits (suc k) d (omega (arith, lt))))

pub schedule_read : WrittenTextsRead → WrittenNumbersRead → WrittenSchedulesRead
schedule_read texts numbers threads all low of fits few =
    let text = schedule_text all in
    let cut : lines text ≡ map written_line (map turn_words all) = texts.lines (map turn_words all) (all_written threads low texts numbers all of fits) in
    let count : length (map written_line (map turn_words all)) ≤ 1048576 =
    omega (arith, few, length-map (map turn_words all) written_line, length-map all turn_words) in
    schedule_begins threads text (omega (arith, count, ap length cut))
    ∙ ap (λ ls. decided (flat_map (line_faults threads) (enumerate_from 1 ls)) (flat_map line_turns (enumerate_from 1 ls))) cut
    ∙ ap (λ fs. decided fs (flat_map line_turns (enumerate_from 1 (map written_line (map turn_words all))))) (lines_fit threads low texts numbers 1 all of fits)
    ∙ ap Ok (lines_give threads low texts numbers 1 all of fits)
