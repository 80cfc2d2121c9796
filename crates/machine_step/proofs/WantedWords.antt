-- The words that a thread wants are words of its image and its threads. It wants its release word only at the passing
-- before which the script holds it.
use Rattle.std.proofs.Common.{◌≡◌, ℕ, ◌+◌, ◌<◌, ◌≤◌, List, length, Option, Some, sym, ap, ◌∙◌, arith}
use Rattle.xray_image.specs.Program.{Program}
use Rattle.sled_words.specs.Words.{release_word, word_count}
use Rattle.machine_step.specs.declared.end.End.{End}
use Rattle.machine_step.specs.declared.limits.Limits.{Limits}
use Rattle.machine_step.specs.declared.stage.Stage.{Stage}
use Rattle.machine_step.specs.declared.stage.Stage.TheVariants as stages
use Rattle.machine_step.specs.Loads.{Load, marks_of, next_load}
use Rattle.machine_step.specs.PlainStep.{Passing, PlainRun, State}
use Rattle.machine_step.specs.private.Stages.{word_at}
use Rattle.machine_step.specs.Traced.{sleds_passed}
use Rattle.machine_step.proofs.MarksAfterLoad.{in_passing}
use Rattle.machine_step.proofs.SomeMarks.{held_passing, run_sleds, sled_within}
use Rattle.machine_step.proofs.WordsAt.{release_stage}

-- the word of a stage exists
word_exists : (program : Program) (threads thread k : ℕ) (stage : Stage) → k < length program.sleds → thread ≤ threads
    → word_at program threads thread k stage < word_count program threads
word_exists program threads thread k stages.Release within known = omega (arith, within, known)
word_exists program threads thread k stages.Head within known = omega (arith, within)
word_exists program threads thread k stages.Id within known = omega (arith, within)
word_exists program threads thread k stages.Opcode within known = omega (arith, within)
word_exists program threads thread k stages.Offset within known = omega (arith, within)
word_exists program threads thread k stages.ArgHandler within known = omega arith
word_exists program threads thread k stages.Handler within known = omega arith
word_exists program threads thread k stages.State within known = omega arith
word_exists program threads thread k stages.ArgState within known = omega arith

module _ (program : Program) (limits : Limits) (thread : ℕ) (hold : Option ℕ) (passed : List Passing) (loads : List Load) (end : End) (last : State)
    (run : PlainRun program limits thread passed end last) where
  -- the word that a thread loads next
  pub wanted_within : (threads word : ℕ) → thread ≤ threads → next_load program threads thread hold (sleds_passed passed) loads ≡ Some word
      → word < word_count program threads
  wanted_within threads word known wanted =
      let here = in_passing program threads thread hold 0 (sleds_passed passed) loads word wanted in
      let within = sled_within program passed (run_sleds program limits thread run.0 _ passed end last run.1) here.before here.rest here.sled here.passed in
      let exists = word_exists program threads thread here.sled here.at within known in
      omega (arith, exists, here.word_is)

  -- the passing at which a thread wants its release word
  pub release_wanted : (threads : ℕ) → 0 < thread → thread ≤ threads → next_load program threads thread hold (sleds_passed passed) loads ≡ Some (release_word program thread)
      → hold ≡ Some (length (marks_of program threads thread hold (sleds_passed passed) loads))
  release_wanted threads some known wanted =
      let made : ℕ = length (marks_of program threads thread hold (sleds_passed passed) loads) in
      let here = in_passing program threads thread hold 0 (sleds_passed passed) loads (release_word program thread) wanted in
      let within = sled_within program passed (run_sleds program limits thread run.0 _ passed end last run.1) here.before here.rest here.sled here.passed in
      let at = release_stage program threads thread here.sled here.at within some known (sym here.word_is) in
      let count : 0 + made ≡ made = omega arith in
      held_passing hold (0 + made) (here.held at) ∙ ap Some count
