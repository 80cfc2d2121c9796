-- The words of a passing.
use Rattle.std.proofs.Common.{◌≡◌, ℕ, zero, suc, ◌+◌, ◌-◌, ◌*◌, ◌<◌, ◌≤◌, true, false, if◌then◌else◌, ltb, lt-ltb, eq-eqb, length, Some, refl, sym, ap, ◌∙◌, subst, arith, inl, inr}
use Rattle.std.specs.Prelude.{◌==◌, ◌⊎◌, slice_get}
use Rattle.std.proofs.lemmas.Bool.{le-ltb, ne_eqb}
use Rattle.std.proofs.lemmas.Option.{slice_get_within}
use Rattle.xray_image.specs.declared.sled.Sled.{Sled}
use Rattle.xray_image.specs.Program.{Program}
use Rattle.sled_words.specs.declared.part.Part.{Part}
use Rattle.sled_words.specs.declared.part.Part.TheVariants as parts
use Rattle.sled_words.specs.Words.{word_of, part_number, handler_word, state_word, release_word, arg_handler_word}
use Rattle.sled_words.specs.Allowed.{IsAllowed, IsAllowedPart}
use Rattle.handler_word.specs.declared.mark.Mark.{Mark}
use Rattle.handler_word.specs.declared.mark.Mark.TheVariants as marks
use Rattle.machine_step.specs.declared.stage.Stage.{Stage}
use Rattle.machine_step.specs.declared.stage.Stage.TheVariants as stages
use Rattle.machine_step.specs.private.Stages.{word_at, recording_at, AllowsAt}

-- ---- the word of a passing determines its stage

-- the stage by the number of a sled's part, and by how far a word lies after the handler's
part_stage : ℕ → Stage
part_stage zero = stages.Head
part_stage (suc zero) = stages.Id
part_stage (suc (suc zero)) = stages.Opcode
part_stage (suc (suc (suc n))) = stages.Offset

other_stage : ℕ → Stage
other_stage zero = stages.Handler
other_stage (suc zero) = stages.State
other_stage (suc (suc n)) = stages.Release

-- the argument handler's word comes after all others
far_stage : (sleds threads word : ℕ) → Stage
far_stage sleds threads word = if word == 4 * sleds + 2 + 2 * threads then stages.ArgHandler else other_stage (word - 4 * sleds)

stage_at : (sleds threads k word : ℕ) → Stage
stage_at sleds threads k word = if ltb word (4 * sleds) then part_stage (word - 4 * k) else far_stage sleds threads word

of_part : (sleds threads k word part : ℕ) → k < sleds → part < 4 → word ≡ 4 * k + part → stage_at sleds threads k word ≡ part_stage part
unfolding stage_at
of_part sleds threads k word part below few is =
    let within : ltb word (4 * sleds) ≡ true = lt-ltb word (4 * sleds) (omega (arith, below, few, is)) in
    let left : word - 4 * k ≡ part = omega (arith, is) in
    rw (within, left) refl

of_other : (sleds threads k word more : ℕ) → more < 2 + 2 * threads → word ≡ 4 * sleds + more → stage_at sleds threads k word ≡ other_stage more
unfolding stage_at far_stage
of_other sleds threads k word more near is =
    let without : ltb word (4 * sleds) ≡ false = le-ltb word (4 * sleds) (omega (arith, is)) in
    let before : (word == 4 * sleds + 2 + 2 * threads) ≡ false = ne_eqb word (4 * sleds + 2 + 2 * threads) (λ same. omega (arith, near, is)) in
    let left : word - 4 * sleds ≡ more = omega (arith, is) in
    rw (without, before, left) refl

of_arg : (sleds threads k word : ℕ) → word ≡ 4 * sleds + 2 + 2 * threads → stage_at sleds threads k word ≡ stages.ArgHandler
unfolding stage_at far_stage
of_arg sleds threads k word is =
    let without : ltb word (4 * sleds) ≡ false = le-ltb word (4 * sleds) (omega (arith, is)) in
    let last : (word == 4 * sleds + 2 + 2 * threads) ≡ true = eq-eqb word (4 * sleds + 2 + 2 * threads) is in
    rw (without, last) refl

-- the two stages that load the log's state can't be told apart by their word
by_word : Stage → Stage
by_word stages.Release = stages.Release
by_word stages.Head = stages.Head
by_word stages.Id = stages.Id
by_word stages.Opcode = stages.Opcode
by_word stages.Offset = stages.Offset
by_word stages.ArgHandler = stages.ArgHandler
by_word stages.Handler = stages.Handler
by_word stages.State = stages.State
by_word stages.ArgState = stages.State

its_stage : (program : Program) (threads thread k : ℕ) (stage : Stage) → k < length program.sleds → 0 < thread → thread ≤ threads
    → stage_at (length program.sleds) threads k (word_at program threads thread k stage) ≡ by_word stage
unfolding part_stage other_stage by_word
its_stage program threads zero k stages.Release below some known = absurd (omega (arith, some))
its_stage program threads (suc before) k stages.Release below some known =
    of_other (length program.sleds) threads k _ (suc (suc before)) (omega (arith, known)) (omega arith)
its_stage program threads thread k stages.Head below some known = of_part (length program.sleds) threads k _ 0 below (omega arith) refl
its_stage program threads thread k stages.Id below some known = of_part (length program.sleds) threads k _ 1 below (omega arith) refl
its_stage program threads thread k stages.Opcode below some known = of_part (length program.sleds) threads k _ 2 below (omega arith) refl
its_stage program threads thread k stages.Offset below some known = of_part (length program.sleds) threads k _ 3 below (omega arith) refl
its_stage program threads thread k stages.ArgHandler below some known = of_arg (length program.sleds) threads k _ refl
its_stage program threads thread k stages.Handler below some known = of_other (length program.sleds) threads k _ 0 (omega arith) (omega arith)
its_stage program threads thread k stages.State below some known = of_other (length program.sleds) threads k _ 1 (omega arith) refl
its_stage program threads thread k stages.ArgState below some known = of_other (length program.sleds) threads k _ 1 (omega arith) refl

-- the stage of a word, by the mark with which it records
told_by : Stage → Mark → Stage
told_by at marks.Skipped = at
told_by at marks.NoHandler = at
told_by at marks.NotLogging = at
told_by at marks.Recorded = at
told_by at marks.RecordedArg = stages.ArgState

told_back : (stage : Stage) → told_by (by_word stage) (recording_at stage) ≡ stage
unfolding by_word told_by
told_back stages.Release = refl
told_back stages.Head = refl
told_back stages.Id = refl
told_back stages.Opcode = refl
told_back stages.Offset = refl
told_back stages.ArgHandler = refl
told_back stages.Handler = refl
told_back stages.State = refl
told_back stages.ArgState = refl

alike_word : (program : Program) (threads thread k : ℕ) (a b : Stage) → k < length program.sleds → 0 < thread → thread ≤ threads
    → word_at program threads thread k a ≡ word_at program threads thread k b → by_word a ≡ by_word b
alike_word program threads thread k a b below some known same =
    sym (its_stage program threads thread k a below some known) ∙ ap (stage_at (length program.sleds) threads k) same
    ∙ its_stage program threads thread k b below some known

pub same_stage : (program : Program) (threads thread k : ℕ) (a b : Stage) → k < length program.sleds → 0 < thread → thread ≤ threads
    → word_at program threads thread k a ≡ word_at program threads thread k b → recording_at a ≡ recording_at b → a ≡ b
same_stage program threads thread k a b below some known same recording =
    sym (told_back a)
    ∙ (ap (λ (s : Stage). told_by s (recording_at a)) (alike_word program threads thread k a b below some known same)
    ∙ (ap (told_by (by_word b)) recording ∙ told_back b))

-- the release word is only that of its stage
release_by : (stage : Stage) → by_word stage ≡ stages.Release → stage ≡ stages.Release
unfolding by_word
release_by stages.Release is = refl
release_by stages.Head is = absurd cc
release_by stages.Id is = absurd cc
release_by stages.Opcode is = absurd cc
release_by stages.Offset is = absurd cc
release_by stages.ArgHandler is = absurd cc
release_by stages.Handler is = absurd cc
release_by stages.State is = absurd cc
release_by stages.ArgState is = absurd cc

released : by_word stages.Release ≡ stages.Release
unfolding by_word
released = refl

pub release_stage : (program : Program) (threads thread k : ℕ) (stage : Stage) → k < length program.sleds → 0 < thread → thread ≤ threads
    → word_at program threads thread k stage ≡ release_word program thread → stage ≡ stages.Release
release_stage program threads thread k stage below some known is =
    release_by stage (alike_word program threads thread k stage stages.Release below some known is ∙ released)

-- and the state word is that of two stages
state_by : (stage : Stage) → by_word stage ≡ stages.State → (stage ≡ stages.State) ⊎ (stage ≡ stages.ArgState)
unfolding by_word
state_by stages.Release is = absurd cc
state_by stages.Head is = absurd cc
state_by stages.Id is = absurd cc
state_by stages.Opcode is = absurd cc
state_by stages.Offset is = absurd cc
state_by stages.ArgHandler is = absurd cc
state_by stages.Handler is = absurd cc
state_by stages.State is = inl refl
state_by stages.ArgState is = inr refl

plain : by_word stages.State ≡ stages.State
unfolding by_word
plain = refl

pub state_stage : (program : Program) (threads thread k : ℕ) (stage : Stage) → k < length program.sleds → 0 < thread → thread ≤ threads
    → word_at program threads thread k stage ≡ state_word program → (stage ≡ stages.State) ⊎ (stage ≡ stages.ArgState)
state_stage program threads thread k stage below some known is =
    state_by stage (alike_word program threads thread k stage stages.State below some known is ∙ plain)

-- ---- the word of a part determines its sled and the part

numbered_part : ℕ → Part
numbered_part zero = parts.Head
numbered_part (suc zero) = parts.Id
numbered_part (suc (suc zero)) = parts.Opcode
numbered_part (suc (suc (suc n))) = parts.Offset

its_number : (part : Part) → (part_number part < 4) × (numbered_part (part_number part) ≡ part)
unfolding numbered_part
its_number parts.Head = (omega arith, refl)
its_number parts.Id = (omega arith, refl)
its_number parts.Opcode = (omega arith, refl)
its_number parts.Offset = (omega arith, refl)

same_part : (k j : ℕ) (a b : Part) → word_of k a ≡ word_of j b → (k ≡ j) × (a ≡ b)
same_part k j a b same =
    let one = its_number a in
    let other = its_number b in
    let numbers : part_number a ≡ part_number b = omega (arith, one.0, other.0, same) in
    (omega (arith, numbers, same), sym one.1 ∙ ap numbered_part numbers ∙ other.1)

part_below : (k n : ℕ) (part : Part) → k < n → word_of k part < 4 * n
part_below k n part below = omega (arith, (its_number part).0, below)

-- ---- what is allowed at a stage is what is allowed for its word

part_allowed : (program : Program) (threads thread k value : ℕ) (sled : Sled) (part : Part) → slice_get program.sleds k ≡ Some sled
    → IsAllowedPart program.trampolines sled part value → IsAllowed program threads thread (word_of k part) value
part_allowed program threads thread k value sled part found allowed =
    let within = slice_get_within program.sleds k sled found in
    let below = part_below k (length program.sleds) part within in
    record {
      part = λ j other p there same.
          let is = same_part k j part p same in
          let sleds : sled ≡ other = some_is sled other (sym found ∙ (ap (λ i. slice_get program.sleds i) is.0 ∙ there)) in
          subst (λ (q : Part). IsAllowedPart program.trampolines other q value) is.1
          (subst (λ (s : Sled). IsAllowedPart program.trampolines s part value) sleds allowed);
      handler = λ same. absurd (omega arith);
      state = λ same. absurd (omega arith);
      release = λ some same. absurd (omega arith);
      arg_handler = λ same. absurd (omega arith);
    }
  where
    some_is : (a b : Sled) → Some a ≡ Some b → a ≡ b
    some_is a b is = cc

no_part : (program : Program) (word value : ℕ) → 4 * length program.sleds ≤ word → (k : ℕ) (sled : Sled) (part : Part)
    → slice_get program.sleds k ≡ Some sled → word ≡ word_of k part → IsAllowedPart program.trampolines sled part value
no_part program word value above k sled part found same =
    let within = slice_get_within program.sleds k sled found in
    let below = part_below k (length program.sleds) part within in absurd (omega arith)

pub allowed_at : (program : Program) (threads thread k value : ℕ) (sled : Sled) (stage : Stage) → 0 < thread → slice_get program.sleds k ≡ Some sled
    → AllowsAt program.trampolines sled stage value → IsAllowed program threads thread (word_at program threads thread k stage) value
allowed_at program threads thread k value sled stages.Release some found allowed = record {
  part = no_part program (release_word program thread) value (omega arith);
  handler = λ same. absurd (omega arith);
  state = λ same. absurd (omega arith);
  release = λ some same. allowed;
  arg_handler = λ same. allowed;
}
allowed_at program threads thread k value sled stages.Head some found allowed = part_allowed program threads thread k value sled parts.Head found allowed
allowed_at program threads thread k value sled stages.Id some found allowed = part_allowed program threads thread k value sled parts.Id found allowed
allowed_at program threads thread k value sled stages.Opcode some found allowed = part_allowed program threads thread k value sled parts.Opcode found allowed
allowed_at program threads thread k value sled stages.Offset some found allowed = part_allowed program threads thread k value sled parts.Offset found allowed
allowed_at program threads thread k value sled stages.ArgHandler some found allowed = record {
  part = no_part program (arg_handler_word program threads) value (omega arith);
  handler = λ same. absurd (omega arith);
  state = λ same. absurd (omega arith);
  release = λ some same. allowed;
  arg_handler = λ same. allowed;
}
allowed_at program threads thread k value sled stages.Handler some found allowed = record {
  part = no_part program (handler_word program) value (omega arith);
  handler = λ same. allowed;
  state = λ same. absurd (omega arith);
  release = λ some same. absurd (omega arith);
  arg_handler = λ same. absurd (omega arith);
}
allowed_at program threads thread k value sled stages.State some found allowed = record {
  part = no_part program (state_word program) value (omega arith);
  handler = λ same. absurd (omega arith);
  state = λ same. allowed;
  release = λ some same. absurd (omega arith);
  arg_handler = λ same. absurd (omega arith);
}
allowed_at program threads thread k value sled stages.ArgState some found allowed = record {
  part = no_part program (state_word program) value (omega arith);
  handler = λ same. absurd (omega arith);
  state = λ same. allowed;
  release = λ some same. absurd (omega arith);
  arg_handler = λ same. absurd (omega arith);
}

pub allows_at : (program : Program) (threads thread k value : ℕ) (sled : Sled) (stage : Stage) → 0 < thread → slice_get program.sleds k ≡ Some sled
    → IsAllowed program threads thread (word_at program threads thread k stage) value → AllowsAt program.trampolines sled stage value
allows_at program threads thread k value sled stages.Release some found allowed = allowed.release some refl
allows_at program threads thread k value sled stages.Head some found allowed = allowed.part k sled parts.Head found refl
allows_at program threads thread k value sled stages.Id some found allowed = allowed.part k sled parts.Id found refl
allows_at program threads thread k value sled stages.Opcode some found allowed = allowed.part k sled parts.Opcode found refl
allows_at program threads thread k value sled stages.Offset some found allowed = allowed.part k sled parts.Offset found refl
allows_at program threads thread k value sled stages.ArgHandler some found allowed = allowed.arg_handler refl
allows_at program threads thread k value sled stages.Handler some found allowed = allowed.handler refl
allows_at program threads thread k value sled stages.State some found allowed = allowed.state refl
allows_at program threads thread k value sled stages.ArgState some found allowed = allowed.state refl
