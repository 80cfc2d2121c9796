-- The stage of a word of a passing.
use Rattle.std.proofs.Common.{◌≡◌, ℕ, ◌%◌, ◌<◌, ◌≤◌, ◌==◌, ◌&&◌, Bool, true, false, length, refl, eq-eqb, lt-ltb, arith}
use Rattle.std.specs.Prelude.{nat_lt}
use Rattle.std.proofs.lemmas.Bool.{le-ltb, ne_eqb}
use Rattle.xray_image.specs.Program.{Program}
use Rattle.sled_words.specs.declared.part.Part.{Part}
use Rattle.sled_words.specs.declared.part.Part.TheVariants as parts
use Rattle.sled_words.specs.Words.{word_of, part_number, handler_word, state_word, release_word, arg_handler_word}
use Rattle.machine_step.specs.declared.stage.Stage.{Stage}
use Rattle.machine_step.specs.declared.stage.Stage.TheVariants as stages
use Rattle.machine_step.specs.declared.want.Want.TheVariants as wants
use Rattle.machine_step.specs.private.Stages.{word_at}
use Rattle.machine_step.specs.Traced.{is_word_of_part, steps_left}

-- ---- which words are those of a part

pub part_small : (part : Part) → part_number part < 4
part_small parts.Head = omega arith
part_small parts.Id = omega arith
part_small parts.Opcode = omega arith
part_small parts.Offset = omega arith

and_no : (b : Bool) → (b && false) ≡ false
and_no true = refl
and_no false = refl

module _ (program : Program) where
  pub own_part : (part : Part) (k : ℕ) → k < length program.sleds → is_word_of_part program part (word_of k part) ≡ true
  own_part part k within =
      let small = part_small part in
      let same : (word_of k part % 4 == part_number part) ≡ true = eq-eqb (word_of k part % 4) (part_number part) (omega arith) in
      let low : nat_lt (word_of k part) (handler_word program) ≡ true = lt-ltb (word_of k part) (handler_word program) (omega arith) in
      rw same low

  pub other_part : (part other : Part) (k : ℕ) → (part_number part ≡ part_number other → ⊥) → is_word_of_part program part (word_of k other) ≡ false
  other_part part other k apart =
      let small = part_small other in
      let differ : (word_of k other % 4 == part_number part) ≡ false =
      ne_eqb (word_of k other % 4) (part_number part) (λ same. apart (omega arith)) in
      rw differ refl

  pub past_parts : (part : Part) (word : ℕ) → handler_word program ≤ word → is_word_of_part program part word ≡ false
  past_parts part word past =
      let high : nat_lt word (handler_word program) ≡ false = le-ltb word (handler_word program) past in
      rw high (and_no (word % 4 == part_number part))

-- ---- how many stages are left

-- from each stage on
abbrev pub left_at : Stage → ℕ
left_at stages.Release = 8
left_at stages.Head = 7
left_at stages.Id = 6
left_at stages.Opcode = 5
left_at stages.Offset = 4
left_at stages.ArgHandler = 3
left_at stages.Handler = 2
left_at stages.State = 1
left_at stages.ArgState = 1

state_left : (program : Program) (threads thread : ℕ) → 0 < thread
    → steps_left program threads thread (wants.Load (state_word program)) ≡ 1
state_left program threads thread some =
    let word = state_word program in
    let release : (word == release_word program thread) ≡ false = ne_eqb word (release_word program thread) (λ same. omega (arith, some)) in
    let head = past_parts program parts.Head word (omega arith) in
    let id = past_parts program parts.Id word (omega arith) in
    let opcode = past_parts program parts.Opcode word (omega arith) in
    let offset = past_parts program parts.Offset word (omega arith) in
    let arg_handler : (word == arg_handler_word program threads) ≡ false = ne_eqb word (arg_handler_word program threads) (λ same. omega arith) in
    let handler : (word == handler_word program) ≡ false = ne_eqb word (handler_word program) (λ same. omega arith) in
    let state : (word == state_word program) ≡ true = eq-eqb word (state_word program) refl in
    rw (release, head, id, opcode, offset, arg_handler, handler, state) refl

pub steps_left_at : (program : Program) (threads thread k : ℕ) (at_stage : Stage) → k < length program.sleds → 0 < thread → thread ≤ threads
    → steps_left program threads thread (wants.Load (word_at program threads thread k at_stage)) ≡ left_at at_stage
steps_left_at program threads thread k stages.Release within some known =
    let release : (release_word program thread == release_word program thread) ≡ true = eq-eqb (release_word program thread) (release_word program thread) refl in
    rw release refl
steps_left_at program threads thread k stages.Head within some known =
    let release : (word_of k parts.Head == release_word program thread) ≡ false = ne_eqb (word_of k parts.Head) (release_word program thread) (λ same. omega arith) in
    let head = own_part program parts.Head k within in
    rw (release, head) refl
steps_left_at program threads thread k stages.Id within some known =
    let release : (word_of k parts.Id == release_word program thread) ≡ false = ne_eqb (word_of k parts.Id) (release_word program thread) (λ same. omega arith) in
    let head = other_part program parts.Head parts.Id k (λ same. omega arith) in
    let id = own_part program parts.Id k within in
    rw (release, head, id) refl
steps_left_at program threads thread k stages.Opcode within some known =
    let release : (word_of k parts.Opcode == release_word program thread) ≡ false = ne_eqb (word_of k parts.Opcode) (release_word program thread) (λ same. omega arith) in
    let head = other_part program parts.Head parts.Opcode k (λ same. omega arith) in
    let id = other_part program parts.Id parts.Opcode k (λ same. omega arith) in
    let opcode = own_part program parts.Opcode k within in
    rw (release, head, id, opcode) refl
steps_left_at program threads thread k stages.Offset within some known =
    let release : (word_of k parts.Offset == release_word program thread) ≡ false = ne_eqb (word_of k parts.Offset) (release_word program thread) (λ same. omega arith) in
    let head = other_part program parts.Head parts.Offset k (λ same. omega arith) in
    let id = other_part program parts.Id parts.Offset k (λ same. omega arith) in
    let opcode = other_part program parts.Opcode parts.Offset k (λ same. omega arith) in
    let offset = own_part program parts.Offset k within in
    rw (release, head, id, opcode, offset) refl
steps_left_at program threads thread k stages.ArgHandler within some known =
    let word = arg_handler_word program threads in
    let release : (word == release_word program thread) ≡ false = ne_eqb word (release_word program thread) (λ same. omega (arith, known)) in
    let head = past_parts program parts.Head word (omega arith) in
    let id = past_parts program parts.Id word (omega arith) in
    let opcode = past_parts program parts.Opcode word (omega arith) in
    let offset = past_parts program parts.Offset word (omega arith) in
    let arg_handler : (word == arg_handler_word program threads) ≡ true = eq-eqb word (arg_handler_word program threads) refl in
    rw (release, head, id, opcode, offset, arg_handler) refl
steps_left_at program threads thread k stages.Handler within some known =
    let word = handler_word program in
    let release : (word == release_word program thread) ≡ false = ne_eqb word (release_word program thread) (λ same. omega arith) in
    let head = past_parts program parts.Head word (omega arith) in
    let id = past_parts program parts.Id word (omega arith) in
    let opcode = past_parts program parts.Opcode word (omega arith) in
    let offset = past_parts program parts.Offset word (omega arith) in
    let arg_handler : (word == arg_handler_word program threads) ≡ false = ne_eqb word (arg_handler_word program threads) (λ same. omega arith) in
    let handler : (word == handler_word program) ≡ true = eq-eqb word (handler_word program) refl in
    rw (release, head, id, opcode, offset, arg_handler, handler) refl
steps_left_at program threads thread k stages.State within some known = state_left program threads thread some
steps_left_at program threads thread k stages.ArgState within some known = state_left program threads thread some
