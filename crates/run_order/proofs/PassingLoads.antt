-- The loads of a passing, at the places that its searches find.
use Rattle.std.proofs.Common.{◌≡◌, ℕ, ◌<◌, ◌≤◌, Bool, true, false, cond, List, [], ◌∷◌, ◌++◌, Some, refl, sym, ap, subst, ◌∙◌, arith, length}
use Rattle.std.specs.Prelude.{◌==◌, ◌||◌, not, replicate}
use Rattle.std.proofs.lemmas.Bool.Decides.{nat_tests}
use Rattle.xray_image.specs.Program.{Program}
use Rattle.handler_word.specs.declared.mark.Mark.{Mark}
use Rattle.handler_word.specs.declared.mark.Mark.TheVariants.{Skipped, NoHandler, NotLogging, Recorded, RecordedArg}
use Rattle.sled_words.specs.declared.part.Part.{Part}
use Rattle.sled_words.specs.declared.part.Part.TheVariants.{Head, Id, Opcode, Offset}
use Rattle.sled_words.specs.Words.{arg_handler_word, handler_word, release_word, state_word, word_of}
use Rattle.machine_step.specs.Loads.{Load, Reading, Wants, Marked, from_arg_handler, from_handler, from_handlers, from_head, from_id, from_offset, from_opcode, from_state, sled_logs_args}
use Rattle.run_order.specs.FreeScripts.{is_release_word}
use Rattle.audit_check.specs.Places.{Search, found_by, handler_searches, has_arg_handler, has_handler, either_handler, head_searches, is_patched, is_set, log_records, passing_searches, patched_search}
use Rattle.audit_check.proofs.SearchResults.{found_none, found_on}

-- ---- loads that lead to a mark

module _ (program : Program) (threads : ℕ) (code : ℕ → ℕ → ℕ) where
  -- a load has its word's value at a place, and isn't of a release word
  abbrev pub IsLoadAt : ℕ → Load → Type 0
  IsLoadAt place load = (load.value ≡ code place load.word) × (is_release_word program threads load.word ≡ false)

  -- Loads at these places lead what is left of a passing to its mark: each is of the word that it wants next.
  abbrev pub Leads : (List Load → Reading) → List ℕ → List Load → Mark → Type 0
  Leads reads [] [] mark = (rest : List Load) → reads rest ≡ Marked mark rest
  Leads reads [] (load ∷ loads) mark = ⊥
  Leads reads (place ∷ places) [] mark = ⊥
  Leads reads (place ∷ places) (load ∷ loads) mark =
      ((recording : Mark) × (reads [] ≡ Wants load.word recording)) × IsLoadAt place load × Leads (λ rest. reads (load ∷ rest)) places loads mark

  pub leads_alike : (places : List ℕ) (loads : List Load) (mark : Mark) (reads other : List Load → Reading) → ((rest : List Load) → reads rest ≡ other rest)
      → Leads other places loads mark → Leads reads places loads mark
  leads_alike [] [] mark reads other same leads = λ rest. same rest ∙ leads rest
  leads_alike [] (load ∷ loads) mark reads other same leads = absurd leads
  leads_alike (place ∷ places) [] mark reads other same leads = absurd leads
  leads_alike (place ∷ places) (load ∷ loads) mark reads other same leads = (
    (leads.0.0, same [] ∙ leads.0.1),
    leads.1,
    leads_alike places loads mark (λ rest. reads (load ∷ rest)) (λ rest. other (load ∷ rest)) (λ rest. same (load ∷ rest)) leads.2,
  )

  -- ---- words

  word_stays : (word : ℕ) → word ≤ state_word program → is_release_word program threads word ≡ false
  word_stays word low = grind (arith, nat_tests)

  arg_word_stays : is_release_word program threads (arg_handler_word program threads) ≡ false
  arg_word_stays = grind (arith, nat_tests)

  -- the load of a word at a place
  abbrev load_at : ℕ → ℕ → Load
  load_at place word = record { word = word; value = code place word }

  -- ---- stages

  -- what is found, and the loads that lead from there to a mark
  pub record Led (reads : List Load → Reading) (places : List ℕ) (mark : Mark) : Type 0 where
    pub loads : List Load
    pub leads : Leads reads places loads mark

  led_at : (reads : List Load → Reading) (places same : List ℕ) (mark : Mark) → same ≡ places → Led reads places mark → Led reads same mark
  led_at reads places same mark e led = subst (λ (ps : List ℕ). Led reads ps mark) (sym e) led

  state_led : (recording mark : Mark) (last from : ℕ) (found : ℕ × List ℕ) (test : ℕ → Bool)
      → ((place : ℕ) → test place ≡ true → cond (code place (state_word program) == 2) recording NotLogging ≡ mark)
      → found_by last from (record { test = test; loads = λ _. 1 } ∷ []) ≡ Some found → Led (from_state program recording) found.1 mark
  state_led recording mark last from found test ends e =
      let on = found_on last from (record { test = test; loads = λ _. 1 }) [] found e in
      let none = found_none last on.at on.rest on.rest_found in
      let places : found.1 ≡ on.at ∷ [] = on.places_are ∙ ap (λ (ps : List ℕ). on.at ∷ ps) none.1 in
      led_at (from_state program recording) (on.at ∷ []) found.1 mark places (record {
        loads = load_at on.at (state_word program) ∷ [];
        leads = (
          (recording, refl),
          (refl, word_stays (state_word program) (omega arith)),
          λ rest. ap (λ (m : Mark). Marked m rest) (ends on.at on.there.passes),
        );
      })

  -- a load whose value leads on
  led_on : (reads next : List Load → Reading) (word place : ℕ) (recording : Mark) (places : List ℕ) (mark : Mark)
      → reads [] ≡ Wants word recording → is_release_word program threads word ≡ false
      → ((rest : List Load) → reads (load_at place word ∷ rest) ≡ next rest) → Led next places mark → Led reads (place ∷ places) mark
  led_on reads next word place recording places mark wants stays on led = record {
    loads = load_at place word ∷ led.loads;
    leads = (
      (recording, wants),
      (refl, stays),
      leads_alike places led.loads mark (λ rest. reads (load_at place word ∷ rest)) next on led.leads,
    );
  }

  -- a load whose value ends the passing
  led_end : (reads : List Load → Reading) (word place : ℕ) (recording mark : Mark)
      → reads [] ≡ Wants word recording → is_release_word program threads word ≡ false
      → ((rest : List Load) → reads (load_at place word ∷ rest) ≡ Marked mark rest) → Led reads (place ∷ []) mark
  led_end reads word place recording mark wants stays ends = record {
    loads = load_at place word ∷ [];
    leads = ((recording, wants), (refl, stays), ends);
  }

  not_true : (b : Bool) → not b ≡ true → b ≡ false
  not_true true e = absurd cc
  not_true false e = refl

  twice : (b : Bool) → not (not b) ≡ true → b ≡ true
  twice true e = refl
  twice false e = absurd cc

  -- ---- the handler's word

  handler_low : is_release_word program threads (handler_word program) ≡ false
  handler_low = word_stays (handler_word program) (omega arith)

  -- with a handler the log's state comes next
  handler_found : (place : ℕ) → has_handler program threads code place ≡ true
      → (rest : List Load) → from_handler program (load_at place (handler_word program) ∷ rest) ≡ from_state program Recorded rest
  handler_found place e rest = ap (λ b. cond b (Marked NoHandler rest) (from_state program Recorded rest)) (not_true (code place (handler_word program) == 0) e)

  handler_missing : (place : ℕ) → not (has_handler program threads code place) ≡ true
      → (rest : List Load) → from_handler program (load_at place (handler_word program) ∷ rest) ≡ Marked NoHandler rest
  handler_missing place e rest = ap (λ b. cond b (Marked NoHandler rest) (from_state program Recorded rest)) (twice (code place (handler_word program) == 0) e)

  arg_handler_found : (place : ℕ) → has_arg_handler program threads code place ≡ true
      → (rest : List Load) → from_arg_handler program threads (load_at place (arg_handler_word program threads) ∷ rest) ≡ from_state program RecordedArg rest
  arg_handler_found place e rest =
      ap (λ b. cond b (from_handler program rest) (from_state program RecordedArg rest)) (not_true (code place (arg_handler_word program threads) == 0) e)

  arg_handler_missing : (place : ℕ) → not (has_arg_handler program threads code place) ≡ true
      → (rest : List Load) → from_arg_handler program threads (load_at place (arg_handler_word program threads) ∷ rest) ≡ from_handler program rest
  arg_handler_missing place e rest =
      ap (λ b. cond b (from_handler program rest) (from_state program RecordedArg rest)) (twice (code place (arg_handler_word program threads) == 0) e)

  -- ---- the log's state

  recording_ends : (recording : Mark) (place : ℕ) → log_records program threads code place ≡ true
      → cond (code place (state_word program) == 2) recording NotLogging ≡ recording
  recording_ends recording place e = ap (λ b. cond b recording NotLogging) e

  resting_ends : (recording : Mark) (place : ℕ) → not (log_records program threads code place) ≡ true
      → cond (code place (state_word program) == 2) recording NotLogging ≡ NotLogging
  resting_ends recording place e = ap (λ b. cond b recording NotLogging) (not_true (log_records program threads code place) e)

  -- ---- the searches after a patched sled's parts, where a handler is looked for

  none_found : {X : Type 0} (last from : ℕ) (found : ℕ × List ℕ) → found_by last from (record { test = λ _. false; loads = λ _. 1 } ∷ []) ≡ Some found → X
  none_found last from found e =
      let on = found_on last from (record { test = λ _. false; loads = λ _. 1 }) [] found e in
      let passes = on.there.passes in
      absurd cc

  -- a handler, and then the log's state
  after_handler : (mark : Mark) (test : ℕ → Bool) (last from : ℕ) (found : ℕ × List ℕ)
      → ((place : ℕ) → test place ≡ true → cond (code place (state_word program) == 2) Recorded NotLogging ≡ mark)
      → found_by last from (record { test = has_handler program threads code; loads = λ _. 1 } ∷ record { test = test; loads = λ _. 1 } ∷ []) ≡ Some found
      → Led (from_handler program) found.1 mark
  after_handler mark test last from found ends e =
      let on = found_on last from (record { test = has_handler program threads code; loads = λ _. 1 }) (record { test = test; loads = λ _. 1 } ∷ []) found e in
      led_at (from_handler program) (on.at ∷ on.rest.1) found.1 mark on.places_are
      (led_on (from_handler program) (from_state program Recorded) (handler_word program) on.at Recorded on.rest.1 mark refl handler_low
      (handler_found on.at on.there.passes) (state_led Recorded mark last on.at on.rest test ends on.rest_found))

  no_handler : (last from : ℕ) (found : ℕ × List ℕ)
      → found_by last from (record { test = λ place. not (has_handler program threads code place); loads = λ _. 1 } ∷ []) ≡ Some found
      → Led (from_handler program) found.1 NoHandler
  no_handler last from found e =
      let on = found_on last from (record { test = λ place. not (has_handler program threads code place); loads = λ _. 1 }) [] found e in
      let none = found_none last on.at on.rest on.rest_found in
      let places : found.1 ≡ on.at ∷ [] = on.places_are ∙ ap (λ (ps : List ℕ). on.at ∷ ps) none.1 in
      led_at (from_handler program) (on.at ∷ []) found.1 NoHandler places
      (led_end (from_handler program) (handler_word program) on.at Recorded NoHandler refl handler_low (handler_missing on.at on.there.passes))

  -- no argument handler, and then what a handler's word leads to
  after_no_arg_handler : (mark : Mark) (later : List Search) (last from : ℕ) (found : ℕ × List ℕ)
      → ((at : ℕ) (rest : ℕ × List ℕ) → found_by last at later ≡ Some rest → Led (from_handler program) rest.1 mark)
      → found_by last from (record { test = λ place. not (has_arg_handler program threads code place); loads = λ _. 1 } ∷ later) ≡ Some found
      → Led (from_arg_handler program threads) found.1 mark
  after_no_arg_handler mark later last from found led e =
      let on = found_on last from (record { test = λ place. not (has_arg_handler program threads code place); loads = λ _. 1 }) later found e in
      led_at (from_arg_handler program threads) (on.at ∷ on.rest.1) found.1 mark on.places_are
      (led_on (from_arg_handler program threads) (from_handler program) (arg_handler_word program threads) on.at Recorded on.rest.1 mark refl arg_word_stays
      (arg_handler_missing on.at on.there.passes) (led on.at on.rest on.rest_found))

  -- an argument handler, and then the log's state
  after_arg_handler : (mark : Mark) (test : ℕ → Bool) (last from : ℕ) (found : ℕ × List ℕ)
      → ((place : ℕ) → test place ≡ true → cond (code place (state_word program) == 2) RecordedArg NotLogging ≡ mark)
      → found_by last from (record { test = has_arg_handler program threads code; loads = λ _. 1 } ∷ record { test = test; loads = λ _. 1 } ∷ []) ≡ Some found
      → Led (from_arg_handler program threads) found.1 mark
  after_arg_handler mark test last from found ends e =
      let on = found_on last from (record { test = has_arg_handler program threads code; loads = λ _. 1 }) (record { test = test; loads = λ _. 1 } ∷ []) found e in
      led_at (from_arg_handler program threads) (on.at ∷ on.rest.1) found.1 mark on.places_are
      (led_on (from_arg_handler program threads) (from_state program RecordedArg) (arg_handler_word program threads) on.at Recorded on.rest.1 mark refl arg_word_stays
      (arg_handler_found on.at on.there.passes) (state_led RecordedArg mark last on.at on.rest test ends on.rest_found))

  -- either of them, and then the log's state, which doesn't record
  after_either : (last from : ℕ) (found : ℕ × List ℕ)
      → found_by last from (handler_searches program threads code true NotLogging) ≡ Some found
      → Led (from_arg_handler program threads) found.1 NotLogging
  after_either last from found e =
      let on = found_on last from (either_handler program threads code) (record { test = λ place. not (log_records program threads code place); loads = λ _. 1 } ∷ []) found e in
      led_at (from_arg_handler program threads) (replicate (cond (has_arg_handler program threads code on.at) 1 2) on.at ++ on.rest.1) found.1 NotLogging on.places_are
      (by_test on.at (has_arg_handler program threads code on.at) refl on.rest on.there.passes on.rest_found)
    where
      by_test : (at : ℕ) (b : Bool) → has_arg_handler program threads code at ≡ b → (rest : ℕ × List ℕ)
          → (has_arg_handler program threads code at || has_handler program threads code at) ≡ true
          → found_by last at (record { test = λ place. not (log_records program threads code place); loads = λ _. 1 } ∷ []) ≡ Some rest
          → Led (from_arg_handler program threads) (replicate (cond b 1 2) at ++ rest.1) NotLogging
      by_test at true is rest either later =
          led_on (from_arg_handler program threads) (from_state program RecordedArg) (arg_handler_word program threads) at Recorded rest.1 NotLogging refl
          arg_word_stays (arg_handler_found at is)
          (state_led RecordedArg NotLogging last at rest (λ place. not (log_records program threads code place)) (resting_ends RecordedArg) later)
      by_test at false is rest either later =
          let has : has_handler program threads code at ≡ true = ap (λ b. b || has_handler program threads code at) (sym is) ∙ either in
          led_on (from_arg_handler program threads) (from_handler program) (arg_handler_word program threads) at Recorded (at ∷ rest.1) NotLogging refl
          arg_word_stays (arg_handler_missing at (ap not is))
          (led_on (from_handler program) (from_state program Recorded) (handler_word program) at Recorded rest.1 NotLogging refl handler_low
          (handler_found at has)
          (state_led Recorded NotLogging last at rest (λ place. not (log_records program threads code place)) (resting_ends Recorded) later))

  handlers_led : (logs : Bool) (mark : Mark) (last from : ℕ) (found : ℕ × List ℕ)
      → found_by last from (handler_searches program threads code logs mark) ≡ Some found
      → Led (λ rest. cond logs (from_arg_handler program threads rest) (from_handler program rest)) found.1 mark
  handlers_led true Skipped last from found e = none_found last from found e
  handlers_led false Skipped last from found e = none_found last from found e
  handlers_led true NoHandler last from found e =
      after_no_arg_handler NoHandler (record { test = λ place. not (has_handler program threads code place); loads = λ _. 1 } ∷ []) last from found
      (λ at rest later. no_handler last at rest later) e
  handlers_led false NoHandler last from found e = no_handler last from found e
  handlers_led true NotLogging last from found e = after_either last from found e
  handlers_led false NotLogging last from found e =
      after_handler NotLogging (λ place. not (log_records program threads code place)) last from found (resting_ends Recorded) e
  handlers_led true Recorded last from found e =
      after_no_arg_handler Recorded
      (record { test = has_handler program threads code; loads = λ _. 1 } ∷ record { test = log_records program threads code; loads = λ _. 1 } ∷ [])
      last from found (λ at rest later. after_handler Recorded (log_records program threads code) last at rest (recording_ends Recorded) later) e
  handlers_led false Recorded last from found e =
      after_handler Recorded (log_records program threads code) last from found (recording_ends Recorded) e
  handlers_led true RecordedArg last from found e =
      after_arg_handler RecordedArg (log_records program threads code) last from found (recording_ends RecordedArg) e
  handlers_led false RecordedArg last from found e = none_found last from found e

  -- ---- the sled's parts

  module _ (sled : ℕ) (exists : sled < length program.sleds) where
    part_stays : (part : Part) → is_release_word program threads (word_of sled part) ≡ false
    part_stays Head = word_stays (word_of sled Head) (omega (arith, exists))
    part_stays Id = word_stays (word_of sled Id) (omega (arith, exists))
    part_stays Opcode = word_stays (word_of sled Opcode) (omega (arith, exists))
    part_stays Offset = word_stays (word_of sled Offset) (omega (arith, exists))

    patched_led : (mark : Mark) (last from : ℕ) (found : ℕ × List ℕ)
        → found_by last from (patched_search program threads code sled ∷ handler_searches program threads code (sled_logs_args program sled) mark) ≡ Some found
        → Led (from_head program threads sled) found.1 mark
    patched_led mark last from found e =
        let on = found_on last from (patched_search program threads code sled) (handler_searches program threads code (sled_logs_args program sled) mark) found e in
        let at : ℕ = on.at in
        led_at (from_head program threads sled) (at ∷ at ∷ at ∷ at ∷ on.rest.1) found.1 mark on.places_are
        (led_on (from_head program threads sled) (from_id program threads sled) (word_of sled Head) at Recorded (at ∷ at ∷ at ∷ on.rest.1) mark refl (part_stays Head)
        (λ rest. ap (λ b. cond b (from_id program threads sled rest) (Marked Skipped rest)) on.there.passes)
        (led_on (from_id program threads sled) (from_opcode program threads sled) (word_of sled Id) at Recorded (at ∷ at ∷ on.rest.1) mark refl (part_stays Id)
        (λ rest. refl)
        (led_on (from_opcode program threads sled) (from_offset program threads sled) (word_of sled Opcode) at Recorded (at ∷ on.rest.1) mark refl (part_stays Opcode)
        (λ rest. refl)
        (led_on (from_offset program threads sled) (from_handlers program threads sled) (word_of sled Offset) at Recorded on.rest.1 mark refl (part_stays Offset)
        (λ rest. refl)
        (handlers_led (sled_logs_args program sled) mark last at on.rest on.rest_found)))))

    skipped_led : (last from : ℕ) (found : ℕ × List ℕ) → found_by last from (head_searches program threads code sled Skipped) ≡ Some found
        → Led (from_head program threads sled) found.1 Skipped
    skipped_led last from found e =
        let on = found_on last from (record { test = λ place. not (is_patched program threads code sled place); loads = λ _. 1 }) [] found e in
        let none = found_none last on.at on.rest on.rest_found in
        let places : found.1 ≡ on.at ∷ [] = on.places_are ∙ ap (λ (ps : List ℕ). on.at ∷ ps) none.1 in
        led_at (from_head program threads sled) (on.at ∷ []) found.1 Skipped places
        (led_end (from_head program threads sled) (word_of sled Head) on.at Recorded Skipped refl (part_stays Head)
        (λ rest. ap (λ b. cond b (from_id program threads sled rest) (Marked Skipped rest)) (not_true (is_patched program threads code sled on.at) on.there.passes)))

    pub head_led : (mark : Mark) (last from : ℕ) (found : ℕ × List ℕ) → found_by last from (head_searches program threads code sled mark) ≡ Some found
        → Led (from_head program threads sled) found.1 mark
    head_led Skipped last from found e = skipped_led last from found e
    head_led NoHandler last from found e = patched_led NoHandler last from found e
    head_led NotLogging last from found e = patched_led NotLogging last from found e
    head_led Recorded last from found e = patched_led Recorded last from found e
    head_led RecordedArg last from found e = patched_led RecordedArg last from found e

    -- A whole passing. If the thread is held, the loads are those after its release.
    pub passing_led : (thread : ℕ) (held : Bool) (mark : Mark) (last from : ℕ) (found : ℕ × List ℕ)
        → found_by last from (passing_searches program threads code thread held sled mark) ≡ Some found
        → Led (from_head program threads sled) found.1 mark
    passing_led thread true mark last from found e =
        let on = found_on last from (record { test = is_set program threads code (release_word program thread); loads = λ _. 0 }) (head_searches program threads code sled mark) found e in
        led_at (from_head program threads sled) on.rest.1 found.1 mark on.places_are (head_led mark last on.at on.rest on.rest_found)
    passing_led thread false mark last from found e = head_led mark last from found e
