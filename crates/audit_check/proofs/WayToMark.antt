-- What searches find is a way of least places to the mark.
use Rattle.std.proofs.Common.{◌≡◌, ℕ, ◌==◌, ◌≤◌, Bool, true, false, cond, List, [], ◌∷◌, Option, Some, None, refl, sym, ap, subst, ◌∙◌, arith}
use Rattle.std.specs.Prelude.{◌||◌, not, option_map}
use Rattle.std.proofs.lemmas.Bool.{eqb-false, not-true}
use Rattle.xray_image.specs.Program.{Program}
use Rattle.handler_word.specs.declared.mark.Mark.{Mark}
use Rattle.handler_word.specs.declared.mark.Mark.TheVariants.{Skipped, NoHandler, NotLogging, Recorded, RecordedArg}
use Rattle.sled_words.specs.Words.{arg_handler_word, handler_word, release_word}
use Rattle.machine_step.specs.Loads.{sled_logs_args}
use Rattle.audit_check.specs.Places.{Search, either_handler, found_by, handler_searches, has_arg_handler, has_handler, head_searches, is_patched, is_set, log_records, one_load, passing_searches, patched_search}
use Rattle.audit_check.specs.private.Turns.{IsLeast}
use Rattle.audit_check.specs.private.Ways.{Leaf, Node, Reaches, Tree, arg_handler_tree, handler_tree, head_tree, id_tree, passing_tree, state_tree}
use Rattle.audit_check.proofs.LeastPlaces.{passing_least}
use Rattle.audit_check.proofs.SearchResults.{found_none, found_on}

not_not : (b : Bool) → not (not b) ≡ true → b ≡ true
not_not true e = refl
not_not false e = absurd cc

module _ (program : Program) (threads : ℕ) (code : ℕ → ℕ → ℕ) (bound : ℕ) where
  abbrev Found : List Search → ℕ → ℕ × List ℕ → Type 0
  Found searches from found = found_by bound from searches ≡ Some found

  abbrev To : Mark → Tree → ℕ → ℕ → Type 0
  To mark tree from end = Reaches code bound mark tree from end

  -- ---- one search

  -- the last one
  last_at : (test : ℕ → Bool) (from : ℕ) (found : ℕ × List ℕ) → Found (one_load test ∷ []) from found
      → (at : ℕ) × (from ≤ at) × (at ≤ bound) × (test at ≡ true) × (at ≤ found.0)
  last_at test from found e =
      let on = found_on bound from (one_load test) [] found e in
      let none = found_none bound on.at on.rest on.rest_found in
      (on.at, on.there.low, on.there.high, on.there.passes, omega (arith, on.end_is, none.0))

  -- one before others
  next_at : (search : Search) (later : List Search) (from : ℕ) (found : ℕ × List ℕ) → Found (search ∷ later) from found
      → (at : ℕ) × (from ≤ at) × (at ≤ bound) × (search.test at ≡ true) × ((rest : ℕ × List ℕ) × Found later at rest × (found.0 ≡ rest.0))
  next_at search later from found e =
      let on = found_on bound from search later found e in
      (on.at, on.there.low, on.there.high, on.there.passes, (on.rest, on.rest_found, on.end_is))

  never_found : (later : List Search) (from : ℕ) (found : ℕ × List ℕ) → Found (one_load (λ _. false) ∷ later) from found → ⊥
  never_found later from found e =
      let on = next_at (one_load (λ _. false)) later from found e in
      let q : false ≡ true = on.3 in cc

  -- ---- the log's state

  log_on : (recording : Mark) (from : ℕ) (found : ℕ × List ℕ) → Found (one_load (log_records program threads code) ∷ []) from found
      → To recording (state_tree program recording) from found.0
  log_on recording from found e =
      let on = last_at (log_records program threads code) from found e in
      (on.0, on.1, on.2, (ap (λ b. cond b recording NotLogging) on.3, on.4))

  log_off : (recording : Mark) (from : ℕ) (found : ℕ × List ℕ) → Found (one_load (λ place. not (log_records program threads code place)) ∷ []) from found
      → To NotLogging (state_tree program recording) from found.0
  log_off recording from found e =
      let on = last_at (λ place. not (log_records program threads code place)) from found e in
      (on.0, on.1, on.2, (ap (λ b. cond b recording NotLogging) (not-true (log_records program threads code on.0) on.3), on.4))

  -- ---- a word that is set, or isn't

  unset_then : (word : ℕ) (mark : Mark) (unset set : Tree) (from at end : ℕ) → from ≤ at → at ≤ bound → is_set program threads code word at ≡ false
      → To mark unset at end → To mark (Node word Recorded (λ value. cond (value == 0) unset set)) from end
  unset_then word mark unset set from at end low high e way =
      (at, low, high, subst (λ b. To mark (cond b unset set) at end) (sym (zero (code at word == 0) e)) way)
    where
      zero : (b : Bool) → not b ≡ false → b ≡ true
      zero true e = refl
      zero false e = absurd cc

  set_then : (word : ℕ) (mark : Mark) (unset set : Tree) (from at end : ℕ) → from ≤ at → at ≤ bound → is_set program threads code word at ≡ true
      → To mark set at end → To mark (Node word Recorded (λ value. cond (value == 0) unset set)) from end
  set_then word mark unset set from at end low high e way =
      (at, low, high, subst (λ b. To mark (cond b unset set) at end) (sym (not-true (code at word == 0) e)) way)

  end_at : (mark : Mark) (tree : Tree) (from a b : ℕ) → a ≡ b → To mark tree from b → To mark tree from a
  end_at mark tree from a b e way = subst (λ n. To mark tree from n) (sym e) way

  -- ---- a handler

  handler_reached : (mark : Mark) (from : ℕ) (found : ℕ × List ℕ) → Found (handler_searches program threads code false mark) from found
      → To mark (handler_tree program) from found.0
  handler_reached Skipped from found e = absurd (never_found [] from found e)
  handler_reached NoHandler from found e =
      let on = last_at (λ place. not (has_handler program threads code place)) from found e in
      unset_then (handler_word program) NoHandler (Leaf NoHandler) (state_tree program Recorded) from on.0 found.0 on.1 on.2
      (not-true (has_handler program threads code on.0) on.3) (refl, on.4)
  handler_reached NotLogging from found e =
      let later : List Search = one_load (λ place. not (log_records program threads code place)) ∷ [] in
      let on = next_at (one_load (has_handler program threads code)) later from found e in
      end_at NotLogging (handler_tree program) from found.0 on.4.0.0 on.4.2
      (set_then (handler_word program) NotLogging (Leaf NoHandler) (state_tree program Recorded) from on.0 on.4.0.0 on.1 on.2 on.3 (log_off Recorded on.0 on.4.0 on.4.1))
  handler_reached Recorded from found e =
      let later : List Search = one_load (log_records program threads code) ∷ [] in
      let on = next_at (one_load (has_handler program threads code)) later from found e in
      end_at Recorded (handler_tree program) from found.0 on.4.0.0 on.4.2
      (set_then (handler_word program) Recorded (Leaf NoHandler) (state_tree program Recorded) from on.0 on.4.0.0 on.1 on.2 on.3 (log_on Recorded on.0 on.4.0 on.4.1))
  handler_reached RecordedArg from found e = absurd (never_found [] from found e)

  -- ---- a handler of either kind

  either_reached : (from at end : ℕ) → from ≤ at → at ≤ bound → (has_arg_handler program threads code at || has_handler program threads code at) ≡ true
      → ((recording : Mark) → To NotLogging (state_tree program recording) at end) → To NotLogging (arg_handler_tree program threads) from end
  either_reached from at end low high passes way = by (has_arg_handler program threads code at) refl
    where
      second : (a b : Bool) → a ≡ false → (a || b) ≡ true → b ≡ true
      second true b e f = absurd cc
      second false b e f = f

      by : (b : Bool) → has_arg_handler program threads code at ≡ b → To NotLogging (arg_handler_tree program threads) from end
      by true e =
          set_then (arg_handler_word program threads) NotLogging (handler_tree program) (state_tree program RecordedArg) from at end low high e (way RecordedArg)
      by false e =
          let here : at ≤ at = omega arith in
          unset_then (arg_handler_word program threads) NotLogging (handler_tree program) (state_tree program RecordedArg) from at end low high e
          (set_then (handler_word program) NotLogging (Leaf NoHandler) (state_tree program Recorded) at at end here high
          (second (has_arg_handler program threads code at) (has_handler program threads code at) e passes) (way Recorded))

  -- none of the argument handler, and then what comes of a handler
  without_arg : (mark : Mark) (later : List Search) (from : ℕ) (found : ℕ × List ℕ)
      → ((at : ℕ) (rest : ℕ × List ℕ) → Found later at rest → To mark (handler_tree program) at rest.0)
      → Found (one_load (λ place. not (has_arg_handler program threads code place)) ∷ later) from found
      → To mark (arg_handler_tree program threads) from found.0
  without_arg mark later from found on_from e =
      let on = next_at (one_load (λ place. not (has_arg_handler program threads code place))) later from found e in
      end_at mark (arg_handler_tree program threads) from found.0 on.4.0.0 on.4.2
      (unset_then (arg_handler_word program threads) mark (handler_tree program) (state_tree program RecordedArg) from on.0 on.4.0.0 on.1 on.2
      (not-true (has_arg_handler program threads code on.0) on.3) (on_from on.0 on.4.0 on.4.1))

  arg_reached : (mark : Mark) (from : ℕ) (found : ℕ × List ℕ) → Found (handler_searches program threads code true mark) from found
      → To mark (arg_handler_tree program threads) from found.0
  arg_reached Skipped from found e = absurd (never_found [] from found e)
  arg_reached NoHandler from found e =
      without_arg NoHandler (handler_searches program threads code false NoHandler) from found (λ at rest f. handler_reached NoHandler at rest f) e
  arg_reached NotLogging from found e =
      let later : List Search = one_load (λ place. not (log_records program threads code place)) ∷ [] in
      let on = next_at (either_handler program threads code) later from found e in
      end_at NotLogging (arg_handler_tree program threads) from found.0 on.4.0.0 on.4.2
      (either_reached from on.0 on.4.0.0 on.1 on.2 on.3 (λ recording. log_off recording on.0 on.4.0 on.4.1))
  arg_reached Recorded from found e =
      without_arg Recorded (handler_searches program threads code false Recorded) from found (λ at rest f. handler_reached Recorded at rest f) e
  arg_reached RecordedArg from found e =
      let later : List Search = one_load (log_records program threads code) ∷ [] in
      let on = next_at (one_load (has_arg_handler program threads code)) later from found e in
      end_at RecordedArg (arg_handler_tree program threads) from found.0 on.4.0.0 on.4.2
      (set_then (arg_handler_word program threads) RecordedArg (handler_tree program) (state_tree program RecordedArg) from on.0 on.4.0.0 on.1 on.2 on.3
      (log_on RecordedArg on.0 on.4.0 on.4.1))

  -- ---- the head

  abbrev tree_by : Bool → Tree
  tree_by logs = cond logs (arg_handler_tree program threads) (handler_tree program)

  handlers_reached : (logs : Bool) (mark : Mark) (from : ℕ) (found : ℕ × List ℕ) → Found (handler_searches program threads code logs mark) from found
      → To mark (tree_by logs) from found.0
  handlers_reached true mark from found e = arg_reached mark from found e
  handlers_reached false mark from found e = handler_reached mark from found e

  patched_reached : (sled : ℕ) (mark : Mark) (from : ℕ) (found : ℕ × List ℕ)
      → Found (patched_search program threads code sled ∷ handler_searches program threads code (sled_logs_args program sled) mark) from found
      → To mark (head_tree program threads sled) from found.0
  patched_reached sled mark from found e =
      let on = next_at (patched_search program threads code sled) (handler_searches program threads code (sled_logs_args program sled) mark) from found e in
      let here : on.0 ≤ on.0 = omega arith in
      let rest = handlers_reached (sled_logs_args program sled) mark on.0 on.4.0 on.4.1 in
      let parts : To mark (id_tree program threads sled) on.0 on.4.0.0 = (on.0, here, on.2, (on.0, here, on.2, (on.0, here, on.2, rest))) in
      end_at mark (head_tree program threads sled) from found.0 on.4.0.0 on.4.2
      (on.0, on.1, on.2, subst (λ b. To mark (cond b (id_tree program threads sled) (Leaf Skipped)) on.0 on.4.0.0) (sym on.3) parts)

  head_reached : (sled : ℕ) (mark : Mark) (from : ℕ) (found : ℕ × List ℕ) → Found (head_searches program threads code sled mark) from found
      → To mark (head_tree program threads sled) from found.0
  head_reached sled Skipped from found e =
      let on = last_at (λ place. not (is_patched program threads code sled place)) from found e in (
        on.0,
        on.1,
        on.2,
        subst (λ b. To Skipped (cond b (id_tree program threads sled) (Leaf Skipped)) on.0 found.0) (sym (not-true (is_patched program threads code sled on.0) on.3))
            (refl, on.4),
      )
  head_reached sled NoHandler from found e = patched_reached sled NoHandler from found e
  head_reached sled NotLogging from found e = patched_reached sled NotLogging from found e
  head_reached sled Recorded from found e = patched_reached sled Recorded from found e
  head_reached sled RecordedArg from found e = patched_reached sled RecordedArg from found e

  -- ---- a passing

  passing_reached : (thread : ℕ) (held : Bool) (sled : ℕ) (mark : Mark) (from : ℕ) (found : ℕ × List ℕ)
      → Found (passing_searches program threads code thread held sled mark) from found → To mark (passing_tree program threads thread held sled) from found.0
  passing_reached thread true sled mark from found e =
      let release : Search = record { test = is_set program threads code (release_word program thread); loads = λ _. 0 } in
      let on = next_at release (head_searches program threads code sled mark) from found e in
      end_at mark (passing_tree program threads thread true sled) from found.0 on.4.0.0 on.4.2 (
        on.0,
        on.1,
        on.2,
        eqb-false (code on.0 (release_word program thread)) 0 (not-true (code on.0 (release_word program thread) == 0) on.3),
        head_reached sled mark on.0 on.4.0 on.4.1,
      )
  passing_reached thread false sled mark from found e = head_reached sled mark from found e

  -- the place of the last search is the least at which the passing may end with its mark
  pub passing_is_least : (thread : ℕ) (held : Bool) (sled : ℕ) (mark : Mark) (from : ℕ) (answer : Option (ℕ × List ℕ))
      → found_by bound from (passing_searches program threads code thread held sled mark) ≡ answer
      → IsLeast (Reaches code bound mark (passing_tree program threads thread held sled) from) (option_map (λ found. found.0) answer)
  passing_is_least thread held sled mark from None e = λ end way.
      let finds = passing_least program threads code bound thread held sled mark from from end (omega arith) way in
      let q : None ≡ Some finds.found = sym e ∙ finds.is in
      cc
  passing_is_least thread held sled mark from (Some found) e = (
    passing_reached thread held sled mark from found e,
    λ end way.
        let finds = passing_least program threads code bound thread held sled mark from from end (omega arith) way in
        let q : Some found ≡ Some finds.found = sym e ∙ finds.is in
        let same : found ≡ finds.found = cc in
        let low : finds.found.0 ≤ end = finds.high in
        subst (λ (f : ℕ × List ℕ). f.0 ≤ end) (sym same) low,
  )
