-- If marks follow a script, searches find places for the loads.
use Rattle.std.proofs.Common.{◌≡◌, ◌≢◌, inl, inr, ℕ, zero, suc, ◌+◌, ◌-◌, ◌<◌, ◌≤◌, Bool, true, false, cond, List, [], ◌∷◌, ◌++◌, Option, Some, refl, sym, ap, subst, ◌∙◌, arith, length}
use Rattle.std.specs.Prelude.{◌==◌, ◌||◌, ◌⊎◌, All, not, option_and_then, option_map, replicate}
use Rattle.std.proofs.lemmas.Bool.{ne_eqb}
use Rattle.xray_image.specs.Program.{Program}
use Rattle.handler_word.specs.declared.mark.Mark.{Mark}
use Rattle.handler_word.specs.declared.mark.Mark.TheVariants.{Skipped, NoHandler, NotLogging, Recorded, RecordedArg}
use Rattle.sled_words.specs.declared.part.Part.TheVariants.{Head}
use Rattle.sled_words.specs.Parts.{patched_head}
use Rattle.sled_words.specs.Words.{arg_handler_word, handler_word, release_word, state_word, word_of}
use Rattle.machine_step.specs.Follows.{MarksFollow}
use Rattle.machine_step.specs.Loads.{is_held_at, sled_logs_args}
use Rattle.audit_check.specs.private.Ways.{Leaf, Passes, Reaches, Tree, arg_handler_tree, handler_tree, head_tree, id_tree, passing_tree, state_tree, trees_of}
use Rattle.audit_check.proofs.FollowWays.{marks_pass}
use Rattle.audit_check.proofs.OwnRelease.{trees_own}
use Rattle.audit_check.specs.Places.{Search, either_handler, first_among, found_by, handler_searches, has_arg_handler, has_handler, head_searches, is_patched, is_set, log_records, passing_searches, patched_search, load_places_from}

-- ---- the first place is the least

pub first_least : (test : ℕ → Bool) (count from at : ℕ) → test at ≡ true → from ≤ at → at < from + count
    → (first : ℕ) × (first_among test count from ≡ Some first) × (from ≤ first) × (first ≤ at) × (test first ≡ true)
first_least test zero from at passes low high = absurd (omega (arith, low, high))
first_least test (suc count) from at passes low high =
    by_test (test from) refl (λ apart. first_least test count (from + 1) at passes (omega (arith, low, apart)) (omega (arith, high)))
  where
    by_test : (b : Bool) → test from ≡ b
        → ((at ≡ from → ⊥) → (first : ℕ) × (first_among test count (from + 1) ≡ Some first) × (from + 1 ≤ first) × (first ≤ at) × (test first ≡ true))
        → (first : ℕ) × (cond (test from) (Some from) (first_among test count (from + 1)) ≡ Some first) × (from ≤ first) × (first ≤ at) × (test first ≡ true)
    by_test true is later = (from, ap (λ b. cond b (Some from) (first_among test count (from + 1))) is, omega arith, low, is)
    by_test false is later =
        let rest = later (λ e. cc (ap test e, passes, is)) in (
          rest.0,
          ap (λ b. cond b (Some from) (first_among test count (from + 1))) is ∙ rest.1,
          omega (arith, rest.2),
          rest.3,
          rest.4,
        )

-- searches find something, and end at a place or before it
pub record Finds (last from : ℕ) (searches : List Search) (end : ℕ) : Type 0 where
  pub found : ℕ × List ℕ
  pub is : found_by last from searches ≡ Some found
  pub high : found.0 ≤ end

finds_none : (last from end : ℕ) → from ≤ end → Finds last from [] end
finds_none last from end low = record { found = (from, []); is = refl; high = low }

-- a search that may stop at a place, and those after it
finds_on : (last from at end : ℕ) (search : Search) (later : List Search) → search.test at ≡ true → from ≤ at → at ≤ last
    → ((first : ℕ) → first ≤ at → search.test first ≡ true → Finds last first later end) → Finds last from (search ∷ later) end
finds_on last from at end search later passes low high rest =
    let first = first_least search.test (last + 1 - from) from at passes low (omega (arith, low, high)) in
    let on = rest first.0 first.3 first.4 in
    let make : ℕ → ℕ × List ℕ → ℕ × List ℕ = λ p found. (found.0, replicate (search.loads p) p ++ found.1) in
    record {
      found = make first.0 on.found;
      is =
          ap (option_and_then (λ p. option_map (make p) (found_by last p later))) first.1
          ∙ ap (option_map (make first.0)) on.is;
      high = on.high;
    }

module _ (program : Program) (threads : ℕ) (code : ℕ → ℕ → ℕ) (bound : ℕ) where
  -- ---- what a way finds

  record StateAt (recording mark : Mark) (place end : ℕ) : Type 0 where
    at : ℕ
    low : place ≤ at
    high : at ≤ bound
    up : at ≤ end
    leads : ((log_records program threads code at ≡ true) × (recording ≡ mark)) ⊎ ((not (log_records program threads code at) ≡ true) × (NotLogging ≡ mark))

  state_at : (recording mark : Mark) (place end : ℕ) → Reaches code bound mark (state_tree program recording) place end → StateAt recording mark place end
  state_at recording mark place end (at, low, high, (is, up)) =
      record { at = at; low = low; high = high; up = up; leads = by_test (code at (state_word program) == 2) refl is }
    where
      by_test : (b : Bool) → (code at (state_word program) == 2) ≡ b → cond (code at (state_word program) == 2) recording NotLogging ≡ mark
          → ((log_records program threads code at ≡ true) × (recording ≡ mark)) ⊎ ((not (log_records program threads code at) ≡ true) × (NotLogging ≡ mark))
      by_test true e is = inl (e, ap (λ b. cond b recording NotLogging) (sym e) ∙ is)
      by_test false e is = inr (ap not e, ap (λ b. cond b recording NotLogging) (sym e) ∙ is)

  -- a word that is set, or isn't, and where the way goes on
  record WordAt (word : ℕ) (unset set : Tree) (mark : Mark) (place end : ℕ) : Type 0 where
    at : ℕ
    low : place ≤ at
    high : at ≤ bound
    leads : ((not (is_set program threads code word at) ≡ true) × Reaches code bound mark unset at end)
        ⊎ ((is_set program threads code word at ≡ true) × Reaches code bound mark set at end)

  word_at : (word : ℕ) (unset set : Tree) (mark : Mark) (place end at : ℕ) → place ≤ at → at ≤ bound
      → Reaches code bound mark (cond (code at word == 0) unset set) at end → WordAt word unset set mark place end
  word_at word unset set mark place end at low high way = record { at = at; low = low; high = high; leads = by_test (code at word == 0) refl way }
    where
      by_test : (b : Bool) → (code at word == 0) ≡ b → Reaches code bound mark (cond (code at word == 0) unset set) at end
          → ((not (is_set program threads code word at) ≡ true) × Reaches code bound mark unset at end)
          ⊎ ((is_set program threads code word at ≡ true) × Reaches code bound mark set at end)
      by_test true e way = inl (ap (λ b. not (not b)) e, subst (λ b. Reaches code bound mark (cond b unset set) at end) e way)
      by_test false e way = inr (ap not e, subst (λ b. Reaches code bound mark (cond b unset set) at end) e way)

  handler_at : (mark : Mark) (place end : ℕ) → Reaches code bound mark (handler_tree program) place end
      → WordAt (handler_word program) (Leaf NoHandler) (state_tree program Recorded) mark place end
  handler_at mark place end (at, low, high, way) =
      word_at (handler_word program) (Leaf NoHandler) (state_tree program Recorded) mark place end at low high way

  arg_handler_at : (mark : Mark) (place end : ℕ) → Reaches code bound mark (arg_handler_tree program threads) place end
      → WordAt (arg_handler_word program threads) (handler_tree program) (state_tree program RecordedArg) mark place end
  arg_handler_at mark place end (at, low, high, way) =
      word_at (arg_handler_word program threads) (handler_tree program) (state_tree program RecordedArg) mark place end at low high way

  -- ---- searches for the log's state

  log_rests : (recording : Mark) (from place end : ℕ) → (recording ≡ NotLogging → ⊥) → from ≤ place
      → Reaches code bound NotLogging (state_tree program recording) place end
      → Finds bound from (record { test = λ at. not (log_records program threads code at); loads = λ _. 1 } ∷ []) end
  log_rests recording from place end apart low way =
      let s = state_at recording NotLogging place end way in
      elim s.leads [
        | inl records ↦ absurd (apart records.1)
        | inr rests ↦
            finds_on bound from s.at end (record { test = λ at. not (log_records program threads code at); loads = λ _. 1 }) [] rests.0
            (omega (arith, low, s.low)) s.high (λ first before passes. finds_none bound first end (omega (arith, before, s.up)))
      ]

  log_records_there : (recording : Mark) (from place end : ℕ) → (NotLogging ≡ recording → ⊥) → from ≤ place
      → Reaches code bound recording (state_tree program recording) place end
      → Finds bound from (record { test = log_records program threads code; loads = λ _. 1 } ∷ []) end
  log_records_there recording from place end apart low way =
      let s = state_at recording recording place end way in
      elim s.leads [
        | inl records ↦
            finds_on bound from s.at end (record { test = log_records program threads code; loads = λ _. 1 }) [] records.0 (omega (arith, low, s.low)) s.high
            (λ first before passes. finds_none bound first end (omega (arith, before, s.up)))
        | inr rests ↦ absurd (apart rests.1)
      ]

  -- no way through the log's state comes to a mark that isn't one of these
  no_state : (recording mark : Mark) (place end : ℕ) → (recording ≡ mark → ⊥) → (NotLogging ≡ mark → ⊥)
      → Reaches code bound mark (state_tree program recording) place end → ⊥
  no_state recording mark place end apart other way =
      let s = state_at recording mark place end way in
      elim s.leads [ inl records ↦ apart records.1 | inr rests ↦ other rests.1 ]

  -- ---- searches for a handler

  handler_missing : (from place end : ℕ) → from ≤ place → Reaches code bound NoHandler (handler_tree program) place end
      → Finds bound from (record { test = λ at. not (has_handler program threads code at); loads = λ _. 1 } ∷ []) end
  handler_missing from place end low way =
      let w = handler_at NoHandler place end way in
      elim w.leads [
        | inl unset ↦
            finds_on bound from w.at end (record { test = λ at. not (has_handler program threads code at); loads = λ _. 1 }) [] unset.0
            (omega (arith, low, w.low)) w.high (λ first before passes. finds_none bound first end (omega (arith, before, unset.1.1)))
        | inr set ↦ absurd (no_state Recorded NoHandler w.at end (λ e. cc) (λ e. cc) set.1)
      ]

  handler_rests : (from place end : ℕ) → from ≤ place → Reaches code bound NotLogging (handler_tree program) place end
      → Finds bound from (record { test = has_handler program threads code; loads = λ _. 1 }
      ∷ record { test = λ at. not (log_records program threads code at); loads = λ _. 1 } ∷ []) end
  handler_rests from place end low way =
      let w = handler_at NotLogging place end way in
      elim w.leads [
        | inl unset ↦ let e = unset.1.0 in absurd cc
        | inr set ↦
            finds_on bound from w.at end (record { test = has_handler program threads code; loads = λ _. 1 })
            (record { test = λ at. not (log_records program threads code at); loads = λ _. 1 } ∷ []) set.0 (omega (arith, low, w.low)) w.high
            (λ first before passes. log_rests Recorded first w.at end (λ e. cc) before set.1)
      ]

  handler_records : (from place end : ℕ) → from ≤ place → Reaches code bound Recorded (handler_tree program) place end
      → Finds bound from (record { test = has_handler program threads code; loads = λ _. 1 }
      ∷ record { test = log_records program threads code; loads = λ _. 1 } ∷ []) end
  handler_records from place end low way =
      let w = handler_at Recorded place end way in
      elim w.leads [
        | inl unset ↦ let e = unset.1.0 in absurd cc
        | inr set ↦
            finds_on bound from w.at end (record { test = has_handler program threads code; loads = λ _. 1 })
            (record { test = log_records program threads code; loads = λ _. 1 } ∷ []) set.0 (omega (arith, low, w.low)) w.high
            (λ first before passes. log_records_there Recorded first w.at end (λ e. cc) before set.1)
      ]

  no_handler_way : (mark : Mark) (place end : ℕ) → (NoHandler ≡ mark → ⊥) → (NotLogging ≡ mark → ⊥) → (Recorded ≡ mark → ⊥)
      → Reaches code bound mark (handler_tree program) place end → ⊥
  no_handler_way mark place end one two three way =
      let w = handler_at mark place end way in
      elim w.leads [ inl unset ↦ one unset.1.0 | inr set ↦ no_state Recorded mark w.at end three two set.1 ]

  -- ---- searches for handlers of either kind

  arg_handler_missing : (mark : Mark) (later : List Search) (from place end : ℕ) → from ≤ place → (RecordedArg ≡ mark → ⊥) → (NotLogging ≡ mark → ⊥)
      → ((first at : ℕ) → first ≤ at → Reaches code bound mark (handler_tree program) at end → Finds bound first later end)
      → Reaches code bound mark (arg_handler_tree program threads) place end
      → Finds bound from (record { test = λ at. not (has_arg_handler program threads code at); loads = λ _. 1 } ∷ later) end
  arg_handler_missing mark later from place end low one two rest way =
      let w = arg_handler_at mark place end way in
      elim w.leads [
        | inl unset ↦
            finds_on bound from w.at end (record { test = λ at. not (has_arg_handler program threads code at); loads = λ _. 1 }) later unset.0
            (omega (arith, low, w.low)) w.high (λ first before passes. rest first w.at before unset.1)
        | inr set ↦ absurd (no_state RecordedArg mark w.at end one two set.1)
      ]

  arg_handler_records : (from place end : ℕ) → from ≤ place → Reaches code bound RecordedArg (arg_handler_tree program threads) place end
      → Finds bound from (record { test = has_arg_handler program threads code; loads = λ _. 1 }
      ∷ record { test = log_records program threads code; loads = λ _. 1 } ∷ []) end
  arg_handler_records from place end low way =
      let w = arg_handler_at RecordedArg place end way in
      elim w.leads [
        | inl unset ↦ absurd (no_handler_way RecordedArg w.at end (λ e. cc) (λ e. cc) (λ e. cc) unset.1)
        | inr set ↦
            finds_on bound from w.at end (record { test = has_arg_handler program threads code; loads = λ _. 1 })
            (record { test = log_records program threads code; loads = λ _. 1 } ∷ []) set.0 (omega (arith, low, w.low)) w.high
            (λ first before passes. log_records_there RecordedArg first w.at end (λ e. cc) before set.1)
      ]

  either_left : (a b : Bool) → a ≡ true → (a || b) ≡ true
  either_left true b e = refl
  either_left false b e = absurd cc

  either_right : (a b : Bool) → b ≡ true → (a || b) ≡ true
  either_right true b e = refl
  either_right false b e = e

  either_rests : (from place end : ℕ) → from ≤ place → Reaches code bound NotLogging (arg_handler_tree program threads) place end
      → Finds bound from (handler_searches program threads code true NotLogging) end
  either_rests from place end low way =
      let w = arg_handler_at NotLogging place end way in
      let later : List Search = record { test = λ at. not (log_records program threads code at); loads = λ _. 1 } ∷ [] in
      elim w.leads [
        | inl unset ↦
            let h = handler_at NotLogging w.at end unset.1 in
            elim h.leads [
              | inl missing ↦ let e = missing.1.0 in absurd cc
              | inr found ↦
                  finds_on bound from h.at end (either_handler program threads code) later
                  (either_right (has_arg_handler program threads code h.at) (has_handler program threads code h.at) found.0)
                  (omega (arith, low, w.low, h.low)) h.high (λ first before passes. log_rests Recorded first h.at end (λ e. cc) before found.1)
            ]
        | inr set ↦
            finds_on bound from w.at end (either_handler program threads code) later
            (either_left (has_arg_handler program threads code w.at) (has_handler program threads code w.at) set.0)
            (omega (arith, low, w.low)) w.high (λ first before passes. log_rests RecordedArg first w.at end (λ e. cc) before set.1)
      ]

  -- the tree after a patched sled's parts, by whether the sled logs arguments
  abbrev tree_by : Bool → Tree
  tree_by logs = cond logs (arg_handler_tree program threads) (handler_tree program)

  no_skip : (logs : Bool) (place end : ℕ) → Reaches code bound Skipped (tree_by logs) place end → ⊥
  no_skip true place end way =
      let w = arg_handler_at Skipped place end way in
      elim w.leads [
        | inl unset ↦ no_handler_way Skipped w.at end (λ e. cc) (λ e. cc) (λ e. cc) unset.1
        | inr set ↦ no_state RecordedArg Skipped w.at end (λ e. cc) (λ e. cc) set.1
      ]
  no_skip false place end way = no_handler_way Skipped place end (λ e. cc) (λ e. cc) (λ e. cc) way

  handlers_least : (logs : Bool) (mark : Mark) (from place end : ℕ) → from ≤ place → Reaches code bound mark (tree_by logs) place end
      → Finds bound from (handler_searches program threads code logs mark) end
  handlers_least logs Skipped from place end low way = absurd (no_skip logs place end way)
  handlers_least true NoHandler from place end low way =
      arg_handler_missing NoHandler _ from place end low (λ e. cc) (λ e. cc) (λ first at before rest. handler_missing first at end before rest) way
  handlers_least false NoHandler from place end low way = handler_missing from place end low way
  handlers_least true NotLogging from place end low way = either_rests from place end low way
  handlers_least false NotLogging from place end low way = handler_rests from place end low way
  handlers_least true Recorded from place end low way =
      arg_handler_missing Recorded _ from place end low (λ e. cc) (λ e. cc) (λ first at before rest. handler_records first at end before rest) way
  handlers_least false Recorded from place end low way = handler_records from place end low way
  handlers_least true RecordedArg from place end low way = arg_handler_records from place end low way
  handlers_least false RecordedArg from place end low way = absurd (no_handler_way RecordedArg place end (λ e. cc) (λ e. cc) (λ e. cc) way)

  -- ---- the head

  record HeadAt (sled : ℕ) (mark : Mark) (place end : ℕ) : Type 0 where
    at : ℕ
    low : place ≤ at
    high : at ≤ bound
    leads : ((is_patched program threads code sled at ≡ true) × ((later : ℕ) × (at ≤ later) × Reaches code bound mark (tree_by (sled_logs_args program sled)) later end))
        ⊎ ((not (is_patched program threads code sled at) ≡ true) × (Skipped ≡ mark) × (at ≤ end))

  head_at : (sled : ℕ) (mark : Mark) (place end : ℕ) → Reaches code bound mark (head_tree program threads sled) place end → HeadAt sled mark place end
  head_at sled mark place end (at, low, high, way) =
      record { at = at; low = low; high = high; leads = by_test (code at (word_of sled Head) == patched_head) refl way }
    where
      past_parts : Reaches code bound mark (id_tree program threads sled) at end
          → (later : ℕ) × (at ≤ later) × Reaches code bound mark (tree_by (sled_logs_args program sled)) later end
      past_parts (a, low_a, high_a, (b, low_b, high_b, (c, low_c, high_c, rest))) = (c, omega (arith, low_a, low_b, low_c), rest)

      by_test : (b : Bool) → (code at (word_of sled Head) == patched_head) ≡ b
          → Reaches code bound mark (cond (code at (word_of sled Head) == patched_head) (id_tree program threads sled) (Leaf Skipped)) at end
          → ((is_patched program threads code sled at ≡ true) × ((later : ℕ) × (at ≤ later) × Reaches code bound mark (tree_by (sled_logs_args program sled)) later end))
          ⊎ ((not (is_patched program threads code sled at) ≡ true) × (Skipped ≡ mark) × (at ≤ end))
      by_test true e way = inl (e, past_parts (subst (λ b. Reaches code bound mark (cond b (id_tree program threads sled) (Leaf Skipped)) at end) e way))
      by_test false e way =
          let leaf : Reaches code bound mark (Leaf Skipped) at end =
          subst (λ b. Reaches code bound mark (cond b (id_tree program threads sled) (Leaf Skipped)) at end) e way in
          inr (ap not e, leaf.0, leaf.1)

  patched_least : (sled : ℕ) (mark : Mark) (from place end : ℕ) → (Skipped ≡ mark → ⊥) → from ≤ place
      → Reaches code bound mark (head_tree program threads sled) place end
      → Finds bound from (patched_search program threads code sled ∷ handler_searches program threads code (sled_logs_args program sled) mark) end
  patched_least sled mark from place end apart low way =
      let h = head_at sled mark place end way in
      elim h.leads [
        | inl patched ↦
            finds_on bound from h.at end (patched_search program threads code sled) (handler_searches program threads code (sled_logs_args program sled) mark)
            patched.0 (omega (arith, low, h.low)) h.high
            (λ first before passes. handlers_least (sled_logs_args program sled) mark first patched.1.0 end (omega (arith, before, patched.1.1)) patched.1.2)
        | inr unpatched ↦ absurd (apart unpatched.1)
      ]

  head_least : (sled : ℕ) (mark : Mark) (from place end : ℕ) → from ≤ place → Reaches code bound mark (head_tree program threads sled) place end
      → Finds bound from (head_searches program threads code sled mark) end
  head_least sled Skipped from place end low way =
      let h = head_at sled Skipped place end way in
      elim h.leads [
        | inl patched ↦ absurd (no_skip (sled_logs_args program sled) patched.1.0 end patched.1.2)
        | inr unpatched ↦
            finds_on bound from h.at end (record { test = λ at. not (is_patched program threads code sled at); loads = λ _. 1 }) [] unpatched.0
            (omega (arith, low, h.low)) h.high (λ first before passes. finds_none bound first end (omega (arith, before, unpatched.2)))
      ]
  head_least sled NoHandler from place end low way = patched_least sled NoHandler from place end (λ e. cc) low way
  head_least sled NotLogging from place end low way = patched_least sled NotLogging from place end (λ e. cc) low way
  head_least sled Recorded from place end low way = patched_least sled Recorded from place end (λ e. cc) low way
  head_least sled RecordedArg from place end low way = patched_least sled RecordedArg from place end (λ e. cc) low way

  -- ---- a passing

  pub passing_least : (thread : ℕ) (held : Bool) (sled : ℕ) (mark : Mark) (from place end : ℕ) → from ≤ place
      → Reaches code bound mark (passing_tree program threads thread held sled) place end
      → Finds bound from (passing_searches program threads code thread held sled mark) end
  passing_least thread true sled mark from place end low (at, low_at, high, set, way) =
      finds_on bound from at end (record { test = is_set program threads code (release_word program thread); loads = λ _. 0 })
      (head_searches program threads code sled mark) (is_there (code at (release_word program thread)) set) (omega (arith, low, low_at)) high
      (λ first before passes. head_least sled mark first at end before way)
    where
      is_there : (value : ℕ) → value ≢ 0 → not (value == 0) ≡ true
      is_there value apart = ap not (ne_eqb value 0 apart)
  passing_least thread false sled mark from place end low way = head_least sled mark from place end low way

-- ---- all passings

pub passings_least : (program : Program) (threads : ℕ) (code : ℕ → ℕ → ℕ) (bound : ℕ → ℕ) (thread : ℕ) (hold : Option ℕ) (number from place end : ℕ)
    (sleds : List ℕ) (marks : List Mark) → from ≤ place → Passes code bound number (trees_of program threads thread hold number sleds) marks place end
    → (places : List ℕ) × (load_places_from program threads code bound thread hold number from sleds marks ≡ Some places)
passings_least program threads code bound thread hold number from place end [] [] low way = ([], refl)
passings_least program threads code bound thread hold number from place end [] (mark ∷ marks) low way = absurd way
passings_least program threads code bound thread hold number from place end (sled ∷ sleds) [] low way = absurd way
passings_least program threads code bound thread hold number from place end (sled ∷ sleds) (mark ∷ marks) low (at, way, rest) =
    let first = passing_least program threads code (bound number) thread (is_held_at hold number) sled mark from place at low way in
    let later = passings_least program threads code bound thread hold (number + 1) first.found.0 at end sleds marks first.high rest in
    let next : ℕ × List ℕ → Option (List ℕ) = λ found.
    option_map (λ (more : List ℕ). found.1 ++ more) (load_places_from program threads code bound thread hold (number + 1) found.0 sleds marks) in (
      first.found.1 ++ later.0,
      ap (option_and_then next) first.is ∙ ap (option_map (λ (more : List ℕ). first.found.1 ++ more)) later.1,
    )

-- marks that follow a script have places
pub following_least : (program : Program) (threads : ℕ) (code : ℕ → ℕ → ℕ) (start : ℕ) (bound : ℕ → ℕ) (thread : ℕ) (hold : Option ℕ) (sleds : List ℕ)
    (marks : List Mark) (place : ℕ) → 0 < thread → thread ≤ threads → All (λ sled. sled < length program.sleds) sleds
    → MarksFollow program threads code start bound thread hold sleds marks place
    → (places : List ℕ) × (load_places_from program threads code bound thread hold 0 start sleds marks ≡ Some places)
following_least program threads code start bound thread hold sleds marks place some within exist follow =
    passings_least program threads code bound thread hold 0 start start place sleds marks (omega arith)
    (marks_pass program threads code start bound thread hold sleds (trees_own program threads thread some within hold 0 sleds exist) marks place follow)
