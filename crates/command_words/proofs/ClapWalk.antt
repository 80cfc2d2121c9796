-- clap's walk over words is a run over the items that they say. clap settles an option late, so the state is what it
-- would come to if the words ended: `finish`.
use Rattle.std.proofs.Common.{◌≡◌, ◌∙◌, ◌+◌, ◌<◌, ◌==◌, ◌&&◌, ℕ, Bool, true, false, not, suc, refl, sym, ap, arith, min, List, [], ◌∷◌, map, length, Option, Some, None, true≢false, nat_lt}
use Rattle.std.specs.List.{find, fold, list_any, before_first, after_first}
use Rattle.std.specs.Option.{option_map_or}
use Rattle.std.specs.Prelude.{codes, is_some, if◌then◌else◌}
use Rattle.std.specs.Str.{bytes_eq}
use Rattle.std.proofs.Math.Bool.{and-false, or-false}
use Rattle.std.proofs.lemmas.Bool.{eqb-true, ltb-true}
use Rattle.clap.specs.Lexer.{long_of, short_of, strip_byte}
use Rattle.clap.specs.Kinds.{Kinds, or_else}
use Rattle.clap.specs.Walk.{nothing_held, walk_from, most_values, takes_values, Held, Row, Rule, Step, Text, Waiting, Walk, after_flag, after_step, has_long, long_met, idle, option, value, arg_by_index, arg_by_long, has_short, settled, is_pending, to_positional, used, walked}
use Rattle.clap.specs.Faults.{long_fault, other_fault, positional_fault, settle_fault, step_fault, turn_fault, use_fault, walk_fault, flags_fault}
use Rattle.clap.specs.declared.error.kind.ErrorKind.{ErrorKind}
use Rattle.clap.specs.declared.error.kind.ErrorKind.TheVariants.{InvalidValue, UnknownArgument}
use Rattle.clap.specs.Lexer.{usize_max}
use Rattle.command_words.specs.private.Clapped.{after}
use Rattle.command_words.specs.Items.{Item, File, Given, Bare, may_name_file, is_equals, items_after}
use Rattle.command_words.proofs.Arguments.{Each, IsOne, after_else, arg_by_option, found_each, leaf, run, run_none, use_is, used_by, used_one}
use Rattle.command_words.proofs.WordShapes.{IsText, Shaped, named, dashes, long, short, before_cons, after_cons, before_none, first_char, shaped}

-- the rows, if nothing that is held fails
abbrev pub finish : List Rule → Held → Option (List Row)
finish rules held = after (settle_fault rules false held) (Some (settled rules held).rows)

-- the rows after the words, from where a walk is
abbrev pub outcome : Text → List Rule → Walk → List Text → Option (List Row)
outcome command rules walk words = after (walk_fault (leaf command rules) [] walk words) (finish rules (fold (walked rules []) walk words).held)

-- these rows, and an option that waits with these values
abbrev Pending : Type 0
Pending = Option (Text × List Text)

abbrev holds : List Row → Pending → Held
holds rows pending = record { rows = rows; pending = pending; skip = 0 }

abbrev walk_at : Held → Waiting → ℕ → Bool → Walk
walk_at held waiting place trailing = record { held = held; waiting = waiting; position = place; is_trailing = trailing; stopped = None }

outcome_ends : (command : Text) (rules : List Rule) (walk : Walk) → outcome command rules walk [] ≡ finish rules walk.held
unfolding walk_fault
outcome_ends command rules walk = refl

outcome_next : (command : Text) (rules : List Rule) (walk : Walk) (word : Text) (words : List Text)
    → outcome command rules walk (word ∷ words) ≡ after (turn_fault (leaf command rules) [] walk word) (outcome command rules (walked rules [] walk word) words)
unfolding walk_fault
outcome_next command rules walk word words =
    after_else (turn_fault (leaf command rules) [] walk word) (walk_fault (leaf command rules) [] (walked rules [] walk word) words) _

-- a first fault decides
fails_now : {X : Type 0} (first rest : Kinds) (x : Option X) (kind : ErrorKind) (kinds : Kinds) → first ≡ kind ∷ kinds → after (or_else first rest) x ≡ None
fails_now first rest x kind kinds fault = rw fault refl

-- ---- what is held

-- one use that waits is settled at the end
finish_pending : (rules : List Rule) (a : Rule) → IsOne rules a → (rows : List Row) (values : List Text)
    → finish rules (holds rows (Some (a.id, values))) ≡ after (use_fault false a values rows) (Some (used a values rows))
finish_pending rules a one rows values = rw one.only refl

finish_one : (rules : List Rule) (a : Rule) → IsOne rules a → (rows : List Row) (v : Text) → finish rules (holds rows (Some (a.id, v ∷ []))) ≡ used_one a v rows
finish_one rules a one rows v = finish_pending rules a one rows (v ∷ []) ∙ use_is rules a one v rows

-- an option that still wants its value fails
open_fails : (rules : List Rule) (a : Rule) → IsOne rules a → (rows : List Row) → settle_fault rules false (holds rows (Some (a.id, []))) ≡ InvalidValue ∷ []
open_fails rules a one rows = rw (one.only, one.range) refl

-- ---- arguments that are met

index_small : (rules : List Rule) (place : ℕ) (a : Rule) → Each (IsOne rules) rules → arg_by_index rules place ≡ Some a → IsOne rules a × (place < 1000)
index_small rules place a each found =
    let got = found_each (IsOne rules) (λ a. option_map_or (λ k. k == place) a.index false) rules a each found in
    (got.0, go a.index got.0.near got.1)
  where
    go : (o : Option ℕ) → option_map_or (λ k. nat_lt k 1000) o true ≡ true → option_map_or (λ k. k == place) o false ≡ true → place < 1000
    go None near same = absurd (true≢false (sym same))
    go (Some k) near same =
        let is = eqb-true k place same in
        let small = ltb-true k 1000 near in
        omega arith

long_is_one : (rules : List Rule) (name : Text) (a : Rule) → Each (IsOne rules) rules → arg_by_long rules name ≡ Some a → IsOne rules a
long_is_one rules name a each found = (found_each (IsOne rules) (λ a. not (is_some a.index) && has_long a name) rules a each found).0

no_short : (rules xs : List Rule) (x : ℕ) → Each (IsOne rules) xs → find (λ a. not (is_some a.index) && has_short a x) xs ≡ None
no_short rules [] x each = refl
no_short rules (a ∷ xs) x each = rw (each.0.short, each.0.short_aliases, and-false (not (is_some a.index))) (no_short rules xs x each.1)

-- ---- a word that goes to a file

positional_faults : (rules : List Rule) (a : Rule) → IsOne rules a → (h : Held) → positional_fault rules false a h ≡ settle_fault rules false h
positional_faults rules a one h = rw (one.range, and-false (is_pending a h.pending)) refl

positional_walk : (rules : List Rule) (a : Rule) → IsOne rules a → (word : Text) (place : ℕ) → place < 1000 → (rows : List Row) (pending : Pending) (waiting : Waiting) (trailing : Bool)
    → to_positional rules (Some a) word (walk_at (holds rows pending) waiting place trailing) (holds rows pending)
    ≡ walk_at (holds (settled rules (holds rows pending)).rows (Some (a.id, word ∷ []))) idle (suc place) trailing
positional_walk rules a one word place small rows pending waiting trailing =
    let next : min (place + 1) usize_max ≡ suc place = omega arith in
    rw (one.range, one.action, one.trailing, and-false (is_pending a pending), or-false trailing, next) refl

-- the turn of the word, and then the words after it; `rest` is the outcome of the walk over these
positional_turn : (rules : List Rule) (command word : Text) (place : ℕ) (items : List Item) (rest : Walk → Option (List Row)) (rows : List Row) (pending : Pending) (waiting : Waiting) (trailing : Bool)
    → Each (IsOne rules) rules
    → ((rows : List Row) (pending : Pending) → rest (walk_at (holds rows pending) idle (suc place) trailing) ≡ run rules (finish rules (holds rows pending)) (suc place) items)
    → after (step_fault (leaf command rules) place (holds rows pending) value) (rest (to_positional rules (arg_by_index rules place) word (walk_at (holds rows pending) waiting place trailing) (holds rows pending)))
    ≡ run rules (used_by (arg_by_index rules place) word (finish rules (holds rows pending))) (suc place) items
positional_turn rules command word place items rest rows pending waiting trailing each step = go (arg_by_index rules place) refl
  where
    known : (a : Rule) → IsOne rules a → place < 1000 → (faults : Kinds) → settle_fault rules false (holds rows pending) ≡ faults
        → after faults (rest (walk_at (holds (settled rules (holds rows pending)).rows (Some (a.id, word ∷ []))) idle (suc place) trailing))
        ≡ run rules (used_by (Some a) word (after faults (Some (settled rules (holds rows pending)).rows))) (suc place) items
    known a one small [] e =
        step (settled rules (holds rows pending)).rows (Some (a.id, word ∷ []))
        ∙ ap (λ o. run rules o (suc place) items) (finish_one rules a one (settled rules (holds rows pending)).rows word)
    known a one small (kind ∷ kinds) e = sym (run_none rules (suc place) items)

    go : (o : Option Rule) → arg_by_index rules place ≡ o
        → after (step_fault (leaf command rules) place (holds rows pending) value) (rest (to_positional rules (arg_by_index rules place) word (walk_at (holds rows pending) waiting place trailing) (holds rows pending)))
        ≡ run rules (used_by (arg_by_index rules place) word (finish rules (holds rows pending))) (suc place) items
    go None e = rw e (sym (run_none rules (suc place) items))
    go (Some a) e =
        let got = index_small rules place a each e in
        rw (e, positional_faults rules a got.0 (holds rows pending), positional_walk rules a got.0 word place got.1 rows pending waiting trailing)
        (known a got.0 got.1 (settle_fault rules false (holds rows pending)) refl)

-- words after the word --
trailed : (rules : List Rule) (command : Text) → Each (IsOne rules) rules → (words : List Text) (rows : List Row) (pending : Pending) (waiting : Waiting) (place : ℕ)
    → outcome command rules (walk_at (holds rows pending) waiting place true) words ≡ run rules (finish rules (holds rows pending)) place (map File words)
unfolding walked
trailed rules command each [] rows pending waiting place = outcome_ends command rules (walk_at (holds rows pending) waiting place true)
trailed rules command each (word ∷ words) rows pending waiting place =
    outcome_next command rules (walk_at (holds rows pending) waiting place true) word words
    ∙ positional_turn rules command word place (map File words) (λ walk. outcome command rules walk words) rows pending waiting true each
    (λ rows pending. trailed rules command each words rows pending idle (suc place))

-- ---- options that are none of the command's

run_given : (rules : List Rule) (o : Option Rule) (v : Text) (rows : Option (List Row)) (place : ℕ) (items : List Item) → o ≡ None → run rules (used_by o v rows) place items ≡ None
run_given rules o v rows place items none = rw none (run_none rules place items)

run_unknown : (rules : List Rule) (word : Text) (rows : Option (List Row)) (place : ℕ) (words : List Text) → arg_by_option rules word ≡ None
    → run rules rows place (items_after (Some word) words) ≡ None
run_unknown rules word rows place [] none = refl
run_unknown rules word rows place (v ∷ words) none = go (may_name_file v)
  where
    go : (b : Bool) → run rules rows place (if b then Given word v ∷ items_after None words else Bare word ∷ []) ≡ None
    go true = run_given rules (arg_by_option rules word) v rows place (items_after None words) none
    go false = refl

short_fails : (rules : List Rule) → Each (IsOne rules) rules → (y : ℕ) (ys : List ℕ) → IsText (45 ∷ y ∷ ys) → (h : Held) (n k : ℕ) → n ≡ suc k
    → flags_fault rules false n (y ∷ ys) 0 h ≡ UnknownArgument ∷ []
unfolding flags_fault
short_fails rules each y ys text h n k size =
    let first = first_char y ys text in
    rw (size, first.1, no_short rules rules first.0 each) refl

-- clap knows no option of one dash
short_fault : (rules : List Rule) (command : Text) → Each (IsOne rules) rules → (y : ℕ) (ys : List ℕ) → (y == 45) ≡ false → IsText (45 ∷ y ∷ ys) → (rows : List Row) (pending : Pending)
    → other_fault (leaf command rules) None (45 ∷ y ∷ ys) (holds rows pending) ≡ UnknownArgument ∷ []
short_fault rules command each y ys other text rows pending =
    let no_long : long_of (45 ∷ y ∷ ys) ≡ None = rw other refl in
    let is_short : short_of (45 ∷ y ∷ ys) ≡ Some (y ∷ ys) = rw other refl in
    let no_dashes : bytes_eq (45 ∷ y ∷ ys) (codes "--") ≡ false = rw other refl in
    rw (no_dashes, no_long, is_short) (short_fails rules each y ys text (holds rows pending) (length (y ∷ ys)) (length ys) (omega arith))

not_long : (y : ℕ) (ys : List ℕ) → (y == 45) ≡ false → strip_byte 45 (before_first is_equals (y ∷ ys)) ≡ None
not_long y ys other = go (y == 61) refl
  where
    go : (b : Bool) → (y == 61) ≡ b → strip_byte 45 (before_first is_equals (y ∷ ys)) ≡ None
    go true e = rw e refl
    go false e = rw (before_cons is_equals y ys e, other) refl

-- and the items have no such option
short_items : (rules : List Rule) (y : ℕ) (ys : List ℕ) → (y == 45) ≡ false → (rows : Option (List Row)) (place : ℕ) (words : List Text)
    → run rules rows place (items_after None ((45 ∷ y ∷ ys) ∷ words)) ≡ None
short_items rules y ys other rows place words = rw other (go (list_any is_equals (45 ∷ y ∷ ys)))
  where
    given : arg_by_option rules (before_first is_equals (45 ∷ y ∷ ys)) ≡ None
    given = rw (before_cons is_equals 45 (y ∷ ys) refl, not_long y ys other) refl

    bare : arg_by_option rules (45 ∷ y ∷ ys) ≡ None
    bare = rw other refl

    go : (b : Bool) → run rules rows place (if b
        then Given (before_first is_equals (45 ∷ y ∷ ys)) (after_first is_equals (45 ∷ y ∷ ys)) ∷ items_after None words
        else items_after (Some (45 ∷ y ∷ ys)) words) ≡ None
    go true = run_given rules (arg_by_option rules (before_first is_equals (45 ∷ y ∷ ys))) (after_first is_equals (45 ∷ y ∷ ys)) rows place (items_after None words) given
    go false = run_unknown rules (45 ∷ y ∷ ys) rows place words bare

-- ---- options of the command's

option_name : (rules : List Rule) (t : ℕ) (ts : List ℕ) → arg_by_option rules (before_first is_equals (45 ∷ 45 ∷ t ∷ ts)) ≡ arg_by_long rules (before_first is_equals (t ∷ ts))
option_name rules t ts = rw (before_cons is_equals 45 (45 ∷ t ∷ ts) refl, before_cons is_equals 45 (t ∷ ts) refl) refl

option_value : (t : ℕ) (ts : List ℕ) → after_first is_equals (45 ∷ 45 ∷ t ∷ ts) ≡ after_first is_equals (t ∷ ts)
option_value t ts = after_cons is_equals 45 (45 ∷ t ∷ ts) refl ∙ after_cons is_equals 45 (t ∷ ts) refl

-- what an option's use comes to, by what was held before it
settled_use : (rules : List Rule) (a : Rule) → IsOne rules a → (v : Text) (rows : List Row) (place : ℕ) (items : List Item) (held faults : Kinds) → use_fault false a (v ∷ []) rows ≡ faults
    → after (or_else (or_else held faults) []) (run rules (Some (used a (v ∷ []) rows)) place items) ≡ run rules (used_by (Some a) v (after held (Some rows))) place items
settled_use rules a one v rows place items [] [] e =
    ap (λ o. run rules o place items) (ap (λ f. after f (Some (used a (v ∷ []) rows))) (sym e) ∙ use_is rules a one v rows)
settled_use rules a one v rows place items [] (kind ∷ kinds) e =
    let none : used_one a v rows ≡ None = sym (use_is rules a one v rows) ∙ ap (λ f. after f (Some (used a (v ∷ []) rows))) e in
    rw none (sym (run_none rules place items))
settled_use rules a one v rows place items (kind ∷ kinds) faults e = sym (run_none rules place items)

opened : (rules : List Rule) (rows : List Row) (place : ℕ) (items : List Item) (held : Kinds)
    → after (or_else held []) (run rules (Some rows) place items) ≡ run rules (after held (Some rows)) place items
opened rules rows place items [] = refl
opened rules rows place items (kind ∷ kinds) = sym (run_none rules place items)

-- ---- words before the word --

module _ (rules : List Rule) (command : Text) (each : Each (IsOne rules) rules) where
  -- the words that are left, if nothing waits
  abbrev Idle : List Text → Type 0
  Idle words = (rows : List Row) (pending : Pending) (place : ℕ)
      → outcome command rules (walk_at (holds rows pending) idle place false) words ≡ run rules (finish rules (holds rows pending)) place (items_after None words)

  -- and if an option wants its value
  abbrev Wants : List Text → Type 0
  Wants words = (word : Text) (a : Rule) (rows : List Row) (place : ℕ) → arg_by_option rules word ≡ Some a → IsOne rules a
      → outcome command rules (walk_at (holds rows (Some (a.id, []))) (option a.id) place false) words ≡ run rules (Some rows) place (items_after (Some word) words)

  -- an option with two dashes, as one word with its value, or by itself
  abbrev Met : Text → Option Rule → Option Text → List Row → Pending → Held × Step
  Met x o v rows pending = after_flag rules idle x (long_met rules o v (holds rows pending)).0 (long_met rules o v (holds rows pending)).1

  abbrev long_turn : Text → List Text → Option Rule → Option Text → List Row → Pending → ℕ → Option (List Row)
  long_turn x xs o v rows pending place =
      after (or_else (long_fault rules false o v (holds rows pending)) (step_fault (leaf command rules) place (Met x o v rows pending).0 (Met x o v rows pending).1))
      (outcome command rules (after_step rules x (walk_at (holds rows pending) idle place false) (Met x o v rows pending).0 (Met x o v rows pending).1) xs)

  with_value : (x : Text) (xs : List Text) → Idle xs → (n v : Text) (rows : List Row) (pending : Pending) (place : ℕ)
      → long_turn x xs (arg_by_long rules n) (Some v) rows pending place ≡ run rules (used_by (arg_by_long rules n) v (finish rules (holds rows pending))) place (items_after None xs)
  with_value x xs idles n v rows pending place = go (arg_by_long rules n) refl
    where
      go : (o : Option Rule) → arg_by_long rules n ≡ o
          → long_turn x xs o (Some v) rows pending place ≡ run rules (used_by o v (finish rules (holds rows pending))) place (items_after None xs)
      go None e = sym (run_none rules place (items_after None xs))
      go (Some a) e =
          let one = long_is_one rules n a each e in
          let before = (settled rules (holds rows pending)).rows in
          let takes : takes_values a ≡ true = rw one.range refl in
          rw (takes, idles (used a (v ∷ []) before) None place)
          (settled_use rules a one v before place (items_after None xs) (settle_fault rules false (holds rows pending)) (use_fault false a (v ∷ []) before) refl)

  without_value : (x : Text) (xs : List Text) → Wants xs → (n : Text) → arg_by_option rules x ≡ arg_by_long rules n → (rows : List Row) (pending : Pending) (place : ℕ)
      → long_turn x xs (arg_by_long rules n) None rows pending place ≡ run rules (finish rules (holds rows pending)) place (items_after (Some x) xs)
  without_value x xs wants n same rows pending place = go (arg_by_long rules n) refl
    where
      go : (o : Option Rule) → arg_by_long rules n ≡ o → long_turn x xs o None rows pending place ≡ run rules (finish rules (holds rows pending)) place (items_after (Some x) xs)
      go None e = sym (run_unknown rules x (finish rules (holds rows pending)) place xs (same ∙ e))
      go (Some a) e =
          let one = long_is_one rules n a each e in
          let before = (settled rules (holds rows pending)).rows in
          let takes : takes_values a ≡ true = rw one.range refl in
          rw (takes, wants x a before place (same ∙ e) one) (opened rules before place (items_after (Some x) xs) (settle_fault rules false (holds rows pending)))

  idle_step : (x : Text) (xs : List Text) → Shaped x → IsText x → Idle xs → Wants xs → (rows : List Row) (pending : Pending) (place : ℕ)
      → outcome command rules (walk_at (holds rows pending) idle place false) (x ∷ xs) ≡ run rules (finish rules (holds rows pending)) place (items_after None (x ∷ xs))
  unfolding walked
  idle_step x xs (named _ is none none2 other) text idles wants rows pending place =
      outcome_next command rules (walk_at (holds rows pending) idle place false) x xs
      ∙ rw (other, none, none2, is) (positional_turn rules command x place (items_after None xs) (λ walk. outcome command rules walk xs) rows pending idle false each (λ rows pending. idles rows pending (suc place)))
  idle_step _ xs dashes text idles wants rows pending place =
      outcome_next command rules (walk_at (holds rows pending) idle place false) _ xs ∙ trailed rules command each xs rows pending idle place
  idle_step _ xs (long t ts) text idles wants rows pending place =
      outcome_next command rules (walk_at (holds rows pending) idle place false) (45 ∷ 45 ∷ t ∷ ts) xs ∙ go (list_any is_equals (t ∷ ts)) refl
    where
      go : (b : Bool) → list_any is_equals (t ∷ ts) ≡ b
          → long_turn (45 ∷ 45 ∷ t ∷ ts) xs (arg_by_long rules (before_first is_equals (t ∷ ts))) (if list_any is_equals (t ∷ ts) then Some (after_first is_equals (t ∷ ts)) else None) rows pending place
          ≡ run rules (finish rules (holds rows pending)) place (items_after None ((45 ∷ 45 ∷ t ∷ ts) ∷ xs))
      go true e =
          rw (e, option_name rules t ts, option_value t ts)
          (with_value (45 ∷ 45 ∷ t ∷ ts) xs idles (before_first is_equals (t ∷ ts)) (after_first is_equals (t ∷ ts)) rows pending place)
      go false e =
          rw e (without_value (45 ∷ 45 ∷ t ∷ ts) xs wants (before_first is_equals (t ∷ ts)) (ap (arg_by_long rules) (sym (before_none is_equals (t ∷ ts) e))) rows pending place)
  idle_step _ xs (short y ys other) text idles wants rows pending place =
      outcome_next command rules (walk_at (holds rows pending) idle place false) (45 ∷ y ∷ ys) xs
      ∙ fails_now (other_fault (leaf command rules) None (45 ∷ y ∷ ys) (holds rows pending)) _ _ UnknownArgument [] (short_fault rules command each y ys other text rows pending)
      ∙ sym (short_items rules y ys other (finish rules (holds rows pending)) place xs)

  wants_step : (x : Text) (xs : List Text) → Shaped x → IsText x → Idle xs → (word : Text) (a : Rule) (rows : List Row) (place : ℕ) → arg_by_option rules word ≡ Some a → IsOne rules a
      → outcome command rules (walk_at (holds rows (Some (a.id, []))) (option a.id) place false) (x ∷ xs) ≡ run rules (Some rows) place (items_after (Some word) (x ∷ xs))
  unfolding walked
  wants_step x xs (named _ is none none2 other) text idles word a rows place found one =
      let same : bytes_eq a.id a.id ≡ true = (found_each (IsOne rules) (λ b. bytes_eq b.id a.id) rules a each one.only).1 in
      let most : most_values a ≡ 1 = rw one.range refl in
      outcome_next command rules (walk_at (holds rows (Some (a.id, []))) (option a.id) place false) x xs
      ∙ rw (other, none, none2, is, one.only, same, most, found)
      (idles rows (Some (a.id, x ∷ [])) place ∙ ap (λ o. run rules o place (items_after None xs)) (finish_one rules a one rows x))
  wants_step _ xs dashes text idles word a rows place found one =
      let h = holds rows (Some (a.id, [])) in
      let failed : finish rules h ≡ None = ap (λ f. after f (Some (settled rules h).rows)) (open_fails rules a one rows) in
      outcome_next command rules (walk_at h (option a.id) place false) _ xs ∙ trailed rules command each xs rows (Some (a.id, [])) (option a.id) place
      ∙ rw failed (run_none rules place (map File xs))
  wants_step _ xs (long t ts) text idles word a rows place found one =
      outcome_next command rules (walk_at (holds rows (Some (a.id, []))) (option a.id) place false) (45 ∷ 45 ∷ t ∷ ts) xs
      ∙ (let fault = go (arg_by_long rules (before_first is_equals (t ∷ ts))) refl (if list_any is_equals (t ∷ ts) then Some (after_first is_equals (t ∷ ts)) else None) in
      fails_now (long_fault rules false (arg_by_long rules (before_first is_equals (t ∷ ts))) (if list_any is_equals (t ∷ ts) then Some (after_first is_equals (t ∷ ts)) else None) (holds rows (Some (a.id, [])))) _ _ fault.0 [] fault.1)
    where
      go : (o : Option Rule) → arg_by_long rules (before_first is_equals (t ∷ ts)) ≡ o → (v : Option Text) → (k : ErrorKind) × (long_fault rules false o v (holds rows (Some (a.id, []))) ≡ k ∷ [])
      go None e v = (UnknownArgument, refl)
      go (Some b) e (Some v) =
          let takes : takes_values b ≡ true = rw (long_is_one rules _ b each e).range refl in
          (InvalidValue, rw (takes, open_fails rules a one rows) refl)
      go (Some b) e None =
          let takes : takes_values b ≡ true = rw (long_is_one rules _ b each e).range refl in
          (InvalidValue, rw (takes, open_fails rules a one rows) refl)
  wants_step _ xs (short y ys other) text idles word a rows place found one =
      outcome_next command rules (walk_at (holds rows (Some (a.id, []))) (option a.id) place false) (45 ∷ y ∷ ys) xs
      ∙ fails_now (other_fault (leaf command rules) None (45 ∷ y ∷ ys) (holds rows (Some (a.id, [])))) _ _ UnknownArgument [] (short_fault rules command each y ys other text rows (Some (a.id, [])))

  both_walk : (words : List Text) → Each IsText words → Idle words × Wants words
  both_walk [] texts = (
    λ rows pending place. outcome_ends command rules (walk_at (holds rows pending) idle place false),
    λ word a rows place found one. outcome_ends command rules (walk_at (holds rows (Some (a.id, []))) (option a.id) place false)
        ∙ ap (λ f. after f (Some (settled rules (holds rows (Some (a.id, [])))).rows)) (open_fails rules a one rows),
  )
  both_walk (x ∷ xs) texts =
      let more = both_walk xs texts.1 in
      (idle_step x xs (shaped x) texts.0 more.0 more.1, wants_step x xs (shaped x) texts.0 more.0)

  -- clap's walk over words is a run over the items that they say
  pub walk_is : (words : List Text) → Each IsText words → outcome command rules (walk_from nothing_held) words ≡ run rules (Some []) 1 (items_after None words)
  walk_is words texts = (both_walk words texts).0 [] None 1
