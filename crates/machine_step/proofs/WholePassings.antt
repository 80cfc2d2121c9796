-- The loads of a passing, by the words that they are of. Each part of the sled has one value. If each load is allowed,
-- the passing decodes its sled whole.
use Rattle.std.proofs.Common.{◌≡◌, ◌≢◌, ℕ, zero, suc, ◌+◌, ◌*◌, ◌-◌, ◌<◌, ◌≤◌, List, [], ◌∷◌, ◌++◌, Bool, true, false, Option, Some, refl, sym, ap, subst, ◌∙◌, ◌⊎◌, inl, inr, arith, take, length, length-append}
use Rattle.std.specs.Prelude.{◌==◌, if◌then◌else◌, slice_get}
use Rattle.std.specs.List.{All}
use Rattle.std.proofs.lemmas.Bool.{eqb-true, eqb-false}
use Rattle.std.proofs.lemmas.Option.{same_Some}
use Rattle.std.proofs.lemmas.List.{take_at}
use Rattle.std.proofs.lemmas.List.Elements.{All-head, All-tail}
use Rattle.xray_image.specs.declared.sled.Sled.{Sled}
use Rattle.xray_image.specs.Program.{Program}
use Rattle.sled_words.specs.declared.part.Part.{Part}
use Rattle.sled_words.specs.declared.part.Part.TheVariants.{Head, Id, Opcode, Offset}
use Rattle.sled_words.specs.Allowed.{IsAllowed, IsAllowedPart}
use Rattle.sled_words.specs.ChangingCode.{KeepsSleds}
use Rattle.sled_words.specs.Parts.{patched, patched_head}
use Rattle.sled_words.specs.Words.{arg_handler_word, handler_word, part_number, release_word, state_word, word_of}
use Rattle.handler_word.specs.declared.mark.Mark.{Mark}
use Rattle.handler_word.specs.declared.mark.Mark.TheVariants.{Skipped, NoHandler, Recorded, RecordedArg}
use Rattle.machine_step.specs.Loads.{AreWanted, Load, Reading, Wants, Marked, from_state, from_handler, from_arg_handler, from_handlers, from_id, from_head, from_release, from_start, is_held_at, next_from, next_load, sled_logs_args}
use Rattle.machine_step.specs.Whole.{AreWhole, HaveOneValue, HaveOneValueEach, IsWhole, Loaded, loads_by_passing}
use Rattle.machine_step.specs.Follows.{Follows}
use Rattle.machine_step.proofs.AllowedLoads.{following, by_test, loads_allowed, next_is}

-- ---- loads of the words that are wanted

-- loads of the words that `next` wants one after the other
abbrev pub Fit : (List Load → Option ℕ) → List Load → Type 0
Fit next [] = Unit {0}
Fit next (load ∷ loads) = (next [] ≡ Some load.word) × Fit (λ more. next (load ∷ more)) loads

pub fit_from : (next : List Load → Option ℕ) (loads : List Load)
    → ((i : ℕ) (load : Load) → slice_get loads i ≡ Some load → next (take i loads) ≡ Some load.word) → Fit next loads
fit_from next [] wanted = tt
fit_from next (load ∷ loads) wanted = (wanted 0 load refl, fit_from (λ more. next (load ∷ more)) loads (λ i l at. wanted (suc i) l at))

pub fit_same : (next other : List Load → Option ℕ) (loads : List Load) → ((ls : List Load) → next ls ≡ other ls) → Fit next loads → Fit other loads
fit_same next other [] same fit = tt
fit_same next other (load ∷ loads) same (first, rest) =
    (sym (same []) ∙ first, fit_same (λ more. next (load ∷ more)) (λ more. other (load ∷ more)) loads (λ ls. same (load ∷ ls)) rest)

-- a fact about each load
abbrev pub Each : (Load → Type 0) → List Load → Type 0
Each Is [] = Unit {0}
Each Is (load ∷ loads) = Is load × Each Is loads

each_apart : (Is : Load → Type 0) (own more : List Load) → Each Is (own ++ more) → Each Is own × Each Is more
each_apart Is [] more each = (tt, each)
each_apart Is (load ∷ own) more (first, rest) = let both = each_apart Is own more rest in ((first, both.0), both.1)

-- ---- the loads of a passing

-- the load is of a word after those of the sleds
abbrev IsNoPart : Program → Load → Type 0
IsNoPart program load = 4 * length program.sleds ≤ load.word

-- The loads of a passing at the sled with this number. First come those of the release word, if the thread is held. Then
-- comes the head. If it is patched, the other parts follow, and then words that are no part of a sled.
data OfPassing (program : Program) (k : ℕ) : List Load → Type 0 where
  skipped : (head : Load) → head.word ≡ word_of k Head → head.value ≢ patched_head → OfPassing program k (head ∷ [])
  entered : (head id opcode offset : Load) (others : List Load) → head.word ≡ word_of k Head → head.value ≡ patched_head
      → id.word ≡ word_of k Id → opcode.word ≡ word_of k Opcode → offset.word ≡ word_of k Offset → Each (IsNoPart program) others
      → OfPassing program k (head ∷ id ∷ opcode ∷ offset ∷ others)
  held : (release : Load) (own : List Load) → IsNoPart program release → OfPassing program k own → OfPassing program k (release ∷ own)

-- loads that begin with some for which this holds, and go on with others
record Cut (next : List Load → Option ℕ) (Are : List Load → Type 0) (loads more : List Load) : Type 0 where
  own : List Load
  parts : loads ≡ own ++ more
  are : Are own
  rest : Fit next more

-- one load before
load_before : (next : List Load → Option ℕ) (Are Were : List Load → Type 0) (load : Load) (loads more : List Load)
    → ((own : List Load) → Are own → Were (load ∷ own)) → Cut next Are loads more → Cut next Were (load ∷ loads) more
load_before next Are Were load loads more keeps cut =
    record { own = load ∷ cut.own; parts = ap (λ ls. load ∷ ls) cut.parts; are = keeps cut.own cut.are; rest = cut.rest }

-- the last load of a passing
last_load : (next : List Load → Option ℕ) (Are : List Load → Type 0) (load : Load) (loads more : List Load) (m mark : Mark)
    → Marked m loads ≡ Marked mark more → Fit next loads → Are (load ∷ []) → Cut next Are (load ∷ loads) more
last_load next Are load loads more m mark same fit is =
    let e : loads ≡ more = cc in
    record { own = load ∷ []; parts = ap (λ ls. load ∷ ls) e; are = is; rest = subst (Fit next) e fit }

module _ (program : Program) (threads : ℕ) (next : List Load → Option ℕ) where
  abbrev Others : List Load → Type 0
  Others = Each (IsNoPart program)

  no_part : (word : ℕ) (load : Load) → 4 * length program.sleds ≤ word → Some word ≡ Some load.word → IsNoPart program load
  no_part word load after is = subst (λ (w : ℕ). 4 * length program.sleds ≤ w) (same_Some word load.word is) after

  cut_state : (recording : Mark) (loads more : List Load) (mark : Mark) → from_state program recording loads ≡ Marked mark more
      → Fit (λ ls. following (from_state program recording ls) next) loads → Cut next Others loads more
  cut_state recording [] more mark same fit = cc
  cut_state recording (load ∷ loads) more mark same (first, rest) =
      last_load next Others load loads more _ mark same rest (no_part (state_word program) load (omega arith) first, tt)

  cut_handler : (loads more : List Load) (mark : Mark) → from_handler program loads ≡ Marked mark more
      → Fit (λ ls. following (from_handler program ls) next) loads → Cut next Others loads more
  cut_handler [] more mark same fit = cc
  cut_handler (load ∷ loads) more mark same (first, rest) =
      let apart : IsNoPart program load = no_part (handler_word program) load (omega arith) first in
      by_test (load.value == 0)
      (λ b. (if b then Marked NoHandler loads else from_state program Recorded loads) ≡ Marked mark more
      → Fit (λ ls. following (if b then Marked NoHandler ls else from_state program Recorded ls) next) loads
      → Cut next Others (load ∷ loads) more)
      (λ e same fit. last_load next Others load loads more NoHandler mark same fit (apart, tt))
      (λ e same fit. load_before next Others Others load loads more (λ own are. (apart, are)) (cut_state Recorded loads more mark same fit))
      same rest

  cut_arg_handler : (loads more : List Load) (mark : Mark) → from_arg_handler program threads loads ≡ Marked mark more
      → Fit (λ ls. following (from_arg_handler program threads ls) next) loads → Cut next Others loads more
  cut_arg_handler [] more mark same fit = cc
  cut_arg_handler (load ∷ loads) more mark same (first, rest) =
      let apart : IsNoPart program load = no_part (arg_handler_word program threads) load (omega arith) first in
      by_test (load.value == 0)
      (λ b. (if b then from_handler program loads else from_state program RecordedArg loads) ≡ Marked mark more
      → Fit (λ ls. following (if b then from_handler program ls else from_state program RecordedArg ls) next) loads
      → Cut next Others (load ∷ loads) more)
      (λ e same fit. load_before next Others Others load loads more (λ own are. (apart, are)) (cut_handler loads more mark same fit))
      (λ e same fit. load_before next Others Others load loads more (λ own are. (apart, are)) (cut_state RecordedArg loads more mark same fit))
      same rest

  cut_handlers : (k : ℕ) (loads more : List Load) (mark : Mark) → from_handlers program threads k loads ≡ Marked mark more
      → Fit (λ ls. following (from_handlers program threads k ls) next) loads → Cut next Others loads more
  cut_handlers k loads more mark same fit =
      by_test (sled_logs_args program k)
      (λ b. (if b then from_arg_handler program threads loads else from_handler program loads) ≡ Marked mark more
      → Fit (λ ls. following (if b then from_arg_handler program threads ls else from_handler program ls) next) loads
      → Cut next Others loads more)
      (λ e. cut_arg_handler loads more mark) (λ e. cut_handler loads more mark) same fit

  module _ (k : ℕ) where
    -- the loads after a patched head
    cut_id : (head : Load) → head.word ≡ word_of k Head → head.value ≡ patched_head → (loads more : List Load) (mark : Mark)
        → from_id program threads k loads ≡ Marked mark more → Fit (λ ls. following (from_id program threads k ls) next) loads
        → Cut next (OfPassing program k) (head ∷ loads) more
    cut_id head word is [] more mark same fit = cc
    cut_id head word is (id ∷ []) more mark same fit = cc
    cut_id head word is (id ∷ opcode ∷ []) more mark same fit = cc
    cut_id head word is (id ∷ opcode ∷ offset ∷ loads) more mark same (of_id, (of_opcode, (of_offset, rest))) =
        let others = cut_handlers k loads more mark same rest in
        record {
          own = head ∷ id ∷ opcode ∷ offset ∷ others.own;
          parts = ap (λ ls. head ∷ id ∷ opcode ∷ offset ∷ ls) others.parts;
          are =
              entered head id opcode offset others.own word is (sym (same_Some (word_of k Id) id.word of_id))
              (sym (same_Some (word_of k Opcode) opcode.word of_opcode)) (sym (same_Some (word_of k Offset) offset.word of_offset)) others.are;
          rest = others.rest;
        }

    cut_head : (loads more : List Load) (mark : Mark) → from_head program threads k loads ≡ Marked mark more
        → Fit (λ ls. following (from_head program threads k ls) next) loads → Cut next (OfPassing program k) loads more
    cut_head [] more mark same fit = cc
    cut_head (load ∷ loads) more mark same (first, rest) =
        let word : load.word ≡ word_of k Head = sym (same_Some (word_of k Head) load.word first) in
        by_test (load.value == patched_head)
        (λ b. (if b then from_id program threads k loads else Marked Skipped loads) ≡ Marked mark more
        → Fit (λ ls. following (if b then from_id program threads k ls else Marked Skipped ls) next) loads
        → Cut next (OfPassing program k) (load ∷ loads) more)
        (λ e same fit. cut_id load word (eqb-true load.value patched_head e) loads more mark same fit)
        (λ e same fit.
        last_load next (OfPassing program k) load loads more Skipped mark same fit (skipped load word (eqb-false load.value patched_head e)))
        same rest

    cut_release : (thread : ℕ) (loads more : List Load) (mark : Mark) → from_release program threads thread k loads ≡ Marked mark more
        → Fit (λ ls. following (from_release program threads thread k ls) next) loads → Cut next (OfPassing program k) loads more
    cut_release thread [] more mark same fit = cc
    cut_release thread (load ∷ loads) more mark same (first, rest) =
        let Are : List Load → Type 0 = OfPassing program k in
        let apart : IsNoPart program load = no_part (release_word program thread) load (omega arith) first in
        by_test (load.value == 0)
        (λ b. (if b then from_release program threads thread k loads else from_head program threads k loads) ≡ Marked mark more
        → Fit (λ ls. following (if b then from_release program threads thread k ls else from_head program threads k ls) next) loads
        → Cut next Are (load ∷ loads) more)
        (λ e same fit. load_before next Are Are load loads more (λ own. held load own apart) (cut_release thread loads more mark same fit))
        (λ e same fit. load_before next Are Are load loads more (λ own. held load own apart) (cut_head loads more mark same fit))
        same rest

    cut_start : (thread : ℕ) (held_here : Bool) (loads more : List Load) (mark : Mark) → from_start program threads thread held_here k loads ≡ Marked mark more
        → Fit (λ ls. following (from_start program threads thread held_here k ls) next) loads → Cut next (OfPassing program k) loads more
    cut_start thread true = cut_release thread
    cut_start thread false = cut_head

-- ---- each part has one value

-- the first load is of the part, or a later one is
first_or_later : (load : Load) (loads : List Load) (k : ℕ) (part : Part) (value : ℕ) → Loaded (load ∷ loads) k part value
    → ((load.word ≡ word_of k part) × (load.value ≡ value)) ⊎ Loaded loads k part value
first_or_later load loads k part value (zero, within, at) = inl (ap (λ (l : Load). l.word) at, ap (λ (l : Load). l.value) at)
first_or_later load loads k part value (suc i, within, at) = inr (i, omega arith, at)

-- only parts from this number on are loaded, each with one value
record From (k least : ℕ) (loads : List Load) : Type 0 where
  late : (part : Part) (value : ℕ) → Loaded loads k part value → least ≤ part_number part
  one : HaveOneValue loads k

from_none : (k least : ℕ) → From k least []
from_none k least = record { late = λ part value has. absurd (omega (arith, has.1)); one = λ part v w has had. absurd (omega (arith, has.1)) }

-- a load of a part, before those of later ones
from_part : (k : ℕ) (part : Part) (load : Load) (loads : List Load) → load.word ≡ word_of k part → From k (part_number part + 1) loads
    → From k (part_number part) (load ∷ loads)
from_part k part load loads word later = record { late = late; one = one }
  where
    late : (p : Part) (value : ℕ) → Loaded (load ∷ loads) k p value → part_number part ≤ part_number p
    late p value has = elim (first_or_later load loads k p value has) [
      | inl first ↦ let same : word_of k part ≡ word_of k p = sym word ∙ first.0 in omega (arith, same)
      | inr has ↦ let after = later.late p value has in omega (arith, after)
    ]

    apart : (p : Part) (value : ℕ) → load.word ≡ word_of k p → Loaded loads k p value → ⊥
    apart p value is has =
        let same : word_of k part ≡ word_of k p = sym word ∙ is in
        let after = later.late p value has in
        omega (arith, same, after)

    one : HaveOneValue (load ∷ loads) k
    one p v w has had = elim (first_or_later load loads k p v has) [
      | inl first ↦ elim (first_or_later load loads k p w had) [
        | inl again ↦ sym first.1 ∙ again.1
        | inr had ↦ absurd (apart p w first.0 had)
      ]
      | inr has ↦ elim (first_or_later load loads k p w had) [
        | inl again ↦ absurd (apart p v again.0 has)
        | inr had ↦ later.one p v w has had
      ]
    ]

-- a load that is of no part
from_other : (program : Program) (k least : ℕ) (load : Load) (loads : List Load) → k < length program.sleds → IsNoPart program load → From k least loads
    → From k least (load ∷ loads)
from_other program k least load loads within other later = record {
  late = λ part value has. later.late part value (not_first part value has);
  one = λ part v w has had. later.one part v w (not_first part v has) (not_first part w had);
}
  where
    few : (part : Part) → part_number part < 4
    few Head = omega arith
    few Id = omega arith
    few Opcode = omega arith
    few Offset = omega arith

    not_first : (part : Part) (value : ℕ) → Loaded (load ∷ loads) k part value → Loaded loads k part value
    not_first part value has = elim (first_or_later load loads k part value has) [
      | inl first ↦ let small = few part in let is = first.0 in absurd (omega (arith, within, other, is, small))
      | inr has ↦ has
    ]

from_others : (program : Program) (k least : ℕ) (loads : List Load) → k < length program.sleds → Each (IsNoPart program) loads → From k least loads
from_others program k least [] within each = from_none k least
from_others program k least (load ∷ loads) within (first, rest) =
    from_other program k least load loads within first (from_others program k least loads within rest)

from_head_on : (program : Program) (k : ℕ) {own : List Load} → k < length program.sleds → OfPassing program k own → From k 0 own
from_head_on program k within (skipped head word other) = from_part k Head head [] word (from_none k 1)
from_head_on program k within (entered head id opcode offset others word is of_id of_opcode of_offset each) =
    from_part k Head head _ word (from_part k Id id _ of_id (from_part k Opcode opcode _ of_opcode
    (from_part k Offset offset others of_offset (from_others program k 4 others within each))))
from_head_on program k within (held release own other of) = from_other program k 0 release own within other (from_head_on program k within of)

-- ---- each passing is whole

-- a load of a part of a sled gave an allowed value
abbrev IsPartAllowed : Program → Load → Type 0
IsPartAllowed program load =
    (k : ℕ) (sled : Sled) (part : Part) → slice_get program.sleds k ≡ Some sled → load.word ≡ word_of k part
    → IsAllowedPart program.trampolines sled part load.value

parts_allowed : (program : Program) (threads thread : ℕ) (loads : List Load) → All (λ load. IsAllowed program threads thread load.word load.value) loads
    → Each (IsPartAllowed program) loads
parts_allowed program threads thread [] allowed = tt
parts_allowed program threads thread (load ∷ loads) allowed =
    let P : Load → Type 0 = λ l. IsAllowed program threads thread l.word l.value in
    ((All-head P load loads allowed).part, parts_allowed program threads thread loads (All-tail P load loads allowed))

-- what is in a list is in a longer one
one_more : (loads : List Load) (load : Load) (k : ℕ) (part : Part) (value : ℕ) → Loaded loads k part value → Loaded (load ∷ loads) k part value
one_more loads load k part value (i, within, at) = (suc i, omega arith, at)

first_loaded : (loads : List Load) (load : Load) (k : ℕ) (part : Part) (value : ℕ) → load.word ≡ word_of k part → load.value ≡ value
    → Loaded (load ∷ loads) k part value
first_loaded loads load k part value word is = (0, omega arith, (λ i. record { word = word i; value = is i }))

module _ (program : Program) (k : ℕ) (sled : Sled) (at : slice_get program.sleds k ≡ Some sled) where
  -- a head that isn't the patched one is an unpatched one
  unpatched_head_loaded : (load : Load) → load.word ≡ word_of k Head → load.value ≢ patched_head
      → IsAllowedPart program.trampolines sled Head load.value → IsWhole program k sled (load ∷ [])
  unpatched_head_loaded load word other (inl e) = absurd (other e)
  unpatched_head_loaded load word other (inr unpatched) = inl (load.value, unpatched, first_loaded [] load k Head load.value word refl)

  whole_before : (load : Load) (own : List Load) → IsWhole program k sled own → IsWhole program k sled (load ∷ own)
  whole_before load own (inl (head, unpatched, found)) = inl (head, unpatched, one_more own load k Head head found)
  whole_before load own (inr found) = inr (record {
    head = one_more own load k Head (patched program.trampolines sled Head) found.head;
    id = one_more own load k Id (patched program.trampolines sled Id) found.id;
    opcode = one_more own load k Opcode (patched program.trampolines sled Opcode) found.opcode;
    offset = one_more own load k Offset (patched program.trampolines sled Offset) found.offset;
  })

  whole_of : {own : List Load} → OfPassing program k own → Each (IsPartAllowed program) own → IsWhole program k sled own
  whole_of (skipped head word other) (allowed, none) = unpatched_head_loaded head word other (allowed k sled Head at word)
  whole_of (entered head id opcode offset others word is of_id of_opcode of_offset each) (first, (second, (third, (fourth, rest)))) =
      let value : Part → ℕ = patched program.trampolines sled in
      let after_opcode : List Load = offset ∷ others in
      let after_id : List Load = opcode ∷ after_opcode in
      let after_head : List Load = id ∷ after_id in
      inr (record {
        head = first_loaded after_head head k Head (value Head) word is;
        id = one_more after_head head k Id (value Id) (first_loaded after_id id k Id (value Id) of_id (second k sled Id at of_id));
        opcode =
            one_more after_head head k Opcode (value Opcode) (one_more after_id id k Opcode (value Opcode)
            (first_loaded after_opcode opcode k Opcode (value Opcode) of_opcode (third k sled Opcode at of_opcode)));
        offset =
            one_more after_head head k Offset (value Offset) (one_more after_id id k Offset (value Offset)
            (one_more after_opcode opcode k Offset (value Offset)
            (first_loaded others offset k Offset (value Offset) of_offset (fourth k sled Offset at of_offset))));
      })
  whole_of (held release own other of) (first, rest) = whole_before release own (whole_of of rest)

-- ---- all passings

none_after : (program : Program) (threads thread : ℕ) (hold : Option ℕ) (number k : ℕ) (sleds : List ℕ) (loads : List Load) (word : ℕ) (recording : Mark)
    → from_start program threads thread (is_held_at hold number) k loads ≡ Wants word recording
    → loads_by_passing program threads thread hold number (k ∷ sleds) loads ≡ []
none_after program threads thread hold number k sleds loads word recording e = rw e refl

one_after : (program : Program) (threads thread : ℕ) (hold : Option ℕ) (number k : ℕ) (sleds : List ℕ) (loads : List Load) (mark : Mark) (more : List Load)
    → from_start program threads thread (is_held_at hold number) k loads ≡ Marked mark more
    → loads_by_passing program threads thread hold number (k ∷ sleds) loads
    ≡ take (length loads - length more) loads ∷ loads_by_passing program threads thread hold (number + 1) sleds more
one_after program threads thread hold number k sleds loads mark more e = rw e refl

-- the prefix of two lists, one after the other
front_of : (loads own more : List Load) → loads ≡ own ++ more → take (length loads - length more) loads ≡ own
front_of loads own more parts =
    let long : length loads ≡ length own + length more = ap length parts ∙ length-append own more in
    let count : length own ≡ length loads - length more = omega arith in
    ap (take (length loads - length more)) parts ∙ take_at own more (length loads - length more) count

-- a passing, and what holds of each of its loads
abbrev IsOwn : Program → (Load → Type 0) → ℕ → List Load → Type 0
IsOwn program Is k own = OfPassing program k own × Each Is own

-- the first passing, once it has its mark, and those after it
own_at : (program : Program) (Is : Load → Type 0) (next : List Load → Option ℕ) (j : ℕ) (sleds : List ℕ) (loads more : List Load) (cuts : List (List Load))
    → Cut next (OfPassing program j) loads more → Each Is loads → (k : ℕ) (own : List Load)
    → (Fit next more → Each Is more → (m : ℕ) → slice_get sleds m ≡ Some k → slice_get cuts m ≡ Some own → IsOwn program Is k own)
    → (m : ℕ) → slice_get (j ∷ sleds) m ≡ Some k → slice_get (take (length loads - length more) loads ∷ cuts) m ≡ Some own
    → IsOwn program Is k own
own_at program Is next j sleds loads more cuts cut each k own later zero at_m own_m =
    let its : cut.own ≡ own =
    sym (front_of loads cut.own more cut.parts) ∙ same_Some (take (length loads - length more) loads) own own_m in
    let first : IsOwn program Is k cut.own =
    (subst (λ (i : ℕ). OfPassing program i cut.own) (same_Some j k at_m) cut.are, (each_apart Is cut.own more (subst (Each Is) cut.parts each)).0) in
    subst (IsOwn program Is k) its first
own_at program Is next j sleds loads more cuts cut each k own later (suc m) at_m own_m =
    later cut.rest (each_apart Is cut.own more (subst (Each Is) cut.parts each)).1 m at_m own_m

own_reading : (program : Program) (Is : Load → Type 0) (threads thread : ℕ) (hold : Option ℕ) (number j : ℕ) (sleds : List ℕ) (loads : List Load)
    → Fit (next_from program threads thread hold number (j ∷ sleds)) loads → Each Is loads → (k : ℕ) (own : List Load)
    → ((more : List Load) → Fit (next_from program threads thread hold (number + 1) sleds) more → Each Is more → (m : ℕ) → slice_get sleds m ≡ Some k
    → slice_get (loads_by_passing program threads thread hold (number + 1) sleds more) m ≡ Some own → IsOwn program Is k own)
    → (r : Reading) → from_start program threads thread (is_held_at hold number) j loads ≡ r → (m : ℕ) → slice_get (j ∷ sleds) m ≡ Some k
    → slice_get (loads_by_passing program threads thread hold number (j ∷ sleds) loads) m ≡ Some own → IsOwn program Is k own
own_reading program Is threads thread hold number j sleds loads fit each k own later (Wants word recording) e m at_m own_m =
    let none = sym (ap (λ cuts. slice_get cuts m) (none_after program threads thread hold number j sleds loads word recording e)) ∙ own_m in cc
own_reading program Is threads thread hold number j sleds loads fit each k own later (Marked mark more) e m at_m own_m =
    let next : List Load → Option ℕ = next_from program threads thread hold (number + 1) sleds in
    let held_here : Bool = is_held_at hold number in
    let same : (ls : List Load) → next_from program threads thread hold number (j ∷ sleds) ls ≡ following (from_start program threads thread held_here j ls) next =
    λ ls. next_is program threads thread hold number j sleds ls (from_start program threads thread held_here j ls) refl in
    let staged : Fit (λ ls. following (from_start program threads thread held_here j ls) next) loads =
    fit_same (next_from program threads thread hold number (j ∷ sleds)) (λ ls. following (from_start program threads thread held_here j ls) next) loads same fit in
    own_at program Is next j sleds loads more (loads_by_passing program threads thread hold (number + 1) sleds more)
    (cut_start program threads next j thread held_here loads more mark e staged) each k own (later more) m at_m
    (sym (ap (λ cuts. slice_get cuts m) (one_after program threads thread hold number j sleds loads mark more e)) ∙ own_m)

own_from : (program : Program) (Is : Load → Type 0) (threads thread : ℕ) (hold : Option ℕ) (number : ℕ) (sleds : List ℕ) (loads : List Load)
    → Fit (next_from program threads thread hold number sleds) loads → Each Is loads
    → (n k : ℕ) (own : List Load) → slice_get sleds n ≡ Some k
    → slice_get (loads_by_passing program threads thread hold number sleds loads) n ≡ Some own → IsOwn program Is k own
own_from program Is threads thread hold number [] loads fit each n k own at_n cut = cc
own_from program Is threads thread hold number (j ∷ sleds) loads fit each n k own at_n cut =
    own_reading program Is threads thread hold number j sleds loads fit each k own
    (λ more rest others m at_m own_m. own_from program Is threads thread hold (number + 1) sleds more rest others m k own at_m own_m)
    (from_start program threads thread (is_held_at hold number) j loads) refl n at_n cut

whole_from : (program : Program) (threads thread : ℕ) (hold : Option ℕ) (sleds : List ℕ) (loads : List Load)
    → Fit (next_load program threads thread hold sleds) loads → All (λ load. IsAllowed program threads thread load.word load.value) loads
    → AreWhole program threads thread hold sleds loads
whole_from program threads thread hold sleds loads fit allowed n k sled own at_n at_k cut =
    let its = own_from program (IsPartAllowed program) threads thread hold 0 sleds loads fit (parts_allowed program threads thread loads allowed) n k own at_n cut in
    whole_of program k sled at_k its.0 its.1

pub all_whole : (program : Program) (threads thread : ℕ) (hold : Option ℕ) (sleds : List ℕ) (loads : List Load) → AreWanted program threads thread hold sleds loads
    → All (λ load. IsAllowed program threads thread load.word load.value) loads → AreWhole program threads thread hold sleds loads
all_whole program threads thread hold sleds loads wanted allowed =
    whole_from program threads thread hold sleds loads (fit_from (next_load program threads thread hold sleds) loads wanted) allowed

pub follows_whole : (program : Program) (threads : ℕ) (code : ℕ → ℕ → ℕ) (start : ℕ) (bound : ℕ → ℕ) (thread : ℕ) → KeepsSleds program threads thread code
    → (hold : Option ℕ) (sleds : List ℕ) (loads : List Load) (place : ℕ)
    → Follows program threads code start bound thread hold sleds loads place → AreWhole program threads thread hold sleds loads
follows_whole program threads code start bound thread keeps hold sleds loads place follows =
    all_whole program threads thread hold sleds loads follows.wanted (loads_allowed program threads code start bound thread keeps hold sleds follows)

-- each load, of which nothing is asked
no_facts : (loads : List Load) → Each (λ load. Unit {0}) loads
no_facts [] = tt
no_facts (load ∷ loads) = (tt, no_facts loads)

pub one_value_each : (program : Program) (threads thread : ℕ) (hold : Option ℕ) (sleds : List ℕ) (loads : List Load)
    → AreWanted program threads thread hold sleds loads → HaveOneValueEach program threads thread hold sleds loads
one_value_each program threads thread hold sleds loads wanted n k own at_n within cut =
    let its =
    own_from program (λ load. Unit {0}) threads thread hold 0 sleds loads (fit_from (next_load program threads thread hold sleds) loads wanted) (no_facts loads) n k own at_n cut in
    (from_head_on program k within its.0).one
