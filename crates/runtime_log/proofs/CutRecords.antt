-- Records that are cut at the end of a block.
use Rattle.std.proofs.Common.{◌≡◌, ℕ, zero, suc, ◌+◌, ◌-◌, ◌*◌, ◌<◌, ◌≤◌, Bool, true, false, cond, eqb, ltb, List, [], ◌∷◌, ◌++◌, length, drop, slice_index, take, Some, refl, sym, ap, ◌∙◌, inl, inr, append_assoc, length-append, arith}
use Rattle.std.specs.Prelude.{◌≢◌, ◌⊎◌, ◌&&◌, count_by, nat_le}
use Rattle.std.proofs.lemmas.Bool.{and_parts, cases_lt, le-leb, le-ltb, leb-true, lt-leb, lt-ltb, ltb-true}
use Rattle.std.proofs.lemmas.List.{drop-drop, drop_at, length-drop, length-take, take_all, take_at}
use Rattle.std.proofs.lemmas.List.Sums.{sum_by-cons}
use Rattle.fdr_file.specs.Traces.{preamble_bytes}
use Rattle.runtime_log.specs.declared.own_event.OwnKind.TheVariants.{Custom}
use Rattle.runtime_log.specs.declared.version.LogVersion.{LogVersion}
use Rattle.runtime_log.specs.declared.version.LogVersion.TheVariants.{Two, Three, Four, Five}
use Rattle.runtime_log.specs.Grammar.{AreLogRecords, IsCutRecord, LogRecord, is_typed_event}
use Rattle.runtime_log.specs.Logs.{cut_after, cut_length, lacks_an_end, log_places, one_typed, whole_content}
use Rattle.runtime_log.specs.OwnEvents.{first_kind, log_record_length, typed_kind}
use Rattle.runtime_log.specs.Versions.{trace_version}
use Rattle.runtime_log.proofs.RecordWalk.{log_record_some, places_first, starts_none}
use Rattle.runtime_log.proofs.RecordsAgain.{LogReads, first_typed, front_some, log_reads}
use Rattle.fdr_file.specs.declared.stage.Stage.TheVariants.{Due}

-- ---- from one place to the next

-- the typed events so far, with that which bytes begin with
abbrev pub with_first : LogVersion → ℕ → List ℕ → ℕ
with_first version typed bytes = typed + one_typed (first_kind version (slice_index bytes 0))

pub cut_step : (version : LogVersion) (size typed at : ℕ) (bytes : List ℕ) → 0 < length bytes
    → cut_after version size typed (log_places version at bytes)
    ≡ cond (lacks_an_end version size (with_first version typed bytes) bytes) (length bytes)
    (cut_after version size (with_first version typed bytes) (log_places version (at + log_record_length version bytes) (drop (log_record_length version bytes) bytes)))
cut_step version size typed at bytes some = ap (cut_after version size typed) (places_first version at bytes some)

pub cut_none : (version : LogVersion) (size typed at : ℕ) (bytes : List ℕ) → length bytes ≡ 0 → cut_after version size typed (log_places version at bytes) ≡ 0
cut_none version size typed at bytes none = ap (cut_after version size typed) (starts_none (log_record_length version) at bytes none)

-- no more bytes than there are
cut_within : (n : ℕ) (version : LogVersion) (size typed at : ℕ) (bytes : List ℕ) → length bytes ≤ n → cut_after version size typed (log_places version at bytes) ≤ length bytes
cut_within zero version size typed at bytes few = omega (arith, cut_none version size typed at bytes (omega (arith, few)))
cut_within (suc n) version size typed at bytes few = by_length (cut_within n version size) (cases_lt 0 (length bytes))
  where
    len : ℕ
    len = log_record_length version bytes

    Again : Type 0
    Again = (t a : ℕ) (xs : List ℕ) → length xs ≤ n → cut_after version size t (log_places version a xs) ≤ length xs

    by_cut : Again → 0 < length bytes → (b : Bool) → cond b (length bytes) (cut_after version size (with_first version typed bytes) (log_places version (at + len) (drop len bytes))) ≤ length bytes
    by_cut again some true = omega arith
    by_cut again some false =
        let later = again (with_first version typed bytes) (at + len) (drop len bytes) (omega (arith, few, some, length-drop len bytes, log_record_some version bytes)) in
        omega (arith, later, length-drop len bytes)

    by_length : Again → (0 < length bytes) ⊎ (length bytes ≤ 0) → cut_after version size typed (log_places version at bytes) ≤ length bytes
    by_length again (inr none) = omega (arith, cut_none version size typed at bytes (omega (arith, none)))
    by_length again (inl some) = omega (arith, cut_step version size typed at bytes some, by_cut again some (lacks_an_end version size (with_first version typed bytes) bytes))

pub cut_few : (version : LogVersion) (content : List ℕ) → cut_length version content ≤ length content
cut_few version content = cut_within (length content) version (length content) 0 0 content (omega arith)

-- a record that is whole is not cut
not_cut : (version : LogVersion) (size typed : ℕ) (bytes : List ℕ) → log_record_length version bytes ≤ length bytes → lacks_an_end version size typed bytes ≡ false
not_cut version size typed bytes whole =
    ap (λ (b : Bool). b && nat_le (log_record_length version bytes) (length bytes + 16 * typed) && nat_le (preamble_bytes (trace_version version) + length bytes) size)
    (le-ltb (length bytes) (log_record_length version bytes) whole)

-- ---- past whole records

pub cut_past : (version : LogVersion) (size typed at : ℕ) (records : List LogRecord) (whole end : List ℕ) → AreLogRecords version records whole
    → cut_after version size typed (log_places version at (whole ++ end)) ≡ cut_after version size (typed + count_by is_typed_event records) (log_places version (at + length whole) end)
cut_past version size typed at [] whole end are =
    ap (λ (xs : List ℕ). cut_after version size typed (log_places version at (xs ++ end))) are
    ∙ (ap (λ (n : ℕ). cut_after version size n (log_places version at end)) (omega arith)
    ∙ ap (λ (n : ℕ). cut_after version size (typed + count_by is_typed_event []) (log_places version n end)) (omega (arith, ap length are)))
cut_past version size typed at (r ∷ records) whole end (front, following, parts, is, rest) =
    ap (λ (xs : List ℕ). cut_after version size typed (log_places version at xs)) whole_is
    ∙ (cut_step version size typed at all some
    ∙ (ap (λ (b : Bool). cond b (length all) (cut_after version size (with_first version typed all) (log_places version (at + len) (drop len all)))) (not_cut version size (with_first version typed all) all (omega (arith, reads.long, length-append front (following ++ end))))
    ∙ (ap (λ (n : ℕ). cut_after version size (with_first version typed all) (log_places version (at + n) (drop n all))) reads.long
    ∙ (ap (λ (xs : List ℕ). cut_after version size (with_first version typed all) (log_places version (at + length front) xs)) (drop_at front (following ++ end) (length front) refl)
    ∙ (cut_past version size (with_first version typed all) (at + length front) records following end rest
    ∙ (ap (λ (n : ℕ). cut_after version size n (log_places version (at + length front + length following) end)) counted
    ∙ ap (λ (n : ℕ). cut_after version size (typed + count_by is_typed_event (r ∷ records)) (log_places version n end)) place))))))
  where
    all : List ℕ
    all = front ++ (following ++ end)

    len : ℕ
    len = log_record_length version all

    whole_is : whole ++ end ≡ all
    whole_is = ap (λ (xs : List ℕ). xs ++ end) parts ∙ append_assoc front following end

    reads : LogReads version Due all r (length front)
    reads = log_reads version Due r front (following ++ end) is

    some : 0 < length all
    some = omega (arith, length-append front (following ++ end), front_some version r front (following ++ end) is)

    place : at + length front + length following ≡ at + length whole
    place = omega (arith, ap length parts, length-append front following)

    counted : with_first version typed all + count_by is_typed_event records ≡ typed + count_by is_typed_event (r ∷ records)
    counted =
        let one = first_typed version r front (following ++ end) is in
        let more : count_by is_typed_event (r ∷ records) ≡ cond (is_typed_event r) 1 0 + count_by is_typed_event records = sum_by-cons (λ (x : LogRecord). cond (is_typed_event x) 1 0) r records in
        omega (arith, one, more)

-- ---- the record that is cut

pub cut_is : (version : LogVersion) (size typed at : ℕ) (end : List ℕ) → end ≢ [] → cut_after version size typed (log_places version at end) ≡ length end → IsCutRecord version size typed end
cut_is version size typed at end some is = by_cut (lacks_an_end version size n end) refl (sym (cut_step version size typed at end there) ∙ is)
  where
    n : ℕ
    n = with_first version typed end

    len : ℕ
    len = log_record_length version end

    there : 0 < length end
    there = by_end end some
      where
        by_end : (xs : List ℕ) → xs ≢ [] → 0 < length xs
        by_end [] not_so = absurd (not_so refl)
        by_end (x ∷ xs) not_so = omega arith

    by_cut : (b : Bool) → lacks_an_end version size n end ≡ b → cond b (length end) (cut_after version size n (log_places version (at + len) (drop len end))) ≡ length end → IsCutRecord version size typed end
    by_cut true e h =
        let parts = and_parts (ltb (length end) len && nat_le len (length end + 16 * n)) (nat_le (preamble_bytes (trace_version version) + length end) size) e in
        let first = and_parts (ltb (length end) len) (nat_le len (length end + 16 * n)) parts.0 in record {
          begins = some;
          ends = ltb-true (length end) len first.0;
          lacks = leb-true len (length end + 16 * n) first.1;
          behind = leb-true (preamble_bytes (trace_version version) + length end) size parts.1;
        }
    by_cut false e h =
        let few = cut_within (length (drop len end)) version size n (at + len) (drop len end) (omega arith) in
        absurd (omega (arith, h, few, there, length-drop len end, log_record_some version end))

pub cut_again : (version : LogVersion) (size typed at : ℕ) (end : List ℕ) → IsCutRecord version size typed end → cut_after version size typed (log_places version at end) ≡ length end
cut_again version size typed at end is = by_length (cases_lt 0 (length end))
  where
    n : ℕ
    n = with_first version typed end

    len : ℕ
    len = log_record_length version end

    test : lacks_an_end version size n end ≡ true
    test =
        ap (λ (b : Bool). b && nat_le len (length end + 16 * n) && nat_le (preamble_bytes (trace_version version) + length end) size) (lt-ltb (length end) len is.ends)
        ∙ (ap (λ (b : Bool). b && nat_le (preamble_bytes (trace_version version) + length end) size) (le-leb len (length end + 16 * n) is.lacks)
        ∙ le-leb (preamble_bytes (trace_version version) + length end) size is.behind)

    by_length : (0 < length end) ⊎ (length end ≤ 0) → cut_after version size typed (log_places version at end) ≡ length end
    by_length (inl some) =
        cut_step version size typed at end some
        ∙ ap (λ (b : Bool). cond b (length end) (cut_after version size n (log_places version (at + len) (drop len end)))) test
    by_length (inr none) = cut_none version size typed at end (omega (arith, none)) ∙ sym (let zero_long : length end ≡ 0 = omega (arith, none) in zero_long)

-- ---- versions without typed events

none_typed : (version : LogVersion) (first : ℕ) → version ≢ Five → one_typed (first_kind version first) ≡ 0
none_typed version first other = by_custom (eqb first 11) version other
  where
    by_custom : (b : Bool) (v : LogVersion) → v ≢ Five → one_typed (cond b (Some Custom) (typed_kind v first)) ≡ 0
    by_custom true v not_five = refl
    by_custom false Two not_five = refl
    by_custom false Three not_five = refl
    by_custom false Four not_five = refl
    by_custom false Five not_five = absurd (not_five refl)

never_lacking : (version : LogVersion) (size typed : ℕ) (bytes : List ℕ) → typed ≡ 0 → lacks_an_end version size typed bytes ≡ false
never_lacking version size typed bytes none = by_short (ltb (length bytes) len) refl
  where
    len : ℕ
    len = log_record_length version bytes

    last : Bool
    last = nat_le (preamble_bytes (trace_version version) + length bytes) size

    by_short : (b : Bool) → ltb (length bytes) len ≡ b → (b && nat_le len (length bytes + 16 * typed) && last) ≡ false
    by_short false e = refl
    by_short true e = ap (λ (t : Bool). t && last) (lt-leb len (length bytes + 16 * typed) (omega (arith, ltb-true (length bytes) len e, none)))

never_cut_after : (version : LogVersion) (size typed : ℕ) (places : List (ℕ × List ℕ)) → version ≢ Five → typed ≡ 0 → cut_after version size typed places ≡ 0
never_cut_after version size typed [] other none = refl
never_cut_after version size typed ((at, rest) ∷ places) other none =
    let n : with_first version typed rest ≡ 0 = omega (arith, none, none_typed version (slice_index rest 0) other) in
    ap (λ (b : Bool). cond b (length rest) (cut_after version size (with_first version typed rest) places)) (never_lacking version size (with_first version typed rest) rest n)
    ∙ never_cut_after version size (with_first version typed rest) places other n

pub never_cut : (version : LogVersion) (content : List ℕ) → version ≢ Five → cut_length version content ≡ 0
never_cut version content other = never_cut_after version (length content) 0 (log_places version 0 content) other refl

-- ---- the whole records

pub whole_all : (version : LogVersion) (content : List ℕ) → cut_length version content ≡ 0 → whole_content version content ≡ content
whole_all version content none = take_all (length content - cut_length version content) content (omega (arith, none))

pub whole_is : (version : LogVersion) (content whole end : List ℕ) → content ≡ whole ++ end → cut_length version content ≡ length end → whole_content version content ≡ whole
whole_is version content whole end parts cut =
    let long : length content - cut_length version content ≡ length whole = omega (arith, cut, ap length parts, length-append whole end) in
    ap (λ (n : ℕ). take n content) long ∙ (ap (take (length whole)) parts ∙ take_at whole end (length whole) refl)

pub whole_long : (version : LogVersion) (content : List ℕ) → length (whole_content version content) + cut_length version content ≡ length content
whole_long version content = omega (arith, length-take (length content - cut_length version content) content, cut_few version content)

-- What is left of a content has a preamble's bytes, if the content has: a record that is cut stands behind the preamble.
cut_behind : (n : ℕ) (version : LogVersion) (size typed at : ℕ) (bytes : List ℕ) → length bytes ≤ n → length bytes ≤ size → preamble_bytes (trace_version version) ≤ size
    → preamble_bytes (trace_version version) + cut_after version size typed (log_places version at bytes) ≤ size
cut_behind zero version size typed at bytes few within least = omega (arith, cut_none version size typed at bytes (omega (arith, few)), least)
cut_behind (suc n) version size typed at bytes few within least = by_length (cut_behind n version size) (cases_lt 0 (length bytes))
  where
    len : ℕ
    len = log_record_length version bytes

    m : ℕ
    m = with_first version typed bytes

    P : ℕ
    P = preamble_bytes (trace_version version)

    Again : Type 0
    Again = (t a : ℕ) (xs : List ℕ) → length xs ≤ n → length xs ≤ size → P ≤ size → P + cut_after version size t (log_places version a xs) ≤ size

    by_cut : Again → 0 < length bytes → (b : Bool) → lacks_an_end version size m bytes ≡ b → P + cond b (length bytes) (cut_after version size m (log_places version (at + len) (drop len bytes))) ≤ size
    by_cut again some true e = leb-true (P + length bytes) size (and_parts (ltb (length bytes) len && nat_le len (length bytes + 16 * m)) (nat_le (P + length bytes) size) e).1
    by_cut again some false e =
        again m (at + len) (drop len bytes) (omega (arith, few, some, length-drop len bytes, log_record_some version bytes)) (omega (arith, within, length-drop len bytes)) least

    by_length : Again → (0 < length bytes) ⊎ (length bytes ≤ 0) → P + cut_after version size typed (log_places version at bytes) ≤ size
    by_length again (inr none) = omega (arith, cut_none version size typed at bytes (omega (arith, none)), least)
    by_length again (inl some) =
        let here = by_cut again some (lacks_an_end version size m bytes) refl in
        omega (arith, cut_step version size typed at bytes some, here)

pub whole_enough : (version : LogVersion) (content : List ℕ) → preamble_bytes (trace_version version) ≤ length content → preamble_bytes (trace_version version) ≤ length (whole_content version content)
whole_enough version content least =
    let behind = cut_behind (length content) version (length content) 0 0 content (omega arith) (omega arith) least in
    omega (arith, behind, whole_long version content)

-- ---- as the code goes

-- the record at a place is cut
pub cut_found : (version : LogVersion) (size typed one at : ℕ) (content rest : List ℕ) → rest ≡ drop at content → at < length content → one ≡ one_typed (first_kind version (slice_index rest 0))
    → lacks_an_end version size (typed + one) rest ≡ true → cut_after version size typed (log_places version at (drop at content)) ≡ length rest
cut_found version size typed one at content rest is within counts cut =
    let there : 0 < length rest = omega (arith, ap length is, length-drop at content, within) in
    let n : with_first version typed rest ≡ typed + one = omega (arith, counts) in
    ap (λ (xs : List ℕ). cut_after version size typed (log_places version at xs)) (sym is)
    ∙ (cut_step version size typed at rest there
    ∙ ap (λ (b : Bool). cond b (length rest) (cut_after version size (with_first version typed rest) (log_places version (at + log_record_length version rest) (drop (log_record_length version rest) rest))))
    (ap (λ (k : ℕ). lacks_an_end version size k rest) n ∙ cut))

-- it is not, and the next one comes
pub cut_on : (version : LogVersion) (size typed one at len : ℕ) (content rest : List ℕ) → rest ≡ drop at content → at < length content → one ≡ one_typed (first_kind version (slice_index rest 0))
    → lacks_an_end version size (typed + one) rest ≡ false → len ≡ log_record_length version rest
    → cut_after version size typed (log_places version at (drop at content)) ≡ cut_after version size (typed + one) (log_places version (at + len) (drop (at + len) content))
cut_on version size typed one at len content rest is within counts cut long =
    let there : 0 < length rest = omega (arith, ap length is, length-drop at content, within) in
    let n : with_first version typed rest ≡ typed + one = omega (arith, counts) in
    let left : drop (log_record_length version rest) rest ≡ drop (at + len) content = ap (λ (k : ℕ). drop k rest) (sym long) ∙ (ap (drop len) is ∙ drop-drop len at content) in
    ap (λ (xs : List ℕ). cut_after version size typed (log_places version at xs)) (sym is)
    ∙ (cut_step version size typed at rest there
    ∙ (ap (λ (b : Bool). cond b (length rest) (cut_after version size (with_first version typed rest) (log_places version (at + log_record_length version rest) (drop (log_record_length version rest) rest))))
    (ap (λ (k : ℕ). lacks_an_end version size k rest) n ∙ cut)
    ∙ (ap (λ (k : ℕ). cut_after version size k (log_places version (at + log_record_length version rest) (drop (log_record_length version rest) rest))) n
    ∙ (ap (λ (k : ℕ). cut_after version size (typed + one) (log_places version (at + k) (drop (log_record_length version rest) rest))) (sym long)
    ∙ ap (λ (xs : List ℕ). cut_after version size (typed + one) (log_places version (at + len) xs)) left))))
