-- What a pool and the threads' hands leave of each thread.
use Rattle.std.proofs.Common.{◌≡◌, ◌≢◌, ℕ, zero, suc, ◌+◌, ◌-◌, ◌<◌, ◌==◌, List, [], ◌∷◌, ◌++◌, true, false, true≢false, refl, sym, subst, ap, ◌∙◌, arith, inl, inr, Option, Some, length, length-append, map, drop, append_assoc}
use Rattle.std.specs.Prelude.{if◌then◌else◌, replicate, slice_get}
use Rattle.std.specs.List.{enumerate_from}
use Rattle.std.proofs.lemmas.Bool.{cases_Bool, eq-eqb, ne_eqb}
use Rattle.std.proofs.lemmas.List.{drop-map}
use Rattle.std.proofs.lemmas.List.Elements.{filter-append}
use Rattle.fdr_record.specs.declared.event.Event.{Event}
use Rattle.fdr_buffer.specs.Filled.{Filled, empty_buffer}
use Rattle.buffer_queue.specs.Left.{IsLeft, of_thread, row_at}
use Rattle.machine_step.specs.declared.setup.Setup.{Setup}
use Rattle.traced_run.specs.Kept.{Stamp, buffer_of, buffers_after, stamp_of}
use Rattle.thread_run.specs.Recordings.{Recording, StandsFor, segments_in}
use Rattle.thread_run.proofs.SegmentCuts.{buffers_length, buffers_more}

-- the segment in hand, if there is one
abbrev pub in_hand_of : Recording → List Filled
in_hand_of r = if r.hand.begun then r.hand ∷ [] else []

-- ---- one thread

dropped : {X : Type 0} (xs ys : List X) → drop (length xs) (xs ++ ys) ≡ ys
dropped [] ys = refl
dropped (x ∷ xs) ys = dropped xs ys

-- without the first segments
pub after_all : (stamp : Stamp) (first thread : ℕ) (segs : List (List Event))
    → buffers_after stamp first thread segs ≡ drop first (buffers_after stamp 0 thread segs)
after_all stamp first thread segs = sym (drop-map (buffer_of stamp thread) first (enumerate_from 0 segs))

-- Of the buffers that a thread has sealed, the first ones are gone. With the segment in hand, the others are those of its
-- last segments.
pub record KeepsLast (r : Recording) (segs : List (List Event)) (gone last : List Filled) : Type 0 where
  pub kept : last ++ in_hand_of r ≡ buffers_after (stamp_of r.pass.setup) (length gone) r.pass.thread segs
  pub count : length gone + length (last ++ in_hand_of r) ≡ length segs
  pub sealed : length segs - 1 ≡ length r.pass.sealed
  pub below : 0 < length segs → length gone < length segs
  pub none : length segs ≡ 0 → length gone ≡ 0

both_none : {X : Type 0} (xs ys : List X) → xs ++ ys ≡ [] → (xs ≡ []) × (ys ≡ [])
both_none [] ys e = (refl, e)
both_none (x ∷ xs) ys e = absurd cc

pub keeps_last : (r : Recording) (events : List Event) → StandsFor r events → (gone last : List Filled) → r.pass.sealed ≡ gone ++ last
    → KeepsLast r (segments_in r events) gone last
keeps_last r events (StandsFor.unbegun no_segs sealed hand) gone last cut =
    let not_so : r.hand.begun ≡ false = ap (λ (b : Filled). b.begun) hand in
    let empty = both_none gone last (sym cut ∙ sealed) in
    rw (not_so, no_segs, sealed, empty.0, empty.1) (record {
      kept = refl;
      count = refl;
      sealed = refl;
      below = λ some. absurd (omega (arith, some));
      none = λ _. refl;
    })
keeps_last r events (StandsFor.begun whole opened segs sealed hand) gone last cut =
    let stamp : Stamp = stamp_of r.pass.setup in
    let thread : ℕ = r.pass.thread in
    let is : r.hand.begun ≡ true = ap (λ (b : Filled). b.begun) hand in
    let one : in_hand_of r ≡ r.hand ∷ [] = rw is refl in
    let all : buffers_after stamp 0 thread (segments_in r events) ≡ gone ++ (last ++ in_hand_of r) =
    ap (buffers_after stamp 0 thread) segs ∙ buffers_more stamp thread whole opened
    ∙ ap (λ (b : Filled). buffers_after stamp 0 thread whole ++ b ∷ []) (sym hand)
    ∙ ap (λ (bs : List Filled). bs ++ r.hand ∷ []) (sym sealed ∙ cut)
    ∙ append_assoc gone last (r.hand ∷ [])
    ∙ ap (λ (bs : List Filled). gone ++ (last ++ bs)) (sym one) in
    let count : length (segments_in r events) ≡ length whole + 1 = ap length segs ∙ length-append whole (opened ∷ []) in
    let sealed_count : length r.pass.sealed ≡ length whole = ap length sealed ∙ buffers_length stamp thread whole in
    let parts : length r.pass.sealed ≡ length gone + length last = ap length cut ∙ length-append gone last in
    record {
      kept = sym (after_all stamp (length gone) thread (segments_in r events) ∙ ap (drop (length gone)) all ∙ dropped gone (last ++ in_hand_of r));
      count =
          sym (length-append gone (last ++ in_hand_of r)) ∙ ap length (sym all) ∙ buffers_length stamp thread (segments_in r events);
      sealed = omega (arith, count, sealed_count);
      below = λ some. omega (arith, count, sealed_count, parts);
      none = λ none. absurd (omega (arith, none, count));
    }

-- ---- those of one thread among others

pub keep_one : (thread : ℕ) (x : Filled) (xs : List Filled) → x.thread ≡ thread → of_thread thread (x ∷ xs) ≡ x ∷ of_thread thread xs
keep_one thread x xs same =
    let test : (x.thread == thread) ≡ true = eq-eqb x.thread thread same in
    rw test refl

pub skip_one : (thread : ℕ) (x : Filled) (xs : List Filled) → x.thread ≢ thread → of_thread thread (x ∷ xs) ≡ of_thread thread xs
skip_one thread x xs other =
    let test : (x.thread == thread) ≡ false = ne_eqb x.thread thread other in
    rw test refl

fresh_none : (thread size n : ℕ) → 0 < thread → of_thread thread (replicate n (empty_buffer size)) ≡ []
fresh_none thread size zero some = refl
fresh_none thread size (suc n) some =
    skip_one thread (empty_buffer size) (replicate n (empty_buffer size)) (λ same. absurd (omega (arith, some, same))) ∙ fresh_none thread size n some

-- fresh buffers are no thread's
pub left_used : (setup : Setup) (rows : List (List Filled)) (left : List Filled) → (is : IsLeft setup rows left) → (thread : ℕ) → 0 < thread
    → of_thread thread left ≡ of_thread thread is.used
left_used setup rows left is thread some =
    ap (of_thread thread) is.all
    ∙ filter-append (λ (b : Filled). b.thread == thread) (replicate is.fresh (empty_buffer setup.size)) is.used
    ∙ ap (λ (bs : List Filled). bs ++ of_thread thread is.used) (fresh_none thread setup.size is.fresh some)

-- a hand is of this thread, or isn't begun and of none
pub record HandIs (thread : ℕ) (r : Recording) : Type 0 where
  pub begun : r.hand.begun ≡ true → r.hand.thread ≡ thread
  pub unbegun : r.hand.begun ≡ false → (r.hand.thread ≡ 0) × (r.hand.events ≡ [])

pub hand_is : (r : Recording) (events : List Event) → StandsFor r events → HandIs r.pass.thread r
hand_is r events (StandsFor.unbegun none sealed hand) =
    let not_so : r.hand.begun ≡ false = ap (λ (b : Filled). b.begun) hand in
    record {
      begun = λ is. absurd (true≢false (sym is ∙ not_so));
      unbegun = λ _. (ap (λ (b : Filled). b.thread) hand, ap (λ (b : Filled). b.events) hand);
    }
hand_is r events (StandsFor.begun whole last segs sealed hand) =
    let is : r.hand.begun ≡ true = ap (λ (b : Filled). b.begun) hand in
    record {
      begun = λ _. ap (λ (b : Filled). b.thread) hand;
      unbegun = λ not_so. absurd (true≢false (sym is ∙ not_so));
    }

-- hands of these threads, from one on
abbrev pub AreHands : ℕ → List Recording → Type 0
AreHands n [] = Unit {0}
AreHands n (r ∷ rs) = HandIs n r × AreHands (n + 1) rs

abbrev pub hands_of : List Recording → List Filled
hands_of rs = map (λ (r : Recording). r.hand) rs

other_hand : (thread n : ℕ) (r : Recording) → 0 < thread → thread ≢ n → HandIs n r → r.hand.thread ≢ thread
other_hand thread n r some other is same =
    elim (cases_Bool r.hand.begun) [
      | inl so ↦ other (sym same ∙ is.begun so)
      | inr not_so ↦ let none = (is.unbegun not_so).0 in absurd (omega (arith, some, same, none))
    ]

none_later : (thread n : ℕ) (rs : List Recording) → 0 < thread → thread < n → AreHands n rs → of_thread thread (hands_of rs) ≡ []
none_later thread n [] some early are = refl
none_later thread n (r ∷ rs) some early (is, are) =
    let other : thread ≢ n = λ same. absurd (omega (arith, early, same)) in
    skip_one thread r.hand (hands_of rs) (other_hand thread n r some other is) ∙ none_later thread (n + 1) rs some (omega (arith, early)) are

own_hand : (n : ℕ) (r : Recording) (rs : List Recording) → 0 < n → HandIs n r → AreHands (n + 1) rs → of_thread n (r.hand ∷ hands_of rs) ≡ in_hand_of r
own_hand n r rs some is are =
    let rest = none_later n (n + 1) rs some (omega arith) are in
    elim (cases_Bool r.hand.begun) [
      | inl so ↦
          let one : in_hand_of r ≡ r.hand ∷ [] = rw so refl in
          keep_one n r.hand (hands_of rs) (is.begun so) ∙ ap (λ (bs : List Filled). r.hand ∷ bs) rest ∙ sym one
      | inr not_so ↦
          let none : in_hand_of r ≡ [] = rw not_so refl in
          let other : r.hand.thread ≢ n = λ same. let at = (is.unbegun not_so).0 in absurd (omega (arith, some, same, at)) in
          skip_one n r.hand (hands_of rs) other ∙ rest ∙ sym none
    ]

no_item : {X : Type 0} (i : ℕ) (x : X) → slice_get [] i ≡ Some x → ⊥
no_item zero x e = cc
no_item (suc i) x e = cc

same_item : {X : Type 0} (x y : X) → ◌≡◌ {A = Option X} (Some x) (Some y) → x ≡ y
same_item x y e = cc

-- the hand of each thread is its own
pub hand_at : (n : ℕ) (rs : List Recording) (i : ℕ) (r : Recording) → 0 < n → AreHands n rs → slice_get rs i ≡ Some r
    → of_thread (n + i) (hands_of rs) ≡ in_hand_of r
hand_at n [] i r some are found = absurd (no_item i r found)
hand_at n (x ∷ rs) zero r some (is, are) found =
    let here : n ≡ n + 0 = omega arith in
    subst (λ (k : ℕ). of_thread k (hands_of (x ∷ rs)) ≡ in_hand_of r) here (own_hand n x rs some is are ∙ ap in_hand_of (same_item x r found))
hand_at n (x ∷ rs) (suc i) r some (is, are) found =
    let there : n + 1 + i ≡ n + suc i = omega arith in
    let some_thread : 0 < n + suc i = omega (arith, some) in
    let other : n + suc i ≢ n = λ same. absurd (omega (arith, same)) in
    skip_one (n + suc i) x.hand (hands_of rs) (other_hand (n + suc i) n x some_thread other is)
    ∙ subst (λ (k : ℕ). of_thread k (hands_of rs) ≡ in_hand_of r) there (hand_at (n + 1) rs i r (omega arith) are found)

-- the buffers of each thread in the pool, and the one in its hand
pub of_all : (setup : Setup) (rows : List (List Filled)) (left : List Filled) → (is : IsLeft setup rows left) → (rs : List Recording) → AreHands 1 rs
    → (i : ℕ) (r : Recording) → slice_get rs i ≡ Some r
    → of_thread (1 + i) (left ++ hands_of rs) ≡ of_thread (1 + i) is.used ++ in_hand_of r
of_all setup rows left is rs are i r found =
    filter-append (λ (b : Filled). b.thread == 1 + i) left (hands_of rs)
    ∙ ap (λ (bs : List Filled). bs ++ of_thread (1 + i) (hands_of rs)) (left_used setup rows left is (1 + i) (omega arith))
    ∙ ap (λ (bs : List Filled). of_thread (1 + i) is.used ++ bs) (hand_at 1 rs i r (omega arith) are found)

-- the row of each thread
pub row_is : (rs : List Recording) (i : ℕ) (r : Recording) → slice_get rs i ≡ Some r → row_at (map (λ (r : Recording). r.pass.sealed) rs) i ≡ r.pass.sealed
row_is [] i r found = absurd (no_item i r found)
row_is (x ∷ rs) zero r found = ap (λ (r : Recording). r.pass.sealed) (same_item x r found)
row_is (x ∷ rs) (suc i) r found = row_is rs i r found
