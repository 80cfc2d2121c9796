-- Events, and one more event after them.
use Rattle.std.proofs.Common.{◌≡◌, ℕ, ◌+◌, Bool, true, false, cond, List, [], ◌∷◌, ◌++◌, map, Option, Some, None, refl, sym, ap, ◌∙◌, append_assoc, append-nil, arith}
use Rattle.std.specs.Prelude.{min, max}
use Rattle.std.proofs.lemmas.List.{length-append, map-append}
use Rattle.std.proofs.lemmas.List.Sums.{sum_by_push}
use Rattle.std.specs.Option.{option_map_or}
use Rattle.fdr_file.specs.ThreadEvents.{ThreadEvent}
use Rattle.fdr_file.specs.Traces.{logs_arg}
use Rattle.runtime_log.specs.declared.notes.LastEvent.{LastEvent}
use Rattle.runtime_log.specs.declared.notes.Notes.{Notes}
use Rattle.runtime_log.specs.Facts.{different, fall, falls, greatest_of, least_of}
use Rattle.runtime_log.specs.private.Notes.{HasNoted, NotesCounter, does_fall, is_number, is_of, last_event, last_number}

-- 1, unless a test holds
abbrev unless_one : Bool → ℕ
unless_one b = cond b 0 1

pub different_more : (ns : List ℕ) (n : ℕ) → different (ns ++ n ∷ []) ≡ different ns + unless_one (is_number (last_number ns) n)
different_more [] n = refl
different_more (m ∷ []) n = omega arith
different_more (m ∷ next ∷ ns) n = omega (arith, different_more (next ∷ ns) n)

pub last_number_more : (ns : List ℕ) (n : ℕ) → last_number (ns ++ n ∷ []) ≡ Some n
last_number_more [] n = refl
last_number_more (m ∷ []) n = refl
last_number_more (m ∷ next ∷ ns) n = last_number_more (next ∷ ns) n

abbrev last_of : ThreadEvent → LastEvent
last_of e = record { thread = e.thread; tsc = e.event.tsc }

pub last_event_more : (events : List ThreadEvent) (e : ThreadEvent) → last_event (events ++ e ∷ []) ≡ Some (last_of e)
last_event_more [] e = refl
last_event_more (f ∷ []) e = refl
last_event_more (f ∷ next ∷ events) e = last_event_more (next ∷ events) e

-- the last event is of the thread that is last
pub last_thread : (events : List ThreadEvent) (thread : ℕ) → is_number (last_number (map (λ (e : ThreadEvent). e.thread) events)) thread ≡ is_of (last_event events) thread
last_thread [] thread = refl
last_thread (e ∷ []) thread = refl
last_thread (e ∷ next ∷ events) thread = last_thread (next ∷ events) thread

-- the thread of one more event, if its counter is lower
abbrev pub fall_after : Option LastEvent → ThreadEvent → List ℕ
fall_after last e = cond (does_fall last e.thread e.event.tsc) (e.thread ∷ []) []

pub falls_more : (events : List ThreadEvent) (e : ThreadEvent) → falls (events ++ e ∷ []) ≡ falls events ++ fall_after (last_event events) e
falls_more [] e = refl
falls_more (f ∷ []) e = append-nil (fall f e)
falls_more (f ∷ next ∷ events) e =
    ap (λ (ns : List ℕ). fall f next ++ ns) (falls_more (next ∷ events) e)
    ∙ sym (append_assoc (fall f next) (falls (next ∷ events)) (fall_after (last_event (next ∷ events)) e))

-- how many threads those are whose counter falls, and the last of them
pub back_more : (ns : List ℕ) (fell : Bool) (n : ℕ) → different (ns ++ cond fell (n ∷ []) []) ≡ different ns + cond fell (unless_one (is_number (last_number ns) n)) 0
back_more ns true n = different_more ns n
back_more ns false n =
    let none : different ns ≡ different ns + 0 = omega arith in ap different (append-nil ns) ∙ none

pub fallen_more : (ns : List ℕ) (fell : Bool) (n : ℕ) → last_number (ns ++ cond fell (n ∷ []) []) ≡ cond fell (Some n) (last_number ns)
fallen_more ns true n = last_number_more ns n
fallen_more ns false n = ap last_number (append-nil ns)

pub least_more : (ns : List ℕ) (n : ℕ) → least_of (ns ++ n ∷ []) ≡ Some (option_map_or (λ m. min m n) (least_of ns) n)
least_more [] n = refl
least_more (m ∷ ns) n = ap (λ (o : Option ℕ). let x : Option ℕ = Some (option_map_or (min m) o m) in x) (least_more ns n) ∙ by_least (least_of ns)
  where
    by_least : (o : Option ℕ) → Some (min m (option_map_or (λ k. min k n) o n)) ≡ Some (min (option_map_or (min m) o m) n)
    by_least None = refl
    by_least (Some k) = let e : min m (min k n) ≡ min (min m k) n = omega arith in ap (λ (x : ℕ). let y : Option ℕ = Some x in y) e

pub greatest_more : (ns : List ℕ) (n : ℕ) → greatest_of (ns ++ n ∷ []) ≡ Some (option_map_or (λ m. max m n) (greatest_of ns) n)
greatest_more [] n = refl
greatest_more (m ∷ ns) n = ap (λ (o : Option ℕ). let x : Option ℕ = Some (option_map_or (max m) o m) in x) (greatest_more ns n) ∙ by_greatest (greatest_of ns)
  where
    by_greatest : (o : Option ℕ) → Some (max m (option_map_or (λ k. max k n) o n)) ≡ Some (max (option_map_or (max m) o m) n)
    by_greatest None = refl
    by_greatest (Some k) = let e : max m (max k n) ≡ max (max m k) n = omega arith in ap (λ (x : ℕ). let y : Option ℕ = Some x in y) e

-- ---- one more event

-- notes with one more event, and so many arguments more
abbrev pub counting : Notes → ℕ → Notes
counting old n = record old { facts = record old.facts { events = old.facts.events + 1; arguments = old.facts.arguments + n } }

pub noted_more : (events : List ThreadEvent) (e : ThreadEvent) (old new : Notes) (n : ℕ) → HasNoted events old → n ≡ cond (logs_arg e.event.kind) 1 0
    → NotesCounter (counting old n) e.thread e.event.tsc new → HasNoted (events ++ e ∷ []) new
noted_more events e old new n has args noted =
    let threads : List ℕ = map (λ (x : ThreadEvent). x.thread) events in
    let counters : List ℕ = map (λ (x : ThreadEvent). x.event.tsc) events in
    let is_same : is_of old.last e.thread ≡ is_number (last_number threads) e.thread = ap (λ (o : Option LastEvent). is_of o e.thread) has.ends ∙ sym (last_thread events e.thread) in
    let fell : does_fall old.last e.thread e.event.tsc ≡ does_fall (last_event events) e.thread e.event.tsc = ap (λ (o : Option LastEvent). does_fall o e.thread e.event.tsc) has.ends in
    let again : is_number old.fallen e.thread ≡ is_number (last_number (falls events)) e.thread = ap (λ (o : Option ℕ). is_number o e.thread) has.fallen in
    let down = does_fall (last_event events) e.thread e.event.tsc in
    record {
      count = omega (arith, noted.events, has.count, length-append events (e ∷ []));
      arguments = omega (arith, noted.arguments, has.arguments, args, sum_by_push (λ (x : ThreadEvent). cond (logs_arg x.event.kind) 1 0) events e);
      threads =
          noted.threads ∙ ap (λ (k : ℕ). k + unless_one (is_of old.last e.thread)) has.threads
          ∙ ap (λ (b : Bool). different threads + unless_one b) is_same
          ∙ sym (ap different (map-append (λ (x : ThreadEvent). x.thread) events (e ∷ [])) ∙ different_more threads e.thread);
      first =
          noted.first ∙ ap (λ (o : Option ℕ). let x : Option ℕ = Some (option_map_or (λ m. min m e.event.tsc) o e.event.tsc) in x) has.first
          ∙ sym (ap least_of (map-append (λ (x : ThreadEvent). x.event.tsc) events (e ∷ [])) ∙ least_more counters e.event.tsc);
      last =
          noted.last ∙ ap (λ (o : Option ℕ). let x : Option ℕ = Some (option_map_or (λ m. max m e.event.tsc) o e.event.tsc) in x) has.last
          ∙ sym (ap greatest_of (map-append (λ (x : ThreadEvent). x.event.tsc) events (e ∷ [])) ∙ greatest_more counters e.event.tsc);
      back =
          noted.back ∙ ap (λ (k : ℕ). k + cond (does_fall old.last e.thread e.event.tsc) (unless_one (is_number old.fallen e.thread)) 0) has.back
          ∙ ap (λ (b : Bool). different (falls events) + cond b (unless_one (is_number old.fallen e.thread)) 0) fell
          ∙ ap (λ (b : Bool). different (falls events) + cond down (unless_one b) 0) again
          ∙ sym (ap different (falls_more events e) ∙ back_more (falls events) down e.thread);
      ends = noted.ends ∙ sym (last_event_more events e);
      fallen =
          noted.fallen
          ∙ ap (λ (b : Bool). let x : Option ℕ = cond b (Some e.thread) old.fallen in x) fell
          ∙ ap (λ (o : Option ℕ). let x : Option ℕ = cond down (Some e.thread) o in x) has.fallen
          ∙ sym (ap last_number (falls_more events e) ∙ fallen_more (falls events) down e.thread);
    }
