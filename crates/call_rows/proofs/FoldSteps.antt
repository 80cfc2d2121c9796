-- A fold after one more event, and the rows of a history after it.
use Rattle.std.proofs.Common.{◌≡◌, ◌-◌, ◌+◌, ◌++◌, ◌∙◌, ℕ, Bool, true, false, cond, List, [], ◌∷◌, length, map, reverse, take, refl, ap, sym, subst, arith, nat_eq, get_or, Option, Some, None, unwrap_or}
use Rattle.std.specs.Prelude.{filter, option_map, slice_get}
use Rattle.std.specs.HashMap.{get}
use Rattle.std.specs.Option.{option_to_list}
use Rattle.std.proofs.lemmas.Bool.{eq-eqb, eqb-false, eqb-true}
use Rattle.std.proofs.Math.Seq.{get_or-append_seam}
use Rattle.std.proofs.lemmas.List.{append-nil, get_or_append_left, length-map, length-reverse, map-append, reverse-append}
use Rattle.std.proofs.lemmas.List.Elements.{filter-append}
use Rattle.fdr_record.specs.declared.event.Event.{Event}
use Rattle.fdr_record.specs.declared.event.Kind.{Kind}
use Rattle.fdr_record.specs.declared.event.Kind.TheVariants.{Entry, Exit, TailExit, EntryArgs}
use Rattle.fdr_file.specs.ThreadEvents.{ThreadEvent}
use Rattle.stack_rebuild.specs.declared.call.Call.{Call}
use Rattle.stack_rebuild.specs.declared.call.Pair.{Pair}
use Rattle.stack_rebuild.specs.Calls.{cycles_between, from_innermost, left_open, open_after_kind, open_calls, pair_at, pair_at_kind, pair_of_call, pairs_in}
use Rattle.stack_rebuild.specs.Histories.{ThreadPair, history_of_thread, pair_after, pairs_after, pairs_of_thread, thread_event, thread_pair}
use Rattle.stack_rebuild.specs.Stacks.{open_before, spent_in}
use Rattle.call_rows.specs.declared.row.CallRow.{CallRow}
use Rattle.call_rows.specs.declared.frames.Frame.{Frame}
use Rattle.call_rows.specs.declared.fold.CallFold.{CallFold}
use Rattle.call_rows.specs.CallRows.{EndsAt, NumberedEvent, call_row, no_numbered, numbered_of_thread, rows_after}
use Rattle.call_rows.specs.private.Folding.{Follows, FramedThreads, framed_in}
use Rattle.call_rows.specs.private.Frames.{Framed, depth_on, frame_by, framed_after, next_framed, next_row, pair_on, row_by, row_on}
use Rattle.call_rows.proofs.Collecting.{row_ends}
use Rattle.call_rows.proofs.NestedEntries.{Nests, nests, nests_from, one_more}
use Rattle.call_rows.proofs.NumberedEvents.{as_many, numbered, other_events, other_numbered, own_events, own_numbered}
use Rattle.call_rows.proofs.SpentInCalls.{GoesOn}
use Rattle.call_rows.proofs.FrameSteps.{ends_at, framed_by, framed_next}
use Rattle.call_rows.proofs.RowsStay.{AllWhole, Each, Stays, StaysEnded, each_stays, ended_by, pairs_stay, parent_in, row_framed, row_in, row_stays, row_with, rows_same}

-- ---- frames

pub framed_more : GoesOn → (thread pid : ℕ) (e : Event) (h : List ThreadEvent)
    → framed_after (thread_event thread pid e ∷ h) thread ≡ next_framed (length h) pid e (framed_after h thread)
framed_more law thread pid e h =
    let own = history_of_thread thread h in
    ap (λ (ns : List NumberedEvent). framed_by ns (history_of_thread thread (thread_event thread pid e ∷ h))) (own_numbered thread pid e h)
    ∙ (ap (λ (es : List Event). framed_by (numbered (length h) pid e ∷ numbered_of_thread thread h) es) (own_events thread pid e h)
    ∙ framed_next law (length h) pid e (numbered_of_thread thread h) own (as_many thread h))

framed_other : (thread pid other : ℕ) (e : Event) (h : List ThreadEvent) → (thread ≡ other → ⊥)
    → framed_after (thread_event thread pid e ∷ h) other ≡ framed_after h other
framed_other thread pid other e h apart =
    ap (λ (ns : List NumberedEvent). framed_by ns (history_of_thread other (thread_event thread pid e ∷ h))) (other_numbered thread pid other e h apart)
    ∙ ap (λ (es : List Event). framed_by (numbered_of_thread other h) es) (other_events thread pid other e h apart)

-- ---- the pairs of a history, and those of its threads

of_thread-append : (thread : ℕ) (made more : List ThreadPair) → pairs_of_thread thread (made ++ more) ≡ pairs_of_thread thread made ++ pairs_of_thread thread more
of_thread-append thread made more =
    let test : ThreadPair → Bool = λ m. nat_eq m.thread thread in
    let pair : ThreadPair → Pair = λ m. m.pair in
    ap (map pair) (filter-append test made more) ∙ map-append pair (filter test made) (filter test more)

of_one : (other thread : ℕ) (pair : Option Pair)
    → pairs_of_thread other (map (thread_pair thread) (option_to_list pair)) ≡ cond (nat_eq thread other) (option_to_list pair) []
of_one other thread None = by_thread (nat_eq thread other)
  where
    by_thread : (b : Bool) → (let none : List Pair = [] in none) ≡ cond b [] []
    by_thread true = refl
    by_thread false = refl
of_one other thread (Some p) = by_thread (nat_eq thread other)
  where
    by_thread : (b : Bool) → map (λ (m : ThreadPair). m.pair) (cond b (thread_pair thread p ∷ []) []) ≡ cond b (p ∷ []) []
    by_thread true = refl
    by_thread false = refl

pub of_thread-pairs : (thread : ℕ) (h : List ThreadEvent) → pairs_of_thread thread (pairs_after h) ≡ pairs_in (history_of_thread thread h)
of_thread-pairs thread [] = refl
of_thread-pairs thread (e ∷ h) =
    of_thread-append thread (pairs_after h) (map (thread_pair e.thread) (option_to_list (pair_after e h)))
    ∙ (ap (λ (ps : List Pair). ps ++ pairs_of_thread thread (map (thread_pair e.thread) (option_to_list (pair_after e h)))) (of_thread-pairs thread h)
    ∙ (ap (λ (ps : List Pair). pairs_in (history_of_thread thread h) ++ ps) (of_one thread e.thread (pair_after e h))
    ∙ by_thread (nat_eq e.thread thread) refl))
  where
    by_thread : (b : Bool) → nat_eq e.thread thread ≡ b → pairs_in (history_of_thread thread h) ++ cond b (option_to_list (pair_after e h)) []
        ≡ pairs_in (cond b (e.event ∷ history_of_thread thread h) (history_of_thread thread h))
    by_thread true is =
        ap (λ (t : ℕ). pairs_in (history_of_thread thread h)
        ++ option_to_list (pair_at e.event (length (history_of_thread t h)) (open_calls (history_of_thread t h)))) (eqb-true e.thread thread is)
    by_thread false is = append-nil (pairs_in (history_of_thread thread h))

-- what holds of the pairs of each thread holds of all
pub of_threads : (Q : ThreadPair → Type 0) (xs : List ThreadPair) → ((thread : ℕ) → Each (λ (pair : Pair). Q (thread_pair thread pair)) (pairs_of_thread thread xs)) → Each Q xs
of_threads Q [] each = tt
of_threads Q (x ∷ xs) each = (own (nat_eq x.thread x.thread) (eq-eqb x.thread x.thread refl) (each x.thread), of_threads Q xs (λ thread. rest thread (nat_eq x.thread thread) (each thread)))
  where
    own : (b : Bool) → b ≡ true → Each (λ (pair : Pair). Q (thread_pair x.thread pair)) (map (λ (m : ThreadPair). m.pair) (cond b (x ∷ filter (λ (m : ThreadPair). nat_eq m.thread x.thread) xs) (filter (λ (m : ThreadPair). nat_eq m.thread x.thread) xs))) → Q x
    own true is every = every.0
    own false is every = absurd (let n : ⊥ = cc in n)

    rest : (thread : ℕ) (b : Bool) → Each (λ (pair : Pair). Q (thread_pair thread pair)) (map (λ (m : ThreadPair). m.pair) (cond b (x ∷ filter (λ (m : ThreadPair). nat_eq m.thread thread) xs) (filter (λ (m : ThreadPair). nat_eq m.thread thread) xs)))
        → Each (λ (pair : Pair). Q (thread_pair thread pair)) (pairs_of_thread thread xs)
    rest thread true every = every.1
    rest thread false every = every

map_each : {X Y : Type 0} (f g : X → Y) (xs : List X) → Each (λ (x : X). f x ≡ g x) xs → map f xs ≡ map g xs
map_each f g [] each = refl
map_each {Y = Y} f g (x ∷ xs) each = ap (λ (y : Y). y ∷ map f xs) each.0 ∙ ap (λ (l : List Y). g x ∷ l) (map_each f g xs each.1)

pub each_more : {X : Type 0} (P Q : X → Type 0) (xs : List X) → ((x : X) → P x → Q x) → Each P xs → Each Q xs
each_more P Q [] gives each = tt
each_more P Q (x ∷ xs) gives each = (gives x each.0, each_more P Q xs gives each.1)

each_always : {X : Type 0} (Q : X → Type 0) (xs : List X) → ((x : X) → Q x) → Each Q xs
each_always Q [] holds = tt
each_always Q (x ∷ xs) holds = (holds x, each_always Q xs holds)

-- ---- the rows that were made before

-- a row by the events of its thread, listed from the last one to the first
abbrev row_turned : List NumberedEvent → List Event → ThreadPair → CallRow
row_turned numbers own made = row_in (reverse numbers) (reverse own) made

-- the thread with the new event
turned_more : (thread pid : ℕ) (e : Event) (h : List ThreadEvent) (made : ThreadPair) → made.thread ≡ thread
    → call_row (thread_event thread pid e ∷ h) (thread_pair thread made.pair)
    ≡ row_in (reverse (numbered_of_thread thread h) ++ numbered (length h) pid e ∷ []) (reverse (history_of_thread thread h) ++ e ∷ []) (thread_pair thread made.pair)
turned_more thread pid e h made is =
    let one = thread_pair thread made.pair in
    let n = numbered (length h) pid e in
    let numbers = numbered_of_thread thread h in
    let own = history_of_thread thread h in
    ap (λ (ns : List NumberedEvent). row_turned ns (history_of_thread thread (thread_event thread pid e ∷ h)) one) (own_numbered thread pid e h)
    ∙ (ap (λ (es : List Event). row_turned (n ∷ numbers) es one) (own_events thread pid e h)
    ∙ (ap (λ (ns : List NumberedEvent). row_in ns (reverse (e ∷ own)) one) (reverse-append (n ∷ []) numbers)
    ∙ ap (λ (es : List Event). row_in (reverse numbers ++ n ∷ []) es one) (one_more e own)))

as_long : (thread : ℕ) (h : List ThreadEvent) → length (reverse (numbered_of_thread thread h)) ≡ length (reverse (history_of_thread thread h))
as_long thread h = length-reverse (numbered_of_thread thread h) ∙ (as_many thread h ∙ sym (length-reverse (history_of_thread thread h)))

-- the row of a pair of the thread of the new event
own_row : (thread pid : ℕ) (e : Event) (h : List ThreadEvent) (pair : Pair)
    → Stays (reverse (history_of_thread thread h)) e pair → call_row (thread_event thread pid e ∷ h) (thread_pair thread pair) ≡ call_row h (thread_pair thread pair)
own_row thread pid e h pair stays =
    let made = thread_pair thread pair in
    let n = numbered (length h) pid e in
    let ns = reverse (numbered_of_thread thread h) in
    turned_more thread pid e h made refl
    ∙ row_stays ns n (reverse (history_of_thread thread h)) e made (as_long thread h) stays.within
    (ap (λ (x : NumberedEvent). x.number) (get_or_append_left ns (n ∷ []) no_numbered pair.exit (omega (arith, stays.ended, as_long thread h)))) stays.own

other_row : (thread pid other : ℕ) (e : Event) (h : List ThreadEvent) (pair : Pair) → (thread ≡ other → ⊥)
    → call_row (thread_event thread pid e ∷ h) (thread_pair other pair) ≡ call_row h (thread_pair other pair)
other_row thread pid other e h pair apart =
    let made = thread_pair other pair in
    ap (λ (ns : List NumberedEvent). row_turned ns (history_of_thread other (thread_event thread pid e ∷ h)) made) (other_numbered thread pid other e h apart)
    ∙ ap (λ (es : List Event). row_turned (numbered_of_thread other h) es made) (other_events thread pid other e h apart)

rows_still : GoesOn → AllWhole → (thread pid : ℕ) (e : Event) (h : List ThreadEvent)
    → map (call_row (thread_event thread pid e ∷ h)) (pairs_after h) ≡ rows_after h
rows_still law whole thread pid e h =
    map_each (call_row (thread_event thread pid e ∷ h)) (call_row h) (pairs_after h) (of_threads Same (pairs_after h) (λ other. of_thread other (nat_eq thread other) refl))
  where
    Same : ThreadPair → Type 0
    Same made = call_row (thread_event thread pid e ∷ h) made ≡ call_row h made

    of_thread : (other : ℕ) (b : Bool) → nat_eq thread other ≡ b → Each (λ (pair : Pair). Same (thread_pair other pair)) (pairs_of_thread other (pairs_after h))
    of_thread other true is =
        let own = history_of_thread thread h in
        let P : ℕ → Type 0 = λ t. Each (λ (pair : Pair). Same (thread_pair t pair)) (pairs_of_thread t (pairs_after h)) in
        subst P (eqb-true thread other is)
        (subst (Each (λ (pair : Pair). Same (thread_pair thread pair))) (sym (of_thread-pairs thread h))
        (each_more (Stays (reverse own) e) (λ (pair : Pair). Same (thread_pair thread pair)) (pairs_in own) (own_row thread pid e h) (each_stays law whole own e)))
    of_thread other false is =
        each_always (λ (pair : Pair). Same (thread_pair other pair)) (pairs_of_thread other (pairs_after h))
        (λ pair. other_row thread pid other e h pair (eqb-false thread other is))

-- ---- the row of the call that the new event ends

row_found : (thread pid : ℕ) (e : Event) (h : List ThreadEvent) (found : List Call) → from_innermost e.func (open_calls (history_of_thread thread h)) ≡ found
    → StaysEnded (history_of_thread thread h) e found
    → map (call_row (thread_event thread pid e ∷ h)) (map (thread_pair thread) (option_to_list (pair_of_call e (length (history_of_thread thread h)) found)))
    ≡ option_to_list (next_row thread (length h) (pair_of_call e (length (history_of_thread thread h)) found) (length (left_open (open_calls (history_of_thread thread h)) found)) (framed_after h thread).frames)
row_found thread pid e h [] is stays = refl
row_found thread pid e h (ended ∷ outer) is stays =
    let own = history_of_thread thread h in
    let ns = reverse (numbered_of_thread thread h) in
    let es = reverse own in
    let pair : Pair = record { func = e.func; entry = ended.entry; exit = length own; duration = cycles_between ended.tsc e.tsc } in
    let f : Call → Frame = λ call. frame_by (get_or ns call.entry no_numbered) (spent_in es call.entry) in
    let fs = reverse (map f (open_calls own)) in
    let inner : Nests es (ended ∷ outer) = subst (Nests es) is (nests_from es e.func (open_calls own) (nests own)) in
    let at = ends_at f e.func (open_calls own) ended outer is in
    let size : length (map f outer) ≡ length outer = length-map outer f in
    let found : slice_get fs (length outer) ≡ Some (f ended) = ap (slice_get fs) (sym size) ∙ at.found in
    let left : take (length outer) fs ≡ reverse (map f outer) = ap (λ (k : ℕ). take k fs) (sym size) ∙ at.left in
    let n = numbered (length h) pid e in
    let last : (get_or (ns ++ n ∷ []) (length own) no_numbered).number ≡ length h =
    ap (λ (k : ℕ). (get_or (ns ++ n ∷ []) k no_numbered).number) (sym (as_long thread h ∙ length-reverse own))
    ∙ ap (λ (x : NumberedEvent). x.number) (get_or-append_seam ns n [] no_numbered) in
    let row : call_row (thread_event thread pid e ∷ h) (thread_pair thread pair) ≡ row_by thread (length h) pair (take (length outer) fs) (f ended) =
    turned_more thread pid e h (thread_pair thread pair) refl
    ∙ (rows_same ns n es e (thread_pair thread pair) (as_long thread h) inner.0 stays ((get_or (ns ++ n ∷ []) (length own) no_numbered).number)
    ∙ (ap (λ (k : ℕ). row_with (thread_pair thread pair) (get_or ns pair.entry no_numbered) (parent_in ns (open_before es pair.entry)) (pair.duration - spent_in es pair.entry)
    (length (open_before es pair.entry)) k) last
    ∙ (row_framed ns es thread (length h) pair ended outer refl inner.1 ∙ ap (λ (gs : List Frame). row_by thread (length h) pair gs (f ended)) (sym left)))) in
    ap (λ (r : CallRow). r ∷ []) row
    ∙ ap (λ (o : Option Frame). option_to_list (option_map (row_by thread (length h) pair (take (length outer) fs)) o)) (sym found)

row_kind : (k : Kind) (thread pid : ℕ) (e : Event) (h : List ThreadEvent) → StaysEnded (history_of_thread thread h) e (ended_by k e.func (open_calls (history_of_thread thread h)))
    → map (call_row (thread_event thread pid e ∷ h)) (map (thread_pair thread) (option_to_list (pair_at_kind k e (length (history_of_thread thread h)) (open_calls (history_of_thread thread h)))))
    ≡ option_to_list (next_row thread (length h) (pair_at_kind k e (length (history_of_thread thread h)) (open_calls (history_of_thread thread h)))
    (length (open_after_kind k e (length (history_of_thread thread h)) (open_calls (history_of_thread thread h)))) (framed_after h thread).frames)
row_kind Entry thread pid e h stays = refl
row_kind EntryArgs thread pid e h stays = refl
row_kind Exit thread pid e h stays = row_found thread pid e h (from_innermost e.func (open_calls (history_of_thread thread h))) refl stays
row_kind TailExit thread pid e h stays = row_found thread pid e h (from_innermost e.func (open_calls (history_of_thread thread h))) refl stays

pub rows_more : GoesOn → AllWhole → (thread pid : ℕ) (e : Event) (h : List ThreadEvent)
    → rows_after (thread_event thread pid e ∷ h) ≡ rows_after h ++ option_to_list (row_on thread (length h) e (framed_after h thread))
rows_more law whole thread pid e h =
    let said = thread_event thread pid e in
    let new = map (thread_pair thread) (option_to_list (pair_after said h)) in
    map-append (call_row (said ∷ h)) (pairs_after h) new
    ∙ (ap (λ (rows : List CallRow). rows ++ map (call_row (said ∷ h)) new) (rows_still law whole thread pid e h)
    ∙ ap (λ (rows : List CallRow). rows_after h ++ rows) (row_kind e.kind thread pid e h (pairs_stay law (history_of_thread thread h) e).ended))

-- ---- a fold

pub row_taken : GoesOn → AllWhole → (fold : CallFold) (pid : ℕ) (e : Event) (row : Option CallRow) (h : List ThreadEvent) → row ≡ row_on fold.thread fold.events e fold.own
    → Follows fold h → rows_after (thread_event fold.thread pid e ∷ h) ≡ rows_after h ++ option_to_list row
row_taken law whole fold pid e row h is follows =
    rows_more law whole fold.thread pid e h
    ∙ ap (λ (o : Option CallRow). rows_after h ++ option_to_list o) (sym (is ∙ (ap (λ (n : ℕ). row_on fold.thread n e fold.own) follows.count ∙ ap (row_on fold.thread (length h) e) follows.own)))

pub row_end_at : (fold : CallFold) (e : Event) (row : Option CallRow) (h : List ThreadEvent) → row ≡ row_on fold.thread fold.events e fold.own → Follows fold h
    → EndsAt (length h) row
row_end_at fold e row h is follows =
    let ends : EndsAt fold.events row =
    subst (EndsAt fold.events) (sym is) (row_ends fold.thread fold.events (pair_on e fold.own) (depth_on e fold.own) fold.own.frames) in
    subst (λ (n : ℕ). EndsAt n row) follows.count ends

pub follows_more : GoesOn → (fold new : CallFold) (pid : ℕ) (e : Event) (h : List ThreadEvent) → new.thread ≡ fold.thread → new.others ≡ fold.others
    → new.own ≡ next_framed fold.events pid e fold.own → new.events ≡ fold.events + 1
    → Follows fold h → Follows new (thread_event fold.thread pid e ∷ h)
follows_more law fold new pid e h thread others own events follows = record {
  count = omega (arith, events, follows.count);
  own =
      own
      ∙ (ap (λ (n : ℕ). next_framed n pid e fold.own) follows.count
      ∙ (ap (next_framed (length h) pid e) follows.own
      ∙ (sym (framed_more law fold.thread pid e h) ∙ ap (framed_after (thread_event fold.thread pid e ∷ h)) (sym thread))));
  others = λ other apart.
      let other_one : fold.thread ≡ other → ⊥ = λ same. apart (thread ∙ same) in
      ap (λ (threads : FramedThreads). framed_in threads other) others
      ∙ (follows.others other other_one ∙ sym (framed_other fold.thread pid other e h other_one));
}

-- all threads, once that at hand is put among the others
all_framed : (fold : CallFold) (h : List ThreadEvent) (threads : FramedThreads) → Follows fold h
    → ((other : ℕ) → get nat_eq threads other ≡ cond (nat_eq fold.thread other) (Some fold.own) (get nat_eq fold.others other))
    → (other : ℕ) → framed_in threads other ≡ framed_after h other
all_framed fold h threads follows put other = by_thread (nat_eq fold.thread other) refl
  where
    found : (b : Bool) → nat_eq fold.thread other ≡ b
        → framed_in threads other ≡ unwrap_or (cond b (Some fold.own) (get nat_eq fold.others other)) (framed_after [] other)
    found b is =
        ap (λ (o : Option Framed). unwrap_or o (framed_after [] other))
        (put other ∙ ap (λ (a : Bool). cond a (Some fold.own) (get nat_eq fold.others other)) is)

    by_thread : (b : Bool) → nat_eq fold.thread other ≡ b → framed_in threads other ≡ framed_after h other
    by_thread true is = found true is ∙ (follows.own ∙ ap (framed_after h) (eqb-true fold.thread other is))
    by_thread false is = found false is ∙ follows.others other (eqb-false fold.thread other is)

pub gone_to : (fold new : CallFold) (h : List ThreadEvent) (threads : FramedThreads) → Follows fold h
    → ((other : ℕ) → get nat_eq threads other ≡ cond (nat_eq fold.thread other) (Some fold.own) (get nat_eq fold.others other))
    → new.own ≡ framed_in threads new.thread
    → ((other : ℕ) → (new.thread ≡ other → ⊥) → framed_in new.others other ≡ framed_in threads other)
    → new.events ≡ fold.events → Follows new h
gone_to fold new h threads follows put taken others events =
    let all = all_framed fold h threads follows put in
    record {
      count = events ∙ follows.count;
      own = taken ∙ all new.thread;
      others = λ other apart. others other apart ∙ all other;
    }
