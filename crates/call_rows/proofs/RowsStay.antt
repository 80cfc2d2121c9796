-- The row of a pair is as it was after more events, and the row of a new pair.
use Rattle.std.proofs.Common.{◌≡◌, ◌<◌, ◌≤◌, ◌-◌, ◌++◌, ◌∙◌, ℕ, List, [], ◌∷◌, length, map, reverse, take, refl, ap, sym, subst, arith, get_or, Option, Some}
use Rattle.std.specs.Prelude.{All, option_map}
use Rattle.std.specs.Option.{option_to_list}
use Rattle.std.proofs.lemmas.List.{append-nil, get_or_append_left, length-map, length-reverse, length-take-le, map-append, reverse-reverse}
use Rattle.std.proofs.lemmas.List.Elements.{All-head, All-tail}
use Rattle.fdr_record.specs.declared.event.Event.{Event}
use Rattle.fdr_record.specs.declared.event.Kind.{Kind}
use Rattle.fdr_record.specs.declared.event.Kind.TheVariants.{Entry, Exit, TailExit, EntryArgs}
use Rattle.stack_rebuild.specs.declared.call.Call.{Call}
use Rattle.stack_rebuild.specs.declared.call.Pair.{Pair}
use Rattle.stack_rebuild.specs.Calls.{cycles_between, from_innermost, open_calls, pair_at_kind, pair_of_call, pairs_in, pairs_of}
use Rattle.stack_rebuild.specs.Histories.{ThreadPair, thread_pair}
use Rattle.stack_rebuild.specs.OpenPaths.{OpenPath, next_by_kind, open_paths, pair_of_open, stacked_closing}
use Rattle.stack_rebuild.specs.PairLaws.{IsWholeCall, innermost_entry}
use Rattle.stack_rebuild.specs.Stacks.{Timed, open_before, path_of, spent_in, timed, timed_pairs}
use Rattle.call_rows.specs.declared.row.CallRow.{CallRow}
use Rattle.call_rows.specs.CallRows.{NumberedEvent, logged_arg, no_numbered}
use Rattle.call_rows.specs.private.Frames.{first_number, frame_by, row_by}
use Rattle.call_rows.proofs.NestedEntries.{Nests, nests, open_kept}
use Rattle.call_rows.proofs.FrameSteps.{frames_in, stacked_by}
use Rattle.call_rows.proofs.SpentInCalls.{GoesOn, open_from-calls, pairs_of_law}

-- ---- rows by the events of a thread, listed from the first one to the last

abbrev pub parent_in : List NumberedEvent → List Call → Option ℕ
parent_in ns outer = option_map (λ at. (get_or ns at no_numbered).number) (innermost_entry outer)

abbrev pub row_with : ThreadPair → NumberedEvent → Option ℕ → ℕ → ℕ → ℕ → CallRow
row_with made entry parent own depth end = record {
  call = entry.number;
  parent = parent;
  thread = made.thread;
  process = entry.pid;
  cpu = entry.event.cpu;
  start = entry.event.tsc;
  duration = made.pair.duration;
  own = own;
  depth = depth;
  arg = logged_arg entry.event;
  func = made.pair.func;
  end = end;
}

abbrev pub row_in : List NumberedEvent → List Event → ThreadPair → CallRow
row_in ns es made =
    row_with made (get_or ns made.pair.entry no_numbered) (parent_in ns (open_before es made.pair.entry)) (made.pair.duration - spent_in es made.pair.entry) (length (open_before es made.pair.entry)) (get_or ns made.pair.exit no_numbered).number

-- ---- one more event

abbrev HeadBelow : ℕ → List Call → Type 0
HeadBelow n [] = Unit {0}
HeadBelow n (call ∷ outer) = call.entry < n

head_below : (n : ℕ) (events : List Event) (calls : List Call) → length events ≤ n → Nests events calls → HeadBelow n calls
head_below n events [] low nested = tt
head_below n events (call ∷ outer) low nested = omega (arith, nested.0)

parent_stays : (ns : List NumberedEvent) (n : NumberedEvent) (calls : List Call) → HeadBelow (length ns) calls → parent_in (ns ++ n ∷ []) calls ≡ parent_in ns calls
parent_stays ns n [] low = refl
parent_stays ns n (call ∷ outer) low = ap (λ (x : NumberedEvent). Some x.number) (get_or_append_left ns (n ∷ []) no_numbered call.entry low)

-- what is left of the duration of a pair's call without its direct children stays
abbrev pub StaysOwn : List Event → Event → Pair → Type 0
StaysOwn es e pair = pair.duration - spent_in (es ++ e ∷ []) pair.entry ≡ pair.duration - spent_in es pair.entry

-- all but the number of the exit
pub rows_same : (ns : List NumberedEvent) (n : NumberedEvent) (es : List Event) (e : Event) (made : ThreadPair) → length ns ≡ length es → made.pair.entry < length es
    → StaysOwn es e made.pair → (end : ℕ)
    → row_with made (get_or (ns ++ n ∷ []) made.pair.entry no_numbered) (parent_in (ns ++ n ∷ []) (open_before (es ++ e ∷ []) made.pair.entry))
    (made.pair.duration - spent_in (es ++ e ∷ []) made.pair.entry) (length (open_before (es ++ e ∷ []) made.pair.entry)) end
    ≡ row_with made (get_or ns made.pair.entry no_numbered) (parent_in ns (open_before es made.pair.entry)) (made.pair.duration - spent_in es made.pair.entry)
    (length (open_before es made.pair.entry)) end
rows_same ns n es e made many within stays end =
    let at = made.pair.entry in
    let opens : open_before (es ++ e ∷ []) at ≡ open_before es at = open_kept es e at (omega (arith, within)) in
    let size : length (reverse (reverse (take at es))) ≡ at = length-reverse (reverse (take at es)) ∙ (length-reverse (take at es) ∙ length-take-le at es (omega (arith, within))) in
    let low : HeadBelow (length ns) (open_before es at) =
    head_below (length ns) (reverse (reverse (take at es))) (open_before es at) (omega (arith, size, within, many)) (nests (reverse (take at es))) in
    ap (λ (calls : List Call). row_with made (get_or (ns ++ n ∷ []) at no_numbered) (parent_in (ns ++ n ∷ []) calls) (made.pair.duration - spent_in (es ++ e ∷ []) at) (length calls) end) opens
    ∙ (ap (λ (x : NumberedEvent). row_with made x (parent_in (ns ++ n ∷ []) (open_before es at)) (made.pair.duration - spent_in (es ++ e ∷ []) at) (length (open_before es at)) end)
    (get_or_append_left ns (n ∷ []) no_numbered at (omega (arith, within, many)))
    ∙ (ap (λ (p : Option ℕ). row_with made (get_or ns at no_numbered) p (made.pair.duration - spent_in (es ++ e ∷ []) at) (length (open_before es at)) end) (parent_stays ns n (open_before es at) low)
    ∙ ap (λ (own : ℕ). row_with made (get_or ns at no_numbered) (parent_in ns (open_before es at)) own (length (open_before es at)) end) stays))

pub row_stays : (ns : List NumberedEvent) (n : NumberedEvent) (es : List Event) (e : Event) (made : ThreadPair) → length ns ≡ length es → made.pair.entry < length es
    → (get_or (ns ++ n ∷ []) made.pair.exit no_numbered).number ≡ (get_or ns made.pair.exit no_numbered).number
    → StaysOwn es e made.pair → row_in (ns ++ n ∷ []) (es ++ e ∷ []) made ≡ row_in ns es made
row_stays ns n es e made many within ends stays =
    rows_same ns n es e made many within stays ((get_or (ns ++ n ∷ []) made.pair.exit no_numbered).number)
    ∙ ap (λ (k : ℕ). row_with made (get_or ns made.pair.entry no_numbered) (parent_in ns (open_before es made.pair.entry)) (made.pair.duration - spent_in es made.pair.entry)
    (length (open_before es made.pair.entry)) k) ends

-- ---- the row of a pair whose call is open, by its frame

first_is : (ns : List NumberedEvent) (es : List Event) (outer : List Call) → parent_in ns outer ≡ first_number (frames_in ns es outer)
first_is ns es [] = refl
first_is ns es (call ∷ outer) = refl

pub row_framed : (ns : List NumberedEvent) (es : List Event) (thread number : ℕ) (pair : Pair) (ended : Call) (outer : List Call) → pair.entry ≡ ended.entry
    → open_before es ended.entry ≡ outer
    → row_with (thread_pair thread pair) (get_or ns pair.entry no_numbered) (parent_in ns (open_before es pair.entry)) (pair.duration - spent_in es pair.entry)
    (length (open_before es pair.entry)) number
    ≡ row_by thread number pair (reverse (frames_in ns es outer)) (frame_by (get_or ns ended.entry no_numbered) (spent_in es ended.entry))
row_framed ns es thread number pair ended outer at is =
    let made = thread_pair thread pair in
    let size : length outer ≡ length (reverse (frames_in ns es outer)) = sym (length-reverse (frames_in ns es outer) ∙ length-map outer (λ (call : Call). frame_by (get_or ns call.entry no_numbered) (spent_in es call.entry))) in
    let parent : parent_in ns outer ≡ first_number (reverse (reverse (frames_in ns es outer))) = first_is ns es outer ∙ ap first_number (sym (reverse-reverse (frames_in ns es outer))) in
    ap (λ (p : ℕ). row_with made (get_or ns p no_numbered) (parent_in ns (open_before es p)) (pair.duration - spent_in es p) (length (open_before es p)) number) at
    ∙ (ap (λ (calls : List Call). row_with made (get_or ns ended.entry no_numbered) (parent_in ns calls) (pair.duration - spent_in es ended.entry) (length calls) number) is
    ∙ (ap (λ (p : Option ℕ). row_with made (get_or ns ended.entry no_numbered) p (pair.duration - spent_in es ended.entry) (length outer) number) parent
    ∙ ap (λ (k : ℕ). row_with made (get_or ns ended.entry no_numbered) (first_number (reverse (reverse (frames_in ns es outer)))) (pair.duration - spent_in es ended.entry) k number) size))

-- ---- what the law says of pairs

abbrev pub Each : {X : Type 0} → (X → Type 0) → List X → Type 0
Each P [] = Unit {0}
Each P (x ∷ xs) = P x × Each P xs

pub each_of_all : {X : Type 0} (P : X → Type 0) (xs : List X) → All P xs → Each P xs
each_of_all P [] all = tt
each_of_all P (x ∷ xs) all = (All-head P x xs all, each_of_all P xs (All-tail P x xs all))

-- the laws of pairs
abbrev pub AllWhole : Type 0
AllWhole = (events : List Event) → All (IsWholeCall events) (pairs_of events)

-- a pair was made before, and its row stays
pub record Stays (es : List Event) (e : Event) (pair : Pair) : Type 0 where
  pub within : pair.entry < length es
  pub ended : pair.exit < length es
  pub own : StaysOwn es e pair

both : (es : List Event) (e : Event) (pairs : List Pair) → Each (IsWholeCall es) pairs → map (timed (es ++ e ∷ [])) pairs ≡ map (timed es) pairs → Each (Stays es e) pairs
both es e [] whole same = tt
both es e (pair ∷ pairs) whole same =
    let first : timed (es ++ e ∷ []) pair ≡ timed es pair = cc in
    let later : map (timed (es ++ e ∷ [])) pairs ≡ map (timed es) pairs = cc in
    let is = whole.0 in
    (record { within = omega (arith, is.rises, is.within); ended = is.within; own = ap (λ (t : Timed). t.own) first }, both es e pairs whole.1 later)

-- equal lists that begin with as many items
split : {X Y : Type 0} (f g : X → Y) (xs : List X) (ys zs : List Y) → map g xs ++ ys ≡ map f xs ++ zs → (map f xs ≡ map g xs) × (ys ≡ zs)
split f g [] ys zs same = (refl, same)
split {Y = Y} f g (x ∷ xs) ys zs same =
    let first : g x ≡ f x = cc in
    let later : map g xs ++ ys ≡ map f xs ++ zs = cc in
    let there = split f g xs ys zs later in
    (ap (λ (y : Y). y ∷ map f xs) (sym first) ∙ ap (λ (l : List Y). g x ∷ l) there.0, there.1)

-- the call that ends, and what is left of its duration
abbrev pub StaysEnded : List Event → Event → List Call → Type 0
StaysEnded own e [] = Unit {0}
StaysEnded own e (ended ∷ outer) = StaysOwn (reverse own) e (record { func = e.func; entry = ended.entry; exit = length own; duration = cycles_between ended.tsc e.tsc })

pub record PairsStay (own : List Event) (e : Event) (found : List Call) : Type 0 where
  pub before : map (timed (reverse own ++ e ∷ [])) (pairs_in own) ≡ map (timed (reverse own)) (pairs_in own)
  pub ended : StaysEnded own e found

made_before : (own : List Event) → timed_pairs (reverse own) ≡ map (timed (reverse own)) (pairs_in own)
made_before own = ap (λ (es : List Event). map (timed (reverse own)) (pairs_in es)) (reverse-reverse own)

closed_pairs : (own : List Event) (e : Event) (found : List Call)
    → (stacked_closing e (stacked_by own) (open_paths (reverse own) found)).pairs ≡ map (timed (reverse own ++ e ∷ [])) (pairs_in own ++ option_to_list (pair_of_call e (length own) found))
    → PairsStay own e found
closed_pairs own e [] law = record {
  before = sym (sym (made_before own) ∙ (law ∙ ap (map (timed (reverse own ++ e ∷ []))) (append-nil (pairs_in own))));
  ended = tt;
}
closed_pairs own e (ended ∷ outer) law =
    let es = reverse own in
    let f = timed (es ++ e ∷ []) in
    let g = timed es in
    let pair : Pair = record { func = e.func; entry = ended.entry; exit = length own; duration = cycles_between ended.tsc e.tsc } in
    let open_one : OpenPath = record { func = ended.func; path = path_of (ended ∷ outer); tsc = ended.tsc; spent = spent_in es ended.entry } in
    let same : map g (pairs_in own) ++ pair_of_open e open_one ∷ [] ≡ map f (pairs_in own) ++ f pair ∷ [] =
    ap (λ (ts : List Timed). ts ++ pair_of_open e open_one ∷ []) (sym (made_before own)) ∙ (law ∙ map-append f (pairs_in own) (pair ∷ [])) in
    let parts = split f g (pairs_in own) (pair_of_open e open_one ∷ []) (f pair ∷ []) same in
    let last : pair_of_open e open_one ≡ f pair = let is = parts.1 in cc in
    record { before = parts.0; ended = ap (λ (t : Timed). t.own) (sym last) }

-- the call that an event of a kind ends and those outside it
abbrev pub ended_by : Kind → ℕ → List Call → List Call
ended_by Entry func calls = []
ended_by EntryArgs func calls = []
ended_by Exit func calls = from_innermost func calls
ended_by TailExit func calls = from_innermost func calls

kind_pairs : (k : Kind) (own : List Event) (e : Event)
    → (next_by_kind k e (stacked_by own)).pairs ≡ map (timed (reverse own ++ e ∷ [])) (pairs_in own ++ option_to_list (pair_at_kind k e (length own) (open_calls own)))
    → PairsStay own e (ended_by k e.func (open_calls own))
kind_pairs Entry own e law = closed_pairs own e [] law
kind_pairs EntryArgs own e law = closed_pairs own e [] law
kind_pairs Exit own e law =
    closed_pairs own e (from_innermost e.func (open_calls own))
    (ap (λ (ps : List OpenPath). (stacked_closing e (stacked_by own) ps).pairs) (sym (open_from-calls (reverse own) e.func (open_calls own))) ∙ law)
kind_pairs TailExit own e law =
    closed_pairs own e (from_innermost e.func (open_calls own))
    (ap (λ (ps : List OpenPath). (stacked_closing e (stacked_by own) ps).pairs) (sym (open_from-calls (reverse own) e.func (open_calls own))) ∙ law)

pub pairs_stay : GoesOn → (own : List Event) (e : Event) → PairsStay own e (ended_by e.kind e.func (open_calls own))
pairs_stay law own e = kind_pairs e.kind own e (pairs_of_law law e own)

-- each pair of a thread was made before its next event, and its row stays
pub each_stays : GoesOn → AllWhole → (own : List Event) (e : Event) → Each (Stays (reverse own) e) (pairs_in own)
each_stays law whole own e =
    let all : All (IsWholeCall (reverse own)) (pairs_in own) =
    subst (λ (es : List Event). All (IsWholeCall (reverse own)) (pairs_in es)) (reverse-reverse own) (whole (reverse own)) in
    both (reverse own) e (pairs_in own) (each_of_all (IsWholeCall (reverse own)) (pairs_in own) all) (pairs_stay law own e).before
