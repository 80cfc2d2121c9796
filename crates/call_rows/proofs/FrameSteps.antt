-- The frames of a thread after one more of its events.
use Rattle.std.proofs.Common.{◌≡◌, ◌<◌, ◌-◌, ◌+◌, ◌++◌, ◌∙◌, ℕ, zero, suc, Bool, true, false, cond, List, [], ◌∷◌, length, map, reverse, take, set, refl, ap, sym, subst, arith, nat_eq, get_or, Option, Some, length-append}
use Rattle.std.specs.Prelude.{slice_get}
use Rattle.std.proofs.Math.Seq.{get_or-append_seam, set-append_seam, take-append_seam}
use Rattle.std.proofs.lemmas.List.{get_or_append_left, length-map, length-reverse, reverse-append, reverse-reverse, take-append-le}
use Rattle.fdr_record.specs.declared.event.Event.{Event}
use Rattle.fdr_record.specs.declared.event.Kind.{Kind}
use Rattle.fdr_record.specs.declared.event.Kind.TheVariants.{Entry, Exit, TailExit, EntryArgs}
use Rattle.stack_rebuild.specs.declared.call.Call.{Call}
use Rattle.stack_rebuild.specs.declared.call.Pair.{Pair}
use Rattle.stack_rebuild.specs.Calls.{cycles_between, enters, from_innermost, left_open, open_after_kind, open_calls, pair_at_kind, pair_of_call, standing_after}
use Rattle.stack_rebuild.specs.OpenPaths.{OpenPath, Stacked, next_by_kind, open_paths, stacked_closing}
use Rattle.stack_rebuild.specs.Stacks.{spent_in, timed_pairs}
use Rattle.call_rows.specs.declared.frames.Frame.{Frame}
use Rattle.call_rows.specs.CallRows.{NumberedEvent, no_numbered}
use Rattle.call_rows.specs.private.Frames.{Framed, frame_by, left_of, more_spent, next_frames, next_framed, opened_frame}
use Rattle.call_rows.proofs.NestedEntries.{Nests, nests, nests_from, one_more}
use Rattle.call_rows.proofs.NumberedEvents.{numbered}
use Rattle.call_rows.proofs.SpentInCalls.{GoesOn, add_first, calls_of_law, spents, told_spent, told-more, told-paths, open_from-calls}

-- ---- the innermost frame

turned : {X : Type 0} (xs : List X) (x : X) → reverse (xs ++ x ∷ []) ≡ x ∷ reverse xs
turned xs x = reverse-append xs (x ∷ [])

abbrev spending : ℕ → Frame → Frame
spending duration frame = record frame { spent = frame.spent + duration }

spent_by : (following fs : List Frame) (n duration : ℕ) (frame new : Frame) → fs ≡ reverse following → n ≡ length fs → 0 < n → frame ≡ get_or fs (n - 1) frame
    → new ≡ spending duration frame → reverse (set fs (n - 1) new) ≡ more_spent duration following
spent_by [] fs n duration frame new is count some here spent = absurd (omega (arith, ap {B = ℕ} length is))
spent_by (f ∷ following) fs n duration frame new is count some here spent =
    let back : fs ≡ reverse following ++ f ∷ [] = is ∙ reverse-append (f ∷ []) following in
    let size : n - 1 ≡ length (reverse following) = omega (arith, ap {B = ℕ} length back, length-append (reverse following) (f ∷ [])) in
    let last : frame ≡ f =
    here ∙ (ap (λ (k : ℕ). get_or fs k frame) size ∙ (ap (λ (l : List Frame). get_or l (length (reverse following)) frame) back ∙ get_or-append_seam (reverse following) f [] frame)) in
    let changed : set fs (n - 1) new ≡ reverse following ++ new ∷ [] =
    ap (λ (k : ℕ). set fs k new) size ∙ (ap (λ (l : List Frame). set l (length (reverse following)) new) back ∙ set-append_seam (reverse following) f [] new) in
    ap reverse changed
    ∙ (turned (reverse following) new
    ∙ (ap (λ (l : List Frame). new ∷ l) (reverse-reverse following) ∙ ap (λ (g : Frame). g ∷ following) (spent ∙ ap (spending duration) last)))

pub spent_last : (fs : List Frame) (n duration : ℕ) (frame new : Frame) → n ≡ length fs → 0 < n → frame ≡ get_or fs (n - 1) frame → new ≡ spending duration frame
    → reverse (set fs (n - 1) new) ≡ more_spent duration (reverse fs)
spent_last fs n duration frame new count some here spent =
    spent_by (reverse fs) fs n duration frame new (sym (reverse-reverse fs)) count some here spent

-- ---- frames of calls

-- the frames of calls, from the innermost to the outermost, by the events of the thread, listed from the first one on
abbrev pub frames_in : List NumberedEvent → List Event → List Call → List Frame
frames_in ns es calls = map (λ call. frame_by (get_or ns call.entry no_numbered) (spent_in es call.entry)) calls

-- one more event, and nothing more was spent in these calls
frames_same : (ns : List NumberedEvent) (n : NumberedEvent) (es more : List Event) (calls : List Call) → length ns ≡ length es → Nests es calls
    → spents more calls ≡ spents es calls → frames_in (ns ++ n ∷ []) more calls ≡ frames_in ns es calls
frames_same ns n es more [] many nested spent = refl
frames_same ns n es more (call ∷ outer) many nested spent =
    let first : spent_in more call.entry ≡ spent_in es call.entry = cc in
    let later : spents more outer ≡ spents es outer = cc in
    let within : call.entry < length ns = omega (arith, nested.0) in
    ap (λ (x : NumberedEvent). frame_by x (spent_in more call.entry) ∷ frames_in (ns ++ n ∷ []) more outer) (get_or_append_left ns (n ∷ []) no_numbered call.entry within)
    ∙ (ap (λ (s : ℕ). frame_by (get_or ns call.entry no_numbered) s ∷ frames_in (ns ++ n ∷ []) more outer) first
    ∙ ap (λ (fs : List Frame). frame_by (get_or ns call.entry no_numbered) (spent_in es call.entry) ∷ fs) (frames_same ns n es more outer many nested.2 later))

-- one more event, and more was spent in the innermost of them
frames_more : (ns : List NumberedEvent) (n : NumberedEvent) (es more : List Event) (duration : ℕ) (calls : List Call) → length ns ≡ length es → Nests es calls
    → spents more calls ≡ add_first duration (spents es calls) → frames_in (ns ++ n ∷ []) more calls ≡ more_spent duration (frames_in ns es calls)
frames_more ns n es more duration [] many nested spent = refl
frames_more ns n es more duration (call ∷ outer) many nested spent =
    let first : spent_in more call.entry ≡ spent_in es call.entry + duration = cc in
    let later : spents more outer ≡ spents es outer = cc in
    let within : call.entry < length ns = omega (arith, nested.0) in
    ap (λ (x : NumberedEvent). frame_by x (spent_in more call.entry) ∷ frames_in (ns ++ n ∷ []) more outer) (get_or_append_left ns (n ∷ []) no_numbered call.entry within)
    ∙ (ap (λ (s : ℕ). frame_by (get_or ns call.entry no_numbered) s ∷ frames_in (ns ++ n ∷ []) more outer) first
    ∙ ap (λ (fs : List Frame). frame_by (get_or ns call.entry no_numbered) (spent_in es call.entry + duration) ∷ fs) (frames_same ns n es more outer many nested.2 later))

-- ---- the frame of the call that ends

get_within : (xs : List Frame) (x : Frame) (i : ℕ) (y : Frame) → slice_get xs i ≡ Some y → slice_get (xs ++ x ∷ []) i ≡ Some y
get_within [] x i y is = absurd (let n : ⊥ = cc in n)
get_within (z ∷ zs) x zero y is = is
get_within (z ∷ zs) x (suc i) y is = get_within zs x i y is

get_last : (xs : List Frame) (x : Frame) → slice_get (xs ++ x ∷ []) (length xs) ≡ Some x
get_last [] x = refl
get_last (z ∷ zs) x = get_last zs x

-- the frame of the innermost call of a function, and those outside it
pub record EndsAt (fs : List Frame) (frame : Frame) (outer : List Frame) : Type 0 where
  pub found : slice_get fs (length outer) ≡ Some frame
  pub left : take (length outer) fs ≡ reverse outer
  pub within : length outer < length fs

pub ends_at : (f : Call → Frame) (func : ℕ) (calls : List Call) (ended : Call) (outer : List Call) → from_innermost func calls ≡ ended ∷ outer
    → EndsAt (reverse (map f calls)) (f ended) (map f outer)
ends_at f func [] ended outer is = absurd (let n : ⊥ = cc in n)
ends_at f func (call ∷ calls) ended outer is = by_func (nat_eq call.func func) is (ends_at f func calls ended outer)
  where
    back : reverse (map f (call ∷ calls)) ≡ reverse (map f calls) ++ f call ∷ []
    back = reverse-append (f call ∷ []) (map f calls)

    here : EndsAt (reverse (map f calls) ++ f call ∷ []) (f call) (map f calls)
    here =
        let size : length (map f calls) ≡ length (reverse (map f calls)) = sym (length-reverse (map f calls)) in
        record {
          found = ap (λ (k : ℕ). slice_get (reverse (map f calls) ++ f call ∷ []) k) size ∙ get_last (reverse (map f calls)) (f call);
          left = ap (λ (k : ℕ). take k (reverse (map f calls) ++ f call ∷ [])) size ∙ take-append_seam (reverse (map f calls)) (f call ∷ []);
          within = omega (arith, length-append (reverse (map f calls)) (f call ∷ []), size);
        }

    there : EndsAt (reverse (map f calls)) (f ended) (map f outer) → EndsAt (reverse (map f calls) ++ f call ∷ []) (f ended) (map f outer)
    there e = record {
      found = get_within (reverse (map f calls)) (f call) (length (map f outer)) (f ended) e.found;
      left = take-append-le (length (map f outer)) (reverse (map f calls)) (f call ∷ []) (omega (arith, e.within)) ∙ e.left;
      within = omega (arith, length-append (reverse (map f calls)) (f call ∷ []), e.within);
    }

    by_func : (b : Bool) → cond b (call ∷ calls) (from_innermost func calls) ≡ ended ∷ outer
        → (from_innermost func calls ≡ ended ∷ outer → EndsAt (reverse (map f calls)) (f ended) (map f outer))
        → EndsAt (reverse (map f (call ∷ calls))) (f ended) (map f outer)
    by_func true is later =
        let one : call ≡ ended = cc in
        let rest : calls ≡ outer = cc in
        let P : List Frame → Type 0 = λ fs. EndsAt fs (f ended) (map f outer) in
        let Q : Call → Type 0 = λ c. EndsAt (reverse (map f calls) ++ f call ∷ []) (f c) (map f outer) in
        let R : List Call → Type 0 = λ cs. EndsAt (reverse (map f calls) ++ f call ∷ []) (f call) (map f cs) in
        subst P (sym back) (subst Q one (subst R rest here))
    by_func false is later = let P : List Frame → Type 0 = λ fs. EndsAt fs (f ended) (map f outer) in subst P (sym back) (there (later is))

-- ---- one more event of a thread

-- a thread by its events, listed from the last one to the first
abbrev pub framed_by : List NumberedEvent → List Event → Framed
framed_by numbers own = record { standing = standing_after own; frames = reverse (frames_in (reverse numbers) (reverse own) (open_calls own)) }

-- its open calls with what was spent in them, and its pairs
abbrev pub stacked_by : List Event → Stacked
stacked_by own = record { calls = open_paths (reverse own) (open_calls own); pairs = timed_pairs (reverse own) }

opened : (number pid : ℕ) (e : Event) (numbers : List NumberedEvent) (own : List Event) → length numbers ≡ length own
    → 0 ∷ told_spent (open_paths (reverse own) (open_calls own))
    ≡ spents (reverse own ++ e ∷ []) (record { entry = length own; func = e.func; tsc = e.tsc } ∷ open_calls own)
    → reverse (frames_in (reverse numbers ++ numbered number pid e ∷ []) (reverse own ++ e ∷ []) (record { entry = length own; func = e.func; tsc = e.tsc } ∷ open_calls own))
    ≡ reverse (frames_in (reverse numbers) (reverse own) (open_calls own)) ++ opened_frame number pid e ∷ []
opened number pid e numbers own many law =
    let n = numbered number pid e in
    let ns = reverse numbers in
    let es = reverse own in
    let none : spent_in (es ++ e ∷ []) (length own) ≡ 0 = cc in
    let told : told_spent (open_paths es (open_calls own)) ≡ spents (es ++ e ∷ []) (open_calls own) = cc in
    let rest : spents (es ++ e ∷ []) (open_calls own) ≡ spents es (open_calls own) = sym told ∙ told-paths es (open_calls own) in
    let size : length ns ≡ length own = length-reverse numbers ∙ many in
    let last : get_or (ns ++ n ∷ []) (length own) no_numbered ≡ n =
    ap (λ (k : ℕ). get_or (ns ++ n ∷ []) k no_numbered) (sym size) ∙ get_or-append_seam ns n [] no_numbered in
    let same : frames_in (ns ++ n ∷ []) (es ++ e ∷ []) (open_calls own) ≡ frames_in ns es (open_calls own) =
    frames_same ns n es (es ++ e ∷ []) (open_calls own) (size ∙ sym (length-reverse own)) (nests own) rest in
    ap (λ (fs : List Frame). reverse (frame_by (get_or (ns ++ n ∷ []) (length own) no_numbered) (spent_in (es ++ e ∷ []) (length own)) ∷ fs)) same
    ∙ (ap (λ (s : ℕ). reverse (frame_by (get_or (ns ++ n ∷ []) (length own) no_numbered) s ∷ frames_in ns es (open_calls own))) none
    ∙ (ap (λ (x : NumberedEvent). reverse (frame_by x 0 ∷ frames_in ns es (open_calls own))) last
    ∙ reverse-append (opened_frame number pid e ∷ []) (frames_in ns es (open_calls own))))

closed : (number pid : ℕ) (e : Event) (numbers : List NumberedEvent) (own : List Event) → length numbers ≡ length own
    → (found : List Call) → from_innermost e.func (open_calls own) ≡ found
    → told_spent (stacked_closing e (stacked_by own) (open_paths (reverse own) found)).calls ≡ spents (reverse own ++ e ∷ []) (left_open (open_calls own) found)
    → reverse (frames_in (reverse numbers ++ numbered number pid e ∷ []) (reverse own ++ e ∷ []) (left_open (open_calls own) found))
    ≡ next_frames number pid e false (pair_of_call e (length own) found) (length (left_open (open_calls own) found)) (reverse (frames_in (reverse numbers) (reverse own) (open_calls own)))
closed number pid e numbers own many [] is law =
    ap reverse
    (frames_same (reverse numbers) (numbered number pid e) (reverse own) (reverse own ++ e ∷ []) (open_calls own) (length-reverse numbers ∙ (many ∙ sym (length-reverse own))) (nests own)
    (sym law ∙ told-paths (reverse own) (open_calls own)))
closed number pid e numbers own many (ended ∷ outer) is law =
    let n = numbered number pid e in
    let ns = reverse numbers in
    let es = reverse own in
    let duration = cycles_between ended.tsc e.tsc in
    let pair : Pair = record { func = e.func; entry = ended.entry; exit = length own; duration = duration } in
    let f : Call → Frame = λ call. frame_by (get_or ns call.entry no_numbered) (spent_in es call.entry) in
    let fs = reverse (map f (open_calls own)) in
    let inner : Nests es (ended ∷ outer) = subst (Nests es) is (nests_from es e.func (open_calls own) (nests own)) in
    let more : frames_in (ns ++ n ∷ []) (es ++ e ∷ []) outer ≡ more_spent duration (map f outer) =
    frames_more ns n es (es ++ e ∷ []) duration outer (length-reverse numbers ∙ (many ∙ sym (length-reverse own))) inner.2 (sym law ∙ told-more duration es outer) in
    let at = ends_at f e.func (open_calls own) ended outer is in
    let size : length (map f outer) ≡ length outer = length-map outer f in
    let found : slice_get fs (length outer) ≡ Some (f ended) = ap (slice_get fs) (sym size) ∙ at.found in
    let left : reverse (take (length outer) fs) ≡ map f outer = ap (λ (k : ℕ). reverse (take k fs)) (sym size) ∙ (ap reverse at.left ∙ reverse-reverse (map f outer)) in
    ap reverse more
    ∙ (ap (λ (gs : List Frame). reverse (more_spent duration gs)) (sym left)
    ∙ ap (λ (o : Option Frame). left_of pair (length outer) o fs) (sym found))

frames_kind : (k : Kind) (number pid : ℕ) (e : Event) (numbers : List NumberedEvent) (own : List Event) → length numbers ≡ length own
    → told_spent (next_by_kind k e (stacked_by own)).calls ≡ spents (reverse own ++ e ∷ []) (open_after_kind k e (length own) (open_calls own))
    → reverse (frames_in (reverse numbers ++ numbered number pid e ∷ []) (reverse own ++ e ∷ []) (open_after_kind k e (length own) (open_calls own)))
    ≡ next_frames number pid e (enters k) (pair_at_kind k e (length own) (open_calls own)) (length (open_after_kind k e (length own) (open_calls own)))
    (reverse (frames_in (reverse numbers) (reverse own) (open_calls own)))
frames_kind Entry number pid e numbers own many law = opened number pid e numbers own many law
frames_kind EntryArgs number pid e numbers own many law = opened number pid e numbers own many law
frames_kind Exit number pid e numbers own many law =
    closed number pid e numbers own many (from_innermost e.func (open_calls own)) refl
    (ap (λ (ps : List OpenPath). told_spent (stacked_closing e (stacked_by own) ps).calls) (sym (open_from-calls (reverse own) e.func (open_calls own))) ∙ law)
frames_kind TailExit number pid e numbers own many law =
    closed number pid e numbers own many (from_innermost e.func (open_calls own)) refl
    (ap (λ (ps : List OpenPath). told_spent (stacked_closing e (stacked_by own) ps).calls) (sym (open_from-calls (reverse own) e.func (open_calls own))) ∙ law)

pub framed_next : GoesOn → (number pid : ℕ) (e : Event) (numbers : List NumberedEvent) (own : List Event) → length numbers ≡ length own
    → framed_by (numbered number pid e ∷ numbers) (e ∷ own) ≡ next_framed number pid e (framed_by numbers own)
framed_next law number pid e numbers own many =
    let n = numbered number pid e in
    ap (λ (fs : List Frame). record { standing = standing_after (e ∷ own); frames = fs })
    (ap (λ (ns : List NumberedEvent). reverse (frames_in ns (reverse (e ∷ own)) (open_calls (e ∷ own)))) (reverse-append (n ∷ []) numbers)
    ∙ (ap (λ (es : List Event). reverse (frames_in (reverse numbers ++ n ∷ []) es (open_calls (e ∷ own)))) (one_more e own)
    ∙ frames_kind e.kind number pid e numbers own many (calls_of_law law e own)))
