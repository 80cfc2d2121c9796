-- A fold after one more block or event.
use Rattle.std.proofs.Common.{◌≡◌, ◌++◌, ◌<◌, ◌∙◌, ℕ, Bool, true, false, cond, List, [], ◌∷◌, length, reverse, refl, ap, sym, subst, arith, nat_eq, Option, None, Some}
use Rattle.std.specs.Prelude.{All}
use Rattle.std.specs.HashMap.{get}
use Rattle.std.proofs.lemmas.Bool.{eqb-false, eqb-true}
use Rattle.std.proofs.lemmas.List.{reverse-reverse}
use Rattle.std.proofs.lemmas.List.Elements.{All-cons, All-nil}
use Rattle.std.proofs.lemmas.List.Sorted.{All-permutation, IsPermutation-reverse}
use Rattle.fdr_record.specs.declared.event.Event.{Event}
use Rattle.fdr_file.specs.declared.trace.Block.{Block}
use Rattle.fdr_file.specs.Scanning.{longer_block}
use Rattle.fdr_file.specs.ThreadEvents.{ThreadEvent}
use Rattle.stack_rebuild.specs.declared.call.Call.{Call}
use Rattle.stack_rebuild.specs.declared.fold.StackFold.{StackFold}
use Rattle.stack_rebuild.specs.declared.thread_stack.Frame.{Frame}
use Rattle.stack_rebuild.specs.declared.thread_stack.ThreadStack.{ThreadStack}
use Rattle.stack_rebuild.specs.Calls.{open_calls, standing_after}
use Rattle.stack_rebuild.specs.Histories.{history_of, history_of_thread, thread_event}
use Rattle.stack_rebuild.specs.Stacks.{Timed, gets_deep, most_open}
use Rattle.stack_rebuild.specs.private.Folding.{Folds, IsFold, IsFollowed, IsStack, IsStackOf, Threads}
use Rattle.stack_rebuild.specs.private.Scanning.{AreFrames, AreWithin, Follows, Keeps, timed_now}
use Rattle.stack_rebuild.specs.PathSums.{Summed}
use Rattle.stack_rebuild.proofs.DeepThreads.{deep_still, followed_down, followed_shallow, least_new, least_past, least_same}
use Rattle.stack_rebuild.proofs.Frames.{frames_kept}
use Rattle.stack_rebuild.proofs.GrowingHistories.{history_more, history_same, other_same, own_more, same_last, timed_more}

-- ---- the stack of a thread

-- the frames' paths have numbers
frames_within : (paths : List (List ℕ)) (events : List Event) (fs : List Frame) (calls : List Call) → AreFrames paths events fs calls
    → All (λ (frame : Frame). frame.path < length paths) fs
frames_within paths events [] [] all = All-nil (λ (frame : Frame). frame.path < length paths)
frames_within paths events [] (call ∷ outer) all = absurd all
frames_within paths events (f ∷ fs) [] all = absurd all
frames_within paths events (f ∷ fs) (call ∷ outer) all =
    All-cons (λ (frame : Frame). frame.path < length paths) f fs all.0.within (frames_within paths events fs outer all.1)

pub stack_within : (stack : ThreadStack) (paths : List (List ℕ)) (history : List Event) → 0 < length paths → IsStack stack paths history
    → AreWithin paths stack.frames.items
stack_within stack paths history some is =
    let fs = stack.frames.items in (
      some,
      subst (All (λ (frame : Frame). frame.path < length paths)) (reverse-reverse fs)
          (All-permutation (λ (frame : Frame). frame.path < length paths) (reverse fs) (reverse (reverse fs)) (IsPermutation-reverse (reverse fs))
          (frames_within paths (reverse history) (reverse fs) (open_calls history) is.framed)),
    )

stack_kept : (o : Option ThreadStack) (paths paths' : List (List ℕ)) (history : List Event) → Keeps paths paths' → IsStackOf o paths history → IsStackOf o paths' history
stack_kept None paths paths' history keeps is = is
stack_kept (Some stack) paths paths' history keeps is = record {
  stands = is.stands;
  framed = frames_kept paths paths' (reverse history) (reverse history) (reverse stack.frames.items) (open_calls history) keeps (λ at. refl) is.framed;
}

-- ---- one more event

-- whether a thread had too many calls open
abbrev is_deep : List ThreadEvent → ℕ → Bool
is_deep history thread = gets_deep most_open (history_of_thread thread history)

other_deep : (thread pid : ℕ) (e : Event) (history : List ThreadEvent) (other : ℕ) → (thread ≡ other → ⊥)
    → is_deep (thread_event thread pid e ∷ history) other ≡ is_deep history other
other_deep thread pid e history other apart = ap (gets_deep most_open) (other_same thread pid other e history apart)

-- the thread isn't followed
event_past : (fold : StackFold) (history : List ThreadEvent) (pid : ℕ) (e : Event) → (IsFollowed fold.deep fold.thread → ⊥) → IsFold fold history
    → IsFold fold (thread_event fold.thread pid e ∷ history)
event_past fold history pid e past is = record {
  deepest = least_past (is_deep history) (is_deep (thread_event fold.thread pid e ∷ history)) fold.thread fold.deep (other_deep fold.thread pid e history)
      (λ deep. ap (gets_deep most_open) (own_more fold.thread pid e history) ∙ deep_still most_open e (history_of_thread fold.thread history) deep) past is.deepest;
  own = λ followed. absurd (past followed);
  others = λ other apart followed.
      subst (IsStackOf (get nat_eq fold.others other) fold.sums.paths) (sym (other_same fold.thread pid other e history apart)) (is.others other apart followed);
  pairs = is.pairs;
  summed = is.summed;
  all = λ none. absurd (past (subst (λ (o : Option ℕ). IsFollowed o fold.thread) (sym none) tt));
}

-- what an event of the thread brings
pub record Goes (fold : StackFold) (stack : ThreadStack) (sums : Summed) (e : Event) : Type 0 where
  pub follows : (pairs : List Timed) (history : List Event) → Follows fold.stack.calls fold.stack.frames.items fold.sums.paths fold.sums.tallies pairs history
      → Follows stack.calls stack.frames.items sums.paths sums.tallies (pairs ++ timed_now e history) (e ∷ history)
  pub keeps : Keeps fold.sums.paths sums.paths

event_goes : (fold : StackFold) (stack : ThreadStack) (sums : Summed) (history : List ThreadEvent) (e : Event) → Goes fold stack sums e → IsFollowed fold.deep fold.thread
    → (is : IsFold fold history)
    → Follows stack.calls stack.frames.items sums.paths sums.tallies (is.pairs ++ timed_now e (history_of_thread fold.thread history)) (e ∷ history_of_thread fold.thread history)
event_goes fold stack sums history e goes followed is =
    let own = is.own followed in
    goes.follows is.pairs (history_of_thread fold.thread history) (record { stands = own.stands; framed = own.framed; summed = is.summed })

-- the thread is followed, and has few calls open
event_few : (fold : StackFold) (stack : ThreadStack) (sums : Summed) (history : List ThreadEvent) (pid : ℕ) (e : Event) → Goes fold stack sums e
    → IsFollowed fold.deep fold.thread → gets_deep most_open (e ∷ history_of_thread fold.thread history) ≡ false → IsFold fold history
    → IsFold (record fold { stack = stack; sums = sums }) (thread_event fold.thread pid e ∷ history)
event_few fold stack sums history pid e goes followed shallow is =
    let now = event_goes fold stack sums history e goes followed is in
    let more = own_more fold.thread pid e history in record {
      deepest = least_same (is_deep history) (is_deep (thread_event fold.thread pid e ∷ history)) fold.thread fold.deep (other_deep fold.thread pid e history)
          (ap (gets_deep most_open) more ∙ shallow) followed is.deepest;
      own = λ still. subst (IsStack stack sums.paths) (sym more) (record { stands = now.stands; framed = now.framed });
      others = λ other apart still.
          subst (IsStackOf (get nat_eq fold.others other) sums.paths) (sym (other_same fold.thread pid other e history apart))
          (stack_kept (get nat_eq fold.others other) fold.sums.paths sums.paths (history_of_thread other history) goes.keeps (is.others other apart still));
      pairs = is.pairs ++ timed_now e (history_of_thread fold.thread history);
      summed = now.summed;
      all = λ none.
          ap (λ (ps : List Timed). ps ++ timed_now e (history_of_thread fold.thread history)) (is.all none) ∙ sym (timed_more fold.thread pid e history);
    }

-- the thread is followed, and has too many calls open
event_many : (fold : StackFold) (stack : ThreadStack) (sums : Summed) (history : List ThreadEvent) (pid : ℕ) (e : Event) → Goes fold stack sums e
    → IsFollowed fold.deep fold.thread → gets_deep most_open (e ∷ history_of_thread fold.thread history) ≡ true → IsFold fold history
    → IsFold (record fold { stack = stack; sums = sums; deep = Some fold.thread }) (thread_event fold.thread pid e ∷ history)
event_many fold stack sums history pid e goes followed over is =
    let now = event_goes fold stack sums history e goes followed is in
    let more = own_more fold.thread pid e history in record {
      deepest = least_new (is_deep history) (is_deep (thread_event fold.thread pid e ∷ history)) fold.thread fold.deep (other_deep fold.thread pid e history)
          (ap (gets_deep most_open) more ∙ over) followed is.deepest;
      own = λ low. absurd (let low : fold.thread < fold.thread = low in omega (arith, low));
      others = λ other apart low.
          subst (IsStackOf (get nat_eq fold.others other) sums.paths) (sym (other_same fold.thread pid other e history apart))
          (stack_kept (get nat_eq fold.others other) fold.sums.paths sums.paths (history_of_thread other history) goes.keeps
          (is.others other apart (followed_down fold.thread other fold.deep followed low)));
      pairs = is.pairs ++ timed_now e (history_of_thread fold.thread history);
      summed = now.summed;
      all = λ none. absurd (some_none none);
    }
  where
    some_none : Some fold.thread ≡ None → ⊥
    some_none never = cc

-- ---- one more event of the last block

longer : (fold new : StackFold) (blocks : List Block) (last : Block) (e : Event) → new.thread ≡ fold.thread → Folds fold (blocks ++ last ∷ [])
    → ((pid : ℕ) → IsFold fold (history_of (blocks ++ last ∷ [])) → IsFold new (thread_event fold.thread pid e ∷ history_of (blocks ++ last ∷ [])))
    → Folds new (blocks ++ longer_block last e ∷ [])
longer fold new blocks last e thread is step =
    let own : last.thread ≡ fold.thread = is.last blocks last refl in record {
      last = λ first block same. ap (λ (b : Block). b.thread) (sym (same_last blocks first (longer_block last e) block same)) ∙ own ∙ sym thread;
      knows = subst (IsFold new)
          (sym (history_more blocks last e ∙ ap (λ (t : ℕ). thread_event t last.pid e ∷ history_of (blocks ++ last ∷ [])) own)) (step last.pid is.knows);
    }

pub folds_past : (fold : StackFold) (blocks : List Block) (last : Block) (e : Event) → (IsFollowed fold.deep fold.thread → ⊥) → Folds fold (blocks ++ last ∷ [])
    → Folds fold (blocks ++ longer_block last e ∷ [])
folds_past fold blocks last e unfollowed is =
    longer fold fold blocks last e refl is (λ pid known. event_past fold (history_of (blocks ++ last ∷ [])) pid e unfollowed known)

pub folds_same : (fold : StackFold) (stack : ThreadStack) (sums : Summed) (blocks : List Block) (last : Block) (e : Event) → Goes fold stack sums e
    → IsFollowed fold.deep fold.thread
    → ((history : List Event) → fold.stack.calls ≡ standing_after history → gets_deep most_open history ≡ false → gets_deep most_open (e ∷ history) ≡ false)
    → Folds fold (blocks ++ last ∷ []) → Folds (record fold { stack = stack; sums = sums }) (blocks ++ longer_block last e ∷ [])
folds_same fold stack sums blocks last e goes followed shallow is =
    longer fold (record fold { stack = stack; sums = sums }) blocks last e refl is
    (λ pid known. let history = history_of (blocks ++ last ∷ []) in
    event_few fold stack sums history pid e goes followed
    (shallow (history_of_thread fold.thread history) (known.own followed).stands (followed_shallow (is_deep history) fold.thread fold.deep followed known.deepest)) known)

pub folds_deeper : (fold : StackFold) (stack : ThreadStack) (sums : Summed) (blocks : List Block) (last : Block) (e : Event) → Goes fold stack sums e
    → IsFollowed fold.deep fold.thread → ((history : List Event) → fold.stack.calls ≡ standing_after history → gets_deep most_open (e ∷ history) ≡ true)
    → Folds fold (blocks ++ last ∷ []) → Folds (record fold { stack = stack; sums = sums; deep = Some fold.thread }) (blocks ++ longer_block last e ∷ [])
folds_deeper fold stack sums blocks last e goes followed over is =
    longer fold (record fold { stack = stack; sums = sums; deep = Some fold.thread }) blocks last e refl is
    (λ pid known. let history = history_of (blocks ++ last ∷ []) in
    event_many fold stack sums history pid e goes followed (over (history_of_thread fold.thread history) (known.own followed).stands) known)

-- ---- one more block

pub folds_here : (fold : StackFold) (blocks : List Block) (last : Block) → last.thread ≡ fold.thread → last.events ≡ [] → Folds fold blocks
    → Folds fold (blocks ++ last ∷ [])
folds_here fold blocks last thread none is = record {
  last = λ first block same. ap (λ (b : Block). b.thread) (sym (same_last blocks first last block same)) ∙ thread;
  knows = subst (IsFold fold) (sym (history_same blocks last none)) is.knows;
}

-- the open calls of another thread are taken out, and those of the thread before are put back
pub folds_gone : (fold : StackFold) (stack before : ThreadStack) (mid others : Threads) (thread : ℕ) (blocks : List Block) (last : Block) → (thread ≡ fold.thread → ⊥)
    → ((paths : List (List ℕ)) (history : List Event) → IsStackOf (get nat_eq fold.others thread) paths history → IsStack stack paths history)
    → ((other : ℕ) → (thread ≡ other → ⊥) → get nat_eq mid other ≡ get nat_eq fold.others other)
    → before ≡ fold.stack
    → ((other : ℕ) → get nat_eq others other ≡ cond (nat_eq fold.thread other) (Some before) (get nat_eq mid other))
    → last.thread ≡ thread → last.events ≡ [] → Folds fold blocks
    → Folds (record fold { thread = thread; stack = stack; others = others }) (blocks ++ last ∷ [])
folds_gone fold stack before mid others thread blocks last apart taken rest back put here none is = record {
  last = λ first block same. ap (λ (b : Block). b.thread) (sym (same_last blocks first last block same)) ∙ here;
  knows = subst (IsFold (record fold { thread = thread; stack = stack; others = others })) (sym (history_same blocks last none)) (record {
    deepest = is.knows.deepest;
    own = λ followed. taken fold.sums.paths (history_of_thread thread history) (is.knows.others thread (λ same. apart (sym same)) followed);
    others = λ other other_thread followed. by_thread other other_thread followed (nat_eq fold.thread other) refl;
    pairs = is.knows.pairs;
    summed = is.knows.summed;
    all = is.knows.all;
  });
}
  where
    history : List ThreadEvent
    history = history_of blocks

    by_thread : (other : ℕ) → (thread ≡ other → ⊥) → IsFollowed fold.deep other → (b : Bool) → nat_eq fold.thread other ≡ b
        → IsStackOf (get nat_eq others other) fold.sums.paths (history_of_thread other history)
    by_thread other other_thread followed true same =
        let at : fold.thread ≡ other = eqb-true fold.thread other same in
        let found : get nat_eq others other ≡ Some fold.stack =
        put other ∙ ap (λ b. cond b (Some before) (get nat_eq mid other)) same ∙ ap (λ (s : ThreadStack). Some s) back in
        subst (λ (o : Option ThreadStack). IsStackOf o fold.sums.paths (history_of_thread other history)) (sym found)
        (subst (λ (t : ℕ). IsStack fold.stack fold.sums.paths (history_of_thread t history)) at
        (is.knows.own (subst (IsFollowed fold.deep) (sym at) followed)))
    by_thread other other_thread followed false same =
        let found : get nat_eq others other ≡ get nat_eq fold.others other =
        put other ∙ ap (λ b. cond b (Some before) (get nat_eq mid other)) same ∙ rest other other_thread in
        subst (λ (o : Option ThreadStack). IsStackOf o fold.sums.paths (history_of_thread other history)) (sym found)
        (is.knows.others other (eqb-false fold.thread other same) followed)

-- ---- the count of refusals

-- what a fold stands for has nothing to do with it
pub folds_counted : (fold : StackFold) (refused : ℕ) (blocks : List Block) → Folds fold blocks → Folds (record fold { refused = refused }) blocks
folds_counted fold refused blocks is = record {
  last = is.last;
  knows = record {
    deepest = is.knows.deepest;
    own = is.knows.own;
    others = is.knows.others;
    pairs = is.knows.pairs;
    summed = is.knows.summed;
    all = is.knows.all;
  };
}
