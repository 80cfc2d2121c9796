-- A fold after one more block, and after one more event.
use Rattle.std.proofs.Common.{◌≡◌, ◌++◌, ◌∙◌, ◌||◌, ◌&&◌, ◌≤◌, nat_le, ℕ, Bool, true, false, cond, List, [], ◌∷◌, length, map, reverse, refl, ap, sym, subst, nat_eq, unwrap_or, is_some, Option, Some}
use Rattle.std.specs.HashMap.{get}
use Rattle.std.proofs.lemmas.Bool.{eqb-true, eqb-false, ne_eqb}
use Rattle.std.proofs.lemmas.List.{append-nil, append_assoc, map-append, reverse-append}
use Rattle.std.proofs.lemmas.List.Concat.{flat_map-append}
use Rattle.fdr_record.specs.declared.event.Event.{Event}
use Rattle.fdr_file.specs.declared.trace.Block.{Block}
use Rattle.fdr_file.specs.Scanning.{longer_block}
use Rattle.fdr_file.specs.ThreadEvents.{ThreadEvent, block_events, thread_events}
use Rattle.stack_rebuild.specs.declared.call.Pair.{Pair}
use Rattle.stack_rebuild.specs.Calls.{Standing, next_standing, pair_at, standing_after}
use Rattle.stack_rebuild.specs.Histories.{history_of, history_of_thread, thread_event}
use Rattle.account_report.specs.declared.fold.AccountFold.{AccountFold}
use Rattle.account_report.specs.declared.tallies.Tallies.{Tallies}
use Rattle.account_report.specs.declared.tallies.TheConstants.{FEW}
use Rattle.account_report.specs.private.Folding.{Folds}
use Rattle.account_report.specs.private.Tallies.{Table, durations_in, standing_in, with_event}
use Rattle.account_report.specs.private.AllTallies.{AreTallies, Reached, tally_in}
use Rattle.account_report.proofs.TallySteps.{reached_after}

-- ---- histories

events_last : (blocks : List Block) (last : Block) → thread_events (blocks ++ last ∷ []) ≡ thread_events blocks ++ block_events last
events_last blocks last =
    flat_map-append block_events blocks (last ∷ []) ∙ ap (λ (es : List ThreadEvent). thread_events blocks ++ es) (append-nil (block_events last))

-- one more block, without events
history_same : (blocks : List Block) (last : Block) → last.events ≡ [] → history_of (blocks ++ last ∷ []) ≡ history_of blocks
history_same blocks last none =
    ap reverse
    (events_last blocks last
    ∙ (ap (λ (es : List Event). thread_events blocks ++ map (thread_event last.thread last.pid) es) none ∙ append-nil (thread_events blocks)))

-- one more event
history_longer : (blocks : List Block) (last : Block) (e : Event)
    → history_of (blocks ++ longer_block last e ∷ []) ≡ thread_event last.thread last.pid e ∷ history_of (blocks ++ last ∷ [])
history_longer blocks last e =
    let new = thread_event last.thread last.pid e in
    let more : thread_events (blocks ++ longer_block last e ∷ []) ≡ thread_events (blocks ++ last ∷ []) ++ new ∷ [] =
    events_last blocks (longer_block last e)
    ∙ (ap (λ (es : List ThreadEvent). thread_events blocks ++ es) (map-append (thread_event last.thread last.pid) last.events (e ∷ []))
    ∙ (sym (append_assoc (thread_events blocks) (block_events last) (new ∷ []))
    ∙ ap (λ (es : List ThreadEvent). es ++ new ∷ []) (sym (events_last blocks last)))) in
    ap reverse more ∙ reverse-append (thread_events (blocks ++ last ∷ [])) (new ∷ [])

-- ---- last blocks

same_last : (xs ys : List Block) (x y : Block) → xs ++ x ∷ [] ≡ ys ++ y ∷ [] → x ≡ y
same_last xs ys x y e =
    let heads : x ∷ reverse xs ≡ y ∷ reverse ys = sym (reverse-append xs (x ∷ [])) ∙ (ap reverse e ∙ reverse-append ys (y ∷ [])) in
    cc

thread_of_last : (blocks : List Block) (last : Block) (thread : ℕ) → last.thread ≡ thread
    → (first : List Block) (block : Block) → blocks ++ last ∷ [] ≡ first ++ block ∷ [] → block.thread ≡ thread
thread_of_last blocks last thread is first block same = ap (λ (b : Block). b.thread) (sym (same_last blocks first last block same)) ∙ is

-- ---- one more block

-- all threads, once that at hand is put among the others
all_stand : (fold : AccountFold) (blocks : List Block) (threads : Table Standing) → Folds fold blocks
    → ((other : ℕ) → get nat_eq threads other ≡ cond (nat_eq fold.thread other) (Some fold.calls) (get nat_eq fold.threads other))
    → (other : ℕ) → standing_in threads other ≡ standing_after (history_of_thread other (history_of blocks))
all_stand fold blocks threads folds put other = by_thread (nat_eq fold.thread other) refl
  where
    found : (b : Bool) → nat_eq fold.thread other ≡ b
        → standing_in threads other ≡ unwrap_or (cond b (Some fold.calls) (get nat_eq fold.threads other)) (standing_after [])
    found b is =
        ap (λ (o : Option Standing). unwrap_or o (standing_after []))
        (put other ∙ ap (λ (a : Bool). cond a (Some fold.calls) (get nat_eq fold.threads other)) is)

    by_thread : (b : Bool) → nat_eq fold.thread other ≡ b → standing_in threads other ≡ standing_after (history_of_thread other (history_of blocks))
    by_thread true is =
        found true is ∙ (folds.own ∙ ap (λ (t : ℕ). standing_after (history_of_thread t (history_of blocks))) (eqb-true fold.thread other is))
    by_thread false is = found false is ∙ folds.others other (eqb-false fold.thread other is)

pub gone_to : (fold new : AccountFold) (blocks : List Block) (last : Block) (threads : Table Standing) → Folds fold blocks
    → ((other : ℕ) → get nat_eq threads other ≡ cond (nat_eq fold.thread other) (Some fold.calls) (get nat_eq fold.threads other))
    → new.calls ≡ standing_in threads new.thread
    → ((other : ℕ) → (new.thread ≡ other → ⊥) → standing_in new.threads other ≡ standing_in threads other)
    → new.tallies ≡ fold.tallies → last.thread ≡ new.thread → last.events ≡ [] → Folds new (blocks ++ last ∷ [])
gone_to fold new blocks last threads folds put taken others kept is none =
    let all = all_stand fold blocks threads folds put in
    let same = history_same blocks last none in
    record {
      last = thread_of_last blocks last new.thread is;
      own = taken ∙ (all new.thread ∙ ap (λ (h : List ThreadEvent). standing_after (history_of_thread new.thread h)) (sym same));
      others = λ other apart.
          others other apart ∙ (all other ∙ ap (λ (h : List ThreadEvent). standing_after (history_of_thread other h)) (sym same));
      tallied =
          subst (AreTallies new.tallies) (sym same) (subst (λ (t : Tallies). AreTallies t (history_of blocks)) (sym kept) folds.tallied);
    }

-- ---- one more event

-- an event of another thread
of_other : (thread pid other : ℕ) (e : Event) (h : List ThreadEvent) → (thread ≡ other → ⊥)
    → history_of_thread other (thread_event thread pid e ∷ h) ≡ history_of_thread other h
of_other thread pid other e h apart =
    ap (λ (b : Bool). cond b (e ∷ history_of_thread other h) (history_of_thread other h)) (ne_eqb thread other apart)

pub added_to : (fold new : AccountFold) (blocks : List Block) (last : Block) (e : Event) (pair : Option Pair)
    → Folds fold (blocks ++ last ∷ []) → new.thread ≡ fold.thread → new.threads ≡ fold.threads
    → pair ≡ pair_at e fold.calls.events fold.calls.calls → new.calls ≡ next_standing e fold.calls
    → ((func : ℕ) → tally_in new.tallies func
    ≡ cond (nat_eq e.func func) (with_event e.kind (durations_in pair) (tally_in fold.tallies func)) (tally_in fold.tallies func))
    → (length fold.tallies.first.items ≤ FEW → length new.tallies.first.items ≤ FEW)
    → ((func : ℕ) → is_some (get nat_eq new.tallies.others func) ≡ ((nat_le FEW func && nat_eq e.func func) || is_some (get nat_eq fold.tallies.others func)))
    → Folds new (blocks ++ longer_block last e ∷ [])
added_to fold new blocks last e pair folds thread threads made stands each few present =
    let t = fold.thread in
    let before = history_of (blocks ++ last ∷ []) in
    let is : last.thread ≡ t = folds.last blocks last refl in
    let after = thread_event t last.pid e ∷ before in
    let more : history_of (blocks ++ longer_block last e ∷ []) ≡ after =
    history_longer blocks last e ∙ ap (λ (k : ℕ). thread_event k last.pid e ∷ before) is in
    let reached : Reached t after new.calls new.tallies =
    reached_after t last.pid before e pair fold.calls new.calls fold.tallies new.tallies (record { stands = folds.own; tallied = folds.tallied }) made stands each few present in
    record {
      last = thread_of_last blocks (longer_block last e) new.thread (is ∙ sym thread);
      own = reached.stands
          ∙ (ap (λ (k : ℕ). standing_after (history_of_thread k after)) (sym thread)
          ∙ ap (λ (h : List ThreadEvent). standing_after (history_of_thread new.thread h)) (sym more));
      others = λ other apart.
          let other_one : t ≡ other → ⊥ = λ same. apart (thread ∙ same) in
          ap (λ (x : Table Standing). standing_in x other) threads
          ∙ (folds.others other other_one
          ∙ (ap standing_after (sym (of_other t last.pid other e before other_one))
          ∙ ap (λ (h : List ThreadEvent). standing_after (history_of_thread other h)) (sym more)));
      tallied = subst (AreTallies new.tallies) (sym more) reached.tallied;
    }
