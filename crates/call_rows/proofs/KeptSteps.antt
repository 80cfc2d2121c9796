-- Kept calls after one more event of the last block.
use Rattle.std.proofs.Common.{◌≡◌, ◌++◌, ◌∙◌, ℕ, List, [], ◌∷◌, length, reverse, refl, ap, sym, subst, Option}
use Rattle.std.specs.Option.{option_to_list}
use Rattle.std.proofs.lemmas.List.{reverse-append}
use Rattle.fdr_record.specs.declared.event.Event.{Event}
use Rattle.fdr_file.specs.declared.trace.Block.{Block}
use Rattle.fdr_file.specs.Scanning.{longer_block}
use Rattle.fdr_file.specs.ThreadEvents.{ThreadEvent}
use Rattle.stack_rebuild.specs.Histories.{history_of, thread_event}
use Rattle.call_rows.specs.declared.row.CallRow.{CallRow}
use Rattle.call_rows.specs.declared.kept.KeptCalls.{KeptCalls}
use Rattle.call_rows.specs.CallRows.{EndsAt, rows_after}
use Rattle.call_rows.specs.private.FirstRows.{Collects}
use Rattle.call_rows.specs.private.Folding.{Follows, KeepsCalls}
use Rattle.call_rows.proofs.Collecting.{history_longer}

pub none_last : (first : List Block) (block : Block) → [] ≡ first ++ block ∷ [] → ⊥
none_last [] block same = cc
none_last (x ∷ first) block same = cc

same_last : (xs ys : List Block) (x y : Block) → xs ++ x ∷ [] ≡ ys ++ y ∷ [] → x ≡ y
same_last xs ys x y e =
    let heads : x ∷ reverse xs ≡ y ∷ reverse ys = sym (reverse-append xs (x ∷ [])) ∙ (ap reverse e ∙ reverse-append ys (y ∷ [])) in
    cc

pub kept_more : (kept new : KeptCalls) (blocks : List Block) (last : Block) (e : Event) (row : Option CallRow) → new.wanted ≡ kept.wanted → new.thread ≡ kept.thread
    → new.pid ≡ kept.pid
    → ((history : List ThreadEvent) → Follows kept.fold history
    → rows_after (thread_event kept.thread kept.pid e ∷ history) ≡ rows_after history ++ option_to_list row)
    → ((history : List ThreadEvent) → Follows kept.fold history → EndsAt (length history) row)
    → ((history : List ThreadEvent) → Follows kept.fold history → Follows new.fold (thread_event kept.thread kept.pid e ∷ history))
    → ((history : List ThreadEvent) (x : ThreadEvent) → Collects kept.first kept.wanted history → rows_after (x ∷ history) ≡ rows_after history ++ option_to_list row
    → EndsAt (length history) row → Collects new.first kept.wanted (x ∷ history))
    → KeepsCalls kept (blocks ++ last ∷ []) → KeepsCalls new (blocks ++ longer_block last e ∷ [])
kept_more kept new blocks last e row wanted thread pid rows ends follows collects keeps =
    let h = history_of (blocks ++ last ∷ []) in
    let own : last.thread ≡ kept.thread = keeps.thread blocks last refl in
    let process : last.pid ≡ kept.pid = keeps.pid blocks last refl in
    let more : history_of (blocks ++ longer_block last e ∷ []) ≡ thread_event kept.thread kept.pid e ∷ h =
    history_longer blocks last e
    ∙ (ap (λ (t : ℕ). thread_event t last.pid e ∷ h) own ∙ ap (λ (p : ℕ). thread_event kept.thread p e ∷ h) process) in
    let collected = collects h (thread_event kept.thread kept.pid e) keeps.collects (rows h keeps.follows) (ends h keeps.follows) in
    record {
      thread = λ first block same. ap (λ (b : Block). b.thread) (sym (same_last blocks first (longer_block last e) block same)) ∙ (own ∙ sym thread);
      pid = λ first block same. ap (λ (b : Block). b.pid) (sym (same_last blocks first (longer_block last e) block same)) ∙ (process ∙ sym pid);
      follows = subst (Follows new.fold) (sym more) (follows h keeps.follows);
      collects =
          subst (Collects new.first new.wanted) (sym more)
          (subst (λ w. Collects new.first w (thread_event kept.thread kept.pid e ∷ h)) (sym wanted) collected);
    }
