-- Plain runs of threads, and their texts.
use Rattle.std.proofs.Common.{◌≡◌, ◌⊎◌, ◌+◌, ◌++◌, ◌∙◌, ℕ, suc, List, [], ◌∷◌, length, map, Some, zero, inl, inr, refl, ap, subst}
use Rattle.std.specs.List.{flat_map, slice_get}
use Rattle.std.proofs.lemmas.List.{length-map, length_push}
use Rattle.std.proofs.lemmas.List.Elements.{All-nil, All-push}
use Rattle.xray_image.specs.Program.{Program}
use Rattle.machine_step.specs.declared.plain_end.PlainEnd.{PlainEnd}
use Rattle.machine_step.specs.PlainEnd.{IsPlainEnd}
use Rattle.command_words.specs.declared.run_options.Bounds.{Bounds}
use Rattle.xray_program.specs.private.Ends.{AreEnds, HasRegisters, end_text}
use Rattle.xray_program.specs.Plain.{IsPlainText, PlainPrints}
use Rattle.xray_program.specs.Setups.{plain_limits}
use Rattle.xray_program.proofs.TextLists.{item_after, joined_texts}

-- what is printed of an end is what is printed of the last state of its run
pub same_text : (program : Program) (bounds : Bounds) (thread : ℕ) (e : PlainEnd)
    → IsPlainEnd program (plain_limits bounds) thread e → IsPlainText program (plain_limits bounds) thread (end_text e)
same_text program bounds thread e is = record {
  passed = is.passed;
  end = e.end;
  last = is.last;
  run = is.run;
  prints = rw (is.thread, is.registers, is.zero_flag, is.output, is.instructions, is.passings) refl;
}

-- an empty list has no items
none_at : {X : Type 0} (k : ℕ) (x : X) → slice_get [] k ≡ Some x → ⊥
none_at zero x is = cc
none_at (suc k) x is = cc

-- the item at a place of a list with one more at its end
at_push : {X : Type 0} (xs : List X) (y : X) (k : ℕ) (x : X) → slice_get (xs ++ y ∷ []) k ≡ Some x
    → (slice_get xs k ≡ Some x) ⊎ ((k ≡ length xs) × (x ≡ y))
at_push [] y zero x is = inr (refl, cc)
at_push [] y (suc k) x is = absurd (none_at k x is)
at_push (z ∷ xs) y zero x is = inl is
at_push (z ∷ xs) y (suc k) x is = elim (at_push xs y k x is) [
  | inl before ↦ inl before
  | inr last ↦ inr (ap suc last.0, last.1)
]

-- no threads
pub no_ends : (program : Program) (bounds : Bounds) → AreEnds program bounds 0 []
no_ends program bounds = record { count = refl; each = λ k e is. absurd (none_at k e is); registers = All-nil HasRegisters }

-- one more thread
pub one_end_more : (program : Program) (bounds : Bounds) (threads : ℕ) (ends : List PlainEnd) (e : PlainEnd)
    → AreEnds program bounds threads ends → IsPlainEnd program (plain_limits bounds) (threads + 1) e → HasRegisters e
    → AreEnds program bounds (threads + 1) (ends ++ e ∷ [])
one_end_more program bounds threads ends e are is has = record {
  count = length_push ends e ∙ ap (λ n. n + 1) are.count;
  each = λ k f at. at_place k f (at_push ends e k f at);
  registers = All-push HasRegisters ends e are.registers has;
}
  where
    at_place : (k : ℕ) (f : PlainEnd) → (slice_get ends k ≡ Some f) ⊎ ((k ≡ length ends) × (f ≡ e))
        → IsPlainEnd program (plain_limits bounds) (k + 1) f
    at_place k f (inl before) = are.each k f before
    at_place k f (inr (last, same)) = rw (same, last, are.count) is

-- the ends of all threads are printed as `plain` prints
pub prints_all : (program : Program) (bounds : Bounds) (ends : List PlainEnd)
    → AreEnds program bounds bounds.threads ends → PlainPrints program bounds (flat_map end_text ends)
prints_all program bounds ends are = record {
  texts = map end_text ends;
  count = length-map ends end_text ∙ are.count;
  each = λ k t at.
      let item = item_after end_text ends k t at in
      subst (IsPlainText program (plain_limits bounds) (k + 1)) item.value
      (same_text program bounds (k + 1) item.item (are.each k item.item item.found));
  joined = joined_texts end_text ends;
}
