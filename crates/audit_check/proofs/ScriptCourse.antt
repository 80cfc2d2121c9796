-- The course of a script, one micro step after the other.
use Rattle.std.proofs.Common.{◌≡◌, ℕ, ◌+◌, ◌<◌, List, [], ◌∷◌, ◌++◌, length, take, sym, ap, subst, ◌∙◌, arith, append-nil, length-take}
use Rattle.std.specs.Prelude.{unwrap_or}
use Rattle.std.proofs.lemmas.List.{take_more}
use Rattle.std.proofs.lemmas.Option.{unwrap_or-slice_get}
use Rattle.xray_image.specs.Program.{Program}
use Rattle.patch_script.specs.declared.command.PatchCommand.{PatchCommand}
use Rattle.patch_script.specs.declared.micro.Micro.{Micro}
use Rattle.patch_script.specs.declared.micro.Micro.TheVariants.{Store, Await, End}
use Rattle.patch_script.specs.CodeAt.{code_at, stored_in}
use Rattle.patch_script.specs.Micros.{micro_at, micros, total_of}
use Rattle.audit_check.specs.declared.switches.Awaited.{Awaited}
use Rattle.audit_check.specs.declared.switches.Course.{Course}
use Rattle.audit_check.specs.private.Switches.{AreSwitches, IsCourseUpTo, IsOfWords, awaits_from}
use Rattle.audit_check.proofs.PassingBounds.{awaits-append}
use Rattle.audit_check.proofs.ScriptSwitches.{Follows, next_waits, stays}

module _ (program : Program) (threads : ℕ) (script : List PatchCommand) where
  abbrev steps : List Micro
  steps = micros program threads script

  abbrev code : ℕ → ℕ → ℕ
  code = code_at program threads script

  -- what each micro step does to the code
  abbrev pub Gives : Type 0
  Gives = (place word : ℕ) → code (place + 1) word ≡ unwrap_or (stored_in word (micro_at program threads script place)) (code place word)

  pub follows : Gives → (place : ℕ) (micro : Micro) → micro_at program threads script place ≡ micro → Follows code place micro
  follows gives place micro is = subst (λ (m : Micro). Follows code place m) is (λ word. gives place word)

  awaits_next : (place : ℕ) (micro : Micro) → place < length steps → micro_at program threads script place ≡ micro
      → awaits_from 0 (take (place + 1) steps) ≡ awaits_from 0 (take place steps) ++ awaits_from place (micro ∷ [])
  awaits_next place micro low is =
      let next : take (place + 1) steps ≡ take place steps ++ micro ∷ [] =
      take_more steps place End low ∙ ap (λ (m : Micro). take place steps ++ m ∷ []) (sym (unwrap_or-slice_get steps place End) ∙ is) in
      let count : 0 + length (take place steps) ≡ place = omega (arith, low, length-take place steps) in
      ap (awaits_from 0) next ∙ (awaits-append 0 (take place steps) (micro ∷ [])
      ∙ ap (λ n. awaits_from 0 (take place steps) ++ awaits_from n (micro ∷ [])) count)

  -- a store
  pub course_stores : (old new : Course) (place word value : ℕ) → place < total_of program threads script → micro_at program threads script place ≡ Store word value
      → IsOfWords program threads new.switches → AreSwitches program threads code (place + 1) new.switches → new.awaits.items ≡ old.awaits.items
      → new.start ≡ old.start → new.total ≡ old.total → IsCourseUpTo program threads script place old → IsCourseUpTo program threads script (place + 1) new
  course_stores old new place word value low is words switches awaits start total up_to = record {
    words = words;
    switches = switches;
    awaits = awaits ∙ (up_to.awaits ∙ (sym (append-nil (awaits_from 0 (take place steps))) ∙ sym (awaits_next place (Store word value) low is)));
    start = start ∙ up_to.start;
    total = total ∙ up_to.total;
    few = up_to.few;
  }

  -- a wait
  pub course_waits : Gives → (old new : Course) (place thread count : ℕ) → place < total_of program threads script
      → micro_at program threads script place ≡ Await thread count → new.switches ≡ old.switches
      → new.awaits.items ≡ old.awaits.items ++ record { place = place; thread = thread; count = count } ∷ []
      → new.start ≡ old.start → new.total ≡ old.total → IsCourseUpTo program threads script place old → IsCourseUpTo program threads script (place + 1) new
  course_waits gives old new place thread count low is switches awaits start total up_to =
      let awaited : Awaited = record { place = place; thread = thread; count = count } in
      record {
        words = subst (IsOfWords program threads) (sym switches) up_to.words;
        switches = subst (AreSwitches program threads code (place + 1)) (sym switches)
            (stays program threads code place old.switches up_to.switches
            (next_waits code place thread count (follows gives place (Await thread count) is)));
        awaits = awaits ∙ (ap (λ (l : List Awaited). l ++ awaited ∷ []) up_to.awaits ∙ sym (awaits_next place (Await thread count) low is));
        start = start ∙ up_to.start;
        total = total ∙ up_to.total;
        few = up_to.few;
      }

  -- neither
  pub course_stays : Gives → (old new : Course) (place : ℕ) → place < total_of program threads script → micro_at program threads script place ≡ End
      → new ≡ old → IsCourseUpTo program threads script place old → IsCourseUpTo program threads script (place + 1) new
  course_stays gives old new place low is same up_to =
      subst (IsCourseUpTo program threads script (place + 1)) (sym same) (record {
        words = up_to.words;
        switches = stays program threads code place old.switches up_to.switches (λ word. follows gives place End is word);
        awaits = up_to.awaits ∙ (sym (append-nil (awaits_from 0 (take place steps))) ∙ sym (awaits_next place End low is));
        start = up_to.start;
        total = up_to.total;
        few = up_to.few;
      })
