-- The micro steps that patch a sled: four stores, which all stay.
use Rattle.std.proofs.Common.{◌≡◌, ℕ, zero, suc, ◌+◌, ◌<◌, ◌≤◌, Bool, true, false, cond, List, [], ◌∷◌, ◌++◌, append-nil, Option, Some, refl, sym, ap, subst, ◌∙◌, arith, length, length-append, map, take, drop, get_or}
use Rattle.std.specs.Prelude.{◌==◌, filter, slice_get, unwrap_or}
use Rattle.std.specs.List.{flat_map, list_any}
use Rattle.std.proofs.lemmas.List.{take-append-le}
use Rattle.std.proofs.lemmas.Option.{slice_get-get_or}
use Rattle.std.proofs.Math.Seq.{take-add}
use Rattle.xray_image.specs.Program.{Program}
use Rattle.sled_words.specs.declared.part.Part.TheVariants.{Head, Id, Opcode, Offset}
use Rattle.sled_words.specs.Parts.{patched}
use Rattle.sled_words.specs.Words.{arg_handler_word, handler_word, release_word, state_word, word_of}
use Rattle.patch_script.specs.declared.command.PatchCommand.{PatchCommand}
use Rattle.patch_script.specs.declared.command.PatchCommand.TheVariants as commands
use Rattle.patch_script.specs.declared.micro.Micro.{Micro}
use Rattle.patch_script.specs.declared.micro.Micro.TheVariants.{Store, Await, End}
use Rattle.patch_script.specs.Micros.{Numbered, all_sleds, head_left, micro_at, micros, micros_after, numbers, patch_sled, patches, sleds_of, steps_of, total_of, unpatch_sled}
use Rattle.run_order.specs.FreeScripts.{is_free}
use Rattle.run_order.specs.private.Waits.{BeginsPatch, waits_from}
use Rattle.run_order.proofs.FreeMicros.{AreBelow, all_below, filter_below, patches_stay}
use Rattle.run_order.proofs.NoWaits.{stay_waits}

module _ (program : Program) (threads : ℕ) where
  -- four micro steps that stay come first
  abbrev Patching : List Micro → Type 0
  Patching steps = (4 ≤ length steps) × (filter (is_free program threads) (take 4 steps) ≡ take 4 steps)

  -- and so they do wherever a patching begins
  abbrev ArePatched : List Micro → Type 0
  ArePatched [] = Unit {0}
  ArePatched (step ∷ steps) = (BeginsPatch program step → Patching (step ∷ steps)) × ArePatched steps

  more_patched : (steps later : List Micro) → ArePatched steps → ArePatched later → ArePatched (steps ++ later)
  more_patched [] later are others = others
  more_patched (step ∷ steps) later are others = ((λ begins. longer (are.0 begins)), more_patched steps later are.1 others)
    where
      longer : Patching (step ∷ steps) → Patching ((step ∷ steps) ++ later)
      longer here =
          let same : take 4 ((step ∷ steps) ++ later) ≡ take 4 (step ∷ steps) = take-append-le 4 (step ∷ steps) later here.0 in
          (omega (arith, here.0, length-append (step ∷ steps) later), ap (filter (is_free program threads)) same ∙ here.1 ∙ sym same)

  -- a store in another word begins none
  begins_none : (word value : ℕ) → ((sled : ℕ) → sled < length program.sleds → word ≡ word_of sled Id → ⊥) → BeginsPatch program (Store word value) → ⊥
  begins_none word value other begins =
      let is : Store word value ≡ Store (word_of begins.sled Id) begins.value = begins.is in
      let same : word ≡ word_of begins.sled Id = cc in
      other begins.sled begins.within same

  one_store : (word value : ℕ) → ((sled : ℕ) → sled < length program.sleds → word ≡ word_of sled Id → ⊥) → ArePatched (Store word value ∷ [])
  one_store word value other = ((λ begins. absurd (begins_none word value other begins)), tt)

  all_patched : (sleds : List Numbered) → AreBelow program threads (length program.sleds) sleds → ArePatched (flat_map (patch_sled program) sleds)
  all_patched [] below = tt
  all_patched ((k, sled) ∷ sleds) below =
      let value = patched program.trampolines sled in
      let later : List Micro = flat_map (patch_sled program) sleds in (
        (λ begins. (omega arith, patches_stay program threads ((k, sled) ∷ []) (below.0, tt))),
        (
          (λ begins. absurd (begins_none (word_of k Opcode) (value Opcode) (λ j low e. omega (arith, e)) begins)),
          (
            (λ begins. absurd (begins_none (word_of k Offset) (value Offset) (λ j low e. omega (arith, e)) begins)),
            ((λ begins. absurd (begins_none (word_of k Head) (value Head) (λ j low e. omega (arith, e)) begins)), all_patched sleds below.1),
          ),
        ),
      )

  all_unpatched : (earlier : List ℕ) (sleds : List Numbered) → ArePatched (map (unpatch_sled earlier) sleds)
  all_unpatched earlier [] = tt
  all_unpatched earlier ((k, sled) ∷ sleds) = (
    (λ begins. absurd (begins_none (word_of k Head) (head_left sled.kind (list_any (λ j. j == k) earlier)) (λ j low e. omega (arith, e)) begins)),
    all_unpatched earlier sleds,
  )

  steps_patched : (earlier : List ℕ) (command : PatchCommand) → ArePatched (steps_of program threads earlier command)
  steps_patched earlier commands.Patch = all_patched (all_sleds program) (all_below program threads)
  steps_patched earlier commands.Unpatch = all_unpatched earlier (all_sleds program)
  steps_patched earlier (commands.PatchFunction id) =
      all_patched (sleds_of program id) (filter_below program threads (λ s. s.1.id == id) (length program.sleds) (all_sleds program) (all_below program threads))
  steps_patched earlier (commands.UnpatchFunction id) = all_unpatched earlier (sleds_of program id)
  steps_patched earlier commands.SetHandler = one_store (handler_word program) 1 (λ sled low e. omega (arith, low, e))
  steps_patched earlier commands.RemoveHandler = one_store (handler_word program) 0 (λ sled low e. omega (arith, low, e))
  steps_patched earlier commands.SetArgHandler = one_store (arg_handler_word program threads) 1 (λ sled low e. omega (arith, low, e))
  steps_patched earlier commands.RemoveArgHandler = one_store (arg_handler_word program threads) 0 (λ sled low e. omega (arith, low, e))
  steps_patched earlier commands.Init =
      ((λ begins. absurd (begins_none (state_word program) 1 (λ sled low e. omega (arith, low, e)) begins)), one_store (state_word program) 2 (λ sled low e. omega (arith, low, e)))
  steps_patched earlier commands.Finalize =
      ((λ begins. absurd (begins_none (state_word program) 3 (λ sled low e. omega (arith, low, e)) begins)), one_store (state_word program) 4 (λ sled low e. omega (arith, low, e)))
  steps_patched earlier (commands.Hold thread passing) = tt
  steps_patched earlier commands.Go = tt
  steps_patched earlier (commands.Release thread) = one_store (release_word program thread) 1 (λ sled low e. omega (arith, low, e))
  steps_patched earlier (commands.Await thread count) =
      ((λ begins. let is : Await thread count ≡ Store (word_of begins.sled Id) begins.value = begins.is in absurd cc), tt)

  micros_patched : (earlier : List ℕ) (script : List PatchCommand) → ArePatched (micros_after program threads earlier script)
  micros_patched earlier [] = tt
  micros_patched earlier (command ∷ script) =
      more_patched (steps_of program threads earlier command) (micros_after program threads (earlier ++ numbers (patches program command)) script)
      (steps_patched earlier command) (micros_patched (earlier ++ numbers (patches program command)) script)

  patched_at : (steps : List Micro) (n : ℕ) (step : Micro) → ArePatched steps → slice_get steps n ≡ Some step → BeginsPatch program step
      → Patching (drop n steps) × (n + 4 ≤ length steps)
  patched_at [] n step are there begins = absurd cc
  patched_at (first ∷ steps) zero step are there begins =
      let same : first ≡ step = cc in
      let here = are.0 (subst (BeginsPatch program) (sym same) begins) in
      (here, omega (arith, here.0))
  patched_at (first ∷ steps) (suc n) step are there begins =
      let rest = patched_at steps n step are.1 there begins in
      (rest.0, omega (arith, rest.1))

  -- ---- their waits

  waits-append : (place : ℕ) (steps later : List Micro)
      → waits_from program threads place (steps ++ later) ≡ waits_from program threads place steps ++ waits_from program threads (place + length steps) later
  waits-append place [] later = ap (λ p. waits_from program threads p later) (let e : place ≡ place + 0 = omega arith in e)
  waits-append place (step ∷ steps) later =
      ap (λ (ws : List ℕ). cond (is_free program threads step) ws (place ∷ ws)) (waits-append (place + 1) steps later)
      ∙ apart (is_free program threads step) (waits_from program threads (place + 1) steps) (waits_from program threads (place + 1 + length steps) later)
      ∙ ap (λ p. waits_from program threads place (step ∷ steps) ++ waits_from program threads p later)
      (let e : place + 1 + length steps ≡ place + length (step ∷ steps) = omega arith in e)
    where
      apart : (free : Bool) (waits others : List ℕ) → cond free (waits ++ others) (place ∷ (waits ++ others)) ≡ cond free waits (place ∷ waits) ++ others
      apart true waits others = refl
      apart false waits others = refl

  -- where a patching begins, the next four micro steps have none
  pub patch_next : (script : List PatchCommand) (n : ℕ) (micro : Micro) → n < total_of program threads script → micro ≡ micro_at program threads script n
      → BeginsPatch program micro
      → (n + 4 ≤ total_of program threads script)
      × (waits_from program threads 0 (take (n + 4) (micros program threads script)) ≡ waits_from program threads 0 (take n (micros program threads script)))
  patch_next script n micro low is begins =
      let steps : List Micro = micros program threads script in
      let step : Micro = get_or steps n End in
      let there : slice_get steps n ≡ Some step = slice_get-get_or steps n End low in
      let same : micro ≡ step = is ∙ ap (λ (o : Option Micro). unwrap_or o End) there in
      let here = patched_at steps n step (micros_patched [] script) there (subst (BeginsPatch program) same begins) in
      let front : List Micro = take n steps in
      let four : List Micro = take 4 (drop n steps) in (
        here.1,
        ap (waits_from program threads 0) (take-add n 4 steps) ∙ waits-append 0 front four
            ∙ ap (λ (ws : List ℕ). waits_from program threads 0 front ++ ws) (stay_waits program threads (0 + length front) four here.0.1)
            ∙ append-nil (waits_from program threads 0 front),
      )
