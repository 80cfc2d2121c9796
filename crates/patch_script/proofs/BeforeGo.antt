-- The commands before `go` mean only stores.
use Rattle.std.proofs.Common.{◌≡◌, ℕ, ◌<◌, zero, suc, List, [], ◌∷◌, ◌++◌, Bool, true, false, cond, not, take, get_or, Some, refl, sym, ap, subst, ◌∙◌, inl, inr, append_assoc}
use Rattle.std.specs.Prelude.{slice_get, take_while, unwrap_or}
use Rattle.std.specs.List.{list_any}
use Rattle.std.proofs.lemmas.Bool.{cases_Bool}
use Rattle.std.proofs.lemmas.List.{append-nil}
use Rattle.std.proofs.lemmas.Option.{slice_get-get_or}
use Rattle.xray_image.specs.Program.{Program}
use Rattle.patch_script.specs.declared.command.PatchCommand.{PatchCommand}
use Rattle.patch_script.specs.declared.command.PatchCommand.TheVariants as commands
use Rattle.patch_script.specs.declared.micro.Micro.{Micro}
use Rattle.patch_script.specs.declared.micro.Micro.TheVariants.{Store, Await, End}
use Rattle.patch_script.specs.Micros.{Numbered, all_sleds, sleds_of, unpatch_sled, steps_of, micros_after, micros, micro_at, start_of, is_go}
use Rattle.patch_script.specs.Plans.{Plan, IsOrderly, IsStore}
use Rattle.patch_script.specs.private.Placing.{patched_by}
use Rattle.patch_script.specs.Refusals.{commands_of, has_go, is_misplaced}
use Rattle.patch_script.proofs.Lists.{list_any-last, slice_get-append_left}
use Rattle.patch_script.proofs.Steps.{stays, front-cons, whole_front, micros_after-append}
use Rattle.patch_script.proofs.MicroNames.{neither, patched_none, unpatched_none, script_none, found_none, is_bad_sled}

abbrev pub awaits : PatchCommand → Bool
awaits (commands.Await thread count) = true
awaits _ = false

abbrev is_no_store : Micro → Bool
is_no_store (Store word value) = false
is_no_store (Await thread count) = true
is_no_store End = true

-- ---- no command there awaits

stands_after : (before : List PatchCommand) (command : PatchCommand) → has_go before ≡ false → is_misplaced before command ≡ false → awaits command ≡ false
stands_after before (commands.Await thread count) none fits = absurd (let some : not (has_go before) ≡ true = ap not none in cc)
stands_after before command none fits = refl

pub no_await : (before rest : List PatchCommand) → has_go before ≡ false → ((i : ℕ) (c : PatchCommand) → slice_get rest i ≡ Some c → is_misplaced (before ++ take i rest) c ≡ false)
    → list_any awaits (take_while stays rest) ≡ false
no_await before [] none fits = refl
no_await before (x ∷ xs) none fits = elim (cases_Bool (is_go x)) [
  | inl so ↦ ap (list_any awaits) (front-cons x xs ∙ ap (λ b. cond (not b) (x ∷ take_while stays xs) []) so)
  | inr isnt ↦
      let here : awaits x ≡ false = stands_after before x none (ap (λ b. is_misplaced b x) (sym (append-nil before)) ∙ fits 0 x refl) in
      let more : has_go (before ++ x ∷ []) ≡ false = list_any-last is_go before x ∙ neither (has_go before) (is_go x) none isnt in
      let rest = no_await (before ++ x ∷ []) xs more (λ i c at. ap (λ b. is_misplaced b c) (append_assoc before (x ∷ []) (take i xs)) ∙ fits (suc i) c at) in
      ap (list_any awaits) (front-cons x xs ∙ ap (λ b. cond (not b) (x ∷ take_while stays xs) []) isnt)
      ∙ neither (awaits x) (list_any awaits (take_while stays xs)) here rest
]

-- ---- so all micro steps there are stores

store_sleds : (program : Program) (sleds : List Numbered) → list_any (is_bad_sled is_no_store program) sleds ≡ false
store_sleds program [] = refl
store_sleds program (s ∷ ss) = store_sleds program ss

store_heads : (earlier : List ℕ) (sleds : List Numbered) → list_any (λ s. is_no_store (unpatch_sled earlier s)) sleds ≡ false
store_heads earlier [] = refl
store_heads earlier (s ∷ ss) = store_heads earlier ss

store_steps : (program : Program) (threads : ℕ) (earlier : List ℕ) (command : PatchCommand) → awaits command ≡ false → list_any is_no_store (steps_of program threads earlier command) ≡ false
store_steps program threads earlier commands.Patch fits = patched_none is_no_store program (all_sleds program) (store_sleds program (all_sleds program))
store_steps program threads earlier commands.Unpatch fits = unpatched_none is_no_store program earlier (all_sleds program) (store_heads earlier (all_sleds program))
store_steps program threads earlier (commands.PatchFunction id) fits = patched_none is_no_store program (sleds_of program id) (store_sleds program (sleds_of program id))
store_steps program threads earlier (commands.UnpatchFunction id) fits = unpatched_none is_no_store program earlier (sleds_of program id) (store_heads earlier (sleds_of program id))
store_steps program threads earlier (commands.Await thread count) fits = absurd cc
store_steps program threads earlier command fits = refl

is_store : (micro : Micro) → is_no_store micro ≡ false → IsStore micro
is_store (Store word value) h = tt
is_store (Await thread count) h = absurd cc
is_store End h = absurd cc

pub stores_before_go : (plan : Plan) → IsOrderly plan → (place : ℕ) → place < start_of plan.program plan.threads (commands_of plan.lines)
    → IsStore (micro_at plan.program plan.threads (commands_of plan.lines) place)
stores_before_go plan all place lt =
    let program = plan.program in
    let threads = plan.threads in
    let script = commands_of plan.lines in
    let front = take_while stays script in
    let none : list_any awaits front ≡ false = no_await [] script refl (λ i c at. placed i c at) in
    let stores : list_any is_no_store (micros program threads front) ≡ false = script_none is_no_store program threads awaits (store_steps program threads) [] front none in
    let whole = whole_front script in
    let split : micros program threads script ≡ micros program threads front ++ micros_after program threads (patched_by program front) whole.0 =
    ap (micros program threads) whole.1 ∙ micros_after-append program threads [] front whole.0 in
    let there : slice_get (micros program threads script) place ≡ Some (get_or (micros program threads front) place End) =
    ap (λ steps. slice_get steps place) split
    ∙ slice_get-append_left (micros program threads front) (micros_after program threads (patched_by program front) whole.0) place lt
    ∙ slice_get-get_or (micros program threads front) place End lt in
    subst IsStore (sym (ap (λ o. unwrap_or o End) there))
    (is_store (get_or (micros program threads front) place End) (found_none is_no_store program (micros program threads front) stores place lt))
  where
    placed : (i : ℕ) (c : PatchCommand) → slice_get (commands_of plan.lines) i ≡ Some c → is_misplaced (take i (commands_of plan.lines)) c ≡ false
    placed i c at =
        let line = mapped plan.lines i c at in
        ap (is_misplaced (take i (commands_of plan.lines))) line.2 ∙ (all.admitted i line.0 line.1).place
      where
        mapped : (lines : List (ℕ × PatchCommand)) (i : ℕ) (c : PatchCommand) → slice_get (commands_of lines) i ≡ Some c
            → (line : ℕ × PatchCommand) × (slice_get lines i ≡ Some line) × (c ≡ line.1)
        mapped [] i c at = absurd cc
        mapped (l ∷ ls) zero c at = (l, refl, let same : l.1 ≡ c = cc in sym same)
        mapped (l ∷ ls) (suc i) c at = mapped ls i c at
