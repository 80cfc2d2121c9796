-- Commands in their places.
use Rattle.std.proofs.Common.{◌≡◌, ℕ, ◌+◌, ◌*◌, ◌-◌, ◌/◌, ◌%◌, ◌<◌, ◌≤◌, zero, suc, List, [], ◌∷◌, ◌++◌, ◌||◌, true, false, length, take, get_or, map, Some, refl, sym, ap, ◌∙◌, ◌==◌, ◌⊎◌, inl, inr, arith}
use Rattle.std.specs.Prelude.{slice_get, nat_le, option_map, unwrap_or}
use Rattle.std.specs.List.{list_any, flat_map}
use Rattle.std.specs.List.Sorted.{IsNonDecreasingBy, IsPartitionPoint}
use Rattle.std.proofs.lemmas.Bool.{cases_lt, leb-true, leb-false}
use Rattle.std.proofs.lemmas.List.{length-map, get_or-map, map-append}
use Rattle.std.proofs.lemmas.List.FromFn.{length-enumerate_from}
use Rattle.std.proofs.lemmas.Option.{slice_get-map, slice_get-get_or, slice_get_within, slice_get_past}
use Rattle.xray_image.specs.declared.sled.Sled.{Sled}
use Rattle.xray_image.specs.Program.{Program}
use Rattle.patch_script.specs.declared.command.PatchCommand.{PatchCommand}
use Rattle.patch_script.specs.declared.command.PatchCommand.TheVariants as commands
use Rattle.patch_script.specs.declared.micro.Micro.{Micro}
use Rattle.patch_script.specs.declared.micro.Micro.TheVariants.{End}
use Rattle.patch_script.specs.declared.placed.Placed.{Placed}
use Rattle.patch_script.specs.declared.placed.PlacedCommands.{PlacedCommands}
use Rattle.patch_script.specs.declared.sleds.SledRange.{SledRange}
use Rattle.patch_script.specs.declared.sleds.SledValues.{SledValues}
use Rattle.patch_script.specs.private.FirstPatches.{is_before, first_in, first_number, patches_all, patches_function}
use Rattle.patch_script.specs.Micros.{all_sleds, sleds_of, patch_sled, unpatch_sled, steps_of, micros, micro_at, total_of}
use Rattle.patch_script.specs.private.Placing.{step_count, line_in, lines_in, patched_before, ArePlaced, IsAt}
use Rattle.patch_script.specs.Refusals.{commands_of}
use Rattle.patch_script.specs.private.Sleds.{values_of, HasId, sleds_named, in_range, HasSleds}
use Rattle.patch_script.proofs.Firsts.{is_before-first, patched_before-is}
use Rattle.patch_script.proofs.Lists.{take_one_more}
use Rattle.patch_script.proofs.Ranges.{range_length, function_range, patching_at, unpatching_at}
use Rattle.patch_script.proofs.Steps.{total_more, total_in_order, step_at}

pub take_all : {X : Type 0} (n : ℕ) (xs : List X) → length xs ≤ n → take n xs ≡ xs
take_all zero [] le = refl
take_all zero (x ∷ xs) le = absurd (omega arith)
take_all (suc n) [] le = refl
take_all (suc n) (x ∷ xs) le = ap (λ ys. x ∷ ys) (take_all n xs (omega arith))

-- ---- ranges of commands

pub values_in_order : (program : Program) (values : List SledValues) → values ≡ map (values_of program.trampolines) program.sleds → IsNonDecreasingBy (λ sled. sled.id) program.sleds
    → IsNonDecreasingBy (λ sled. sled.id) values
values_in_order program values are up i j d le lt =
    let count = ap length are ∙ length-map program.sleds (values_of program.trampolines) in
    let sled = one program.sleds (omega arith) in
    omega (arith, id_at i sled (omega arith), id_at j sled (omega arith), up i j sled le (omega arith))
  where
    one : (xs : List Sled) → 0 < length xs → Sled
    one [] lt = absurd (omega arith)
    one (x ∷ xs) lt = x

    id_at : (k : ℕ) (sled : Sled) → k < length program.sleds → (get_or values k d).id ≡ (get_or program.sleds k sled).id
    id_at k sled lt = ap (λ (v : SledValues). v.id) (ap (λ (vs : List SledValues). get_or vs k d) are ∙ get_or-map (values_of program.trampolines) program.sleds k sled d lt)

pub all_range : (program : Program) (count : ℕ) → count ≡ length program.sleds → all_sleds program ≡ in_range (record { start = 0; end = count }) (all_sleds program)
all_range program count is = sym (take_all (count - 0) (all_sleds program) (omega (arith, is, length-enumerate_from 0 program.sleds)))

-- ---- commands that are placed

module _ (placed : PlacedCommands) (are : ArePlaced placed) where
  pub command_at : (i : ℕ) (one : Placed) → slice_get placed.commands.items i ≡ Some one → slice_get (commands_of (lines_in placed)) i ≡ Some one.command
  command_at i one at =
      slice_get-map (λ (line : ℕ × PatchCommand). line.1) (lines_in placed) i
      ∙ ap (option_map (λ (line : ℕ × PatchCommand). line.1)) (slice_get-map line_in placed.commands.items i ∙ ap (option_map line_in) at)

  pub as_many : length (commands_of (lines_in placed)) ≡ length placed.commands.items
  as_many = length-map (lines_in placed) (λ line. line.1) ∙ length-map placed.commands.items line_in

  pub begins_in_order : IsNonDecreasingBy (λ one. one.before) placed.commands.items
  begins_in_order i j d le lt =
      omega (
        arith,
        (are.each i (get_or placed.commands.items i d) (slice_get-get_or placed.commands.items i d (omega arith))).before,
        (are.each j (get_or placed.commands.items j d) (slice_get-get_or placed.commands.items j d lt)).before,
        total_in_order placed.image.value placed.threads (commands_of (lines_in placed)) i j le,
      )

  -- where the next command begins
  next_begins : (i : ℕ) (one : Placed) → slice_get placed.commands.items i ≡ Some one
      → total_of placed.image.value placed.threads (take (suc i) (commands_of (lines_in placed))) ≡ one.before + step_count one.command (one.sleds.end - one.sleds.start)
  next_begins i one at =
      let all = commands_of (lines_in placed) in
      let is = are.each i one at in
      let count : length (sleds_named placed.image.value one.command) ≡ one.sleds.end - one.sleds.start =
      ap length is.sleds.sleds ∙ range_length placed.image.value one.sleds is.sleds.ordered is.sleds.within in
      ap (total_of placed.image.value placed.threads) (take_one_more all i one.command (command_at i one at))
      ∙ total_more placed.image.value placed.threads (take i all) one.command
      ∙ ap (λ n. total_of placed.image.value placed.threads (take i all) + step_count one.command n) count
      ∙ ap (λ n. n + step_count one.command (one.sleds.end - one.sleds.start)) (sym is.before)

  module _ (place : ℕ) (within : place < placed.total) (point : ℕ) (bound : point ≤ length placed.commands.items)
      (parts : IsPartitionPoint (λ y. nat_le y.before place ≡ true) (λ y. nat_le y.before place ≡ false) placed.commands.items point) where
    pub some_begins : 1 ≤ point
    some_begins = elim (cases_lt 0 point) [
      | inl lt ↦ omega arith
      | inr none ↦ absurd (first none placed.commands.items refl)
    ]
      where
        nothing : (script : List PatchCommand) → length script ≡ 0 → total_of placed.image.value placed.threads script ≡ 0
        nothing [] e = refl
        nothing (x ∷ xs) e = absurd (omega arith)

        first : point ≤ 0 → (items : List Placed) → items ≡ placed.commands.items → ⊥
        first none [] e = omega (arith, within, nothing (commands_of (lines_in placed)) (as_many ∙ sym (ap length e)), are.total)
        first none (x ∷ xs) e =
            let at : slice_get placed.commands.items 0 ≡ Some x = ap (λ (ys : List Placed). slice_get ys 0) (sym e) in
            let some : 0 < length placed.commands.items = slice_get_within placed.commands.items 0 x at in
            let same : get_or placed.commands.items 0 x ≡ x = ap (λ (ys : List Placed). get_or ys 0 x) (sym e) in
            omega (
              arith,
              leb-false _ place (parts.1 0 x none some),
              ap (λ (y : Placed). y.before) same,
              (are.each 0 x at).before,
              nothing (take 0 (commands_of (lines_in placed))) refl,
            )

    pub is_at : (number : ℕ) → number + 1 ≡ point → IsAt placed place number
    is_at number next = record {
      within = omega arith;
      begins = λ d. leb-true _ place (parts.0 number d (omega arith) (omega arith));
      ends = λ d.
          let items = placed.commands.items in
          let all = commands_of (lines_in placed) in
          let one = get_or items number d in
          let following = next_begins number one (slice_get-get_or items number d (omega arith)) in
          let suc_number : suc number ≡ point = omega arith in
          elim (cases_lt point (length items)) [
            | inl lt ↦ omega (
              arith,
              following,
              ap (λ n. total_of placed.image.value placed.threads (take n all)) suc_number,
              (are.each point (get_or items point d) (slice_get-get_or items point d lt)).before,
              leb-false _ place (parts.1 point d (omega arith) lt),
            )
            | inr le ↦ omega (
              arith,
              following,
              ap (λ n. total_of placed.image.value placed.threads (take n all)) suc_number,
              ap (total_of placed.image.value placed.threads) (take_all point all (omega (arith, as_many))),
              are.total,
            )
          ];
    }

  -- ---- the micro steps of a command

  pub found_step : (place number : ℕ) (one : Placed) (micro : Micro) → slice_get placed.commands.items number ≡ Some one → one.before ≤ place
      → slice_get (steps_of placed.image.value placed.threads (patched_before placed number) one.command) (place - one.before) ≡ Some micro
      → micro ≡ micro_at placed.image.value placed.threads (commands_of (lines_in placed)) place
  found_step place number one micro at begun step =
      let all = commands_of (lines_in placed) in
      let begin = (are.each number one at).before in
      let here : total_of placed.image.value placed.threads (take number all) + (place - one.before) ≡ place = omega (arith, begin) in
      sym (ap (λ o. unwrap_or o End) (ap (slice_get (micros placed.image.value placed.threads all)) (sym here) ∙ step_at placed.image.value placed.threads all number one.command (place - one.before) micro (command_at number one at) step))

  pub past_end : (place : ℕ) → placed.total ≤ place → End ≡ micro_at placed.image.value placed.threads (commands_of (lines_in placed)) place
  past_end place past =
      sym (ap (λ o. unwrap_or o End) (slice_get_past (micros placed.image.value placed.threads (commands_of (lines_in placed))) place (omega (arith, are.total))))

  -- ---- sleds

  pub was_patched : (number k : ℕ) (sled : Sled) → slice_get placed.image.value.sleds k ≡ Some sled
      → (is_before placed.first_patches.all number || is_before (first_in placed.first_patches.by_id.items sled.id) number) ≡ list_any (λ j. j == k) (patched_before placed number)
  was_patched number k sled at =
      let all = commands_of (lines_in placed) in
      ap (λ o. is_before o number || is_before (first_in placed.first_patches.by_id.items sled.id) number) are.first.all
      ∙ ap (λ o. is_before (first_number patches_all all) number || is_before o number) (are.first.by_id sled.id)
      ∙ ap (λ b. b || is_before (first_number (patches_function sled.id) all) number) (is_before-first patches_all all number)
      ∙ ap (λ b. list_any patches_all (take number all) || b) (is_before-first (patches_function sled.id) all number)
      ∙ sym (patched_before-is placed.image.value k sled at (take number all))

-- ---- commands on sleds

-- a command that patches sleds, and one that unpatches them
abbrev pub IsPatching : PatchCommand → Type 0
IsPatching command = (command ≡ commands.Patch) ⊎ ((id : ℕ) × (command ≡ commands.PatchFunction id))

abbrev pub IsUnpatching : PatchCommand → Type 0
IsUnpatching command = (command ≡ commands.Unpatch) ⊎ ((id : ℕ) × (command ≡ commands.UnpatchFunction id))

patching_count : (command : PatchCommand) (n : ℕ) → IsPatching command → step_count command n ≡ 4 * n
patching_count command n (inl is) = ap (λ c. step_count c n) is
patching_count command n (inr is) = ap (λ c. step_count c n) is.1

unpatching_count : (command : PatchCommand) (n : ℕ) → IsUnpatching command → step_count command n ≡ n
unpatching_count command n (inl is) = ap (λ c. step_count c n) is
unpatching_count command n (inr is) = ap (λ c. step_count c n) is.1

patching_steps : (program : Program) (threads : ℕ) (earlier : List ℕ) (command : PatchCommand) → IsPatching command → steps_of program threads earlier command ≡ flat_map (patch_sled program) (sleds_named program command)
patching_steps program threads earlier command (inl is) = ap (steps_of program threads earlier) is ∙ sym (ap (λ c. flat_map (patch_sled program) (sleds_named program c)) is)
patching_steps program threads earlier command (inr is) = ap (steps_of program threads earlier) is.1 ∙ sym (ap (λ c. flat_map (patch_sled program) (sleds_named program c)) is.1)

unpatching_steps : (program : Program) (threads : ℕ) (earlier : List ℕ) (command : PatchCommand) → IsUnpatching command → steps_of program threads earlier command ≡ map (unpatch_sled earlier) (sleds_named program command)
unpatching_steps program threads earlier command (inl is) = ap (steps_of program threads earlier) is ∙ sym (ap (λ c. map (unpatch_sled earlier) (sleds_named program c)) is)
unpatching_steps program threads earlier command (inr is) = ap (steps_of program threads earlier) is.1 ∙ sym (ap (λ c. map (unpatch_sled earlier) (sleds_named program c)) is.1)

-- the item at a place within a list
pub item_at : {X : Type 0} (xs : List X) (k : ℕ) → k < length xs → (x : X) × (slice_get xs k ≡ Some x)
item_at [] k lt = absurd (omega arith)
item_at (x ∷ xs) zero lt = (x, refl)
item_at (x ∷ xs) (suc k) lt = item_at xs k (omega arith)

module _ (program : Program) (command : PatchCommand) (range : SledRange) (has : HasSleds program command range) (step : ℕ) (within : step < step_count command (range.end - range.start)) where
  pub patched_within : IsPatching command → range.start + step / 4 < length program.sleds
  patched_within is = omega (arith, patching_count command (range.end - range.start) is, has.ordered, has.within, within)

  pub unpatched_within : IsUnpatching command → range.start + step < length program.sleds
  unpatched_within is = omega (arith, unpatching_count command (range.end - range.start) is, has.ordered, has.within, within)

  pub patched_step : (threads : ℕ) (earlier : List ℕ) (micro : Micro) → IsPatching command
      → ((sled : Sled) → slice_get program.sleds (range.start + step / 4) ≡ Some sled → slice_get (patch_sled program (range.start + step / 4, sled)) (step % 4) ≡ Some micro)
      → slice_get (steps_of program threads earlier command) step ≡ Some micro
  patched_step threads earlier micro is store =
      let sled = item_at program.sleds (range.start + step / 4) (patched_within is) in
      ap (λ steps. slice_get steps step) (patching_steps program threads earlier command is)
      ∙ patching_at program range (sleds_named program command) step (range.start + step / 4) sled.0 micro has.sleds
      (omega (arith, patching_count command (range.end - range.start) is, within)) refl sled.1 (store sled.0 sled.1)

  pub unpatched_step : (threads : ℕ) (earlier : List ℕ) (micro : Micro) → IsUnpatching command
      → ((sled : Sled) → slice_get program.sleds (range.start + step) ≡ Some sled → micro ≡ unpatch_sled earlier (range.start + step, sled))
      → slice_get (steps_of program threads earlier command) step ≡ Some micro
  unpatched_step threads earlier micro is store =
      let sled = item_at program.sleds (range.start + step) (unpatched_within is) in
      ap (λ steps. slice_get steps step) (unpatching_steps program threads earlier command is)
      ∙ unpatching_at program earlier range (sleds_named program command) step (range.start + step) sled.0 micro has.sleds
      (omega (arith, unpatching_count command (range.end - range.start) is, within)) refl sled.1 (store sled.0 sled.1)

-- ---- the sleds of a command

pub all_named : (program : Program) (command : PatchCommand) (count : ℕ) → (command ≡ commands.Patch) ⊎ (command ≡ commands.Unpatch) → count ≡ length program.sleds
    → HasSleds program command (record { start = 0; end = count })
all_named program command count is sleds = record {
  ordered = omega arith;
  within = omega arith;
  sleds = named is ∙ all_range program count sleds;
}
  where
    named : (command ≡ commands.Patch) ⊎ (command ≡ commands.Unpatch) → sleds_named program command ≡ all_sleds program
    named (inl is) = ap (sleds_named program) is
    named (inr is) = ap (sleds_named program) is

pub function_named : (program : Program) (command : PatchCommand) (id : ℕ) (values : List SledValues) (range : SledRange)
    → (command ≡ commands.PatchFunction id) ⊎ (command ≡ commands.UnpatchFunction id)
    → values ≡ map (values_of program.trampolines) program.sleds → HasId values id range → HasSleds program command range
function_named program command id values range is are has = record {
  ordered = has.ordered;
  within = omega (arith, has.within, ap length are, length-map program.sleds (values_of program.trampolines));
  sleds = named is ∙ function_range program values id range are has;
}
  where
    named : (command ≡ commands.PatchFunction id) ⊎ (command ≡ commands.UnpatchFunction id) → sleds_named program command ≡ sleds_of program id
    named (inl is) = ap (sleds_named program) is
    named (inr is) = ap (sleds_named program) is

-- what is kept of one more sled
pub values_more : (program : Program) (n : ℕ) (values values' : List SledValues) (value : SledValues) → n < length program.sleds
    → values ≡ map (values_of program.trampolines) (take n program.sleds) → ((sled : Sled) → slice_get program.sleds n ≡ Some sled → value ≡ values_of program.trampolines sled)
    → values' ≡ values ++ value ∷ [] → values' ≡ map (values_of program.trampolines) (take (n + 1) program.sleds)
values_more program n values values' value lt are is more =
    let sled = item_at program.sleds n lt in
    let next : n + 1 ≡ suc n = omega arith in
    more ∙ ap (λ vs. vs ++ value ∷ []) are ∙ ap (λ (v : SledValues). map (values_of program.trampolines) (take n program.sleds) ++ v ∷ []) (is sled.0 sled.1)
    ∙ sym (map-append (values_of program.trampolines) (take n program.sleds) (sled.0 ∷ []))
    ∙ sym (ap (map (values_of program.trampolines)) (ap (λ m. take m program.sleds) next ∙ take_one_more program.sleds n sled.0 sled.1))
