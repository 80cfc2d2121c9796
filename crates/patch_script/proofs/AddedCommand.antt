-- One more command in its place.
use Rattle.std.proofs.Common.{◌≡◌, ℕ, ◌+◌, ◌-◌, ◌≤◌, List, [], ◌∷◌, ◌++◌, Bool, false, cond, length, take, map, Option, Some, None, sym, ap, subst, ◌∙◌, inl, inr, arith}
use Rattle.std.specs.Prelude.{slice_get, Vec}
use Rattle.std.specs.Option.{option_or}
use Rattle.std.specs.declared.alloc.Global.{Global}
use Rattle.std.proofs.lemmas.Bool.{cases_lt}
use Rattle.std.proofs.lemmas.List.{map-append, length-append, take-append-le}
use Rattle.std.proofs.lemmas.Option.{same_Some, slice_get_within}
use Rattle.xray_image.specs.Ids.{id_count}
use Rattle.patch_script.specs.declared.command.PatchCommand.{PatchCommand}
use Rattle.patch_script.specs.declared.command.PatchCommand.TheVariants as commands
use Rattle.patch_script.specs.declared.first_patches.FirstPatches.{FirstPatches}
use Rattle.patch_script.specs.declared.placed.Placed.{Placed}
use Rattle.patch_script.specs.declared.placed.PlacedCommands.{PlacedCommands}
use Rattle.patch_script.specs.declared.sleds.SledRange.{SledRange}
use Rattle.patch_script.specs.private.FirstPatches.{AreFirst, AddsFirst}
use Rattle.patch_script.specs.Micros.{total_of, start_of}
use Rattle.patch_script.specs.private.Placing.{step_count, line_in, lines_in, NamesFewThreads, IsPlaced, ArePlaced, MayBePlaced}
use Rattle.patch_script.specs.Plans.{is_waiting, waiting_line}
use Rattle.patch_script.specs.Refusals.{commands_of, has_go, names_no_thread}
use Rattle.patch_script.specs.private.Sleds.{sleds_named, HasSleds}
use Rattle.patch_script.proofs.Firsts.{first_more}
use Rattle.patch_script.proofs.Lists.{slice_get-append_left, slice_get-append_right}
use Rattle.patch_script.proofs.Places.{as_many, take_all}
use Rattle.patch_script.proofs.Ranges.{range_length}
use Rattle.patch_script.proofs.Steps.{total_more, start_more, waiting_more}

step_count-few : (command : PatchCommand) (n : ℕ) → n ≤ 4096 → step_count command n ≤ 16384
step_count-few commands.Patch n few = omega arith
step_count-few commands.Unpatch n few = omega arith
step_count-few (commands.PatchFunction id) n few = omega arith
step_count-few (commands.UnpatchFunction id) n few = omega arith
step_count-few command n few = omega arith

few_threads : (command : PatchCommand) → names_no_thread 16 command ≡ false → NamesFewThreads command
few_threads (commands.Release thread) fits = grind arith
few_threads command fits = tt

module _ (old : PlacedCommands) (line : ℕ) (command : PatchCommand) (range : SledRange) (going : Bool)
    (are : ArePlaced old) (follows : MayBePlaced old command) (has : HasSleds old.image.value command range) (going_is : going ≡ has_go (commands_of (lines_in old)))
    (items : Vec Placed Global) (first : FirstPatches) (total start : ℕ) (waits : Option ℕ)
    (items_are : items.items ≡ old.commands.items ++ record { line = line; command = command; sleds = range; before = old.total; after = total } ∷ [])
    (first_is : AddsFirst old.first_patches command (length old.commands.items) first)
    (total_is : total ≡ old.total + step_count command (range.end - range.start))
    (start_is : start ≡ cond going old.start total)
    (waits_are : waits ≡ option_or old.waits (cond (is_waiting command) (Some line) None)) where
  abbrev new : PlacedCommands
  new = record old { commands = items; total = total; start = start; waits = waits; first_patches = first }

  abbrev last : Placed
  last = record { line = line; command = command; sleds = range; before = old.total; after = total }

  abbrev before : List PatchCommand
  before = commands_of (lines_in old)

  pub lines_more : lines_in new ≡ lines_in old ++ (line, command) ∷ []
  lines_more = ap (map line_in) items_are ∙ map-append line_in old.commands.items (last ∷ [])

  script_more : commands_of (lines_in new) ≡ before ++ command ∷ []
  script_more = ap (map (λ l. l.1)) lines_more ∙ map-append (λ (l : ℕ × PatchCommand). l.1) (lines_in old) ((line, command) ∷ [])

  sled_count : length (sleds_named old.image.value command) ≡ range.end - range.start
  sled_count = ap length has.sleds ∙ range_length old.image.value range has.ordered has.within

  total_whole : total ≡ total_of old.image.value old.threads (before ++ command ∷ [])
  total_whole =
      total_is ∙ ap (λ n. n + step_count command (range.end - range.start)) are.total
      ∙ sym (total_more old.image.value old.threads before command ∙ ap (λ n. total_of old.image.value old.threads before + step_count command n) sled_count)

  count : length before ≡ length old.commands.items
  count = as_many old are

  last_placed : IsPlaced old.image.value old.threads before last
  last_placed = record { before = are.total; after = total_is; sleds = has; thread = few_threads command follows.thread }

  each : (i : ℕ) (one : Placed) → slice_get items.items i ≡ Some one → IsPlaced old.image.value old.threads (take i (commands_of (lines_in new))) one
  each i one at =
      let there : slice_get (old.commands.items ++ last ∷ []) i ≡ Some one = sym (ap (λ (ps : List Placed). slice_get ps i) items_are) ∙ at in
      elim (cases_lt i (length old.commands.items)) [
        | inl lt ↦
            let same : take i (commands_of (lines_in new)) ≡ take i before = ap (take i) script_more ∙ take-append-le i before (command ∷ []) (omega (arith, count)) in
            subst (λ (front : List PatchCommand). IsPlaced old.image.value old.threads front one) (sym same)
            (are.each i one (sym (slice_get-append_left old.commands.items (last ∷ []) i lt) ∙ there))
        | inr le ↦
            let within = slice_get_within (old.commands.items ++ last ∷ []) i one there in
            let here : i ≡ length old.commands.items + 0 = omega (arith, within, length-append old.commands.items (last ∷ [])) in
            let is : last ≡ one = same_Some last one (sym (ap (slice_get (old.commands.items ++ last ∷ [])) here ∙ slice_get-append_right old.commands.items (last ∷ []) 0) ∙ there) in
            let same : take i (commands_of (lines_in new)) ≡ before =
            ap (take i) script_more ∙ take-append-le i before (command ∷ []) (omega (arith, count, here)) ∙ take_all i before (omega (arith, count)) in
            subst (λ (front : List PatchCommand). IsPlaced old.image.value old.threads front one) (sym same) (subst (IsPlaced old.image.value old.threads before) is last_placed)
      ]

  pub placed_more : ArePlaced new
  placed_more = record {
    image = record { few = are.image.few; in_order = are.image.in_order; sleds = are.image.sleds; handler = are.image.handler; state = are.image.state; arg_handler = are.image.arg_handler };
    each = each;
    total = total_whole ∙ sym (ap (total_of old.image.value old.threads) script_more);
    start = start_is ∙ ap (λ b. cond b old.start total) going_is
        ∙ ap (λ n. cond (has_go before) n total) are.start ∙ ap (λ n. cond (has_go before) (start_of old.image.value old.threads before) n) total_whole
        ∙ sym (ap (start_of old.image.value old.threads) script_more ∙ start_more old.image.value old.threads before command);
    waits = waits_are ∙ ap (λ w. option_or w (cond (is_waiting command) (Some line) None)) are.waits
        ∙ sym (ap waiting_line lines_more ∙ waiting_more (lines_in old) line command);
    first = subst (λ (script : List PatchCommand). AreFirst (id_count old.image.value) script first) (sym script_more)
        (first_more _ before command (length old.commands.items) old.first_patches first are.first (sym count) first_is);
    few = omega (
      arith,
      total_is,
      are.few,
      step_count-few command (range.end - range.start) (omega (arith, are.image.few, has.within)),
      ap length lines_more,
      length-append (lines_in old) ((line, command) ∷ []),
    );
    room = omega (arith, follows.room, ap length lines_more, length-append (lines_in old) ((line, command) ∷ []));
  }
