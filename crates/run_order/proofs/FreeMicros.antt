-- The micro steps of a script without waits, and its code.
use Rattle.std.proofs.Common.{◌≡◌, ℕ, zero, suc, ◌+◌, ◌<◌, ◌≤◌, Bool, true, false, cond, List, [], ◌∷◌, ◌++◌, append-nil, Option, Some, None, refl, sym, ap, ◌∙◌, arith, length, length-append, map, take, drop}
use Rattle.std.specs.Prelude.{◌==◌, filter, not, take_while, unwrap_or}
use Rattle.std.specs.List.{cons_option, enumerate_from, filter_map, flat_map, last_or, list_any, prefix_len}
use Rattle.std.proofs.lemmas.Bool.Decides.{nat_tests}
use Rattle.std.proofs.lemmas.List.{take-append-drop}
use Rattle.std.proofs.lemmas.List.Elements.{filter-append}
use Rattle.std.proofs.Math.Seq.{take-append_seam}
use Rattle.xray_image.specs.declared.sled.Sled.{Sled}
use Rattle.xray_image.specs.Program.{Program}
use Rattle.sled_words.specs.declared.part.Part.{Part}
use Rattle.sled_words.specs.declared.part.Part.TheVariants.{Head, Id, Opcode, Offset}
use Rattle.sled_words.specs.Parts.{patched}
use Rattle.sled_words.specs.Words.{arg_handler_word, handler_word, release_word, state_word, word_of}
use Rattle.patch_script.specs.declared.command.PatchCommand.{PatchCommand}
use Rattle.patch_script.specs.declared.command.PatchCommand.TheVariants as commands
use Rattle.patch_script.specs.declared.micro.Micro.{Micro}
use Rattle.patch_script.specs.declared.micro.Micro.TheVariants.{Store, Await, End}
use Rattle.patch_script.specs.CodeAt.{code_at, initial_value, stored_in}
use Rattle.patch_script.specs.Micros.{Numbered, all_sleds, head_left, is_go, micros, micros_after, numbers, patch_sled, patches, sleds_of, start_of, steps_of, total_of, unpatch_sled}
use Rattle.patch_script.specs.Plans.{is_waiting}
use Rattle.audit_check.proofs.TurnLemmas.{not_false}
use Rattle.run_order.specs.FreeScripts.{free_commands, free_place, is_free, is_release_word}

-- ---- a script's releases are of its threads

abbrev pub Releases : ℕ → PatchCommand → Type 0
Releases threads (commands.Release thread) = (0 < thread) × (thread ≤ threads)
Releases threads _ = Unit {0}

abbrev pub AllRelease : ℕ → List PatchCommand → Type 0
AllRelease threads [] = Unit {0}
AllRelease threads (command ∷ script) = Releases threads command × AllRelease threads script

-- ---- stores that stay

module _ (program : Program) (threads : ℕ) where
  stays : (word value : ℕ) → word ≤ state_word program → is_free program threads (Store word value) ≡ true
  stays word value low = grind (arith, nat_tests)

  arg_stays : (value : ℕ) → is_free program threads (Store (arg_handler_word program threads) value) ≡ true
  arg_stays value = grind (arith, nat_tests)

  goes : (thread value : ℕ) → 0 < thread → thread ≤ threads → is_free program threads (Store (release_word program thread) value) ≡ false
  goes thread value some within = grind (arith, nat_tests)

  -- sleds with numbers below one
  abbrev pub AreBelow : ℕ → List Numbered → Type 0
  AreBelow count [] = Unit {0}
  AreBelow count ((k, sled) ∷ sleds) = (k < count) × AreBelow count sleds

  numbers_below : (n : ℕ) (sleds : List Sled) (count : ℕ) → n + length sleds ≤ count → AreBelow count (enumerate_from n sleds)
  numbers_below n [] count h = tt
  numbers_below n (sled ∷ sleds) count h = (omega (arith, h), numbers_below (n + 1) sleds count (omega (arith, h)))

  pub filter_below : (p : Numbered → Bool) (count : ℕ) (sleds : List Numbered) → AreBelow count sleds → AreBelow count (filter p sleds)
  filter_below p count [] h = tt
  filter_below p count ((k, sled) ∷ sleds) h = by_test (p (k, sled)) (filter_below p count sleds h.1)
    where
      by_test : (b : Bool) → AreBelow count (filter p sleds) → AreBelow count (cond b ((k, sled) ∷ filter p sleds) (filter p sleds))
      by_test true rest = (h.0, rest)
      by_test false rest = rest

  pub all_below : AreBelow (length program.sleds) (all_sleds program)
  all_below = numbers_below 0 program.sleds (length program.sleds) (omega arith)

  part_low : (k : ℕ) (part : Part) → k < length program.sleds → word_of k part ≤ state_word program
  part_low k Head h = omega (arith, h)
  part_low k Id h = omega (arith, h)
  part_low k Opcode h = omega (arith, h)
  part_low k Offset h = omega (arith, h)

  -- micro steps that all stay
  abbrev AllStay : List Micro → Type 0
  AllStay steps = filter (is_free program threads) steps ≡ steps

  one_stays : (step : Micro) (steps : List Micro) → is_free program threads step ≡ true → AllStay steps → AllStay (step ∷ steps)
  one_stays step steps e rest =
      ap (λ b. cond b (step ∷ filter (is_free program threads) steps) (filter (is_free program threads) steps)) e
      ∙ ap (λ (ss : List Micro). step ∷ ss) rest

  pub patches_stay : (sleds : List Numbered) → AreBelow (length program.sleds) sleds → AllStay (flat_map (patch_sled program) sleds)
  patches_stay [] h = refl
  patches_stay ((k, sled) ∷ sleds) h =
      let rest = patches_stay sleds h.1 in
      let value = patched program.trampolines sled in
      let later = flat_map (patch_sled program) sleds in
      let head = one_stays (Store (word_of k Head) (value Head)) later (stays (word_of k Head) (value Head) (part_low k Head h.0)) rest in
      let offset = one_stays (Store (word_of k Offset) (value Offset)) _ (stays (word_of k Offset) (value Offset) (part_low k Offset h.0)) head in
      let opcode = one_stays (Store (word_of k Opcode) (value Opcode)) _ (stays (word_of k Opcode) (value Opcode) (part_low k Opcode h.0)) offset in
      one_stays (Store (word_of k Id) (value Id)) _ (stays (word_of k Id) (value Id) (part_low k Id h.0)) opcode

  unpatches_stay : (earlier : List ℕ) (sleds : List Numbered) → AreBelow (length program.sleds) sleds → AllStay (map (unpatch_sled earlier) sleds)
  unpatches_stay earlier [] h = refl
  unpatches_stay earlier ((k, sled) ∷ sleds) h =
      one_stays (unpatch_sled earlier (k, sled)) (map (unpatch_sled earlier) sleds) (stays (word_of k Head) (head_left sled.kind (list_any (λ j. j == k) earlier)) (part_low k Head h.0))
      (unpatches_stay earlier sleds h.1)

  one_store : (word value : ℕ) → is_free program threads (Store word value) ≡ true → AllStay (Store word value ∷ [])
  one_store word value e = one_stays (Store word value) [] e refl

  -- ---- commands

  -- the steps of a command that stays, before those of others
  command_stays : (earlier : List ℕ) (command : PatchCommand) (free rest : List PatchCommand) → AllStay (steps_of program threads earlier command)
      → micros_after program threads (earlier ++ numbers (patches program command)) free
      ≡ filter (is_free program threads) (micros_after program threads (earlier ++ numbers (patches program command)) rest)
      → micros_after program threads earlier (command ∷ free)
      ≡ filter (is_free program threads) (micros_after program threads earlier (command ∷ rest))
  command_stays earlier command free rest stay same =
      ap (λ (ss : List Micro). steps_of program threads earlier command ++ ss) same
      ∙ ap (λ (ss : List Micro). ss ++ filter (is_free program threads) (micros_after program threads (earlier ++ numbers (patches program command)) rest)) (sym stay)
      ∙ sym (filter-append (is_free program threads) (steps_of program threads earlier command)
      (micros_after program threads (earlier ++ numbers (patches program command)) rest))

  -- those of a command that waits
  command_goes : (earlier : List ℕ) (command : PatchCommand) (free rest : List PatchCommand) → patches program command ≡ []
      → filter (is_free program threads) (steps_of program threads earlier command) ≡ []
      → micros_after program threads earlier free ≡ filter (is_free program threads) (micros_after program threads earlier rest)
      → micros_after program threads earlier free ≡ filter (is_free program threads) (micros_after program threads earlier (command ∷ rest))
  command_goes earlier command free rest patches_none none same =
      let stays : earlier ++ numbers (patches program command) ≡ earlier =
      ap (λ (ss : List Numbered). earlier ++ numbers ss) patches_none ∙ append-nil earlier in
      let later = micros_after program threads (earlier ++ numbers (patches program command)) rest in
      same
      ∙ ap (λ (ns : List ℕ). filter (is_free program threads) (micros_after program threads ns rest)) (sym stays)
      ∙ ap (λ (ss : List Micro). ss ++ filter (is_free program threads) later) (sym none)
      ∙ sym (filter-append (is_free program threads) (steps_of program threads earlier command) later)

  free_after : (earlier : List ℕ) (script : List PatchCommand) → AllRelease threads script
      → micros_after program threads earlier (free_commands script) ≡ filter (is_free program threads) (micros_after program threads earlier script)
  free_after earlier [] are = refl
  free_after earlier (commands.Patch ∷ script) are =
      command_stays earlier commands.Patch (free_commands script) script (patches_stay (all_sleds program) all_below)
      (free_after (earlier ++ numbers (patches program commands.Patch)) script are.1)
  free_after earlier (commands.Unpatch ∷ script) are =
      command_stays earlier commands.Unpatch (free_commands script) script (unpatches_stay earlier (all_sleds program) all_below)
      (free_after (earlier ++ numbers (patches program commands.Unpatch)) script are.1)
  free_after earlier (commands.PatchFunction id ∷ script) are =
      command_stays earlier (commands.PatchFunction id) (free_commands script) script
      (patches_stay (sleds_of program id) (filter_below (λ s. s.1.id == id) (length program.sleds) (all_sleds program) all_below))
      (free_after (earlier ++ numbers (patches program (commands.PatchFunction id))) script are.1)
  free_after earlier (commands.UnpatchFunction id ∷ script) are =
      command_stays earlier (commands.UnpatchFunction id) (free_commands script) script
      (unpatches_stay earlier (sleds_of program id) (filter_below (λ s. s.1.id == id) (length program.sleds) (all_sleds program) all_below))
      (free_after (earlier ++ numbers (patches program (commands.UnpatchFunction id))) script are.1)
  free_after earlier (commands.SetHandler ∷ script) are =
      command_stays earlier commands.SetHandler (free_commands script) script (one_store (handler_word program) 1 (stays (handler_word program) 1 (omega arith)))
      (free_after (earlier ++ numbers (patches program commands.SetHandler)) script are.1)
  free_after earlier (commands.RemoveHandler ∷ script) are =
      command_stays earlier commands.RemoveHandler (free_commands script) script (one_store (handler_word program) 0 (stays (handler_word program) 0 (omega arith)))
      (free_after (earlier ++ numbers (patches program commands.RemoveHandler)) script are.1)
  free_after earlier (commands.SetArgHandler ∷ script) are =
      command_stays earlier commands.SetArgHandler (free_commands script) script (one_store (arg_handler_word program threads) 1 (arg_stays 1))
      (free_after (earlier ++ numbers (patches program commands.SetArgHandler)) script are.1)
  free_after earlier (commands.RemoveArgHandler ∷ script) are =
      command_stays earlier commands.RemoveArgHandler (free_commands script) script (one_store (arg_handler_word program threads) 0 (arg_stays 0))
      (free_after (earlier ++ numbers (patches program commands.RemoveArgHandler)) script are.1)
  free_after earlier (commands.Init ∷ script) are =
      command_stays earlier commands.Init (free_commands script) script
      (one_stays (Store (state_word program) 1) (Store (state_word program) 2 ∷ []) (stays (state_word program) 1 (omega arith))
      (one_store (state_word program) 2 (stays (state_word program) 2 (omega arith))))
      (free_after (earlier ++ numbers (patches program commands.Init)) script are.1)
  free_after earlier (commands.Finalize ∷ script) are =
      command_stays earlier commands.Finalize (free_commands script) script
      (one_stays (Store (state_word program) 3) (Store (state_word program) 4 ∷ []) (stays (state_word program) 3 (omega arith))
      (one_store (state_word program) 4 (stays (state_word program) 4 (omega arith))))
      (free_after (earlier ++ numbers (patches program commands.Finalize)) script are.1)
  free_after earlier (commands.Go ∷ script) are =
      command_stays earlier commands.Go (free_commands script) script refl
      (free_after (earlier ++ numbers (patches program commands.Go)) script are.1)
  free_after earlier (commands.Hold thread passing ∷ script) are =
      command_goes earlier (commands.Hold thread passing) (free_commands script) script refl refl (free_after earlier script are.1)
  free_after earlier (commands.Await thread count ∷ script) are =
      command_goes earlier (commands.Await thread count) (free_commands script) script refl refl (free_after earlier script are.1)
  free_after earlier (commands.Release thread ∷ script) are =
      let gone : filter (is_free program threads) (Store (release_word program thread) 1 ∷ []) ≡ [] =
      ap (λ b. cond b (Store (release_word program thread) 1 ∷ []) []) (goes thread 1 are.0.0 are.0.1) in
      command_goes earlier (commands.Release thread) (free_commands script) script refl gone (free_after earlier script are.1)

  -- the micro steps of the script without waits
  pub free_micros : (script : List PatchCommand) → AllRelease threads script
      → micros program threads (free_commands script) ≡ filter (is_free program threads) (micros program threads script)
  free_micros script are = free_after [] script are

  -- ---- places

  pub free_total : (script : List PatchCommand) → AllRelease threads script
      → total_of program threads (free_commands script) ≡ free_place program threads script (total_of program threads script)
  free_total script are = ap length (free_micros script are) ∙ ap (λ (ss : List Micro). length (filter (is_free program threads) ss)) (sym (all_taken (micros program threads script)))
    where
      all_taken : (steps : List Micro) → take (length steps) steps ≡ steps
      all_taken [] = refl
      all_taken (step ∷ steps) = ap (λ (ss : List Micro). step ∷ ss) (all_taken steps)

  -- the first of the micro steps that stay are those of the first micro steps
  front_stays : (steps : List Micro) (place : ℕ)
      → take (length (filter (is_free program threads) (take place steps))) (filter (is_free program threads) steps)
      ≡ filter (is_free program threads) (take place steps)
  front_stays steps place =
      let front = filter (is_free program threads) (take place steps) in
      let rest = filter (is_free program threads) (drop place steps) in
      let whole : filter (is_free program threads) steps ≡ front ++ rest =
      ap (filter (is_free program threads)) (sym (take-append-drop place steps)) ∙ filter-append (is_free program threads) (take place steps) (drop place steps) in
      ap (take (length front)) whole ∙ take-append_seam front rest

  pub places_rise : (script : List PatchCommand) (place next : ℕ) → place ≤ next
      → free_place program threads script place ≤ free_place program threads script next
  places_rise script place next low = rise (micros program threads script) place next low
    where
      rise : (steps : List Micro) (place next : ℕ) → place ≤ next
          → length (filter (is_free program threads) (take place steps)) ≤ length (filter (is_free program threads) (take next steps))
      rise steps zero next low = omega arith
      rise [] (suc place) next low = omega arith
      rise (step ∷ steps) (suc place) zero low = absurd (omega (arith, low))
      rise (step ∷ steps) (suc place) (suc next) low = by_test (is_free program threads step) (rise steps place next (omega (arith, low)))
        where
          by_test : (b : Bool) → length (filter (is_free program threads) (take place steps)) ≤ length (filter (is_free program threads) (take next steps))
              → length (cond b (step ∷ filter (is_free program threads) (take place steps)) (filter (is_free program threads) (take place steps)))
              ≤ length (cond b (step ∷ filter (is_free program threads) (take next steps)) (filter (is_free program threads) (take next steps)))
          by_test true h = omega (arith, h)
          by_test false h = h

  -- ---- code

  -- no micro step that goes stores in a word that isn't a release word
  goes_unstored : (word : ℕ) (step : Micro) → is_release_word program threads word ≡ false → is_free program threads step ≡ false
      → stored_in word step ≡ None
  goes_unstored word (Store other value) apart gone =
      let release : is_release_word program threads other ≡ true = not_false (is_release_word program threads other) gone in
      let differ : (other == word) ≡ false = not_same other word (λ e. cc (ap (is_release_word program threads) e, release, apart)) in
      ap (λ b. cond b (Some value) None) differ
    where
      not_same : (a b : ℕ) → (a ≡ b → ⊥) → (a == b) ≡ false
      not_same a b apart = grind (arith, nat_tests)
  goes_unstored word (Await thread count) apart gone = refl
  goes_unstored word End apart gone = refl

  stores_stay : (word : ℕ) (steps : List Micro) → is_release_word program threads word ≡ false
      → filter_map (stored_in word) (filter (is_free program threads) steps) ≡ filter_map (stored_in word) steps
  stores_stay word [] apart = refl
  stores_stay word (step ∷ steps) apart = by_test (is_free program threads step) refl (stores_stay word steps apart)
    where
      by_test : (b : Bool) → is_free program threads step ≡ b
          → filter_map (stored_in word) (filter (is_free program threads) steps) ≡ filter_map (stored_in word) steps
          → filter_map (stored_in word) (cond (is_free program threads step) (step ∷ filter (is_free program threads) steps) (filter (is_free program threads) steps))
          ≡ cons_option (stored_in word step) (filter_map (stored_in word) steps)
      by_test true e rest =
          ap (λ b. filter_map (stored_in word) (cond b (step ∷ filter (is_free program threads) steps) (filter (is_free program threads) steps))) e
          ∙ ap (cons_option (stored_in word step)) rest
      by_test false e rest =
          ap (λ b. filter_map (stored_in word) (cond b (step ∷ filter (is_free program threads) steps) (filter (is_free program threads) steps))) e
          ∙ rest ∙ ap (λ (o : Option ℕ). cons_option o (filter_map (stored_in word) steps)) (sym (goes_unstored word step apart e))

  -- a word that isn't a release word has the same value at the place that a place of the script is
  pub free_code : (script : List PatchCommand) (place word : ℕ) → AllRelease threads script → is_release_word program threads word ≡ false
      → code_at program threads (free_commands script) (free_place program threads script place) word ≡ code_at program threads script place word
  free_code script place word are apart =
      let steps = micros program threads script in
      let same : filter_map (stored_in word) (take (free_place program threads script place) (micros program threads (free_commands script)))
      ≡ filter_map (stored_in word) (take place steps) =
      ap (λ (ss : List Micro). filter_map (stored_in word) (take (free_place program threads script place) ss)) (free_micros script are)
      ∙ ap (filter_map (stored_in word)) (front_stays steps place) ∙ stores_stay word (take place steps) apart in
      ap (λ (vs : List ℕ). unwrap_or (last_or None vs) (initial_value program word)) same

-- ---- where threads start

one_more : {X : Type 0} (n : ℕ) (x : X) (xs : List X) → take (1 + n) (x ∷ xs) ≡ x ∷ take n xs
one_more n x xs =
    let e : 1 + n ≡ suc n = omega arith in
    ap (λ m. take m (x ∷ xs)) e

-- the first items that pass a test, of those that are kept
front_kept : {X : Type 0} (keeps passes : X → Bool) → ((x : X) → keeps x ≡ false → passes x ≡ true) → (xs : List X)
    → take_while passes (filter keeps xs) ≡ filter keeps (take_while passes xs)
front_kept keeps passes gone [] = refl
front_kept {X = X} keeps passes gone (x ∷ xs) = by_tests (keeps x) (passes x) refl refl (front_kept keeps passes gone xs)
  where
    taken : (k : Bool) → keeps x ≡ k
        → filter keeps (take (1 + prefix_len passes xs) (x ∷ xs)) ≡ cond k (x ∷ filter keeps (take_while passes xs)) (filter keeps (take_while passes xs))
    taken k a =
        ap (filter keeps) (one_more (prefix_len passes xs) x xs)
        ∙ ap (λ b. cond b (x ∷ filter keeps (take_while passes xs)) (filter keeps (take_while passes xs))) a

    by_tests : (k p : Bool) → keeps x ≡ k → passes x ≡ p → take_while passes (filter keeps xs) ≡ filter keeps (take_while passes xs)
        → take_while passes (filter keeps (x ∷ xs)) ≡ filter keeps (take_while passes (x ∷ xs))
    by_tests true true a b rest =
        rw (a, b) (one_more (prefix_len passes (filter keeps xs)) x (filter keeps xs) ∙ ap (λ (ys : List X). x ∷ ys) rest ∙ sym (taken true a))
    by_tests true false a b rest = rw (a, b) refl
    by_tests false true a b rest = rw (a, b) (rest ∙ sym (taken false a))
    by_tests false false a b rest =
        let passed : passes x ≡ true = gone x a in
        absurd cc

-- `go` is no command that waits
pub go_stays : (command : PatchCommand) → is_waiting command ≡ true → is_go command ≡ false
go_stays commands.Go e = absurd cc
go_stays commands.Patch e = refl
go_stays commands.Unpatch e = refl
go_stays (commands.PatchFunction id) e = refl
go_stays (commands.UnpatchFunction id) e = refl
go_stays commands.SetHandler e = refl
go_stays commands.RemoveHandler e = refl
go_stays commands.SetArgHandler e = refl
go_stays commands.RemoveArgHandler e = refl
go_stays commands.Init e = refl
go_stays commands.Finalize e = refl
go_stays (commands.Hold thread passing) e = refl
go_stays (commands.Release thread) e = refl
go_stays (commands.Await thread count) e = refl

others_go_on : (command : PatchCommand) → not (is_waiting command) ≡ false → not (is_go command) ≡ true
others_go_on command e = ap not (go_stays command (not_false (is_waiting command) e))

-- the micro steps of the first commands come first
front_micros : (program : Program) (threads : ℕ) (earlier : List ℕ) (n : ℕ) (script : List PatchCommand)
    → take (length (micros_after program threads earlier (take n script))) (micros_after program threads earlier script)
    ≡ micros_after program threads earlier (take n script)
front_micros program threads earlier zero script = refl
front_micros program threads earlier (suc n) [] = refl
front_micros program threads earlier (suc n) (command ∷ script) =
    let steps : List Micro = steps_of program threads earlier command in
    let next : List ℕ = earlier ++ numbers (patches program command) in
    let front : List Micro = micros_after program threads next (take n script) in
    let all : List Micro = micros_after program threads next script in
    ap (λ k. take k (steps ++ all)) (length-append steps front) ∙ take_past steps (length front) all
    ∙ ap (λ (ss : List Micro). steps ++ ss) (front_micros program threads next n script)
  where
    take_past : {X : Type 0} (xs : List X) (n : ℕ) (ys : List X) → take (length xs + n) (xs ++ ys) ≡ xs ++ take n ys
    take_past [] n ys = ap (λ k. take k ys) (let e : 0 + n ≡ n = omega arith in e)
    take_past {X = X} (x ∷ xs) n ys =
        ap (λ k. take k (x ∷ (xs ++ ys))) (let e : length (x ∷ xs) + n ≡ suc (length xs + n) = omega arith in e)
        ∙ ap (λ (zs : List X). x ∷ zs) (take_past xs n ys)

all_release_front : (threads n : ℕ) (script : List PatchCommand) → AllRelease threads script → AllRelease threads (take n script)
all_release_front threads zero script are = tt
all_release_front threads (suc n) [] are = tt
all_release_front threads (suc n) (command ∷ script) are = (are.0, all_release_front threads n script are.1)

pub free_start : (program : Program) (threads : ℕ) (script : List PatchCommand) → AllRelease threads script
    → start_of program threads (free_commands script) ≡ free_place program threads script (start_of program threads script)
free_start program threads script are =
    let passes : PatchCommand → Bool = λ c. not (is_go c) in
    let n : ℕ = prefix_len passes script in
    ap (λ (cs : List PatchCommand). length (micros program threads cs)) (front_kept (λ c. not (is_waiting c)) passes others_go_on script)
    ∙ ap length (free_micros program threads (take n script) (all_release_front threads n script are))
    ∙ ap (λ (ss : List Micro). length (filter (is_free program threads) ss)) (sym (front_micros program threads [] n script))
