-- What commands leave in the words on which recording depends.
use Rattle.std.proofs.Common.{◌≡◌, ℕ, ◌+◌, ◌<◌, ◌≤◌, ◌||◌, ◌&&◌, Bool, true, false, not, List, [], ◌∷◌, ◌++◌, ◌⊎◌, inl, inr, length, Some, None, unwrap_or, refl, ap, subst, ◌∙◌, arith, eq-eqb}
use Rattle.std.specs.Prelude.{All, IfSome, ◌==◌, if◌then◌else◌, map}
use Rattle.std.specs.List.{enumerate_from, flat_map, list_any}
use Rattle.std.proofs.lemmas.Bool.{cases_Bool, cases_lt}
use Rattle.std.proofs.lemmas.List.Elements.{All-append, All-cons, All-filter, All-head, All-nil, All-tail}
use Rattle.xray_image.specs.declared.sled.Sled.{Sled}
use Rattle.xray_image.specs.Program.{Program}
use Rattle.sled_words.specs.declared.part.Part.{Part}
use Rattle.sled_words.specs.declared.part.Part.TheVariants.{Head, Id, Opcode, Offset}
use Rattle.sled_words.specs.Parts.{patched, patched_head}
use Rattle.sled_words.specs.Words.{arg_handler_word, handler_word, release_word, state_word, word_of}
use Rattle.patch_script.specs.declared.command.PatchCommand.{PatchCommand}
use Rattle.patch_script.specs.declared.command.PatchCommand.TheVariants as commands
use Rattle.patch_script.specs.declared.micro.Micro.{Micro}
use Rattle.patch_script.specs.declared.micro.Micro.TheVariants.{Store, Await}
use Rattle.patch_script.specs.CodeAt.{stored_in}
use Rattle.patch_script.specs.Micros.{Numbered, all_sleds, head_left, micros_after, numbers, patch_sled, patches, sleds_of, steps_of, unpatch_sled}
use Rattle.patch_script.specs.Refusals.{is_init, names_no_thread}
use Rattle.patch_script.proofs.MicroNames.{not_beyond, or_parts}
use Rattle.patch_script.proofs.WordNumbers.{by_word, same_part}
use Rattle.patch_script.proofs.WordValues.{following, held, held_has}
use Rattle.traced_run.specs.RecordingScripts.{changes_log, is_left_done, patches_each, removes_arg_handler, removes_handler, sets_arg_handler, sets_handler, unpatches}

-- ---- steps that leave a word its value

-- a step stores nothing in a word, or this value
abbrev pub Stays : ℕ → ℕ → Micro → Type 0
Stays word value step = IfSome (stored_in word step) (λ x. x ≡ value)

-- a store of this value, or in another word
stay : (word value w v : ℕ) → (w ≡ word → v ≡ value) → Stays word value (Store w v)
stay word value w v same = by_word (λ x. x ≡ value) w word v same

one : (word value w v : ℕ) → (w ≡ word → v ≡ value) → All (Stays word value) (Store w v ∷ [])
one word value w v same = All-cons (Stays word value) (Store w v) [] (stay word value w v same) (All-nil (Stays word value))

two : (word value w v v' : ℕ) → (w ≡ word → v ≡ value) → (w ≡ word → v' ≡ value) → All (Stays word value) (Store w v ∷ Store w v' ∷ [])
two word value w v v' same same' =
    All-cons (Stays word value) (Store w v) (Store w v' ∷ []) (stay word value w v same) (one word value w v' same')

-- ---- the sleds of commands

-- sleds have numbers below this one
abbrev Below : ℕ → Numbered → Type 0
Below count s = s.0 < count

numbers_below : (n : ℕ) (sleds : List Sled) → All (Below (n + length sleds)) (enumerate_from n sleds)
numbers_below n [] = All-nil (Below (n + 0))
numbers_below n (sled ∷ sleds) =
    let next : n + 1 + length sleds ≡ n + length (sled ∷ sleds) = omega arith in
    All-cons (Below (n + length (sled ∷ sleds))) (n, sled) (enumerate_from (n + 1) sleds) (omega arith)
    (subst (λ (m : ℕ). All (Below m) (enumerate_from (n + 1) sleds)) next (numbers_below (n + 1) sleds))

module _ (program : Program) where
  all_below : All (Below (length program.sleds)) (all_sleds program)
  all_below =
      let same : 0 + length program.sleds ≡ length program.sleds = omega arith in
      subst (λ (m : ℕ). All (Below m) (all_sleds program)) same (numbers_below 0 program.sleds)

  some_below : (id : ℕ) → All (Below (length program.sleds)) (sleds_of program id)
  some_below id = All-filter (λ (s : Numbered). s.1.id == id) (Below (length program.sleds)) (all_sleds program) all_below

  -- patching sleds leaves a word its value, if patching each of them does
  module _ (word value : ℕ) where
    patching : ((k : ℕ) (sled : Sled) → k < length program.sleds → All (Stays word value) (patch_sled program (k, sled)))
        → (sleds : List Numbered) → All (Below (length program.sleds)) sleds → All (Stays word value) (flat_map (patch_sled program) sleds)
    patching each [] below = All-nil (Stays word value)
    patching each ((k, sled) ∷ sleds) below =
        All-append (Stays word value) (patch_sled program (k, sled)) (flat_map (patch_sled program) sleds)
        (each k sled (All-head (Below (length program.sleds)) (k, sled) sleds below))
        (patching each sleds (All-tail (Below (length program.sleds)) (k, sled) sleds below))

    unpatching : (earlier : List ℕ) → ((k : ℕ) (sled : Sled) → k < length program.sleds → Stays word value (unpatch_sled earlier (k, sled)))
        → (sleds : List Numbered) → All (Below (length program.sleds)) sleds → All (Stays word value) (map (unpatch_sled earlier) sleds)
    unpatching earlier each [] below = All-nil (Stays word value)
    unpatching earlier each ((k, sled) ∷ sleds) below =
        All-cons (Stays word value) (unpatch_sled earlier (k, sled)) (map (unpatch_sled earlier) sleds)
        (each k sled (All-head (Below (length program.sleds)) (k, sled) sleds below))
        (unpatching earlier each sleds (All-tail (Below (length program.sleds)) (k, sled) sleds below))

    -- what patches a sled stores the patched parts
    parts_stay : (k : ℕ) (sled : Sled) → ((part : Part) → word_of k part ≡ word → patched program.trampolines sled part ≡ value)
        → All (Stays word value) (patch_sled program (k, sled))
    parts_stay k sled same =
        let parts = patched program.trampolines sled in
        let P = Stays word value in
        let last : List Micro = Store (word_of k Head) (parts Head) ∷ [] in
        let two_last : List Micro = Store (word_of k Offset) (parts Offset) ∷ last in
        let three_last : List Micro = Store (word_of k Opcode) (parts Opcode) ∷ two_last in
        All-cons P (Store (word_of k Id) (parts Id)) three_last (stay word value (word_of k Id) (parts Id) (same Id))
        (All-cons P (Store (word_of k Opcode) (parts Opcode)) two_last (stay word value (word_of k Opcode) (parts Opcode) (same Opcode))
        (All-cons P (Store (word_of k Offset) (parts Offset)) last (stay word value (word_of k Offset) (parts Offset) (same Offset))
        (one word value (word_of k Head) (parts Head) (same Head))))

-- ---- what the commands leave

module _ (program : Program) (threads : ℕ) where
  -- a word after those of the sleds is none of theirs
  no_part : (word k : ℕ) (part : Part) → handler_word program ≤ word → k < length program.sleds → word_of k part ≡ word → ⊥
  no_part word k Head past below same = omega arith
  no_part word k Id past below same = omega arith
  no_part word k Opcode past below same = omega arith
  no_part word k Offset past below same = omega arith

  past_patched : (word value : ℕ) → handler_word program ≤ word → (k : ℕ) (sled : Sled) → k < length program.sleds
      → All (Stays word value) (patch_sled program (k, sled))
  past_patched word value past k sled below =
      parts_stay program word value k sled (λ part same. absurd (no_part word k part past below same))

  past_unpatched : (word value : ℕ) → handler_word program ≤ word → (earlier : List ℕ) (k : ℕ) (sled : Sled) → k < length program.sleds
      → Stays word value (unpatch_sled earlier (k, sled))
  past_unpatched word value past earlier k sled below =
      stay word value (word_of k Head) (head_left sled.kind (list_any (λ j. j == k) earlier))
      (λ same. absurd (no_part word k Head past below same))

  -- the head of a sled, once it is patched
  abbrev HeadStays : ℕ → List Micro → Type 0
  HeadStays s steps = All (Stays (word_of s Head) patched_head) steps

  head_patched : (s k : ℕ) (sled : Sled) → HeadStays s (patch_sled program (k, sled))
  head_patched s k sled = parts_stay program (word_of s Head) patched_head k sled is
    where
      is : (part : Part) → word_of k part ≡ word_of s Head → patched program.trampolines sled part ≡ patched_head
      is Head same = refl
      is Id same = absurd (let part : Id ≡ Head = same_part k s Id Head same in cc)
      is Opcode same = absurd (let part : Opcode ≡ Head = same_part k s Opcode Head same in cc)
      is Offset same = absurd (let part : Offset ≡ Head = same_part k s Offset Head same in cc)

  pub head_stays : (s : ℕ) → s < length program.sleds → (earlier : List ℕ) (command : PatchCommand) → unpatches command ≡ false
      → HeadStays s (steps_of program threads earlier command)
  head_stays s within earlier commands.Patch fine = patching program (word_of s Head) patched_head (λ k sled below. head_patched s k sled) (all_sleds program) (all_below program)
  head_stays s within earlier (commands.PatchFunction id) fine =
      patching program (word_of s Head) patched_head (λ k sled below. head_patched s k sled) (sleds_of program id) (some_below program id)
  head_stays s within earlier commands.Unpatch fine = absurd cc
  head_stays s within earlier (commands.UnpatchFunction id) fine = absurd cc
  head_stays s within earlier commands.SetHandler fine = one _ _ (handler_word program) 1 (λ same. absurd (omega arith))
  head_stays s within earlier commands.RemoveHandler fine = one _ _ (handler_word program) 0 (λ same. absurd (omega arith))
  head_stays s within earlier commands.SetArgHandler fine = one _ _ (arg_handler_word program threads) 1 (λ same. absurd (omega arith))
  head_stays s within earlier commands.RemoveArgHandler fine = one _ _ (arg_handler_word program threads) 0 (λ same. absurd (omega arith))
  head_stays s within earlier commands.Init fine = two _ _ (state_word program) 1 2 (λ same. absurd (omega arith)) (λ same. absurd (omega arith))
  head_stays s within earlier commands.Finalize fine = two _ _ (state_word program) 3 4 (λ same. absurd (omega arith)) (λ same. absurd (omega arith))
  head_stays s within earlier (commands.Hold thread passing) fine = All-nil (Stays (word_of s Head) patched_head)
  head_stays s within earlier commands.Go fine = All-nil (Stays (word_of s Head) patched_head)
  head_stays s within earlier (commands.Release thread) fine = one _ _ (release_word program thread) 1 (λ same. absurd (omega arith))
  head_stays s within earlier (commands.Await thread count) fine =
      All-cons (Stays (word_of s Head) patched_head) (Await thread count) [] tt (All-nil (Stays (word_of s Head) patched_head))

  -- the word of the handler, once it is set
  pub handler_stays : (earlier : List ℕ) (command : PatchCommand) → removes_handler command ≡ false
      → All (Stays (handler_word program) 1) (steps_of program threads earlier command)
  handler_stays earlier commands.Patch fine =
      patching program (handler_word program) 1 (past_patched (handler_word program) 1 (omega arith)) (all_sleds program) (all_below program)
  handler_stays earlier (commands.PatchFunction id) fine =
      patching program (handler_word program) 1 (past_patched (handler_word program) 1 (omega arith)) (sleds_of program id) (some_below program id)
  handler_stays earlier commands.Unpatch fine =
      unpatching program (handler_word program) 1 earlier (past_unpatched (handler_word program) 1 (omega arith) earlier) (all_sleds program) (all_below program)
  handler_stays earlier (commands.UnpatchFunction id) fine =
      unpatching program (handler_word program) 1 earlier (past_unpatched (handler_word program) 1 (omega arith) earlier) (sleds_of program id) (some_below program id)
  handler_stays earlier commands.SetHandler fine = one _ _ (handler_word program) 1 (λ same. refl)
  handler_stays earlier commands.RemoveHandler fine = absurd cc
  handler_stays earlier commands.SetArgHandler fine = one _ _ (arg_handler_word program threads) 1 (λ same. absurd (omega arith))
  handler_stays earlier commands.RemoveArgHandler fine = one _ _ (arg_handler_word program threads) 0 (λ same. absurd (omega arith))
  handler_stays earlier commands.Init fine = two _ _ (state_word program) 1 2 (λ same. absurd (omega arith)) (λ same. absurd (omega arith))
  handler_stays earlier commands.Finalize fine = two _ _ (state_word program) 3 4 (λ same. absurd (omega arith)) (λ same. absurd (omega arith))
  handler_stays earlier (commands.Hold thread passing) fine = All-nil (Stays (handler_word program) 1)
  handler_stays earlier commands.Go fine = All-nil (Stays (handler_word program) 1)
  handler_stays earlier (commands.Release thread) fine = one _ _ (release_word program thread) 1 (λ same. absurd (omega arith))
  handler_stays earlier (commands.Await thread count) fine =
      All-cons (Stays (handler_word program) 1) (Await thread count) [] tt (All-nil (Stays (handler_word program) 1))

  -- the word of the log, once it is initialized
  pub state_stays : (earlier : List ℕ) (command : PatchCommand) → changes_log command ≡ false → names_no_thread threads command ≡ false
      → All (Stays (state_word program) 2) (steps_of program threads earlier command)
  state_stays earlier commands.Patch fine named =
      patching program (state_word program) 2 (past_patched (state_word program) 2 (omega arith)) (all_sleds program) (all_below program)
  state_stays earlier (commands.PatchFunction id) fine named =
      patching program (state_word program) 2 (past_patched (state_word program) 2 (omega arith)) (sleds_of program id) (some_below program id)
  state_stays earlier commands.Unpatch fine named =
      unpatching program (state_word program) 2 earlier (past_unpatched (state_word program) 2 (omega arith) earlier) (all_sleds program) (all_below program)
  state_stays earlier (commands.UnpatchFunction id) fine named =
      unpatching program (state_word program) 2 earlier (past_unpatched (state_word program) 2 (omega arith) earlier) (sleds_of program id) (some_below program id)
  state_stays earlier commands.SetHandler fine named = one _ _ (handler_word program) 1 (λ same. absurd (omega arith))
  state_stays earlier commands.RemoveHandler fine named = one _ _ (handler_word program) 0 (λ same. absurd (omega arith))
  state_stays earlier commands.SetArgHandler fine named = one _ _ (arg_handler_word program threads) 1 (λ same. absurd (omega arith))
  state_stays earlier commands.RemoveArgHandler fine named = one _ _ (arg_handler_word program threads) 0 (λ same. absurd (omega arith))
  state_stays earlier commands.Init fine named = absurd cc
  state_stays earlier commands.Finalize fine named = absurd cc
  state_stays earlier (commands.Hold thread passing) fine named = All-nil (Stays (state_word program) 2)
  state_stays earlier commands.Go fine named = All-nil (Stays (state_word program) 2)
  state_stays earlier (commands.Release thread) fine named =
      let bounds = not_beyond program threads thread named in
      one _ _ (release_word program thread) 1 (λ same. absurd (omega (arith, bounds.0)))
  state_stays earlier (commands.Await thread count) fine named =
      All-cons (Stays (state_word program) 2) (Await thread count) [] tt (All-nil (Stays (state_word program) 2))

  -- the word of the argument handler, if no command stores another value in it
  pub argument_stays : (value : ℕ) (earlier : List ℕ) (command : PatchCommand) → (sets_arg_handler command ≡ false) ⊎ (1 ≡ value)
      → (removes_arg_handler command ≡ false) ⊎ (0 ≡ value) → names_no_thread threads command ≡ false
      → All (Stays (arg_handler_word program threads) value) (steps_of program threads earlier command)
  argument_stays value earlier commands.Patch set removed named =
      patching program (arg_handler_word program threads) value (past_patched (arg_handler_word program threads) value (omega arith)) (all_sleds program) (all_below program)
  argument_stays value earlier (commands.PatchFunction id) set removed named =
      patching program (arg_handler_word program threads) value (past_patched (arg_handler_word program threads) value (omega arith)) (sleds_of program id) (some_below program id)
  argument_stays value earlier commands.Unpatch set removed named =
      unpatching program (arg_handler_word program threads) value earlier (past_unpatched (arg_handler_word program threads) value (omega arith) earlier) (all_sleds program) (all_below program)
  argument_stays value earlier (commands.UnpatchFunction id) set removed named =
      unpatching program (arg_handler_word program threads) value earlier (past_unpatched (arg_handler_word program threads) value (omega arith) earlier) (sleds_of program id) (some_below program id)
  argument_stays value earlier commands.SetHandler set removed named = one _ _ (handler_word program) 1 (λ same. absurd (omega arith))
  argument_stays value earlier commands.RemoveHandler set removed named = one _ _ (handler_word program) 0 (λ same. absurd (omega arith))
  argument_stays value earlier commands.SetArgHandler set removed named = one _ _ (arg_handler_word program threads) 1 (λ same. is set)
    where
      is : (true ≡ false) ⊎ (1 ≡ value) → 1 ≡ value
      is (inl not_so) = absurd cc
      is (inr so) = so
  argument_stays value earlier commands.RemoveArgHandler set removed named = one _ _ (arg_handler_word program threads) 0 (λ same. is removed)
    where
      is : (true ≡ false) ⊎ (0 ≡ value) → 0 ≡ value
      is (inl not_so) = absurd cc
      is (inr so) = so
  argument_stays value earlier commands.Init set removed named = two _ _ (state_word program) 1 2 (λ same. absurd (omega arith)) (λ same. absurd (omega arith))
  argument_stays value earlier commands.Finalize set removed named = two _ _ (state_word program) 3 4 (λ same. absurd (omega arith)) (λ same. absurd (omega arith))
  argument_stays value earlier (commands.Hold thread passing) set removed named = All-nil (Stays (arg_handler_word program threads) value)
  argument_stays value earlier commands.Go set removed named = All-nil (Stays (arg_handler_word program threads) value)
  argument_stays value earlier (commands.Release thread) set removed named =
      let bounds = not_beyond program threads thread named in
      one _ _ (release_word program thread) 1 (λ same. absurd (omega (arith, bounds.1)))
  argument_stays value earlier (commands.Await thread count) set removed named =
      All-cons (Stays (arg_handler_word program threads) value) (Await thread count) [] tt (All-nil (Stays (arg_handler_word program threads) value))

  -- ---- what a command brings about

  there : (word value before : ℕ) → following word (Store word value) before ≡ value
  there word value before = ap (λ (b : Bool). unwrap_or (if b then Some value else None) before) (eq-eqb word word refl)

  pub held-append : (word : ℕ) (xs ys : List Micro) (value : ℕ) → held word (xs ++ ys) value ≡ held word ys (held word xs value)
  held-append word [] ys value = refl
  held-append word (x ∷ xs) ys value = held-append word xs ys (following word x value)

  pub kept : (word value : ℕ) (steps : List Micro) (before : ℕ) → All (Stays word value) steps → before ≡ value → held word steps before ≡ value
  kept word value steps before stays is = held_has (λ x. x ≡ value) word steps before stays is

  -- patching sleds patches the head of each
  patched_at : (n : ℕ) (sled : Sled) (before : ℕ) → held (word_of n Head) (patch_sled program (n, sled)) before ≡ patched_head
  patched_at n sled before = there (word_of n Head) patched_head _

  patched_from : (n : ℕ) (sleds : List Sled) (s before : ℕ) → n ≤ s → s < n + length sleds
      → held (word_of s Head) (flat_map (patch_sled program) (enumerate_from n sleds)) before ≡ patched_head
  patched_from n [] s before low high = absurd (omega arith)
  patched_from n (sled ∷ sleds) s before low high =
      let word = word_of s Head in
      let here = patch_sled program (n, sled) in
      let later = flat_map (patch_sled program) (enumerate_from (n + 1) sleds) in
      held-append word here later before ∙ elim (cases_lt n s) [
        | inl above ↦ patched_from (n + 1) sleds s (held word here before) (omega arith) (omega arith)
        | inr same ↦
            let is : n ≡ s = omega arith in
            let first : held word here before ≡ patched_head =
            subst (λ (m : ℕ). held (word_of m Head) here before ≡ patched_head) is (patched_at n sled before) in
            kept word patched_head later (held word here before) (heads_stay s (n + 1) sleds) first
      ]
    where
      heads_stay : (s n : ℕ) (sleds : List Sled) → HeadStays s (flat_map (patch_sled program) (enumerate_from n sleds))
      heads_stay s n [] = All-nil (Stays (word_of s Head) patched_head)
      heads_stay s n (sled ∷ sleds) =
          All-append (Stays (word_of s Head) patched_head) (patch_sled program (n, sled)) (flat_map (patch_sled program) (enumerate_from (n + 1) sleds))
          (head_patched s n sled) (heads_stay s (n + 1) sleds)

  pub head_done : (s : ℕ) → s < length program.sleds → (earlier : List ℕ) (command : PatchCommand) (before : ℕ) → patches_each command ≡ true
      → held (word_of s Head) (steps_of program threads earlier command) before ≡ patched_head
  head_done s within earlier commands.Patch before does = patched_from 0 program.sleds s before (omega arith) (omega arith)
  head_done s within earlier command before does = absurd cc

  pub handler_done : (earlier : List ℕ) (command : PatchCommand) (before : ℕ) → sets_handler command ≡ true
      → held (handler_word program) (steps_of program threads earlier command) before ≡ 1
  handler_done earlier commands.SetHandler before does = there (handler_word program) 1 before
  handler_done earlier command before does = absurd cc

  pub log_done : (earlier : List ℕ) (command : PatchCommand) (before : ℕ) → is_init command ≡ true
      → held (state_word program) (steps_of program threads earlier command) before ≡ 2
  log_done earlier commands.Init before does = there (state_word program) 2 _
  log_done earlier command before does = absurd cc

  pub argument_done : (earlier : List ℕ) (command : PatchCommand) (before : ℕ) → sets_arg_handler command ≡ true
      → held (arg_handler_word program threads) (steps_of program threads earlier command) before ≡ 1
  argument_done earlier commands.SetArgHandler before does = there (arg_handler_word program threads) 1 before
  argument_done earlier command before does = absurd cc

  -- ---- lists of commands

  -- commands that leave a word its value leave it together
  module _ (word value : ℕ) (Fine : PatchCommand → Type 0) where
    pub all_stay : ((earlier : List ℕ) (command : PatchCommand) → Fine command → All (Stays word value) (steps_of program threads earlier command))
        → (earlier : List ℕ) (script : List PatchCommand) → All Fine script → All (Stays word value) (micros_after program threads earlier script)
    all_stay each earlier [] fine = All-nil (Stays word value)
    all_stay each earlier (command ∷ later) fine =
        All-append (Stays word value) (steps_of program threads earlier command) (micros_after program threads (earlier ++ numbers (patches program command)) later)
        (each earlier command (All-head Fine command later fine))
        (all_stay each (earlier ++ numbers (patches program command)) later (All-tail Fine command later fine))

    -- one of some commands brings the value about, and those after it leave it
    pub left_done : (does undoes : PatchCommand → Bool)
        → ((earlier : List ℕ) (command : PatchCommand) (before : ℕ) → does command ≡ true → held word (steps_of program threads earlier command) before ≡ value)
        → ((earlier : List ℕ) (command : PatchCommand) → undoes command ≡ false → Fine command → All (Stays word value) (steps_of program threads earlier command))
        → (earlier : List ℕ) (script : List PatchCommand) (before : ℕ) → All Fine script → is_left_done does undoes script ≡ true
        → held word (micros_after program threads earlier script) before ≡ value
    left_done does undoes done stays earlier [] before fine is = absurd cc
    left_done does undoes done stays earlier (command ∷ later) before fine is =
        let here = steps_of program threads earlier command in
        let more = earlier ++ numbers (patches program command) in
        let rest = All-tail Fine command later fine in
        held-append word here (micros_after program threads more later) before ∙ elim (cases_Bool (is_left_done does undoes later)) [
          | inl so ↦ left_done does undoes done stays more later (held word here before) rest so
          | inr isnt ↦
              let parts = first_of_both (does command) (list_any undoes later) (is_left_done does undoes later) is isnt in
              kept word value (micros_after program threads more later) (held word here before)
              (stay_on stays more later rest parts.1) (done earlier command before parts.0)
        ]
      where
        first_of_both : (a b c : Bool) → ((a && not b) || c) ≡ true → c ≡ false → (a ≡ true) × (b ≡ false)
        first_of_both true true c is isnt = absurd cc
        first_of_both true false c is isnt = (refl, refl)
        first_of_both false b c is isnt = absurd cc

        stay_on : ((earlier : List ℕ) (command : PatchCommand) → undoes command ≡ false → Fine command → All (Stays word value) (steps_of program threads earlier command))
            → (earlier : List ℕ) (script : List PatchCommand) → All Fine script → list_any undoes script ≡ false
            → All (Stays word value) (micros_after program threads earlier script)
        stay_on each earlier [] fine none = All-nil (Stays word value)
        stay_on each earlier (command ∷ later) fine none =
            let parts = or_parts (undoes command) (list_any undoes later) none in
            All-append (Stays word value) (steps_of program threads earlier command) (micros_after program threads (earlier ++ numbers (patches program command)) later)
            (each earlier command parts.0 (All-head Fine command later fine))
            (stay_on each (earlier ++ numbers (patches program command)) later (All-tail Fine command later fine) parts.1)
