-- What micro steps name.
use Rattle.std.proofs.Common.{◌≡◌, ℕ, ◌+◌, ◌*◌, ◌<◌, ◌≤◌, List, [], ◌∷◌, ◌++◌, ◌||◌, ◌&&◌, Bool, true, false, cond, not, length, get_or, map, refl, sym, ap, subst, ◌∙◌, inl, inr, arith, ◌==◌}
use Rattle.std.specs.Prelude.{filter, nat_le, nat_lt, unwrap_or}
use Rattle.std.specs.List.{list_any, flat_map, enumerate_from}
use Rattle.std.proofs.lemmas.Bool.{cases_Bool, cases_lt, eq-eqb, eqb-false, eqb-true, le-leb, leb-false, lt-leb, ltb-false}
use Rattle.std.proofs.lemmas.List.{length-map, get_or-map}
use Rattle.std.proofs.lemmas.List.Folds.{list_any-append, list_any_at, list_any_none}
use Rattle.std.proofs.lemmas.Option.{slice_get-get_or, slice_get_past}
use Rattle.xray_image.specs.declared.sled.Sled.{Sled}
use Rattle.xray_image.specs.Program.{Program}
use Rattle.sled_words.specs.Words.{IsCodeWord, arg_handler_word, progress_word}
use Rattle.patch_script.specs.declared.command.PatchCommand.{PatchCommand}
use Rattle.patch_script.specs.declared.command.PatchCommand.TheVariants as commands
use Rattle.patch_script.specs.declared.micro.Micro.{Micro}
use Rattle.patch_script.specs.declared.micro.Micro.TheVariants.{Store, Await, End}
use Rattle.patch_script.specs.Micros.{Numbered, all_sleds, sleds_of, patches, numbers, patch_sled, unpatch_sled, steps_of, micros_after, micros, micro_at, total_of}
use Rattle.patch_script.specs.Plans.{Plan, IsOrderly, IsWithin}
use Rattle.patch_script.specs.Refusals.{commands_of, is_beyond, names_no_thread}

pub or_parts : (a b : Bool) → (a || b) ≡ false → (a ≡ false) × (b ≡ false)
or_parts true b h = cc
or_parts false b h = (refl, h)

pub neither : (a b : Bool) → a ≡ false → b ≡ false → (a || b) ≡ false
neither a b p q = ap (λ t. t || b) p ∙ q

and_none : (a b : Bool) → b ≡ true → (a && not b) ≡ false
and_none a true is = and_false a
  where
    and_false : (a : Bool) → (a && false) ≡ false
    and_false true = refl
    and_false false = refl
and_none a false is = absurd cc

all_of : (a b : Bool) → a ≡ true → (a && not b) ≡ false → b ≡ true
all_of true true is none = refl
all_of true false is none = absurd cc
all_of false b is none = absurd cc

filter_none : {X : Type 0} (p q : X → Bool) (xs : List X) → list_any p xs ≡ false → list_any p (filter q xs) ≡ false
filter_none p q [] none = refl
filter_none p q (x ∷ xs) none =
    let parts = or_parts (p x) (list_any p xs) none in
    elim (q x) as (λ b. list_any p (cond b (x ∷ filter q xs) (filter q xs)) ≡ false) [
      | true ↦ neither (p x) (list_any p (filter q xs)) parts.0 (filter_none p q xs parts.1)
      | false ↦ filter_none p q xs parts.1
    ]

-- ---- each of some steps

module _ (bad : Micro → Bool) (program : Program) where
  -- a sled with a store that is bad
  abbrev pub is_bad_sled : Numbered → Bool
  is_bad_sled s = list_any bad (patch_sled program s)

  pub patched_none : (sleds : List Numbered) → list_any is_bad_sled sleds ≡ false → list_any bad (flat_map (patch_sled program) sleds) ≡ false
  patched_none [] none = refl
  patched_none (s ∷ ss) none =
      let parts = or_parts (is_bad_sled s) (list_any is_bad_sled ss) none in
      list_any-append bad (patch_sled program s) (flat_map (patch_sled program) ss)
      ∙ neither (is_bad_sled s) (list_any bad (flat_map (patch_sled program) ss)) parts.0 (patched_none ss parts.1)

  pub unpatched_none : (earlier : List ℕ) (sleds : List Numbered) → list_any (λ s. bad (unpatch_sled earlier s)) sleds ≡ false → list_any bad (map (unpatch_sled earlier) sleds) ≡ false
  unpatched_none earlier [] none = refl
  unpatched_none earlier (s ∷ ss) none =
      let parts = or_parts (bad (unpatch_sled earlier s)) (list_any (λ s. bad (unpatch_sled earlier s)) ss) none in
      neither (bad (unpatch_sled earlier s)) (list_any bad (map (unpatch_sled earlier) ss)) parts.0 (unpatched_none earlier ss parts.1)

  -- if no step of a command is bad, no step of the script is
  pub script_none : (threads : ℕ) (fault : PatchCommand → Bool) → ((earlier : List ℕ) (command : PatchCommand) → fault command ≡ false → list_any bad (steps_of program threads earlier command) ≡ false)
      → (earlier : List ℕ) (script : List PatchCommand) → list_any fault script ≡ false → list_any bad (micros_after program threads earlier script) ≡ false
  script_none threads fault each earlier [] none = refl
  script_none threads fault each earlier (c ∷ cs) none =
      let parts = or_parts (fault c) (list_any fault cs) none in
      let more = earlier ++ numbers (patches program c) in
      list_any-append bad (steps_of program threads earlier c) (micros_after program threads more cs)
      ∙ neither (list_any bad (steps_of program threads earlier c)) (list_any bad (micros_after program threads more cs)) (each earlier c parts.0) (script_none threads fault each more cs parts.1)

  -- and so neither is one that is found by its place
  pub found_none : (steps : List Micro) → list_any bad steps ≡ false → (place : ℕ) → place < length steps → bad (get_or steps place End) ≡ false
  found_none steps none place lt = elim (cases_Bool (bad (get_or steps place End))) [
    | inl so ↦ absurd (let some : list_any bad steps ≡ true = list_any_at bad steps place End lt so in cc)
    | inr isnt ↦ isnt
  ]

-- ---- words and threads

module _ (program : Program) (threads : ℕ) where
  -- a word isn't a code word
  is_outside : ℕ → Bool
  is_outside word = nat_le (progress_word program threads 1) word && not (word == arg_handler_word program threads)

  inside : (word : ℕ) → IsCodeWord program threads word → is_outside word ≡ false
  unfolding is_outside
  inside word (inl low) = ap (λ b. b && not (word == arg_handler_word program threads)) (lt-leb (progress_word program threads 1) word low)
  inside word (inr is) = and_none (nat_le (progress_word program threads 1) word) (word == arg_handler_word program threads) (eq-eqb word (arg_handler_word program threads) is)

  code_word : (word : ℕ) → is_outside word ≡ false → IsCodeWord program threads word
  unfolding is_outside
  code_word word isnt = elim (cases_lt word (progress_word program threads 1)) [
    | inl low ↦ inl low
    | inr high ↦ inr (eqb-true word (arg_handler_word program threads) (all_of (nat_le (progress_word program threads 1) word) (word == arg_handler_word program threads) (le-leb (progress_word program threads 1) word high) isnt))
  ]

  abbrev is_astray : Micro → Bool
  is_astray (Store word value) = is_outside word
  is_astray (Await thread count) = is_beyond threads thread
  is_astray End = false

  numbered_near : (n : ℕ) (sleds : List Sled) → n + length sleds ≤ length program.sleds → list_any (λ s. nat_le (length program.sleds) s.0) (enumerate_from n sleds) ≡ false
  numbered_near n [] le = refl
  numbered_near n (s ∷ ss) le =
      neither (nat_le (length program.sleds) n) (list_any (λ s. nat_le (length program.sleds) s.0) (enumerate_from (n + 1) ss)) (lt-leb (length program.sleds) n (omega arith)) (numbered_near (n + 1) ss (omega arith))

  near : (k j : ℕ) → nat_le (length program.sleds) k ≡ false → j < 4 → is_outside (4 * k + j) ≡ false
  near k j far lt = let less = leb-false (length program.sleds) k far in inside (4 * k + j) (inl (omega arith))

  stores_near : (sleds : List Numbered) → list_any (λ s. nat_le (length program.sleds) s.0) sleds ≡ false → list_any (is_bad_sled is_astray program) sleds ≡ false
  stores_near [] none = refl
  stores_near ((k, s) ∷ ss) none =
      let parts = or_parts (nat_le (length program.sleds) k) (list_any (λ s. nat_le (length program.sleds) s.0) ss) none in
      let stores : (is_outside (4 * k + 1) || (is_outside (4 * k + 2) || (is_outside (4 * k + 3) || (is_outside (4 * k + 0) || false)))) ≡ false =
      neither _ _ (near k 1 parts.0 (omega arith)) (neither _ _ (near k 2 parts.0 (omega arith)) (neither _ _ (near k 3 parts.0 (omega arith)) (neither _ _ (near k 0 parts.0 (omega arith)) refl))) in
      neither (is_bad_sled is_astray program (k, s)) (list_any (is_bad_sled is_astray program) ss) stores (stores_near ss parts.1)

  heads_near : (earlier : List ℕ) (sleds : List Numbered) → list_any (λ s. nat_le (length program.sleds) s.0) sleds ≡ false → list_any (λ s. is_astray (unpatch_sled earlier s)) sleds ≡ false
  heads_near earlier [] none = refl
  heads_near earlier ((k, s) ∷ ss) none =
      let parts = or_parts (nat_le (length program.sleds) k) (list_any (λ s. nat_le (length program.sleds) s.0) ss) none in
      neither (is_astray (unpatch_sled earlier (k, s))) (list_any (λ s. is_astray (unpatch_sled earlier s)) ss) (near k 0 parts.0 (omega arith)) (heads_near earlier ss parts.1)

  pub all_near : list_any (λ s. nat_le (length program.sleds) s.0) (all_sleds program) ≡ false
  all_near = numbered_near 0 program.sleds (omega arith)

  pub some_near : (id : ℕ) → list_any (λ s. nat_le (length program.sleds) s.0) (sleds_of program id) ≡ false
  some_near id = filter_none (λ s. nat_le (length program.sleds) s.0) (λ s. s.1.id == id) (all_sleds program) all_near

  after_sleds : (word : ℕ) → IsCodeWord program threads word → (is_outside word || false) ≡ false
  after_sleds word is = neither (is_outside word) false (inside word is) refl

  pub not_beyond : (thread : ℕ) → is_beyond threads thread ≡ false → (0 < thread) × (thread ≤ threads)
  not_beyond thread h =
      let parts = or_parts (thread == 0) (nat_lt threads thread) h in
      let some = eqb-false thread 0 parts.0 in
      let few = ltb-false threads thread parts.1 in
      (omega (arith, some), omega arith)

  steps_near : (earlier : List ℕ) (command : PatchCommand) → names_no_thread threads command ≡ false → list_any is_astray (steps_of program threads earlier command) ≡ false
  steps_near earlier commands.Patch fits = patched_none is_astray program (all_sleds program) (stores_near (all_sleds program) all_near)
  steps_near earlier commands.Unpatch fits = unpatched_none is_astray program earlier (all_sleds program) (heads_near earlier (all_sleds program) all_near)
  steps_near earlier (commands.PatchFunction id) fits = patched_none is_astray program (sleds_of program id) (stores_near (sleds_of program id) (some_near id))
  steps_near earlier (commands.UnpatchFunction id) fits = unpatched_none is_astray program earlier (sleds_of program id) (heads_near earlier (sleds_of program id) (some_near id))
  steps_near earlier commands.SetHandler fits = after_sleds (4 * length program.sleds) (inl (omega arith))
  steps_near earlier commands.RemoveHandler fits = after_sleds (4 * length program.sleds) (inl (omega arith))
  steps_near earlier commands.SetArgHandler fits = after_sleds (arg_handler_word program threads) (inr refl)
  steps_near earlier commands.RemoveArgHandler fits = after_sleds (arg_handler_word program threads) (inr refl)
  steps_near earlier commands.Init fits = neither _ _ (inside (4 * length program.sleds + 1) (inl (omega arith))) (after_sleds (4 * length program.sleds + 1) (inl (omega arith)))
  steps_near earlier commands.Finalize fits = neither _ _ (inside (4 * length program.sleds + 1) (inl (omega arith))) (after_sleds (4 * length program.sleds + 1) (inl (omega arith)))
  steps_near earlier (commands.Hold thread passing) fits = refl
  steps_near earlier commands.Go fits = refl
  steps_near earlier (commands.Release thread) fits =
      let bounds = not_beyond thread fits in after_sleds (4 * length program.sleds + 1 + thread) (inl (omega (arith, bounds.0, bounds.1)))
  steps_near earlier (commands.Await thread count) fits = neither (is_beyond threads thread) false fits refl

-- what a script's micro steps name exists
pub micro_within : (plan : Plan) → IsOrderly plan → (place : ℕ) (micro : Micro) → micro ≡ micro_at plan.program plan.threads (commands_of plan.lines) place → IsWithin plan micro
micro_within plan all place micro is = elim (cases_lt place (total_of plan.program plan.threads (commands_of plan.lines))) [
  | inl lt ↦
      let at : micro ≡ get_or (micros plan.program plan.threads (commands_of plan.lines)) place End = is ∙ ap (λ o. unwrap_or o End) (slice_get-get_or (micros plan.program plan.threads (commands_of plan.lines)) place End lt) in
      let none : list_any (is_astray plan.program plan.threads) (micros plan.program plan.threads (commands_of plan.lines)) ≡ false =
      script_none (is_astray plan.program plan.threads) plan.program plan.threads (names_no_thread plan.threads) (steps_near plan.program plan.threads) [] (commands_of plan.lines)
      (list_any_none (names_no_thread plan.threads) (commands_of plan.lines) (λ k d lt'. named k d lt')) in
      read micro (ap (is_astray plan.program plan.threads) at ∙ found_none (is_astray plan.program plan.threads) plan.program (micros plan.program plan.threads (commands_of plan.lines)) none place lt)
  | inr le ↦ subst (IsWithin plan) (sym (is ∙ ap (λ o. unwrap_or o End) (slice_get_past (micros plan.program plan.threads (commands_of plan.lines)) place le))) tt
]
  where
    named : (k : ℕ) (d : PatchCommand) → k < length (commands_of plan.lines) → names_no_thread plan.threads (get_or (commands_of plan.lines) k d) ≡ false
    named k d lt =
        let line : get_or (commands_of plan.lines) k d ≡ (get_or plan.lines k (0, d)).1 = get_or-map (λ (l : ℕ × PatchCommand). l.1) plan.lines k (0, d) d (omega (arith, length-map plan.lines (λ l. l.1))) in
        ap (names_no_thread plan.threads) line
        ∙ (all.admitted k (get_or plan.lines k (0, d)) (slice_get-get_or plan.lines k (0, d) (omega (arith, length-map plan.lines (λ l. l.1))))).thread

    read : (micro : Micro) → is_astray plan.program plan.threads micro ≡ false → IsWithin plan micro
    read (Store word value) h = code_word plan.program plan.threads word h
    read (Await thread count) h = not_beyond plan.program plan.threads thread h
    read End h = tt
