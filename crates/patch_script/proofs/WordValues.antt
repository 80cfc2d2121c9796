-- The value of one word after micro steps.
use Rattle.std.proofs.Common.{◌≡◌, ℕ, zero, suc, ◌+◌, ◌*◌, ◌<◌, ◌≤◌, List, [], ◌∷◌, ◌++◌, Option, Some, None, unwrap_or, refl, sym, ap, subst, ◌∙◌, inl, inr, take, drop, get_or, set, length, replicate, add-one}
use Rattle.std.specs.Prelude.{IfSome, slice_get, slice_index}
use Rattle.std.specs.List.{filter_map, last_or, cons_option, All}
use Rattle.std.proofs.lemmas.Bool.Decides.{eqb_tells}
use Rattle.std.proofs.lemmas.List.{take-append-drop, take-take, length-set, get_or-set_same, get_or-set_other}
use Rattle.std.proofs.lemmas.List.Elements.{All-head, All-tail}
use Rattle.xray_image.specs.Program.{Program}
use Rattle.sled_words.specs.Parts.{all_sled_words, initial_words}
use Rattle.patch_script.specs.declared.command.PatchCommand.{PatchCommand}
use Rattle.patch_script.specs.declared.micro.Micro.{Micro}
use Rattle.patch_script.specs.declared.micro.Micro.TheVariants.{Store, Await, End}
use Rattle.patch_script.specs.Micros.{micros, micro_at}
use Rattle.patch_script.specs.CodeAt.{stored_in, initial_value, code_at}
use Rattle.patch_script.specs.StoredWords.{stored, AreCodeAt}

-- the value of a word after a step, or after steps, from the value before
abbrev pub following : ℕ → Micro → ℕ → ℕ
following word step value = unwrap_or (stored_in word step) value

abbrev pub held : ℕ → List Micro → ℕ → ℕ
held word [] value = value
held word (step ∷ steps) value = held word steps (following word step value)

last_some : (xs : List ℕ) (x d e : ℕ) → unwrap_or (last_or (Some x) xs) d ≡ unwrap_or (last_or (Some x) xs) e
last_some [] x d e = refl
last_some (y ∷ xs) x d e = last_some xs y d e

last_after : (xs : List ℕ) (x d : ℕ) → unwrap_or (last_or None xs) x ≡ unwrap_or (last_or (Some x) xs) d
last_after [] x d = refl
last_after (y ∷ xs) x d = last_some xs y x d

last_cons : (o : Option ℕ) (xs : List ℕ) (d : ℕ)
    → unwrap_or (last_or None (cons_option o xs)) d ≡ unwrap_or (last_or None xs) (unwrap_or o d)
last_cons None xs d = refl
last_cons (Some x) xs d = sym (last_after xs x d)

-- the last store decides
pub held_last : (word : ℕ) (steps : List Micro) (value : ℕ)
    → unwrap_or (last_or None (filter_map (stored_in word) steps)) value ≡ held word steps value
held_last word [] value = refl
held_last word (step ∷ steps) value =
    last_cons (stored_in word step) (filter_map (stored_in word) steps) value ∙ held_last word steps (following word step value)

pub code_at_held : (program : Program) (threads : ℕ) (script : List PatchCommand) (place word : ℕ)
    → code_at program threads script place word ≡ held word (take place (micros program threads script)) (initial_value program word)
code_at_held program threads script place word = held_last word (take place (micros program threads script)) (initial_value program word)

held-append : (word : ℕ) (xs ys : List Micro) (value : ℕ) → held word (xs ++ ys) value ≡ held word ys (held word xs value)
held-append word [] ys value = refl
held-append word (x ∷ xs) ys value = held-append word xs ys (following word x value)

-- later steps follow earlier ones
pub held_later : (word : ℕ) (steps : List Micro) (p q value : ℕ) → p ≤ q
    → held word (take q steps) value ≡ held word (drop p (take q steps)) (held word (take p steps) value)
held_later word steps p q value h =
    let parts : take q steps ≡ take p steps ++ drop p (take q steps) =
    sym (take-append-drop p (take q steps)) ∙ ap (λ xs. xs ++ drop p (take q steps)) (take-take p q steps h) in
    ap (λ xs. held word xs value) parts ∙ held-append word (take p steps) (drop p (take q steps)) value

pub after_has : (P : ℕ → Type 0) (o : Option ℕ) (value : ℕ) → IfSome o P → P value → P (unwrap_or o value)
after_has P None value stored before = before
after_has P (Some x) value stored before = stored

-- a fact that each store to a word keeps still holds of its value after them
pub held_has : (P : ℕ → Type 0) (word : ℕ) (steps : List Micro) (value : ℕ)
    → All (λ step. IfSome (stored_in word step) P) steps → P value → P (held word steps value)
held_has P word [] value each before = before
held_has P word (step ∷ steps) value each before =
    let Q : Micro → Type 0 = λ s. IfSome (stored_in word s) P in
    held_has P word steps (following word step value) (All-tail Q step steps each)
    (after_has P (stored_in word step) value (All-head Q step steps each) before)

-- one more step
held_next : (word : ℕ) (steps : List Micro) (place value : ℕ)
    → held word (take (suc place) steps) value ≡ following word (unwrap_or (slice_get steps place) End) (held word (take place steps) value)
held_next word [] zero value = refl
held_next word [] (suc place) value = refl
held_next word (step ∷ steps) zero value = refl
held_next word (step ∷ steps) (suc place) value = held_next word steps place (following word step value)

pub code_at_next : (program : Program) (threads : ℕ) (script : List PatchCommand) (place word : ℕ)
    → code_at program threads script (place + 1) word
    ≡ following word (micro_at program threads script place) (code_at program threads script place word)
code_at_next program threads script place word =
    let steps : List Micro = micros program threads script in
    let first : ℕ = initial_value program word in
    code_at_held program threads script (place + 1) word ∙ ap (λ n. held word (take n steps) first) (add-one place)
    ∙ held_next word steps place first ∙ ap (following word (micro_at program threads script place)) (sym (code_at_held program threads script place word))

-- zeros after a list change no number that is read with 0 for none
zeros : (n i : ℕ) → ◌≡◌ {A = ℕ} (get_or (replicate n 0) i 0) 0
zeros zero i = refl
zeros (suc n) zero = refl
zeros (suc n) (suc i) = zeros n i

get_or-zeros : (xs : List ℕ) (n i : ℕ) → get_or (xs ++ replicate n 0) i 0 ≡ get_or xs i 0
get_or-zeros [] n i = zeros n i
get_or-zeros (x ∷ xs) n zero = refl
get_or-zeros (x ∷ xs) n (suc i) = get_or-zeros xs n i

pub code_at_first : (program : Program) (threads : ℕ) (script : List PatchCommand) → AreCodeAt program threads script 0 (initial_words program threads)
code_at_first program threads script word within = get_or-zeros (all_sled_words program) (3 + 2 * threads) word

-- a step changes each word to its value after the step
stored_after : (words : List ℕ) (step : Micro) (word : ℕ) → word < length (stored words step)
    → slice_index (stored words step) word ≡ following word step (slice_index words word)
stored_after words (Await thread count) word within = refl
stored_after words End word within = refl
stored_after words (Store w value) word within =
    let long : word < length words = subst (λ (n : ℕ). word < n) (length-set words w value) within in
    elim (eqb_tells w word) [
      | inl t ↦
          let here : get_or (set words w value) word 0 ≡ value =
          subst (λ (v : ℕ). get_or (set words v value) word 0 ≡ value) (sym t.1) (get_or-set_same words word value 0 long) in
          here ∙ rw t.0 refl
      | inr f ↦ get_or-set_other words w word value 0 (λ e. f.1 (sym e)) ∙ rw f.0 refl
    ]

stored_within : (words : List ℕ) (step : Micro) (word : ℕ) → word < length (stored words step) → word < length words
stored_within words (Await thread count) word within = within
stored_within words End word within = within
stored_within words (Store w value) word within = subst (λ (n : ℕ). word < n) (length-set words w value) within

pub code_stored : (program : Program) (threads : ℕ) (script : List PatchCommand) (place : ℕ) (words : List ℕ) → AreCodeAt program threads script place words
    → AreCodeAt program threads script (place + 1) (stored words (micro_at program threads script place))
code_stored program threads script place words are word within =
    let step : Micro = micro_at program threads script place in
    stored_after words step word within ∙ ap (following word step) (are word (stored_within words step word within))
    ∙ sym (code_at_next program threads script place word)
