-- The rule holds at first.
use Rattle.std.proofs.Common.{◌≡◌, inl, inr, ℕ, zero, suc, ◌+◌, ◌*◌, ◌-◌, ◌<◌, ◌≤◌, List, [], ◌∷◌, ◌++◌, length, replicate, get_or, sym, refl, ap, ◌∙◌, subst, arith, length-append, append_assoc, take, take_all}
use Rattle.std.specs.Prelude.{slice_index}
use Rattle.std.specs.List.{flat_map}
use mathlib.Core.Option.{some-ne-none}
use lib.ListN.{length-replicate, get_or-replicate, get_or-append}
use Rattle.std.proofs.lemmas.List.{get_or-append_right}
use Rattle.atomic_table.specs.Table.{opening}
use Rattle.xray_image.specs.declared.sled.Sled.{Sled}
use Rattle.xray_image.specs.Program.{Program}
use Rattle.sled_words.specs.Parts.{initial_words, all_sled_words, sled_words}
use Rattle.sled_words.specs.Words.{IsCodeWord, word_count}
use Rattle.patch_script.specs.Plans.{Plan}
use Rattle.sled_rule.specs.declared.views.View.{View}
use Rattle.sled_rule.specs.Plans.{IsCodeIn, code_in, words_in}
use Rattle.sled_rule.specs.Slots.{code_slot, progress_slot, slot_count}
use Rattle.sled_rule.specs.Rule.{progress, first_view, Knows, KeepsCode}
use Rattle.sled_rule.specs.Views.{first_patch}
use Rattle.sled_rule.proofs.Rows.{at_front}

-- ---- the words before the script

four_a_sled : (sleds : List Sled) → length (flat_map sled_words sleds) ≡ 4 * length sleds
four_a_sled [] = refl
four_a_sled (sled ∷ sleds) = let rest = four_a_sled sleds in omega arith

pub initial_count : (program : Program) (threads : ℕ) → length (initial_words program threads) ≡ word_count program threads
initial_count program threads =
    let sleds = four_a_sled program.sleds in
    let zeros = length-replicate {A = ℕ} (3 + 2 * threads) 0 in
    let whole = length-append (all_sled_words program) (replicate (3 + 2 * threads) 0) in
    omega arith

zeros : (n j : ℕ) → get_or {A = ℕ} (replicate n 0) j 0 ≡ 0
zeros zero j = refl
zeros (suc n) zero = refl
zeros (suc n) (suc j) = zeros n j

zeros_after_zeros : (n m j : ℕ) → get_or {A = ℕ} (replicate n 0 ++ replicate m 0) j 0 ≡ 0
zeros_after_zeros zero m j = zeros m j
zeros_after_zeros (suc n) m zero = refl
zeros_after_zeros (suc n) m (suc j) = zeros_after_zeros n m j

-- a code word is one of the words
pub code_within : (program : Program) (threads word : ℕ) → IsCodeWord program threads word → word < word_count program threads
code_within program threads word (inl low) = omega arith
code_within program threads word (inr last) = omega arith

-- after the sleds' words there are zeros
after_sleds : (program : Program) (threads more i : ℕ) → 4 * length program.sleds ≤ i → get_or (initial_words program threads ++ replicate more 0) i 0 ≡ 0
after_sleds program threads more i following =
    let all : List ℕ = all_sled_words program in
    ap (λ (l : List ℕ). get_or l i 0) (append_assoc all (replicate (3 + 2 * threads) 0) (replicate more 0))
    ∙ (get_or-append_right all (replicate (3 + 2 * threads) 0 ++ replicate more 0) (4 * length program.sleds) i 0 (four_a_sled program.sleds) following
    ∙ zeros_after_zeros (3 + 2 * threads) more (i - 4 * length program.sleds))

module _ (plan : Plan) (words : List ℕ) (is : words ≡ initial_words plan.program plan.threads ++ replicate (16 * (plan.threads + 1)) 0) where
  pub opening_count : length words ≡ slot_count plan
  unfolding words_in
  opening_count =
      let initial = initial_count plan.program plan.threads in
      let zeros = length-replicate {A = ℕ} (16 * (plan.threads + 1)) 0 in
      let whole = length-append (initial_words plan.program plan.threads) (replicate (16 * (plan.threads + 1)) 0) in
      let same : length words ≡ length (initial_words plan.program plan.threads ++ replicate (16 * (plan.threads + 1)) 0) = ap length is in
      omega arith

  -- the words that are fetched are those before the script
  opening_code : ((word : ℕ) → word < length (initial_words plan.program plan.threads) → slice_index (initial_words plan.program plan.threads) word ≡ code_in plan 0 word)
      → (word : ℕ) → IsCodeIn plan word → slice_index words (code_slot plan word) ≡ code_in plan 0 word
  unfolding code_slot
  opening_code first word inside =
      let initial = initial_count plan.program plan.threads in
      let within : word < length (initial_words plan.program plan.threads) = omega (arith, initial, code_within plan.program plan.threads word inside) in
      ap (λ (l : List ℕ). get_or l word 0) is ∙ (get_or-append (initial_words plan.program plan.threads) (replicate (16 * (plan.threads + 1)) 0) 0 word within ∙ first word within)

  opening_progress : (thread : ℕ) → progress plan words thread ≡ 0
  unfolding words_in
  opening_progress thread =
      ap (λ (l : List ℕ). get_or l (progress_slot plan thread) 0) is
      ∙ after_sleds plan.program plan.threads (16 * (plan.threads + 1)) (progress_slot plan thread) (omega arith)

pub starts : (plan : Plan) (words : List ℕ) → words ≡ initial_words plan.program plan.threads ++ replicate (16 * (plan.threads + 1)) 0
    → ((word : ℕ) → word < length (initial_words plan.program plan.threads) → slice_index (initial_words plan.program plan.threads) word ≡ code_in plan 0 word)
    → KeepsCode plan (opening {S = Unit {0}} words [] (first_view plan))
starts plan words is first = record {
  patch = first_patch plan;
  patcher = 0;
  owner = λ t. 0;
  core = record {
    script = refl;
    wide = opening_count plan words is;
    place = omega arith;
    given = omega arith;
    code = opening_code plan words is first;
    started = λ h. absurd (omega arith);
    met = λ i m e. absurd (some-ne-none m (sym e));
    once = λ i j m n e f same. absurd (some-ne-none m (sym e));
    idle = λ t h h'. opening_progress plan words is t;
    awaited = λ i t c h e. absurd (omega arith);
    room = length-replicate {A = ℕ} (plan.threads + 1) 0;
    known = λ t h. let z : slice_index (first_patch plan).known t ≡ 0 = get_or-replicate (plan.threads + 1) t 0 0 (omega arith) in omega arith;
  };
  each = λ j v e. elim (at_front [] (first_view plan) v j e) [
    | inl t ↦ subst (λ (z : ℕ × View). Knows plan words (first_patch plan) 0 (λ t. 0) z.0 z.1) (λ i. (sym t.0 i, t.1 i)) (refl, refl)
    | inr t ↦ absurd (some-ne-none v (sym t.2))
  ];
}

-- the words of the image and the threads that a script was read for
pub for_the_script : (plan : Plan) (program : Program) (threads : ℕ) → plan.program ≡ program → plan.threads ≡ threads
    → initial_words program threads ++ replicate (16 * (threads + 1)) 0 ≡ initial_words plan.program plan.threads ++ replicate (16 * (plan.threads + 1)) 0
for_the_script plan program threads same all =
    λ i. initial_words (sym same i) (sym all i) ++ replicate (16 * (sym all i + 1)) 0

-- how many words there are
pub count_is : (plan : Plan) (program : Program) (threads count : ℕ) → plan.program ≡ program → plan.threads ≡ threads
    → count ≡ word_count program threads → count ≡ words_in plan
unfolding words_in
count_is plan program threads count same all is =
    let sleds : length plan.program.sleds ≡ length program.sleds = ap (λ (p : Program). length p.sleds) same in omega arith

-- there are as many
pub all_words : (plan : Plan) (length count : ℕ) → length ≡ word_count plan.program plan.threads → count ≡ words_in plan → length ≡ count
unfolding words_in
all_words plan length count all is = all ∙ sym is

-- the words before the script, and zeros up to a count
pub grown : (program : Program) (threads len count : ℕ) (before after : List ℕ) → len ≡ length before → before ≡ initial_words program threads
    → count ≡ word_count program threads + 16 * (threads + 1) → after ≡ take count before ++ replicate (count - len) 0
    → after ≡ initial_words program threads ++ replicate (16 * (threads + 1)) 0
grown program threads len count before after long is sized resized =
    let initial = initial_count program threads in
    let same : length before ≡ length (initial_words program threads) = ap length is in
    let whole : take count before ≡ before = take_all count before (omega arith) in
    let more : count - len ≡ 16 * (threads + 1) = omega arith in
    resized ∙ (ap (λ (l : List ℕ). l ++ replicate (count - len) 0) (whole ∙ is) ∙ ap (λ (n : ℕ). initial_words program threads ++ replicate n 0) more)
