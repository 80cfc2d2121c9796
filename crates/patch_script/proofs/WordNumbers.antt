-- The numbers of words. Two parts of sleds have the same number only if they are the same part of the same sled.
use Rattle.std.proofs.Common.{◌≡◌, ℕ, ◌+◌, ◌*◌, ◌<◌, List, [], ◌∷◌, length, zero, suc, Some, None, Bool, eqb, refl, sym, ap, subst, ◌∙◌, inl, inr, arith}
use Rattle.std.specs.Prelude.{◌==◌, if◌then◌else◌, IfSome, slice_get, slice_index}
use Rattle.std.specs.List.{flat_map}
use Rattle.std.proofs.lemmas.Bool.{eqb-true, cases_Bool}
use Rattle.std.proofs.lemmas.List.{get_or_past}
use Rattle.std.proofs.lemmas.Option.{same_Some, slice_get_within}
use Rattle.xray_image.specs.declared.sled.Sled.{Sled}
use Rattle.xray_image.specs.Program.{Program}
use Rattle.sled_words.specs.declared.part.Part.{Part}
use Rattle.sled_words.specs.declared.part.Part.TheVariants.{Head, Id, Opcode, Offset}
use Rattle.sled_words.specs.Words.{word_of, part_number, handler_word}
use Rattle.sled_words.specs.Parts.{sled_words, unpatched, all_sled_words}

part_number_small : (part : Part) → part_number part < 4
part_number_small Head = omega arith
part_number_small Id = omega arith
part_number_small Opcode = omega arith
part_number_small Offset = omega arith

-- the words of different sleds are different
pub same_sled : (j k : ℕ) (a b : Part) → word_of j a ≡ word_of k b → j ≡ k
same_sled j k a b h = omega (arith, part_number_small a, part_number_small b)

same_number : (j k : ℕ) (a b : Part) → word_of j a ≡ word_of k b → part_number a ≡ part_number b
same_number j k a b h = omega (arith, part_number_small a, part_number_small b)

-- the part with a number
part_with : ℕ → Part
part_with zero = Head
part_with (suc zero) = Id
part_with (suc (suc zero)) = Opcode
part_with n = Offset

part_back : (part : Part) → part_with (part_number part) ≡ part
unfolding part_with
part_back Head = refl
part_back Id = refl
part_back Opcode = refl
part_back Offset = refl

pub same_part : (j k : ℕ) (a b : Part) → word_of j a ≡ word_of k b → a ≡ b
same_part j k a b h = sym (part_back a) ∙ ap part_with (same_number j k a b h) ∙ part_back b

-- a part of a listed sled comes before the words of the handler, the state and the threads
pub below_others : (program : Program) (k : ℕ) (sled : Sled) (part : Part) → slice_get program.sleds k ≡ Some sled
    → word_of k part < handler_word program
below_others program k sled part at =
    let within : k < length program.sleds = slice_get_within program.sleds k sled at in
    omega (arith, part_number_small part)

-- ---- the first values

four_more : (k : ℕ) (part : Part) → word_of (suc k) part ≡ suc (suc (suc (suc (word_of k part))))
four_more k part = omega arith

pub part_at_first : (sleds : List Sled) (k : ℕ) (sled : Sled) (part : Part) → slice_get sleds k ≡ Some sled
    → slice_index (flat_map sled_words sleds) (word_of k part) ≡ unpatched sled part
part_at_first [] k sled part at = cc
part_at_first (s ∷ sleds) zero sled Head at = ap (λ s. unpatched s Head) (same_Some s sled at)
part_at_first (s ∷ sleds) zero sled Id at = ap (λ s. unpatched s Id) (same_Some s sled at)
part_at_first (s ∷ sleds) zero sled Opcode at = ap (λ s. unpatched s Opcode) (same_Some s sled at)
part_at_first (s ∷ sleds) zero sled Offset at = ap (λ s. unpatched s Offset) (same_Some s sled at)
part_at_first (s ∷ sleds) (suc k) sled part at =
    ap (slice_index (flat_map sled_words (s ∷ sleds))) (four_more k part) ∙ part_at_first sleds k sled part at

four_each : (sleds : List Sled) → length (flat_map sled_words sleds) ≡ 4 * length sleds
four_each [] = refl
four_each (s ∷ sleds) = let more = four_each sleds in omega arith

pub zero_at_first : (program : Program) (word : ℕ) → handler_word program < word + 1 → slice_index (all_sled_words program) word ≡ 0
zero_at_first program word past = get_or_past (all_sled_words program) word 0 (omega (arith, four_each program.sleds))

-- ---- which word a store goes to

-- a store goes to the word only if it names that word
pub by_word : (P : ℕ → Type 0) (w word value : ℕ) → (w ≡ word → P value) → IfSome (if w == word then Some value else None) P
by_word P w word value there = elim (cases_Bool (eqb w word)) [
  | inl e ↦ subst (λ (b : Bool). IfSome (if b then Some value else None) P) (sym e) (there (eqb-true w word e))
  | inr e ↦ subst (λ (b : Bool). IfSome (if b then Some value else None) P) (sym e) tt
]
