-- A thread that was released loads from places after the release.
use Rattle.std.proofs.Common.{◌≡◌, ◌≢◌, ℕ, zero, suc, ◌<◌, ◌≤◌, List, [], ◌∷◌, Some, get_or, sym, ap, ◌∙◌, arith}
use Rattle.std.specs.Prelude.{slice_get}
use Rattle.std.proofs.lemmas.Option.{same_Some, slice_get-get_or, slice_get_within}
use Rattle.xray_image.specs.Program.{Program}
use Rattle.sled_words.specs.Words.{release_word}
use Rattle.patch_script.specs.declared.command.PatchCommand.{PatchCommand}
use Rattle.patch_script.specs.CodeAt.{code_at}
use Rattle.machine_step.specs.Follows.{Rise}
use Rattle.machine_step.specs.Loads.{Load}
use Rattle.traced_run.specs.Following.{LoadsFollow}

from_first : (from last : ℕ) (numbers : List ℕ) (j at : ℕ) → Rise from last numbers → slice_get numbers j ≡ Some at → from ≤ at
from_first from last [] j at rise found = absurd cc
from_first from last (number ∷ later) zero at (low, high, rise) found = let same : number ≡ at = same_Some number at found in omega arith
from_first from last (number ∷ later) (suc j) at (low, high, rise) found =
    let rest = from_first number last later j at rise found in omega (arith, rest)

-- a later number is no lower
rises : (from last : ℕ) (numbers : List ℕ) (i j early late : ℕ) → Rise from last numbers → i ≤ j → slice_get numbers i ≡ Some early
    → slice_get numbers j ≡ Some late → early ≤ late
rises from last [] i j early late rise before found there = absurd cc
rises from last (number ∷ later) zero zero early late rise before found there =
    let same : early ≡ late = same_Some early late (sym found ∙ there) in omega arith
rises from last (number ∷ later) zero (suc j) early late (low, high, rise) before found there =
    let same : number ≡ early = same_Some number early found in
    let rest = from_first number last later j late rise there in omega (arith, rest, same)
rises from last (number ∷ later) (suc i) zero early late rise before found there = absurd (omega arith)
rises from last (number ∷ later) (suc i) (suc j) early late (low, high, rise) before found there =
    rises number last later i j early late rise (omega arith) found there

pub loads_after_release : (program : Program) (threads : ℕ) (script : List PatchCommand) (thread : ℕ) (sleds : List ℕ) (loads : List Load) (place i j : ℕ)
    (release load : Load) → LoadsFollow program threads script thread sleds loads place
    → slice_get loads i ≡ Some release → release.word ≡ release_word program thread → release.value ≢ 0
    → i ≤ j → slice_get loads j ≡ Some load
    → (at : ℕ) × (at ≤ place) × (load.value ≡ code_at program threads script at load.word)
    × ((p : ℕ) → ((q : ℕ) → q ≤ p → code_at program threads script q (release_word program thread) ≡ 0) → p < at)
loads_after_release program threads script thread sleds loads place i j release load f released of_release set before found =
    let within = slice_get_within loads i release released in
    let within' = slice_get_within loads j load found in
    let early = slice_get-get_or f.places i 0 (omega (arith, within, f.count)) in
    let late = slice_get-get_or f.places j 0 (omega (arith, within', f.count)) in
    let up = rises _ place f.places i j _ _ f.rise before early late in
    let value = f.values i _ release early released in (
      get_or f.places j 0,
      below _ place f.places j _ f.rise late,
      f.values j _ load late found,
      λ p held. after p up (λ low. set (value ∙ (ap (code_at program threads script (get_or f.places i 0)) of_release ∙ held _ low))),
    )
  where
    below : (from last : ℕ) (numbers : List ℕ) (k at : ℕ) → Rise from last numbers → slice_get numbers k ≡ Some at → at ≤ last
    below from last [] k at rise there = absurd cc
    below from last (number ∷ later) zero at (low, high, rise) there = let same : number ≡ at = same_Some number at there in omega arith
    below from last (number ∷ later) (suc k) at (low, high, rise) there = below number last later k at rise there

    after : (p : ℕ) {a b : ℕ} → a ≤ b → (a ≤ p → ⊥) → p < b
    after p {a} {b} low not_before = omega (arith, low, not_before)
