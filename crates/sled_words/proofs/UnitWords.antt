-- The words of the sled that a unit is.
use Rattle.std.proofs.Common.{◌≡◌, ◌<◌, ◌≤◌, ◌*◌, ℕ, List, length, Option, Some, None, refl, arith}
use Rattle.std.specs.Prelude.{slice_get, IsSomeAnd}
use Rattle.std.proofs.lemmas.Option.{slice_get_within}
use Rattle.xray_image.specs.declared.sled.Sled.{Sled}
use Rattle.xray_image.specs.declared.unit.Unit.{Unit}
use Rattle.xray_image.specs.declared.unit.What.{What}
use Rattle.xray_image.specs.declared.unit.What.TheVariants as whats
use Rattle.xray_image.specs.Layout.{SledsStand}
use Rattle.sled_words.specs.private.UnitWords.{HasWords}

found_within : (sleds : List Sled) (k : ℕ) (P : Sled → Type 0) (found : Option Sled) → slice_get sleds k ≡ found → IsSomeAnd found P → k < length sleds
found_within sleds k P None is some = absurd some
found_within sleds k P (Some sled) is some = slice_get_within sleds k sled is

-- the words of a sled that a unit names are there if those of all sleds are
pub unit_has_words : (units : List Unit) (sleds : List Sled) (words : List ℕ) → SledsStand units sleds → length sleds ≤ 4096 → 4 * length sleds ≤ length words
    → (i : ℕ) (u : Unit) → slice_get units i ≡ Some u → (what : What) → u.what ≡ what → HasWords words what
unit_has_words units sleds words stand few all i u at (whats.Plain instr) is = tt
unit_has_words units sleds words stand few all i u at (whats.Sled k) is =
    let within = found_within sleds k (λ s. s.address ≡ u.address) (slice_get sleds k) refl (stand i k u at is) in
    (omega arith, omega arith)
unit_has_words units sleds words stand few all i u at whats.Pad is = tt
