-- What the entries of a map say, entry by entry.
use Rattle.std.proofs.Common.{◌≡◌, ℕ, suc, ◌+◌, List, [], ◌∷◌, length, refl, ap}
use Rattle.xray_image.specs.Container.{MapFields, entries_from}

-- each of them says something
pub length_said : (at : ℕ) (fields : List MapFields) → length (entries_from at fields) ≡ length fields
length_said at [] = refl
length_said at (first ∷ others) = ap suc (length_said (at + 32) others)
