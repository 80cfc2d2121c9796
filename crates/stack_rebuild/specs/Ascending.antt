-- Lists in ascending order without repetitions.
use Rattle.std.specs.Prelude.{List, [], ◌∷◌}
use Rattle.std.specs.declared.cmp.Ordering.{Ordering}
use Rattle.std.specs.Ordering.{match_ordering}

-- an item is put into such a list, unless it is there
abbrev pub put_once : {X : Type 0} → (X → X → Ordering) → X → List X → List X
put_once compare x [] = x ∷ []
put_once compare x (y ∷ ys) = match_ordering (compare x y) (x ∷ y ∷ ys) (y ∷ ys) (y ∷ put_once compare x ys)

-- the items of a list, each once, in ascending order
abbrev pub each_once : {X : Type 0} → (X → X → Ordering) → List X → List X
each_once compare [] = []
each_once compare (x ∷ xs) = put_once compare x (each_once compare xs)
