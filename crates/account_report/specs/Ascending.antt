-- Lists in order.
use Rattle.std.specs.Prelude.{Bool, ℕ, List, [], ◌∷◌, nat_lt, if◌then◌else◌}

-- an item is put into a list in order, before the first item that it precedes
abbrev pub put_in : {X : Type 0} → (X → X → Bool) → X → List X → List X
put_in before x [] = x ∷ []
put_in before x (y ∷ ys) = if before x y then x ∷ y ∷ ys else y ∷ put_in before x ys

-- the items in order
abbrev pub ordered_by : {X : Type 0} → (X → X → Bool) → List X → List X
ordered_by before [] = []
ordered_by before (x ∷ xs) = put_in before x (ordered_by before xs)

-- numbers in ascending order
abbrev pub ascending : List ℕ → List ℕ
ascending numbers = ordered_by nat_lt numbers
