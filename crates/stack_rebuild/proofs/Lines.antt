-- Texts that are put together from one for each item of a list.
use Rattle.std.proofs.Common.{◌≡◌, ◌≤◌, ◌-◌, ◌++◌, arith, ℕ, List, [], ◌∷◌, length, map, take, drop, get_or, refl, ap}
use Rattle.std.specs.Prelude.{codes}
use Rattle.std.specs.List.{flat_map}
use Rattle.std.proofs.lemmas.List.{take_all}
use Rattle.map_names.specs.Naming.{Naming}
use Rattle.function_names.specs.Name.{name_text}
use Rattle.function_names.specs.declared.form.NameForm.TheVariants.{Frame}
use Rattle.stack_rebuild.specs.StackText.{path_text}

-- texts of what items are mapped to
pub lines_of : {X Y : Type 0} (line : Y → List ℕ) (of : X → Y) (xs : List X) → flat_map (λ x. line (of x)) xs ≡ flat_map line (map of xs)
lines_of line of [] = refl
lines_of line of (x ∷ xs) = ap (λ (text : List ℕ). line (of x) ++ text) (lines_of line of xs)

-- a list without its first item, as slices give it
after_first : {X : Type 0} (x : X) (xs : List X) → take (length (x ∷ xs) - 1) (drop 1 (x ∷ xs)) ≡ xs
after_first x xs = take_all (length (x ∷ xs) - 1) xs (omega arith)

-- the text of a path, from its first function and the others
pub path_from : (names : Naming) (path : List ℕ) → 1 ≤ length path
    → name_text Frame names (get_or path 0 0) ++ flat_map (λ f. codes ";" ++ name_text Frame names f) (take (length path - 1) (drop 1 path)) ≡ path_text names path
path_from names [] some = absurd (omega (arith, some))
path_from names (func ∷ inner) some = ap (λ (fs : List ℕ). name_text Frame names func ++ flat_map (λ f. codes ";" ++ name_text Frame names f) fs) (after_first func inner)
