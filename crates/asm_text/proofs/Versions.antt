-- The version of map entries changes nothing that they say.
use Rattle.std.proofs.Common.{◌≡◌, ℕ, zero, suc, ◌+◌, ◌<◌, List, [], ◌∷◌, map, refl, ap, subst, ◌∙◌}
use Rattle.std.specs.Prelude.{◌==◌}
use Rattle.std.specs.List.{AllByRecursion, position_or_len, zip}
use Rattle.xray_image.specs.Container.{Function, MapEntry}
use Rattle.xray_image.specs.Units.{SledPlace}
use Rattle.xray_image.specs.Program.{EachSled, IsEntryOf, Reaches, Trampolines, distinct, id_of, sled_of}
use Rattle.asm_text.specs.Writing.{in_version}
use Rattle.asm_text.proofs.ReadBack.{EntryFits}

module _ (version : ℕ) where
  pub same_sleds : (es : List MapEntry) → map (λ e. e.sled) (map (in_version version) es) ≡ map (λ e. e.sled) es
  same_sleds [] = refl
  same_sleds (e ∷ es) = ap (λ ns. e.sled ∷ ns) (same_sleds es)

  same_functions : (es : List MapEntry) → map (λ e. e.function) (map (in_version version) es) ≡ map (λ e. e.function) es
  same_functions [] = refl
  same_functions (e ∷ es) = ap (λ ns. e.function ∷ ns) (same_functions es)

  -- the ids that the entries give
  same_id : (es : List MapEntry) (function : ℕ) → id_of (map (in_version version) es) function ≡ id_of es function
  same_id es function = ap (λ ns. 1 + position_or_len (λ f. f == function) (distinct [] ns)) (same_functions es)

  same_sled : (all : List MapEntry) (place : SledPlace) (e : MapEntry) → sled_of (map (in_version version) all) (place, in_version version e) ≡ sled_of all (place, e)
  same_sled all place e = rw (same_id all e.function) refl

  sleds_with : (all : List MapEntry) (places : List SledPlace) (es : List MapEntry)
      → map (sled_of (map (in_version version) all)) (zip places (map (in_version version) es)) ≡ map (sled_of all) (zip places es)
  sleds_with all [] es = refl
  sleds_with all (place ∷ places) [] = refl
  sleds_with all (place ∷ places) (e ∷ es) =
      ap (λ s. s ∷ map (sled_of (map (in_version version) all)) (zip places (map (in_version version) es))) (same_sled all place e)
      ∙ ap (λ ss. sled_of all (place, e) ∷ ss) (sleds_with all places es)

  -- the sleds that they say
  pub sleds_same : (places : List SledPlace) (es : List MapEntry)
      → map (sled_of (map (in_version version) es)) (zip places (map (in_version version) es)) ≡ map (sled_of es) (zip places es)
  sleds_same places es = sleds_with es places es

  -- their addresses fit the fields
  pub fitting : (es : List MapEntry) → AllByRecursion EntryFits es → AllByRecursion EntryFits (map (in_version version) es)
  fitting [] fits = tt
  fitting (e ∷ es) fits = (fits.0, fitting es fits.1)

  -- what is true of each entry that doesn't look at the version
  each_in : (P Q : SledPlace → MapEntry → Type 0) → ((place : SledPlace) (e : MapEntry) → P place e → Q place (in_version version e))
      → (places : List SledPlace) (es : List MapEntry) → EachSled places es P → EachSled places (map (in_version version) es) Q
  each_in P Q step places [] each i place entry at from = absurd (cc from)
  each_in P Q step [] (e ∷ es) each i place entry at from = absurd (cc at)
  each_in P Q step (p ∷ places) (e ∷ es) each zero place entry at from =
      let same : p ≡ place = cc at in
      let is : in_version version e ≡ entry = cc from in
      subst (λ x. Q x entry) same (subst (λ x. Q p x) is (step p e (each 0 p e refl refl)))
  each_in P Q step (p ∷ places) (e ∷ es) each (suc i) place entry at from = each_in P Q step places es (λ j x y at_j from_j. each (suc j) x y at_j from_j) i place entry at from

  -- they agree with the code, if the version is known
  pub agreeing : version < 3 → (functions : List Function) (places : List SledPlace) (es : List MapEntry)
      → EachSled places es (IsEntryOf functions) → EachSled places (map (in_version version) es) (IsEntryOf functions)
  agreeing known functions places es =
      each_in (IsEntryOf functions) (IsEntryOf functions)
      (λ place e is. record { in_function = is.in_function; kind = is.kind; known_version = known }) places es

  -- their sleds reach the trampolines
  pub reaching : (t : Trampolines) (places : List SledPlace) (es : List MapEntry)
      → EachSled places es (Reaches t) → EachSled places (map (in_version version) es) (Reaches t)
  reaching t places es = each_in (Reaches t) (Reaches t) (λ place e near. near) places es
