-- Making the lists of an image, item by item.
use Rattle.std.proofs.Common.{◌≡◌, ℕ, ◌+◌, ◌<◌, ◌≤◌, List, [], ◌∷◌, ◌++◌, length, get_or, take, map, not, sym, ap, subst, ◌∙◌, arith}
use Rattle.std.specs.Prelude.{◌==◌, All, true}
use Rattle.std.specs.List.{zip}
use Rattle.std.proofs.lemmas.List.{take_more, take_all, length-map, get_or-map}
use Rattle.std.proofs.lemmas.List.Elements.{All-get_or}
use Rattle.std.proofs.lemmas.Slice.Zip.{length-zip, get_or-zip}
use Rattle.xray_image.specs.declared.code_units.SledSpot.{SledSpot}
use Rattle.xray_image.specs.declared.parts.FunctionEntry.{FunctionEntry}
use Rattle.xray_image.specs.declared.map_entry.SledEntry.{SledEntry}
use Rattle.xray_image.specs.declared.sled.Sled.{Sled}
use Rattle.xray_image.specs.declared.sled.SledKind.{SledKind}
use Rattle.xray_image.specs.Container.{Function}
use Rattle.xray_image.specs.Program.{is_name_byte, id_of, kind_of, sled_of}
use Rattle.xray_image.specs.private.Views.{entry_of, function_of, place_of}
use Rattle.xray_image.proofs.FunctionRows.{zero_function}
use Rattle.xray_image.proofs.Scans.{zero_spot, zero_line}

-- ---- functions

-- the name of the function with this number
pub name_at : (functions : List FunctionEntry) (i : ℕ) → i < length functions → All (λ f. All (λ b. is_name_byte b ≡ true) f.name) (map function_of functions)
    → All (λ b. is_name_byte b ≡ true) (get_or functions i zero_function).name.now
name_at functions i within all =
    subst (λ (f : Function). All (λ b. is_name_byte b ≡ true) f.name) (get_or-map function_of functions i zero_function (function_of zero_function) within)
    (All-get_or (λ f. All (λ b. is_name_byte b ≡ true) f.name) (map function_of functions) i (function_of zero_function) (omega (arith, length-map functions function_of)) all)

-- ---- sleds

module _ (spots : List SledSpot) (lines : List SledEntry) (enough : length lines ≤ length spots) where
  abbrev pub sleds : List Sled
  sleds = map (sled_of (map entry_of lines)) (zip (map place_of spots) (map entry_of lines))

  pub sled_count : length sleds ≡ length lines
  sled_count =
      length-map (zip (map place_of spots) (map entry_of lines)) (sled_of (map entry_of lines)) ∙ length-zip (map place_of spots) (map entry_of lines)
      ∙ omega (arith, length-map spots place_of, length-map lines entry_of)

  sled_at : (i : ℕ) (d : Sled) → i < length lines → get_or sleds i d ≡ sled_of (map entry_of lines) (place_of (get_or spots i zero_spot), entry_of (get_or lines i zero_line))
  sled_at i d within =
      get_or-map (sled_of (map entry_of lines)) (zip (map place_of spots) (map entry_of lines)) i (place_of zero_spot, entry_of zero_line) d (omega (arith, length-zip (map place_of spots) (map entry_of lines), length-map spots place_of, length-map lines entry_of))
      ∙ ap (sled_of (map entry_of lines)) (get_or-zip (map place_of spots) (map entry_of lines) i (place_of zero_spot, entry_of zero_line) (omega (arith, length-map spots place_of)) (omega (arith, length-map lines entry_of))
      ∙ pair (get_or-map place_of spots i zero_spot (place_of zero_spot) (omega arith)) (get_or-map entry_of lines i zero_line (entry_of zero_line) within))
    where
      pair : {A B : Type 0} {a a' : A} {b b' : B} → a ≡ a' → b ≡ b' → ◌≡◌ {A = A × B} (a, b) (a', b')
      pair e f = cc

  -- one more sled, made of the next spot and line
  pub sled_more : (made made' : List Sled) (i : ℕ) (ids : List ℕ) (kind : SledKind) → made ≡ take i sleds → i < length lines → ids ≡ map (λ e. id_of (map entry_of lines) e.function) lines
      → kind ≡ kind_of (get_or lines i zero_line).kind
      → made' ≡ made ++ record {
        address = (get_or spots i zero_spot).address;
        function = (get_or lines i zero_line).function;
        id = get_or ids i 0;
        kind = kind;
        always = not ((get_or lines i zero_line).always == 0);
        shift = (get_or spots i zero_spot).shift;
      } ∷ []
      → made' ≡ take (i + 1) sleds
  sled_more made made' i ids kind so_far within ids_are kind_is pushed =
      let line = get_or lines i zero_line in
      let next = sled_of (map entry_of lines) (place_of (get_or spots i zero_spot), entry_of line) in
      let id_is : get_or ids i 0 ≡ id_of (map entry_of lines) line.function = ap (λ (xs : List ℕ). get_or xs i 0) ids_are ∙ get_or-map (λ e. id_of (map entry_of lines) e.function) lines i zero_line 0 within in
      pushed
      ∙ ap (λ (xs : List Sled). xs ++ record { address = (get_or spots i zero_spot).address; function = line.function; id = get_or ids i 0; kind = kind; always = not (line.always == 0); shift = (get_or spots i zero_spot).shift } ∷ []) so_far
      ∙ ap (λ (n : ℕ). take i sleds ++ record { address = (get_or spots i zero_spot).address; function = line.function; id = n; kind = kind; always = not (line.always == 0); shift = (get_or spots i zero_spot).shift } ∷ []) id_is
      ∙ ap (λ (k : SledKind). take i sleds ++ record { address = (get_or spots i zero_spot).address; function = line.function; id = id_of (map entry_of lines) line.function; kind = k; always = not (line.always == 0); shift = (get_or spots i zero_spot).shift } ∷ []) kind_is
      ∙ sym (take_more sleds i next (omega (arith, sled_count)) ∙ ap (λ (s : Sled). take i sleds ++ s ∷ []) (sled_at i next within))

  pub all_sleds : (made : List Sled) (i : ℕ) → made ≡ take i sleds → length lines ≤ i → made ≡ sleds
  all_sleds made i so_far le = so_far ∙ take_all i sleds (omega (arith, sled_count))
