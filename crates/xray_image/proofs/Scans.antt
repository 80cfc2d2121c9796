-- Scans of the sleds and of the map's entries by their numbers.
use Rattle.std.proofs.Common.{◌≡◌, ℕ, suc, ◌<◌, ◌≤◌, false, List, [], ◌∷◌, length, get_or, map, Some, None, refl, inl, inr, sym, ap, subst, ◌∙◌, arith}
use Rattle.std.specs.Prelude.{slice_get}
use Rattle.std.specs.Option.{option_map}
use Rattle.std.proofs.lemmas.Bool.{cases_lt}
use Rattle.std.proofs.lemmas.List.{length-map, get_or_default}
use Rattle.std.proofs.lemmas.Option.{none-some, same_Some, slice_get-map, slice_get-get_or, slice_get_within, slice_get_past}
use Rattle.xray_image.specs.declared.code_units.SledSpot.{SledSpot}
use Rattle.xray_image.specs.declared.map_entry.SledEntry.{SledEntry}
use Rattle.xray_image.specs.declared.fault.ImageFault.{ImageFault}
use Rattle.xray_image.specs.Units.{SledPlace}
use Rattle.xray_image.specs.Container.{MapEntry}
use Rattle.xray_image.specs.Table.{HasOneAddress, FitsAt}
use Rattle.xray_image.specs.private.Reading.{IsFirstFault}
use Rattle.xray_image.specs.private.Views.{entry_of, place_of}

-- what holds below a number, and from it on, holds of each
pub from_below : (C : ℕ → Type 0) (n : ℕ) → ((j : ℕ) → j < n → C j) → ((j : ℕ) → n ≤ j → C j) → (i : ℕ) → C i
from_below C n below past i = elim (cases_lt i n) [ inl lt ↦ below i lt | inr le ↦ past i le ]

-- an item of a list, read by its number
pub item_at : {X Y : Type 0} (f : X → Y) (xs : List X) (i : ℕ) (x : X) → i < length xs → x ≡ get_or xs i x → slice_get (map f xs) i ≡ Some (f x)
item_at f xs i x within is = slice_get-map f xs i ∙ ap (option_map f) (slice_get-get_or xs i x within) ∙ ap (λ y. Some (f y)) (sym is)

module _ (spots : List SledSpot) (lines : List SledEntry) (i : ℕ) where
  -- no number past the last has an entry
  pub fits_past : (P : SledPlace → MapEntry → Type 0) → length lines ≤ i → FitsAt (map place_of spots) (map entry_of lines) P i
  fits_past P past place entry there entry_there =
      absurd (let within = slice_get_within (map entry_of lines) i entry entry_there in omega (arith, length-map lines entry_of))

  pub one_past : length lines ≤ i → length spots ≤ i → HasOneAddress (map place_of spots) (map entry_of lines) i
  one_past no_line no_spot =
      slice_get_past (map (λ e. e.sled) (map entry_of lines)) i (omega (arith, length-map (map entry_of lines) (λ e. e.sled), length-map lines entry_of))
      ∙ sym (slice_get_past (map (λ p. p.address) (map place_of spots)) i (omega (arith, length-map (map place_of spots) (λ p. p.address), length-map spots place_of)))

  spot_short : length spots ≤ i → slice_get (map (λ p. p.address) (map place_of spots)) i ≡ None
  spot_short no_spot = slice_get_past (map (λ p. p.address) (map place_of spots)) i (omega (arith, length-map (map place_of spots) (λ p. p.address), length-map spots place_of))

  line_short : length lines ≤ i → slice_get (map (λ e. e.sled) (map entry_of lines)) i ≡ None
  line_short no_line = slice_get_past (map (λ e. e.sled) (map entry_of lines)) i (omega (arith, length-map (map entry_of lines) (λ e. e.sled), length-map lines entry_of))

  spot_long : i < length spots → (a : ℕ) × (slice_get (map (λ p. p.address) (map place_of spots)) i ≡ Some a)
  spot_long within =
      (get_or (map (λ p. p.address) (map place_of spots)) i 0, slice_get-get_or (map (λ p. p.address) (map place_of spots)) i 0 (omega (arith, length-map (map place_of spots) (λ p. p.address), length-map spots place_of)))

  line_long : i < length lines → (a : ℕ) × (slice_get (map (λ e. e.sled) (map entry_of lines)) i ≡ Some a)
  line_long within =
      (get_or (map (λ e. e.sled) (map entry_of lines)) i 0, slice_get-get_or (map (λ e. e.sled) (map entry_of lines)) i 0 (omega (arith, length-map (map entry_of lines) (λ e. e.sled), length-map lines entry_of)))

  -- a sled without an entry, or an entry without a sled
  pub no_line : length lines ≤ i → i < length spots → HasOneAddress (map place_of spots) (map entry_of lines) i → ⊥
  no_line past within one = let there = spot_long within in none-some there.0 (sym (line_short past) ∙ one ∙ there.1)

  pub no_spot : length spots ≤ i → i < length lines → HasOneAddress (map place_of spots) (map entry_of lines) i → ⊥
  no_spot past within one = let there = line_long within in none-some there.0 (sym (spot_short past) ∙ sym one ∙ there.1)

  module _ (spot : SledSpot) (line : SledEntry) (in_spots : i < length spots) (in_lines : i < length lines) (spot_is : spot ≡ get_or spots i spot) (line_is : line ≡ get_or lines i line) where
    pub fits : (P : SledPlace → MapEntry → Type 0) → P (place_of spot) (entry_of line) → FitsAt (map place_of spots) (map entry_of lines) P i
    fits P p place entry there entry_there =
        subst (λ (x : SledPlace). P x entry) (same_Some _ _ (sym (item_at place_of spots i spot in_spots spot_is) ∙ there))
        (subst (λ (y : MapEntry). P (place_of spot) y) (same_Some _ _ (sym (item_at entry_of lines i line in_lines line_is) ∙ entry_there)) p)

    pub misfits : (P : SledPlace → MapEntry → Type 0) → (P (place_of spot) (entry_of line) → ⊥) → FitsAt (map place_of spots) (map entry_of lines) P i → ⊥
    misfits P fails all = fails (all (place_of spot) (entry_of line) (item_at place_of spots i spot in_spots spot_is) (item_at entry_of lines i line in_lines line_is))

    spot_address : slice_get (map (λ p. p.address) (map place_of spots)) i ≡ Some spot.address
    spot_address = slice_get-map (λ p. p.address) (map place_of spots) i ∙ ap (option_map (λ p. p.address)) (item_at place_of spots i spot in_spots spot_is)

    line_address : slice_get (map (λ e. e.sled) (map entry_of lines)) i ≡ Some line.sled
    line_address = slice_get-map (λ e. e.sled) (map entry_of lines) i ∙ ap (option_map (λ e. e.sled)) (item_at entry_of lines i line in_lines line_is)

    pub one_address : spot.address ≡ line.sled → HasOneAddress (map place_of spots) (map entry_of lines) i
    one_address same = line_address ∙ ap (λ (a : ℕ). Some a) (sym same) ∙ sym spot_address

    pub other_address : (spot.address ≡ line.sled → ⊥) → HasOneAddress (map place_of spots) (map entry_of lines) i → ⊥
    other_address differ one = differ (sym (same_Some _ _ (sym line_address ∙ one ∙ spot_address)))

-- lists whose items of each number are the same
pub same_items : (xs ys : List ℕ) → ((i : ℕ) → slice_get xs i ≡ slice_get ys i) → xs ≡ ys
same_items [] [] same = refl
same_items [] (y ∷ ys) same = absurd (none-some y (same 0))
same_items (x ∷ xs) [] same = absurd (none-some x (sym (same 0)))
same_items (x ∷ xs) (y ∷ ys) same =
    ap (λ (z : ℕ). z ∷ xs) (same_Some _ _ (same 0)) ∙ ap (λ (zs : List ℕ). y ∷ zs) (same_items xs ys (λ i. same (suc i)))

abbrev pub zero_spot : SledSpot
zero_spot = record { address = 0; shift = 0; returns = false }

abbrev pub zero_line : SledEntry
zero_line = record { sled = 0; function = 0; kind = 0; always = 0; version = 0 }

-- the sled and the entry of a number, as the code reads them
pub spot_is : (spots : List SledSpot) (i : ℕ) → i < length spots → get_or spots i zero_spot ≡ get_or spots i (get_or spots i zero_spot)
spot_is spots i within = get_or_default spots i zero_spot (get_or spots i zero_spot) within

pub line_is : (lines : List SledEntry) (i : ℕ) → i < length lines → get_or lines i zero_line ≡ get_or lines i (get_or lines i zero_line)
line_is lines i within = get_or_default lines i zero_line (get_or lines i zero_line) within

-- the same of a number that a scan has come to, by what it read there
module _ (spots : List SledSpot) (lines : List SledEntry) (i : ℕ) (in_lines : i < length lines) (enough : length lines ≤ length spots) (P : SledPlace → MapEntry → Type 0) where
  in_spots : i < length spots
  in_spots = omega arith

  pub fit_at : P (place_of (get_or spots i zero_spot)) (entry_of (get_or lines i zero_line)) → FitsAt (map place_of spots) (map entry_of lines) P i
  fit_at = fits spots lines i (get_or spots i zero_spot) (get_or lines i zero_line) in_spots in_lines (spot_is spots i in_spots) (line_is lines i in_lines) P

  pub misfit_first : (fault : ℕ → ImageFault) → ((j : ℕ) → j < i → FitsAt (map place_of spots) (map entry_of lines) P j)
      → (P (place_of (get_or spots i zero_spot)) (entry_of (get_or lines i zero_line)) → ⊥) → IsFirstFault (FitsAt (map place_of spots) (map entry_of lines) P) fault (fault i)
  misfit_first fault below fails = record {
    number = i;
    fails = misfits spots lines i (get_or spots i zero_spot) (get_or lines i zero_line) in_spots in_lines (spot_is spots i in_spots) (line_is lines i in_lines) P fails;
    holds_below = below;
    is = refl;
  }

-- each entry fits if those below the last do
pub fit_all : (spots : List SledSpot) (lines : List SledEntry) (n : ℕ) (P : SledPlace → MapEntry → Type 0) → length lines ≤ n
    → ((j : ℕ) → j < n → FitsAt (map place_of spots) (map entry_of lines) P j) → (i : ℕ) → FitsAt (map place_of spots) (map entry_of lines) P i
fit_all spots lines n P past below = from_below (FitsAt (map place_of spots) (map entry_of lines) P) n below (λ j le. fits_past spots lines j P (omega (arith, past, le)))
