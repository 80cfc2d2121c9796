-- The names that the map of a program gives.
use Rattle.std.proofs.Common.{◌≡◌, ◌<◌, ◌∷◌, ◌∙◌, ◌⊎◌, ◌==◌, ◌||◌, ◌&&◌, not, ℕ, Bool, true, false, List, [], Option, Some, None, length, map, refl, ap, sym, arith, inl, inr}
use Rattle.std.specs.Prelude.{All, Ok, find, option_map, if◌then◌else◌}
use Rattle.std.specs.List.{list_any}
use Rattle.std.specs.Option.{unwrap_or}
use Rattle.std.proofs.lemmas.Bool.{cases_Bool, eqb-true, false≢true, ne_eqb}
use Rattle.xray_io.specs.Rows.{◌>>=◌}
use Rattle.map_names.specs.Entries.{NamedFunction}
use Rattle.map_names.specs.Maps.{map_naming, names_id, naming_of}
use Rattle.map_names.proofs.EntryNames.{same_naming}
use Rattle.map_names.proofs.SpelledMaps.{map_found}
use Rattle.xray_image.specs.declared.sled.Sled.{Sled}
use Rattle.xray_image.specs.Extract.{extract_text}
use Rattle.xray_image.specs.Ids.{name_of}
use Rattle.xray_image.specs.Program.{Program}
use Rattle.function_names.specs.Name.{program_names}
use Rattle.function_names.proofs.ExtractedLines.{Fits, map_spelled, sled_entry}

-- what an id is named by the entries of sleds
abbrev named_by : Program → ℕ → List Sled → Option (List ℕ)
named_by program id sleds = option_map (λ (e : NamedFunction). e.name) (find (names_id id) (map (sled_entry program) sleds))

-- whether an entry names an id, if the id is its own, or if it isn't
abbrev named_if : (own : Bool) → List ℕ → Bool
named_if own name = own && not (length name == 0)

abbrev next_named : Program → ℕ → Sled → List Sled → Bool → Option (List ℕ)
next_named program id sled sleds passes =
    option_map (λ (e : NamedFunction). e.name) (if passes then Some (sled_entry program sled) else find (names_id id) (map (sled_entry program) sleds))

named_some : (program : Program) (id : ℕ) (name : List ℕ) → name_of program id ≡ Some name → 0 < length name → (sleds : List Sled) → list_any (λ (s : Sled). s.id == id) sleds ≡ true
    → named_by program id sleds ≡ Some name
named_some program id name is some [] there = absurd (false≢true there)
named_some program id name is some (sled ∷ sleds) there = by_test (cases_Bool (sled.id == id)) (named_some program id name is some sleds)
  where
    by_test : ((sled.id == id) ≡ true) ⊎ ((sled.id == id) ≡ false) → (list_any (λ (s : Sled). s.id == id) sleds ≡ true → named_by program id sleds ≡ Some name)
        → named_by program id (sled ∷ sleds) ≡ Some name
    by_test (inr isnt) again =
        ap (λ (t : Bool). next_named program id sled sleds (named_if t (unwrap_or (name_of program sled.id) []))) isnt
        ∙ again (sym (ap (λ (t : Bool). t || list_any (λ (s : Sled). s.id == id) sleds) isnt) ∙ there)
    by_test (inl own) again =
        let same : sled.id ≡ id = eqb-true sled.id id own in
        let named : unwrap_or (name_of program sled.id) [] ≡ name = ap (λ (n : ℕ). unwrap_or (name_of program n) []) same ∙ ap (λ (o : Option (List ℕ)). unwrap_or o []) is in
        let long : not (length (unwrap_or (name_of program sled.id) []) == 0) ≡ true =
        ap not (ap (λ (l : List ℕ). length l == 0) named ∙ ne_eqb (length name) 0 (λ e. omega (arith, e, some))) in
        ap (λ (t : Bool). next_named program id sled sleds (named_if t (unwrap_or (name_of program sled.id) []))) own
        ∙ (ap (next_named program id sled sleds) long
        ∙ ap (λ (l : List ℕ). Some l) named)

named_none : (program : Program) (id : ℕ) → name_of program id ≡ None → (sleds : List Sled) → named_by program id sleds ≡ None
named_none program id is [] = refl
named_none program id is (sled ∷ sleds) = by_test (cases_Bool (sled.id == id)) (named_none program id is sleds)
  where
    by_test : ((sled.id == id) ≡ true) ⊎ ((sled.id == id) ≡ false) → named_by program id sleds ≡ None → named_by program id (sled ∷ sleds) ≡ None
    by_test (inr isnt) again = ap (λ (t : Bool). next_named program id sled sleds (named_if t (unwrap_or (name_of program sled.id) []))) isnt ∙ again
    by_test (inl own) again =
        let same : sled.id ≡ id = eqb-true sled.id id own in
        let named : unwrap_or (name_of program sled.id) [] ≡ [] = ap (λ (n : ℕ). unwrap_or (name_of program n) []) same ∙ ap (λ (o : Option (List ℕ)). unwrap_or o []) is in
        ap (λ (t : Bool). next_named program id sled sleds (named_if t (unwrap_or (name_of program sled.id) []))) own
        ∙ (ap (λ (l : List ℕ). next_named program id sled sleds (not (length l == 0))) named ∙ again)

-- each name is that of an id of a sled, and has some bytes
pub record HaveSleds (program : Program) : Type 0 where
  pub there : (id : ℕ) (name : List ℕ) → name_of program id ≡ Some name → list_any (λ (s : Sled). s.id == id) program.sleds ≡ true
  pub some : (id : ℕ) (name : List ℕ) → name_of program id ≡ Some name → 0 < length name

each_name : (program : Program) → HaveSleds program → (id : ℕ) → named_by program id program.sleds ≡ name_of program id
each_name program have id = by_name (name_of program id) refl
  where
    by_name : (o : Option (List ℕ)) → name_of program id ≡ o → named_by program id program.sleds ≡ name_of program id
    by_name None is = named_none program id is program.sleds ∙ sym is
    by_name (Some name) is = named_some program id name is (have.some id name is) program.sleds (have.there id name is) ∙ sym is

pub map_names_it : (program : Program) → All (Fits program) program.sleds → HaveSleds program → map_naming (extract_text program) ≡ Ok (program_names program)
map_names_it program fits have =
    let entries : List NamedFunction = map (sled_entry program) program.sleds in
    ap (λ es. es >>= λ all. Ok (naming_of all)) (map_found (extract_text program) entries (map_spelled program fits))
    ∙ ap Ok (same_naming (naming_of entries) (program_names program) (each_name program have))
