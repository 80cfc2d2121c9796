-- The names that entries give, with one more entry.
use Rattle.std.proofs.Common.{◌≡◌, ◌++◌, ◌∷◌, ◌∙◌, ℕ, Bool, true, false, List, [], Option, Some, None, refl, sym, ap}
use Rattle.std.specs.Prelude.{option_map, find, if◌then◌else◌}
use Rattle.std.specs.Option.{option_or}
use Rattle.std.proofs.Math.Path.{fun_ext}
use Rattle.std.proofs.lemmas.List.Folds.{find-append}
use Rattle.map_names.specs.Entries.{NamedFunction}
use Rattle.map_names.specs.Maps.{names_id, naming_of}
use Rattle.map_names.specs.Naming.{Naming}

-- the name of an entry that may be there
abbrev name_found : Option NamedFunction → Option (List ℕ)
name_found entry = option_map (λ e. e.name) entry

either : (a b : Option NamedFunction) → name_found (option_or a b) ≡ option_or (name_found a) (name_found b)
either None b = refl
either (Some entry) b = refl

-- the entry, if it passes a test
alone : (passes : Bool) (entry : NamedFunction) → name_found (if passes then Some entry else None) ≡ (if passes then Some entry.name else None)
alone true entry = refl
alone false entry = refl

one_more : (entries : List NamedFunction) (entry : NamedFunction) (id : ℕ)
    → (naming_of (entries ++ entry ∷ [])).name id ≡ option_or ((naming_of entries).name id) (if names_id id entry then Some entry.name else None)
one_more entries entry id =
    ap name_found (find-append (names_id id) entries (entry ∷ []))
    ∙ either (find (names_id id) entries) (if names_id id entry then Some entry else None)
    ∙ ap (option_or ((naming_of entries).name id)) (alone (names_id id entry) entry)

-- equal names
pub same_naming : (a b : Naming) → ((id : ℕ) → a.name id ≡ b.name id) → a ≡ b
same_naming a b each = ap (λ (name : ℕ → Option (List ℕ)). let naming : Naming = record { name = name } in naming) (fun_ext each)

-- the names with those of one more entry
pub naming_more : (entries : List NamedFunction) (entry : NamedFunction) (old new : Naming) → old ≡ naming_of entries
    → ((id : ℕ) → new.name id ≡ option_or (old.name id) (if names_id id entry then Some entry.name else None))
    → new ≡ naming_of (entries ++ entry ∷ [])
naming_more entries entry old new before each =
    same_naming new (naming_of (entries ++ entry ∷ [])) λ id.
    each id ∙ ap (λ (naming : Naming). option_or (naming.name id) (if names_id id entry then Some entry.name else None)) before
    ∙ sym (one_more entries entry id)

-- no entry names anything
pub naming_none : (naming : Naming) → ((id : ℕ) → naming.name id ≡ None) → naming ≡ naming_of []
naming_none naming none = same_naming naming (naming_of []) none
