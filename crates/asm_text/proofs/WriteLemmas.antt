-- The fields of the header, line by line.
use Rattle.std.proofs.Common.{◌≡◌, ℕ, ◌+◌, ◌%◌, ◌++◌, Bool, true, false, cond, not, List, [], ◌∷◌, length, map, Option, Some, None, refl, sym, ap, ◌∙◌, arith}
use Rattle.std.specs.Prelude.{slice_get, is_some, option_map}
use Rattle.std.specs.List.{filter_map, cons_option, position_or_len}
use Rattle.std.specs.Str.{bytes_eq}
use Rattle.std.proofs.lemmas.List.{length-map}
use Rattle.xray_image.specs.Container.{Function, MapEntry}
use Rattle.asm_text.specs.Statements.{Statement, Base, Entry, Func, Label, Does}
use Rattle.asm_text.specs.Layout.{Placed, functions, map_entries, function_in, entry_in, entry_in_line, base_of, sled_kind, pieces, number_of_function}
use Rattle.asm_text.specs.private.Laying.{lines_of}
use Rattle.xray_image.specs.Units.{piece_bytes}
use Rattle.std.specs.List.{flat_map}
use Rattle.asm_text.specs.declared.header.Header.{Header}
use Rattle.asm_text.specs.Writing.{image_header, function_bytes, in_version, map_bytes, map_version, image_bytes}
use Rattle.asm_text.specs.private.Files.{IsHeaderOf, image_laid}

-- one more function and map entry at the start, counted and searched, whatever the base is
length_cons : {X : Type 0} (o : Option X) (xs : List X) → length (cons_option o xs) ≡ cond (is_some o) 1 0 + length xs
length_cons (Some x) xs = omega arith
length_cons None xs = omega arith

function_some : (base : ℕ) (p : Placed) (s : Statement) → is_some (function_in base p s) ≡ is_some (function_in 0 p s)
function_some base p (Base address) = refl
function_some base p (Entry name) = refl
function_some base p (Func name choice) = refl
function_some base p (Label name) = refl
function_some base p (Does operation) = refl

pub length-functions : (base : ℕ) (all : List Placed) → length (functions base all) ≡ length (functions 0 all)
length-functions base [] = refl
length-functions base (p ∷ following) =
    length_cons (function_in base p p.statement) (functions base following)
    ∙ ap (λ b. cond b 1 0 + length (functions base following)) (function_some base p p.statement)
    ∙ ap (λ n. cond (is_some (function_in 0 p p.statement)) 1 0 + n) (length-functions base following)
    ∙ sym (length_cons (function_in 0 p p.statement) (functions 0 following))

entry_some : (base : ℕ) (p : Placed) → is_some (entry_in base p) ≡ is_some (entry_in 0 p)
entry_some base p = elim p.owner.traced as (λ t. is_some (cond t (option_map (entry_for base) (sled_kind p.statement)) None) ≡ is_some (cond t (option_map (entry_for 0) (sled_kind p.statement)) None)) [
  | true ↦ mapped (sled_kind p.statement)
  | false ↦ refl
]
  where
    entry_for : ℕ → ℕ → MapEntry
    entry_for b kind = record { sled = b + (p.place + p.place % 2); function = b + p.owner.start; kind = kind; always = cond p.owner.always 1 0; version = 0 }

    mapped : (o : Option ℕ) → is_some (option_map (entry_for base) o) ≡ is_some (option_map (entry_for 0) o)
    mapped None = refl
    mapped (Some kind) = refl

pub length-map_entries : (base : ℕ) (all : List Placed) → length (map_entries base all) ≡ length (map_entries 0 all)
length-map_entries base [] = refl
length-map_entries base (p ∷ following) =
    length_cons (entry_in base p) (map_entries base following)
    ∙ ap (λ b. cond b 1 0 + length (map_entries base following)) (entry_some base p)
    ∙ ap (λ n. cond (is_some (entry_in 0 p)) 1 0 + n) (length-map_entries base following)
    ∙ sym (length_cons (entry_in 0 p) (map_entries 0 following))

position_front : (name : List ℕ) (base : ℕ) (p : Placed) (s : Statement) (fs gs : List Function)
    → position_or_len (λ f. bytes_eq f.name name) fs ≡ position_or_len (λ f. bytes_eq f.name name) gs
    → position_or_len (λ f. bytes_eq f.name name) (cons_option (function_in base p s) fs) ≡ position_or_len (λ f. bytes_eq f.name name) (cons_option (function_in 0 p s) gs)
position_front name base p (Base address) fs gs h = h
position_front name base p (Entry other) fs gs h = h
position_front name base p (Func other choice) fs gs h = ap (λ n. cond (not (bytes_eq other name)) (1 + n) 0) h
position_front name base p (Label other) fs gs h = h
position_front name base p (Does operation) fs gs h = h

pub position-functions : (name : List ℕ) (base : ℕ) (all : List Placed)
    → position_or_len (λ f. bytes_eq f.name name) (functions base all) ≡ position_or_len (λ f. bytes_eq f.name name) (functions 0 all)
position-functions name base [] = refl
position-functions name base (p ∷ following) = position_front name base p p.statement (functions base following) (functions 0 following) (position-functions name base following)

number_same : (o : Option (List ℕ)) (base : ℕ) (all : List Placed) → number_of_function o (functions base all) ≡ number_of_function o (functions 0 all)
number_same None base all = refl
number_same (Some name) base all = position-functions name base all

-- the parts of the file, one after the other
pub file_parts : (relative : Bool) (all : List Placed) (code : List ℕ) (h : Header) → code ≡ flat_map piece_bytes (pieces all) → IsHeaderOf all (length code) h
    → image_header h.base h.code h.functions h.entries h.entry ++ code ++ flat_map function_bytes (functions h.base all)
    ++ map_bytes h.base (map (in_version (map_version relative)) (map_entries h.base all))
    ≡ image_bytes (image_laid relative all)
file_parts relative all code h same is =
    let base = base_of (lines_of all) in
    let entries = map_entries base all in
    rw (is.base, is.code ∙ ap length same, is.count ∙ sym (length-functions base all), is.sleds ∙ sym (length-map entries (in_version (map_version relative)) ∙ length-map_entries base all), is.entry ∙ sym (number_same (slice_get (filter_map (λ line. entry_in_line line.1) (lines_of all)) 0) base all), same) refl
