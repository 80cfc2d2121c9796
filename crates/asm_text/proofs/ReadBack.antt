-- The parts of a file are read as they were written.
use Rattle.std.proofs.Common.{◌≡◌, ℕ, zero, suc, ◌+◌, ◌-◌, ◌*◌, ◌%◌, ◌^◌, ◌==◌, ◌<◌, ◌≤◌, Bool, true, false, cond, List, [], ◌∷◌, ◌++◌, length, take, drop, Option, Some, None, refl, sym, ap, ◌∙◌, arith, ltb, append_assoc, append-nil, length-append}
use Rattle.std.specs.Prelude.{option_and_then, option_map, replicate}
use Rattle.std.specs.List.{flat_map, AllByRecursion}
use Rattle.std.proofs.lemmas.Bool.{le-ltb}
use Rattle.std.proofs.Math.Seq.{take-append_seam, drop-append_seam}
use Rattle.byteorder.specs.Endian.{little_bytes}
use Rattle.byteorder.specs.Numbers.{little_number-reads_back}
use Rattle.xray_image.specs.Container.{Function, MapEntry, MapFields, Parts, address_said, base_address, entries_from, function_entry_at, map_distance, map_fields_at, several, parts_of, code_length, function_count, entry_count, number8_at}
use Rattle.asm_text.specs.Writing.{File, image_header_bytes, trampolines_of, function_bytes, entry_bytes, field_for, fields_from, image_bytes, map_bytes}

-- what fits the fields of each kind of entry
abbrev pub FunctionFits : Function → Type 0
FunctionFits f = (f.start < 256 ^ 8) × (length f.name ≤ 255)

abbrev pub EntryFits : MapEntry → Type 0
EntryFits e = (e.sled < 256 ^ 8) × (e.function < 256 ^ 8)

abbrev pub FieldsFit : MapFields → Type 0
FieldsFit e = (e.sled < 256 ^ 8) × (e.function < 256 ^ 8)

drop_none : (n : ℕ) → drop {A = ℕ} n [] ≡ []
drop_none zero = refl
drop_none (suc n) = refl

drop_more : (a n : ℕ) (xs : List ℕ) → drop (a + n) xs ≡ drop n (drop a xs)
drop_more zero n xs = let same : 0 + n ≡ n = omega arith in ap (λ m. drop m xs) same
drop_more (suc a) n [] = drop_none (suc a + n) ∙ sym (drop_none n)
drop_more (suc a) n (x ∷ xs) = let same : suc a + n ≡ suc (a + n) = omega arith in ap (λ m. drop m (x ∷ xs)) same ∙ drop_more a n xs

function_back : (f : Function) (rest : List ℕ) → FunctionFits f → function_entry_at (function_bytes f ++ rest) ≡ Some (f, rest)
function_back f rest fits =
    let bytes = function_bytes f ++ rest in
    let n = length f.name in
    let start : number8_at bytes 0 ≡ f.start = little_number-reads_back 8 f.start (n ∷ f.name ++ rest) fits.0 in
    let long : ltb (length bytes) (9 + n) ≡ false = le-ltb (length bytes) (9 + n) (omega (arith, length-append f.name rest)) in
    let following : drop (9 + n) bytes ≡ rest = drop_more 9 n bytes ∙ drop-append_seam f.name rest in
    ap (λ t. cond t None (Some (record { start = number8_at bytes 0; name = take n (drop 9 bytes) }, drop (9 + n) bytes))) long
    ∙ ap (λ m. Some (record { start = m; name = take n (drop 9 bytes) }, drop (9 + n) bytes)) start
    ∙ ap (λ name. Some (record { start = f.start; name = name }, drop (9 + n) bytes)) (take-append_seam f.name rest)
    ∙ ap (λ xs. Some (f, xs)) following

entry_back : (e : MapFields) (rest : List ℕ) → FieldsFit e → map_fields_at (entry_bytes e ++ rest) ≡ Some (e, rest)
entry_back e rest fits =
    let bytes = entry_bytes e ++ rest in
    let flags = e.kind ∷ e.always ∷ e.version ∷ replicate 13 0 ++ rest in
    let sled : number8_at bytes 0 ≡ e.sled = little_number-reads_back 8 e.sled (little_bytes 8 e.function ++ flags) fits.0 in
    let function : number8_at bytes 8 ≡ e.function = little_number-reads_back 8 e.function flags fits.1 in
    let long : ltb (length bytes) 32 ≡ false = le-ltb (length bytes) 32 (omega arith) in
    ap (λ t. cond t None (Some (record { sled = number8_at bytes 0; function = number8_at bytes 8; kind = e.kind; always = e.always; version = e.version }, rest))) long
    ∙ ap (λ m. Some (record { sled = m; function = number8_at bytes 8; kind = e.kind; always = e.always; version = e.version }, rest)) sled
    ∙ ap (λ m. Some (record { sled = e.sled; function = m; kind = e.kind; always = e.always; version = e.version }, rest)) function

-- items read back one after the other if each reads back alone
several_back : {X : Type 0} (item : List ℕ → Option (X × List ℕ)) (bytes_of : X → List ℕ) (Fits : X → Type 0) → ((x : X) (rest : List ℕ) → Fits x → item (bytes_of x ++ rest) ≡ Some (x, rest))
    → (xs : List X) (rest : List ℕ) → AllByRecursion Fits xs → several item (length xs) (flat_map bytes_of xs ++ rest) ≡ Some (xs, rest)
several_back item bytes_of Fits back [] rest fits = refl
several_back {X = X} item bytes_of Fits back (x ∷ xs) rest fits =
    let next = several item (length xs) in
    ap (λ bytes. option_and_then (λ (first : X × List ℕ). option_map (λ (others : List X × List ℕ). (first.0 ∷ others.0, others.1)) (next first.1)) (item bytes)) (append_assoc (bytes_of x) (flat_map bytes_of xs) rest)
    ∙ ap (λ o. option_and_then (λ (first : X × List ℕ). option_map (λ (others : List X × List ℕ). (first.0 ∷ others.0, others.1)) (next first.1)) o) (back x (flat_map bytes_of xs ++ rest) fits.0)
    ∙ ap (λ o. option_map (λ (others : List X × List ℕ). (x ∷ others.0, others.1)) o) (several_back item bytes_of Fits back xs rest fits.1)

functions_back : (fs : List Function) (rest : List ℕ) → AllByRecursion FunctionFits fs → several function_entry_at (length fs) (flat_map function_bytes fs ++ rest) ≡ Some (fs, rest)
functions_back = several_back function_entry_at function_bytes FunctionFits function_back

fields_back : (es : List MapFields) (rest : List ℕ) → AllByRecursion FieldsFit es → several map_fields_at (length es) (flat_map entry_bytes es ++ rest) ≡ Some (es, rest)
fields_back = several_back map_fields_at entry_bytes FieldsFit entry_back

-- ---- the fields of entries

-- a field says the address that it was written for
field_said : (relative : Bool) (at address : ℕ) → at ≤ 256 ^ 8 → address < 256 ^ 8
    → cond relative ((at + cond relative ((address + (2 ^ 64 - at)) % 2 ^ 64) address) % 2 ^ 64) (cond relative ((address + (2 ^ 64 - at)) % 2 ^ 64) address) ≡ address
field_said true at address low fits = omega (arith, low, fits)
field_said false at address low fits = refl

field_small : (relative : Bool) (at address : ℕ) → address < 256 ^ 8 → cond relative ((address + (2 ^ 64 - at)) % 2 ^ 64) address < 256 ^ 8
field_small true at address fits = omega arith
field_small false at address fits = fits

fields_count : (at : ℕ) (es : List MapEntry) → length (fields_from at es) ≡ length es
fields_count at [] = refl
fields_count at (e ∷ es) = ap suc (fields_count (at + 32) es)

fields_small : (at : ℕ) (es : List MapEntry) → AllByRecursion EntryFits es → AllByRecursion FieldsFit (fields_from at es)
fields_small at [] fits = tt
fields_small at (e ∷ es) fits =
    ((field_small (e.version == 2) at e.sled fits.0.0, field_small (e.version == 2) (at + 8) e.function fits.0.1), fields_small (at + 32) es fits.1)

entries_said : (at : ℕ) (es : List MapEntry) → at + 32 * length es < 256 ^ 8 → AllByRecursion EntryFits es → entries_from at (fields_from at es) ≡ es
entries_said at [] low fits = refl
entries_said at (e ∷ es) low fits =
    let made : ℕ → ℕ → List MapEntry → List MapEntry = λ sled function others. record { sled = sled; function = function; kind = e.kind; always = e.always; version = e.version } ∷ others in
    let sled = address_said e.version at (field_for e.version at e.sled) in
    let function = address_said e.version (at + 8) (field_for e.version (at + 8) e.function) in
    ap (made sled function) (entries_said (at + 32) es (omega (arith, low)) fits.1)
    ∙ ap (λ n. made sled n es) (field_said (e.version == 2) (at + 8) e.function (omega (arith, low)) fits.0.1)
    ∙ ap (λ n. made n e.function es) (field_said (e.version == 2) at e.sled (omega (arith, low)) fits.0.0)

-- ---- the file

-- the parts, by the base address and the counts of the header
abbrev pub parts_with : (base n m k : ℕ) → List ℕ → Option Parts
parts_with base n m k b =
    cond (ltb (length b) (64 + n)) None
    (option_and_then (λ (fs : List Function × List ℕ). option_map (λ (es : List MapFields × List ℕ). record { code = take n (drop 64 b); functions = fs.0; entries = entries_from (base + map_distance) es.0; rest = es.1 }) (several map_fields_at k fs.1)) (several function_entry_at m (drop (64 + n) b)))

-- what fits the fields of a file
pub record FileFits (f : File) : Type 0 where
  pub base : f.base ≤ 0x7FFF00000000
  pub code : length f.code < 256 ^ 4
  pub function_count : length f.functions < 256 ^ 4
  pub entry_count : length f.entries < 256 ^ 4
  pub each_function : AllByRecursion FunctionFits f.functions
  pub each_entry : AllByRecursion EntryFits f.entries

counts_back : (f : File) (rest : List ℕ) → FileFits f → parts_of (image_header_bytes f ++ rest) ≡ parts_with f.base (length f.code) (length f.functions) (length f.entries) (image_header_bytes f ++ rest)
counts_back f rest fits =
    let b = image_header_bytes f ++ rest in
    let trampolines = flat_map (little_bytes 8) (trampolines_of f.base) ++ rest in
    let counts = little_bytes 4 (length f.code) ++ little_bytes 4 (length f.functions) ++ little_bytes 4 (length f.entries) ++ little_bytes 4 f.entry ++ trampolines in
    let base : base_address b ≡ f.base = little_number-reads_back 8 f.base counts (omega (arith, fits.base)) in
    let c : code_length b ≡ length f.code = little_number-reads_back 4 (length f.code) (little_bytes 4 (length f.functions) ++ little_bytes 4 (length f.entries) ++ little_bytes 4 f.entry ++ trampolines) fits.code in
    let m : function_count b ≡ length f.functions = little_number-reads_back 4 (length f.functions) (little_bytes 4 (length f.entries) ++ little_bytes 4 f.entry ++ trampolines) fits.function_count in
    let k : entry_count b ≡ length f.entries = little_number-reads_back 4 (length f.entries) (little_bytes 4 f.entry ++ trampolines) fits.entry_count in
    ap (λ n. parts_with n (code_length b) (function_count b) (entry_count b) b) base
    ∙ ap (λ n. parts_with f.base n (function_count b) (entry_count b) b) c
    ∙ ap (λ n. parts_with f.base (length f.code) n (entry_count b) b) m
    ∙ ap (λ n. parts_with f.base (length f.code) (length f.functions) n b) k

-- the parts of a file
pub parts_back : (f : File) → FileFits f → parts_of (image_bytes f) ≡ Some (record { code = f.code; functions = f.functions; entries = f.entries; rest = [] })
parts_back f fits =
    let functions_part = flat_map function_bytes f.functions in
    let fields = fields_from (f.base + map_distance) f.entries in
    let entries_part = map_bytes f.base f.entries in
    let rest = f.code ++ (functions_part ++ entries_part) in
    let b = image_header_bytes f ++ rest in
    let n = length f.code in
    let shape : image_bytes f ≡ b =
    append_assoc (image_header_bytes f ++ f.code) functions_part entries_part ∙ append_assoc (image_header_bytes f) f.code (functions_part ++ entries_part) in
    let long : ltb (length b) (64 + n) ≡ false = le-ltb (length b) (64 + n) (omega (arith, length-append f.code (functions_part ++ entries_part))) in
    let following : drop (64 + n) b ≡ functions_part ++ entries_part = drop_more 64 n b ∙ drop-append_seam f.code (functions_part ++ entries_part) in
    let code : take n (drop 64 b) ≡ f.code = take-append_seam f.code (functions_part ++ entries_part) in
    let last : several map_fields_at (length f.entries) entries_part ≡ Some (fields, []) =
    ap (λ k. several map_fields_at k entries_part) (sym (fields_count (f.base + map_distance) f.entries))
    ∙ ap (several map_fields_at (length fields)) (sym (append-nil entries_part)) ∙ fields_back fields [] (fields_small (f.base + map_distance) f.entries fits.each_entry) in
    let said : entries_from (f.base + map_distance) fields ≡ f.entries = entries_said (f.base + map_distance) f.entries (omega (arith, fits.base, fits.entry_count)) fits.each_entry in
    let with_code : List ℕ → List MapFields × List ℕ → List Function × List ℕ → Parts = λ c es fs. record { code = c; functions = fs.0; entries = entries_from (f.base + map_distance) es.0; rest = es.1 } in
    ap parts_of shape
    ∙ counts_back f rest fits
    ∙ ap (λ t. cond t None (option_and_then (λ (fs : List Function × List ℕ). option_map (λ (es : List MapFields × List ℕ). with_code (take n (drop 64 b)) es fs) (several map_fields_at (length f.entries) fs.1)) (several function_entry_at (length f.functions) (drop (64 + n) b)))) long
    ∙ ap (λ xs. option_and_then (λ (fs : List Function × List ℕ). option_map (λ (es : List MapFields × List ℕ). with_code (take n (drop 64 b)) es fs) (several map_fields_at (length f.entries) fs.1)) (several function_entry_at (length f.functions) xs)) following
    ∙ ap (λ o. option_and_then (λ (fs : List Function × List ℕ). option_map (λ (es : List MapFields × List ℕ). with_code (take n (drop 64 b)) es fs) (several map_fields_at (length f.entries) fs.1)) o) (functions_back f.functions entries_part fits.each_function)
    ∙ ap (λ o. option_map (λ (es : List MapFields × List ℕ). with_code (take n (drop 64 b)) es (f.functions, entries_part)) o) last
    ∙ ap (λ c. Some (with_code c (fields, []) (f.functions, entries_part))) code
    ∙ ap (λ es. Some (record { code = f.code; functions = f.functions; entries = es; rest = [] })) said
