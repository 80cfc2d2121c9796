-- Reading the parts of a file.
use Rattle.std.proofs.Common.{◌≡◌, ℕ, ◌+◌, ◌<◌, ◌≤◌, inl, inr, Bool, cond, List, [], length, take, drop, Option, Some, None, Err, refl, sym, ap, subst, ◌∙◌, arith}
use Rattle.std.specs.Prelude.{◌⊎◌, option_and_then}
use Rattle.std.specs.Option.{option_map}
use Rattle.std.proofs.lemmas.Bool.{le-ltb, lt-ltb}
use Rattle.std.proofs.lemmas.List.{length-drop, drop-drop}
use Rattle.xray_io.specs.Rows.{Is, Needs, NeedsPart}
use Rattle.xray_image.specs.declared.fault.ImageFault.{ImageFault}
use Rattle.xray_image.specs.declared.fault.ImageFault.TheVariants as faults
use Rattle.xray_image.specs.Units.{places_from}
use Rattle.xray_image.specs.Container.{Function, MapEntry, MapFields, Parts, base_address, code_length, function_count, entry_count, entries_from, function_entry_at, map_distance, map_fields_at, several, parts_of}
use Rattle.xray_image.specs.Program.{program_of}
use Rattle.xray_image.specs.Table.{ImageReading, NeedsUnits, ReadsProgram, ReadsParts}

-- the parts with these functions, and with the entries after them
abbrev with_entries : List ℕ → List Function → Option (List MapFields × List ℕ) → Option Parts
with_entries bytes functions o = option_map (λ entries. record { code = take (code_length bytes) (drop 64 bytes); functions = functions; entries = entries_from (base_address bytes + map_distance) entries.0; rest = entries.1 }) o

abbrev with_functions : List ℕ → Option (List Function × List ℕ) → Option Parts
with_functions bytes o = option_and_then (λ functions. with_entries bytes functions.0 (several map_fields_at (entry_count bytes) functions.1)) o

-- the table from the parts on
abbrev pub Rows : List ℕ → Option Parts → ImageReading → Type 0
Rows bytes o =
    NeedsPart o (Is (Err faults.Short))
    (λ parts. Needs (parts.rest ≡ []) (Is (Err faults.Trailing))
    (NeedsUnits (base_address bytes) parts.code
    (λ pieces. ReadsProgram parts.entries (places_from (base_address bytes) pieces) (program_of bytes parts pieces))))

module _ (bytes : List ℕ) (long : 64 ≤ length bytes) where
  parts_when : code_length bytes ≤ length (drop 64 bytes) → parts_of bytes ≡ with_functions bytes (several function_entry_at (function_count bytes) (drop (code_length bytes) (drop 64 bytes)))
  parts_when fits =
      ap (λ (b : Bool). cond b None (with_functions bytes (several function_entry_at (function_count bytes) (drop (64 + code_length bytes) bytes)))) (le-ltb (length bytes) (64 + code_length bytes) (omega (arith, length-drop 64 bytes)))
      ∙ ap (λ (following : List ℕ). with_functions bytes (several function_entry_at (function_count bytes) following)) (sym (drop-drop (code_length bytes) 64 bytes))

  no_code : length (drop 64 bytes) < code_length bytes → parts_of bytes ≡ None
  no_code short =
      ap (λ (b : Bool). cond b None (with_functions bytes (several function_entry_at (function_count bytes) (drop (64 + code_length bytes) bytes)))) (lt-ltb (length bytes) (64 + code_length bytes) (omega (arith, length-drop 64 bytes)))

  short_row : parts_of bytes ≡ None → ReadsParts bytes (Err faults.Short)
  short_row e = subst (λ (o : Option Parts). Rows bytes o (Err faults.Short)) (sym e) refl

  -- The same, by the rest of the file after the header and after the code, and by the counts.
  module _ (following rest : List ℕ) (n f m : ℕ) (after_is : following ≡ drop 64 bytes) (n_is : n ≡ code_length bytes) (f_is : f ≡ function_count bytes) (m_is : m ≡ entry_count bytes) where
    pub short_code : length following < n → ReadsParts bytes (Err faults.Short)
    short_code short = short_row (no_code (omega (arith, ap length after_is, n_is)))

    module _ (rest_is : rest ≡ drop n following) (fits : n ≤ length following) where
      functions_are : (o : Option (List Function × List ℕ)) → several function_entry_at f rest ≡ o → parts_of bytes ≡ with_functions bytes o
      functions_are o e =
          let there : several function_entry_at (function_count bytes) (drop (code_length bytes) (drop 64 bytes)) ≡ several function_entry_at f rest =
          sym (ap (λ (k : ℕ). several function_entry_at k rest) f_is ∙ ap (several function_entry_at (function_count bytes)) (rest_is ∙ ap (λ (k : ℕ). drop k following) n_is ∙ ap (drop (code_length bytes)) after_is)) in
          parts_when (omega (arith, ap length after_is, n_is)) ∙ ap (with_functions bytes) (there ∙ e)

      pub short_functions : several function_entry_at f rest ≡ None → ReadsParts bytes (Err faults.Short)
      short_functions e = short_row (functions_are None e)

      module _ (functions : List Function) (rest' : List ℕ) (there : several function_entry_at f rest ≡ Some (functions, rest')) where
        entries_are : (o : Option (List MapFields × List ℕ)) → several map_fields_at m rest' ≡ o → parts_of bytes ≡ with_entries bytes functions o
        entries_are o e =
            functions_are (Some (functions, rest')) there
            ∙ ap (with_entries bytes functions) (sym (ap (λ (k : ℕ). several map_fields_at k rest') m_is) ∙ e)

        pub short_entries : several map_fields_at m rest' ≡ None → ReadsParts bytes (Err faults.Short)
        short_entries e = short_row (entries_are None e)

        module _ (fields : List MapFields) (rest'' : List ℕ) (all : several map_fields_at m rest' ≡ Some (fields, rest'')) where
          code_with : List ℕ → Parts
          code_with left = record { code = take (code_length bytes) (drop 64 bytes); functions = functions; entries = entries_from (base_address bytes + map_distance) fields; rest = left }

          parts_are : parts_of bytes ≡ Some (code_with rest'')
          unfolding code_with
          parts_are = entries_are (Some (fields, rest'')) all

          pub trailing : (rest'' ≡ [] → ⊥) → ReadsParts bytes (Err faults.Trailing)
          unfolding code_with
          trailing more = subst (λ (o : Option Parts). Rows bytes o (Err faults.Trailing)) (sym parts_are) (inl (more, refl))

          pub whole : (base : ℕ) (code : List ℕ) (entries : List MapEntry) → base ≡ base_address bytes → code ≡ take n following → entries ≡ entries_from (base + map_distance) fields → rest'' ≡ []
              → parts_of bytes ≡ Some (record { code = code; functions = functions; entries = entries; rest = [] })
          unfolding code_with
          whole base code entries base_is code_is entries_is none =
              let made : List ℕ → List MapEntry → Option Parts = λ c es. Some (record { code = c; functions = functions; entries = es; rest = [] }) in
              let same : take (code_length bytes) (drop 64 bytes) ≡ code = sym (code_is ∙ ap (λ (k : ℕ). take k following) n_is ∙ ap (take (code_length bytes)) after_is) in
              let said : entries_from (base_address bytes + map_distance) fields ≡ entries = sym (entries_is ∙ ap (λ (k : ℕ). entries_from (k + map_distance) fields) base_is) in
              parts_are ∙ ap (λ (left : List ℕ). Some (code_with left)) none
              ∙ ap (λ (c : List ℕ). made c (entries_from (base_address bytes + map_distance) fields)) same ∙ ap (made code) said

-- if a part is refused, the file is refused for the same reason
pub refused_by : {Why : Type 0} (bytes : List ℕ) (fault : ImageFault) → (fault ≡ faults.NoMemory) ⊎ ((fault ≡ faults.Short) × Why) → (Why → ReadsParts bytes (Err faults.Short))
    → (fault ≡ faults.NoMemory) ⊎ ReadsParts bytes (Err fault)
refused_by bytes fault (inl full) why = inl full
refused_by bytes fault (inr short) why = inr (subst (λ (f : ImageFault). ReadsParts bytes (Err f)) (sym short.0) (why short.1))
