-- If a text isn't refused, its image is accepted, with the program that the text says.
use Rattle.std.proofs.Common.{◌≡◌, ℕ, ◌<◌, ◌≤◌, Bool, true, false, List, [], ◌∷◌, map, refl, sym, ap, subst, ◌∙◌, arith}
use Rattle.std.specs.Prelude.{Result, Ok, Err, sum_by, slice_get}
use Rattle.std.specs.Option.{option_map_or}
use Rattle.std.specs.List.{flat_map, filter_map, zip}
use Rattle.xray_image.specs.declared.sled.Sled.{Sled}
use Rattle.xray_image.specs.Container.{MapEntry}
use Rattle.xray_image.specs.Units.{piece_bytes, units_from, places_from}
use Rattle.xray_image.specs.Program.{Program, IsAccepted, sled_of}
use Rattle.asm_text.specs.declared.fault.AsmFault.{AsmFault}
use Rattle.asm_text.specs.Layout.{StatementLines, Placed, Choosing, by_threshold, lines_placed, no_owner, base_of, entry_in_line, all_parts, sleds_of_part, widths, pieces, functions, map_entries}
use Rattle.xray_io.specs.Rows.{◌>>=◌}
use Rattle.std.proofs.lemmas.List.{length-map}
use Rattle.asm_text.specs.Writing.{image_bytes, in_version, map_version}
use Rattle.asm_text.specs.Assembling.{statements_said, image_of, assembled}
use Rattle.asm_text.specs.Programs.{sled_said, entry_address, trampolines_at, program_said, IsProgramOf}
use Rattle.asm_text.proofs.PlacesInCode.{all_lie, code_length, functions_count, sleds_count}
use Rattle.asm_text.proofs.Monotone.{no_more}
use Rattle.asm_text.proofs.WriteLemmas.{length-functions, length-map_entries}
use Rattle.asm_text.proofs.ReadBack.{FileFits}
use Rattle.asm_text.proofs.Versions.{agreeing, fitting, reaching, same_sleds, sleds_same}
use Rattle.asm_text.proofs.FileFields.{image_fits}
use Rattle.asm_text.proofs.ReadStatements.{base_aligned, base_fits}
use Rattle.asm_text.proofs.UnitsLaw.{code_is_units}
use Rattle.asm_text.proofs.SledMapLaw.{sled_lines, place_for, entry_for, places_by_lines, map_by_lines, even_sleds, map_order, entries_tell, near_sleds}
use Rattle.asm_text.proofs.SaidLemmas.{said_fits, said_within}
use Rattle.asm_text.proofs.SaidLines.{are_said}
use Rattle.asm_text.proofs.EntryLaw.{entry_exists, entry_is}
use Rattle.asm_text.proofs.FileLaw.{program_in, IsInOrder, accepted_file}
use Rattle.asm_text.proofs.FunctionsLaw.{are_functions}
use Rattle.asm_text.proofs.BranchesLaw.{branches_reach}

-- a sled, as the code and the map say it, is the sled of its line
sleds_by_lines : (base : ℕ) (entries : List MapEntry) (lines : List (Placed × ℕ))
    → map (sled_of entries) (zip (map (place_for base) lines) (map (entry_for base) lines)) ≡ map (sled_said entries) (map (entry_for base) lines)
sleds_by_lines base entries [] = refl
sleds_by_lines base entries (line ∷ following) = ap (λ ss. sled_said entries (entry_for base line) ∷ ss) (sleds_by_lines base entries following)

sleds_told : (base version : ℕ) (chosen : Choosing) (said : StatementLines) → let es = map_entries base (lines_placed chosen said) in
    map (sled_of (map (in_version version) es)) (zip (places_from base (pieces (lines_placed chosen said))) (map (in_version version) es)) ≡ map (sled_said es) es
sleds_told base version chosen said =
    let all = lines_placed chosen said in
    let es = map_entries base all in
    let lines = sled_lines all in
    sleds_same version (places_from base (pieces all)) es
    ∙ ap (λ ps. map (sled_of es) (zip ps es)) (places_by_lines base chosen said)
    ∙ ap (λ xs. map (sled_of es) (zip (map (place_for base) lines) xs)) (map_by_lines base all)
    ∙ sleds_by_lines base es lines
    ∙ ap (map (sled_said es)) (sym (map_by_lines base all))

-- what the file holds is what the text says
same_program : (threshold : ℕ) (relative : Bool) (said : StatementLines) → program_in (image_of threshold relative said) (pieces (lines_placed (by_threshold threshold) said)) ≡ program_said threshold said
same_program threshold relative said =
    let version = map_version relative in
    let base = base_of said in
    let chosen = by_threshold threshold in
    let all = lines_placed chosen said in
    let es = map (in_version version) (map_entries base all) in
    let made : ℕ → List Sled → Program = λ entry sleds. record {
      base = base;
      entry = entry;
      code = flat_map piece_bytes (pieces all);
      functions = functions base all;
      units = units_from base 0 (pieces all);
      sleds = sleds;
      trampolines = trampolines_at base;
    } in
    ap (λ o. made (option_map_or (λ f. f.start) o 0) (map (sled_of es) (zip (places_from base (pieces all)) es))) (entry_is (slice_get (filter_map (λ line. entry_in_line line.1) said) 0) (functions base all))
    ∙ ap (made (entry_address said (functions base all))) (sleds_told base version chosen said)

known : (relative : Bool) → map_version relative < 3
known true = omega arith
known false = omega arith

module _ (text : List ℕ) (threshold : ℕ) (relative : Bool) (said : StatementLines) (read : statements_said text ≡ Ok said) where
  in_order : IsInOrder (image_of threshold relative said) (pieces (lines_placed (by_threshold threshold) said))
  in_order =
      let version = map_version relative in
      let fit = said_fits text said read in
      let within = said_within text said read in
      let chosen = by_threshold threshold in
      let base = base_of said in
      let all = lines_placed chosen said in
      let es = map_entries base all in
      let places = places_from base (pieces all) in
      let few : widths (all_parts chosen said) ≤ 1048576 = omega (arith, (no_more threshold said).0, within.code) in
      let sleds : sum_by sleds_of_part (all_parts chosen said) ≤ 4096 = omega (arith, (no_more threshold said).1, within.sleds) in
      let lie = all_lie chosen 1048576 0 no_owner said (omega (arith, few)) in
      let each = image_fits base chosen said (base_fits said fit) fit few in
      let file : FileFits (image_of threshold relative said) = record {
        base = base_fits said fit;
        code = omega (arith, code_length all, few);
        function_count = omega (arith, length-functions base all, functions_count chosen 0 no_owner said, within.functions);
        entry_count = omega (arith, length-map es (in_version version), length-map_entries base all, sleds_count all, sleds);
        each_function = each.0;
        each_entry = fitting version es each.1;
      } in
      record {
        fits = file;
        base_aligned = base_aligned said fit;
        code_limit = omega (arith, code_length all, few);
        functions_limit = omega (arith, length-functions base all, functions_count chosen 0 no_owner said, within.functions);
        sleds_limit = omega (arith, length-map es (in_version version), length-map_entries base all, sleds_count all, sleds);
        entry_exists = entry_exists base chosen said (are_said text said read);
        units = code_is_units chosen said fit few;
        even_sleds = even_sleds base chosen said (base_aligned said fit);
        functions = are_functions text threshold said read;
        map_order = same_sleds version es ∙ map_order base chosen said;
        entries = agreeing version (known relative) (functions base all) places es (entries_tell base chosen said lie);
        near = reaching version (trampolines_at base) places es (near_sleds base chosen said lie);
        branches = branches_reach text threshold said read;
      }

  -- the file of the text is accepted
  pub accepted_image : IsAccepted (image_bytes (image_of threshold relative said)) (program_said threshold said)
  accepted_image =
      subst (IsAccepted (image_bytes (image_of threshold relative said))) (same_program threshold relative said)
      (accepted_file (image_of threshold relative said) (pieces (lines_placed (by_threshold threshold) said)) in_order)

  -- the same for the file that is assembled of the text
  pub holds_program : (file : List ℕ) → assembled text threshold relative ≡ Ok file → IsProgramOf text threshold file
  holds_program file is =
      let made : Ok (image_bytes (image_of threshold relative said)) ≡ Ok file = sym (ap (λ r. r >>= λ lines. Ok (image_bytes (image_of threshold relative lines))) read) ∙ is in
      let same : image_bytes (image_of threshold relative said) ≡ file = cc made in
      record { said = said; read = read; accepted = subst (λ bytes. IsAccepted bytes (program_said threshold said)) same accepted_image }

-- the two images of a text
pub one_program : ((bytes : List ℕ) (p q : Program) → IsAccepted bytes p → IsAccepted bytes q → p ≡ q)
    → (text : List ℕ) (threshold : ℕ) (absolute relative : List ℕ) (p q : Program) → assembled text threshold false ≡ Ok absolute → assembled text threshold true ≡ Ok relative
    → IsAccepted absolute p → IsAccepted relative q → p ≡ q
unfolding holds_program
one_program one text threshold absolute relative p q first second is_p is_q = by_lines (statements_said text) refl
  where
    by_lines : (r : Result StatementLines AsmFault) → statements_said text ≡ r → p ≡ q
    by_lines (Err fault) read =
        let refused : Err fault ≡ Ok absolute = sym (ap (λ r. r >>= λ lines. Ok (image_bytes (image_of threshold false lines))) read) ∙ first in
        absurd (cc refused)
    by_lines (Ok said) read =
        let x = holds_program text threshold false said read absolute first in
        let y = holds_program text threshold true said read relative second in
        one absolute p (program_said threshold said) is_p x.accepted ∙ one relative (program_said threshold said) q y.accepted is_q
