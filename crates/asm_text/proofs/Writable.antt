-- What was read and laid out can be written.
use Rattle.std.proofs.Common.{◌≡◌, ℕ, ◌≤◌, length, sym, ap, subst, ◌∙◌, arith}
use Rattle.std.specs.Prelude.{sum_by}
use Rattle.std.specs.List.{flat_map}
use Rattle.xray_image.specs.Units.{piece_bytes}
use Rattle.asm_text.specs.declared.laid_text.LaidText.{LaidText}
use Rattle.asm_text.specs.declared.totals.Totals.{Totals}
use Rattle.asm_text.specs.Layout.{StatementLines, by_threshold, lines_placed, no_owner, widths, sleds_of_part, all_parts, functions, map_entries, base_of, pieces}
use Rattle.asm_text.specs.private.Fits.{AllFit}
use Rattle.asm_text.specs.private.FirstPass.{IsTotals, IsWithin, IsNames}
use Rattle.asm_text.specs.private.Laying.{lines_of, next_places}
use Rattle.asm_text.specs.private.LaidTexts.{all_in}
use Rattle.asm_text.specs.private.Files.{IsWritable}
use Rattle.asm_text.proofs.Monotone.{no_more}
use Rattle.asm_text.proofs.PlacesInCode.{AllLie, lines_of-placed, all_lie, laid_lie, name_within, code_length, functions_count, sleds_count}
use Rattle.asm_text.proofs.ReadStatements.{base_fits, names_fit}

-- the code has at most as many bytes as were counted
pub code_fits : (threshold : ℕ) (said : StatementLines) (t : Totals) → IsTotals said t → IsWithin t → widths (all_parts (by_threshold threshold) said) ≤ 1048576
code_fits threshold said t totals within = omega (arith, (no_more threshold said).0, totals.code, within.code)

pub writable : (threshold : ℕ) (said : StatementLines) (t : Totals) (text : LaidText) → IsTotals said t → IsWithin t → AllFit said → IsNames said text.names
    → all_in text ≡ lines_placed (by_threshold threshold) said → text.targets.items ≡ next_places (all_in text) → IsWritable text
writable threshold said t text totals within fit names is targets =
    let all = all_in text in
    let chosen = by_threshold threshold in
    let lines : lines_of all ≡ said = ap lines_of is ∙ lines_of-placed chosen 0 no_owner said in
    let few = code_fits threshold said t totals within in
    let lie : AllLie 1048576 all = subst (AllLie 1048576) (sym is) (all_lie chosen 1048576 0 no_owner said (omega (arith, few))) in
    let sleds : sum_by sleds_of_part (all_parts chosen said) ≤ 4096 = omega (arith, (no_more threshold said).1, totals.sleds, within.sleds) in
    record {
      laid = record {
        places = record { names = subst (λ ls. IsNames ls text.names) (sym lines) names; targets = targets; within = name_within 1048576 all lie };
        within = λ i d h. laid_lie 1048576 text.lines.items i d lie h;
      };
      names = names_fit text.lines.items (subst AllFit (sym lines) fit);
      base = subst (λ ls. base_of ls ≤ 0x7FFF00000000) (sym lines) (base_fits said fit);
      code = subst (λ ps. length (flat_map piece_bytes (pieces ps)) ≤ 1048576) (sym is) (omega (arith, code_length (lines_placed chosen said), few));
      functions = subst (λ ps. length (functions 0 ps) ≤ 1024) (sym is) (omega (arith, functions_count chosen 0 no_owner said, totals.functions, within.functions));
      entries = subst (λ ps. length (map_entries 0 ps) ≤ 4096) (sym is) (omega (arith, sleds_count (lines_placed chosen said), sleds));
    }
