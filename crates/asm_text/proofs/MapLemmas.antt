-- The sled map, line by line.
use Rattle.std.proofs.Common.{◌≡◌, ℕ, ◌+◌, ◌*◌, List, ◌∷◌, ◌++◌, length, map, Option, Some, None, sym, ap, subst, ◌∙◌, append_assoc, arith}
use Rattle.std.specs.List.{cons_option, flat_map}
use Rattle.xray_image.specs.Container.{MapEntry}
use Rattle.asm_text.specs.Writing.{entry_bytes, fields_for, fields_from, in_version}

-- entries of a version, the first of which is at an address
abbrev pub bytes_from : (version at : ℕ) → List MapEntry → List ℕ
bytes_from version at entries = flat_map entry_bytes (fields_from at (map (in_version version) entries))

-- What is written, and the entries of the rest of the lines from here on, are the whole map. So the address here is
-- known.
pub record Written (version total at : ℕ) (left : List MapEntry) (written whole : List ℕ) : Type 0 where
  pub place : at + 32 * length left ≡ total
  pub goes_on : written ++ bytes_from version at left ≡ whole

module _ (version total at : ℕ) (o : Option MapEntry) (es : List MapEntry) (written whole : List ℕ) (now : Written version total at (cons_option o es) written whole) where
  -- a line without a sled
  pub no_entry : None ≡ o → Written version total at es written whole
  no_entry none = subst (λ (x : Option MapEntry). Written version total at (cons_option x es) written whole) (sym none) now

  -- a line with a sled, whose entry is written
  pub one_entry : (e : MapEntry) (more : List ℕ) → Some e ≡ o → more ≡ written ++ entry_bytes (fields_for at (in_version version e)) → Written version total (at + 32) es more whole
  one_entry e more is pushed =
      let here : Written version total at (e ∷ es) written whole = subst (λ (x : Option MapEntry). Written version total at (cons_option x es) written whole) (sym is) now in
      record {
        place = omega (arith, here.place);
        goes_on = ap (λ (bytes : List ℕ). bytes ++ bytes_from version (at + 32) es) pushed
            ∙ append_assoc written (entry_bytes (fields_for at (in_version version e))) (bytes_from version (at + 32) es) ∙ here.goes_on;
      }
