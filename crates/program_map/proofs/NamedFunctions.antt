-- Functions with names, with one sled more.
use Rattle.std.proofs.Common.{◌≡◌, ◌+◌, ◌++◌, ◌∷◌, ◌∙◌, [], ℕ, Bool, true, false, List, map, Option, Some, None, refl, sym, ap, arith, if◌then◌else◌}
use Rattle.std.specs.List.{filter, last_or}
use Rattle.std.proofs.lemmas.List.{append-nil}
use Rattle.std.proofs.lemmas.List.Elements.{filter-append}
use Rattle.elf_file.specs.Symbols.{SymbolNames}
use Rattle.program_map.specs.declared.facts.Named.{Named}
use Rattle.program_map.specs.declared.numbering.NumberedSled.{NumberedSled}
use Rattle.program_map.specs.MapText.{has_name, named_ids}
use Rattle.program_map.specs.Numbering.{groups_in}
use Rattle.program_map.specs.private.Counts.{is_last}
use Rattle.program_map.specs.private.NamedIds.{IsNamed}
use Rattle.program_map.proofs.Groups.{groups_more, last_more, last_same}

ids_more : (sleds more : List NumberedSled) → map (λ (n : NumberedSled). n.id) (sleds ++ more) ≡ map (λ (n : NumberedSled). n.id) sleds ++ map (λ (n : NumberedSled). n.id) more
ids_more [] more = refl
ids_more (s ∷ sleds) more = ap (λ (ids : List ℕ). s.id ∷ ids) (ids_more sleds more)

named_more : (names : SymbolNames) (sleds : List NumberedSled) (sled : NumberedSled) (b : Bool) → has_name names sled ≡ b
    → named_ids names (sleds ++ sled ∷ []) ≡ named_ids names sleds ++ (if b then sled.id ∷ [] else [])
named_more names sleds sled true is =
    ap (map (λ (n : NumberedSled). n.id)) (filter-append (has_name names) sleds (sled ∷ [])
    ∙ ap (λ (t : Bool). filter (has_name names) sleds ++ (if t then sled ∷ [] else [])) is)
    ∙ ids_more (filter (has_name names) sleds) (sled ∷ [])
named_more names sleds sled false is =
    ap (map (λ (n : NumberedSled). n.id)) (filter-append (has_name names) sleds (sled ∷ [])
    ∙ ap (λ (t : Bool). filter (has_name names) sleds ++ (if t then sled ∷ [] else [])) is)
    ∙ ids_more (filter (has_name names) sleds) []

-- a sled whose function has no name changes nothing
pub unnamed_sled : (names : SymbolNames) (sleds : List NumberedSled) (sled : NumberedSled) (named : Named) → has_name names sled ≡ false
    → IsNamed names sleds named → IsNamed names (sleds ++ sled ∷ []) named
unnamed_sled names sleds sled named isnt is =
    let same = named_more names sleds sled false isnt ∙ append-nil (named_ids names sleds) in record {
      functions = is.functions ∙ sym (ap groups_in same);
      last = is.last ∙ sym (ap (last_or None) same);
    }

-- nor does one of the function that was named last
pub same_function : (names : SymbolNames) (sleds : List NumberedSled) (sled : NumberedSled) (named : Named) → has_name names sled ≡ true
    → is_last named.last sled.id ≡ true → IsNamed names sleds named → IsNamed names (sleds ++ sled ∷ []) named
same_function names sleds sled named has last is =
    let more = named_more names sleds sled true has in
    let none : groups_in (named_ids names sleds) + 0 ≡ groups_in (named_ids names sleds) = omega arith in record {
      functions =
          is.functions
          ∙ sym (ap groups_in more ∙ groups_more (named_ids names sleds) sled.id
          ∙ ap (λ (b : Bool). groups_in (named_ids names sleds) + (if b then 0 else 1)) (ap (λ (o : Option ℕ). is_last o sled.id) (sym is.last) ∙ last) ∙ none);
      last = last_same named.last sled.id last ∙ sym (ap (last_or None) more ∙ last_more None (named_ids names sleds) sled.id);
    }

-- a sled of the function that was named last changes nothing
pub known_function : (names : SymbolNames) (sleds : List NumberedSled) (sled : NumberedSled) (named : Named) → is_last named.last sled.id ≡ true
    → IsNamed names sleds named → IsNamed names (sleds ++ sled ∷ []) named
known_function names sleds sled named last is = by_name (has_name names sled) refl
  where
    by_name : (b : Bool) → has_name names sled ≡ b → IsNamed names (sleds ++ sled ∷ []) named
    by_name true has = same_function names sleds sled named has last is
    by_name false isnt = unnamed_sled names sleds sled named isnt is

-- another one is one more
pub next_function : (names : SymbolNames) (sleds : List NumberedSled) (sled : NumberedSled) (named : Named) → has_name names sled ≡ true
    → is_last named.last sled.id ≡ false → IsNamed names sleds named
    → IsNamed names (sleds ++ sled ∷ []) (record { functions = named.functions + 1; last = Some sled.id })
next_function names sleds sled named has last is =
    let more = named_more names sleds sled true has in record {
      functions =
          ap (λ (n : ℕ). n + 1) is.functions
          ∙ sym (ap groups_in more ∙ groups_more (named_ids names sleds) sled.id
          ∙ ap (λ (b : Bool). groups_in (named_ids names sleds) + (if b then 0 else 1)) (ap (λ (o : Option ℕ). is_last o sled.id) (sym is.last) ∙ last));
      last = sym (ap (last_or None) more ∙ last_more None (named_ids names sleds) sled.id);
    }
