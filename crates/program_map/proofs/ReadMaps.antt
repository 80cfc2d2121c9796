-- The text of a map is read as the ids and names of its sleds.
use Rattle.std.proofs.Common.{Some, None, length, drop, ◌≡◌, ◌==◌, ◌||◌, ◌≤◌, ℕ, zero, suc, Bool, true, false, not, inl, inr, List, [], ◌∷◌, ◌++◌, map, refl, sym, ap, subst, ◌∙◌, arith, append_assoc, if◌then◌else◌}
use Rattle.std.specs.Prelude.{codes, decimal, filter}
use Rattle.std.specs.Fmt.{digits}
use Rattle.std.specs.List.{flat_map, list_any}
use Rattle.std.specs.Str.Lines.{lines, strip_carriage_return}
use Rattle.std.specs.Option.{option_map_or}
use Rattle.std.specs.Prelude.{slice_index_or}
use Rattle.std.proofs.lemmas.Bool.{and_from, lt-ltb, not_from_false}
use Rattle.std.proofs.lemmas.Grind.{flat_map-append}
use Rattle.map_names.specs.Entries.{is_entry, is_event, is_exit, is_kind, is_truth}
use Rattle.map_names.specs.Maps.{is_comment}
use Rattle.map_names.specs.Spelling.{IsEnding, SpellEach, SpellsEntry, SpellsMap, single_byte, single_quoted}
use Rattle.elf_file.specs.Symbols.{SymbolNames, function_name_at}
use Rattle.program_map.specs.declared.numbering.NumberedSled.{NumberedSled}
use Rattle.program_map.specs.declared.sled.MapSledKind.{MapSledKind}
use Rattle.program_map.specs.declared.sled.MapSledKind.TheVariants.{FunctionEnter, FunctionExit, TailExit, LogArgsEnter, CustomEvent, TypedEvent}
use Rattle.program_map.specs.Laws.{AreInRange, IsInRange}
use Rattle.program_map.specs.MapText.{map_kind_word, line_name, map_address, map_line, map_text, named_sled, sled_name, map_truth_word}
use Rattle.program_map.specs.Programs.{MappedProgram}
use Rattle.program_map.proofs.Numerals.{address_line, address_reads, decimal_line, id_reads}
use Rattle.program_map.proofs.TextLines.{AreLines, both_within, end_kept, is_within_line, text_lines, text_of_lines}

-- ---- names

-- a name as a map may have it has no line feed
name_within : (name : List ℕ) → list_any (λ b. b == 10) name ≡ false → is_within_line (flat_map single_byte name) ≡ true
name_within [] none = refl
name_within (b ∷ name) none = by_byte (b == 10) refl none (name_within name)
  where
    by_mark : (mark : Bool) → (b == 39) ≡ mark → (b == 10) ≡ false → is_within_line (flat_map single_byte name) ≡ true
        → is_within_line (flat_map single_byte (b ∷ name)) ≡ true
    by_mark true is isnt rest = ap (λ (t : Bool). is_within_line ((if t then 39 ∷ 39 ∷ [] else b ∷ []) ++ flat_map single_byte name)) is ∙ rest
    by_mark false is isnt rest =
        ap (λ (t : Bool). is_within_line ((if t then 39 ∷ 39 ∷ [] else b ∷ []) ++ flat_map single_byte name)) is
        ∙ and_from (not (b == 10)) (is_within_line (flat_map single_byte name)) (not_from_false (b == 10) isnt) rest

    by_byte : (here : Bool) → (b == 10) ≡ here → (here || list_any (λ b. b == 10) name) ≡ false
        → (list_any (λ b. b == 10) name ≡ false → is_within_line (flat_map single_byte name) ≡ true) → is_within_line (flat_map single_byte (b ∷ name)) ≡ true
    by_byte true is rest again = absurd cc
    by_byte false is rest again = by_mark (b == 39) refl is (again rest)

line_name_within : (name : List ℕ) (t : Bool) → list_any (λ b. b == 10) name ≡ t → is_within_line (flat_map single_byte (line_name name)) ≡ true
line_name_within name true is = ap (λ (t : Bool). is_within_line (flat_map single_byte (if t then [] else name))) is
line_name_within name false is = ap (λ (t : Bool). is_within_line (flat_map single_byte (if t then [] else name))) is ∙ name_within name is

quoted_within : (name : List ℕ) → is_within_line (flat_map single_byte name) ≡ true → is_within_line (single_quoted name) ≡ true
quoted_within name h = both_within (flat_map single_byte name) (39 ∷ []) h refl

-- ---- words

kind_within : (kind : MapSledKind) → is_within_line (map_kind_word kind) ≡ true
kind_within FunctionEnter = refl
kind_within FunctionExit = refl
kind_within TailExit = refl
kind_within LogArgsEnter = refl
kind_within CustomEvent = refl
kind_within TypedEvent = refl

kind_reads : (kind : MapSledKind) → is_kind (map_kind_word kind) ≡ true
unfolding is_kind is_entry is_exit is_event
kind_reads FunctionEnter = refl
kind_reads FunctionExit = refl
kind_reads TailExit = refl
kind_reads LogArgsEnter = refl
kind_reads CustomEvent = refl
kind_reads TypedEvent = refl

truth_within : (b : Bool) → is_within_line (map_truth_word b) ≡ true
truth_within true = refl
truth_within false = refl

truth_reads : (b : Bool) → is_truth (map_truth_word b) ≡ true
unfolding is_truth
truth_reads true = refl
truth_reads false = refl

abbrev ending_of : ℕ → List ℕ
ending_of version = codes ", version: " ++ decimal version ++ codes " }"

ending_reads : (version : ℕ) → version ≤ 2 → IsEnding (ending_of version)
unfolding digits
ending_reads zero small =
    record { version = codes ", version: 0"; brace = codes " }"; version_is = inr (inl refl); brace_is = inl refl; joined = refl }
ending_reads (suc zero) small =
    record { version = codes ", version: 1"; brace = codes " }"; version_is = inr (inr (inl refl)); brace_is = inl refl; joined = refl }
ending_reads (suc (suc zero)) small =
    record { version = codes ", version: 2"; brace = codes " }"; version_is = inr (inr (inr refl)); brace_is = inl refl; joined = refl }
ending_reads (suc (suc (suc n))) small = absurd (omega arith)

-- ---- a line

-- a line without its line feed
abbrev bare_line : SymbolNames → NumberedSled → List ℕ
bare_line names numbered =
    codes "- { id: " ++ decimal numbered.id ++ codes ", address: " ++ map_address numbered.sled.address
    ++ codes ", function: " ++ map_address numbered.sled.function ++ codes ", kind: " ++ map_kind_word numbered.sled.kind
    ++ codes ", always-instrument: " ++ map_truth_word numbered.sled.always
    ++ codes ", function-name: " ++ single_quoted (sled_name names numbered)
    ++ ending_of numbered.sled.version

line_end : (w g v h n : List ℕ) → w ++ g ++ v ++ (h ++ n) ≡ (w ++ (g ++ v ++ h)) ++ n
line_end w g v h n = simp append_assoc

line_is : (names : SymbolNames) (numbered : NumberedSled) → map_line names numbered ≡ bare_line names numbered ++ 10 ∷ []
line_is names numbered =
    line_end
    (codes "- { id: " ++ decimal numbered.id ++ codes ", address: " ++ map_address numbered.sled.address
    ++ codes ", function: " ++ map_address numbered.sled.function ++ codes ", kind: " ++ map_kind_word numbered.sled.kind
    ++ codes ", always-instrument: " ++ map_truth_word numbered.sled.always
    ++ codes ", function-name: " ++ single_quoted (sled_name names numbered))
    (codes ", version: ") (decimal numbered.sled.version) (codes " }") (10 ∷ [])

parts_within : (a id b x c y d k e t f q g : List ℕ) → is_within_line a ≡ true → is_within_line id ≡ true → is_within_line b ≡ true → is_within_line x ≡ true
    → is_within_line c ≡ true → is_within_line y ≡ true → is_within_line d ≡ true → is_within_line k ≡ true → is_within_line e ≡ true → is_within_line t ≡ true
    → is_within_line f ≡ true → is_within_line q ≡ true → is_within_line g ≡ true
    → is_within_line (a ++ id ++ b ++ x ++ c ++ y ++ d ++ k ++ e ++ t ++ f ++ q ++ g) ≡ true
parts_within a id b x c y d k e t f q g pa pid pb px pc py pd pk pe pt pf pq pg =
    both_within (a ++ id ++ b ++ x ++ c ++ y ++ d ++ k ++ e ++ t ++ f ++ q) g
    (both_within (a ++ id ++ b ++ x ++ c ++ y ++ d ++ k ++ e ++ t ++ f) q
    (both_within (a ++ id ++ b ++ x ++ c ++ y ++ d ++ k ++ e ++ t) f
    (both_within (a ++ id ++ b ++ x ++ c ++ y ++ d ++ k ++ e) t
    (both_within (a ++ id ++ b ++ x ++ c ++ y ++ d ++ k) e
    (both_within (a ++ id ++ b ++ x ++ c ++ y ++ d) k
    (both_within (a ++ id ++ b ++ x ++ c ++ y) d
    (both_within (a ++ id ++ b ++ x ++ c) y
    (both_within (a ++ id ++ b ++ x) c
    (both_within (a ++ id ++ b) x
    (both_within (a ++ id) b (both_within a id pa pid) pb) px) pc) py) pd) pk) pe) pt) pf) pq) pg

line_within : (names : SymbolNames) (numbered : NumberedSled) → IsInRange numbered → is_within_line (bare_line names numbered) ≡ true
line_within names numbered range =
    let name = function_name_at names numbered.sled.function in
    parts_within (codes "- { id: ") (decimal numbered.id) (codes ", address: ") (map_address numbered.sled.address) (codes ", function: ")
    (map_address numbered.sled.function) (codes ", kind: ") (map_kind_word numbered.sled.kind) (codes ", always-instrument: ") (map_truth_word numbered.sled.always)
    (codes ", function-name: ") (single_quoted (sled_name names numbered)) (ending_of numbered.sled.version)
    refl (decimal_line numbered.id (omega (arith, range.id))) refl
    (both_within (codes "0x") (digits 16 true numbered.sled.address) refl (address_line numbered.sled.address (omega (arith, range.address))))
    refl (both_within (codes "0x") (digits 16 true numbered.sled.function) refl (address_line numbered.sled.function (omega (arith, range.function))))
    refl (kind_within numbered.sled.kind) refl (truth_within numbered.sled.always) refl
    (quoted_within (sled_name names numbered) (line_name_within name (list_any (λ b. b == 10) name) refl))
    (both_within (codes ", version: " ++ decimal numbered.sled.version) (codes " }")
    (both_within (codes ", version: ") (decimal numbered.sled.version) refl (decimal_line numbered.sled.version (omega (arith, range.version)))) refl)

end_is : (w v : List ℕ) → w ++ (codes ", version: " ++ v ++ codes " }") ≡ (w ++ (codes ", version: " ++ v ++ 32 ∷ [])) ++ 125 ∷ []
end_is w v = assoc w (codes ", version: " ++ v) (32 ∷ []) (125 ∷ [])
  where
    assoc : (w x y z : List ℕ) → w ++ (x ++ (y ++ z)) ≡ (w ++ (x ++ y)) ++ z
    assoc w x y z = simp append_assoc

-- the parts of a line before its version
abbrev line_start : SymbolNames → NumberedSled → List ℕ
line_start names numbered =
    codes "- { id: " ++ decimal numbered.id ++ codes ", address: " ++ map_address numbered.sled.address
    ++ codes ", function: " ++ map_address numbered.sled.function ++ codes ", kind: " ++ map_kind_word numbered.sled.kind
    ++ codes ", always-instrument: " ++ map_truth_word numbered.sled.always
    ++ codes ", function-name: " ++ single_quoted (sled_name names numbered)

line_kept : (names : SymbolNames) (numbered : NumberedSled) → strip_carriage_return (bare_line names numbered) ≡ bare_line names numbered
line_kept names numbered =
    let is = end_is (line_start names numbered) (decimal numbered.sled.version) in
    let P : List ℕ → Type 0 = λ line. strip_carriage_return line ≡ line in
    subst P (sym is) (end_kept (line_start names numbered ++ (codes ", version: " ++ decimal numbered.sled.version ++ 32 ∷ [])) 125 refl)

-- the label of a name and the name, as one part of a line
named_as_one : (a id b x c y d k e t f q g : List ℕ)
    → a ++ id ++ b ++ x ++ c ++ y ++ d ++ k ++ e ++ t ++ f ++ q ++ g ≡ a ++ id ++ b ++ x ++ c ++ y ++ d ++ k ++ e ++ t ++ (f ++ q) ++ g
named_as_one a id b x c y d k e t f q g = ap (λ (l : List ℕ). l ++ g) (append_assoc (a ++ id ++ b ++ x ++ c ++ y ++ d ++ k ++ e ++ t) f q)

line_reads : (names : SymbolNames) (numbered : NumberedSled) → IsInRange numbered → SpellsEntry (bare_line names numbered) (named_sled names numbered)
line_reads names numbered range = record {
  id = decimal numbered.id;
  address = map_address numbered.sled.address;
  function = map_address numbered.sled.function;
  kind = map_kind_word numbered.sled.kind;
  always = map_truth_word numbered.sled.always;
  named = codes ", function-name: " ++ single_quoted (sled_name names numbered);
  ending = ending_of numbered.sled.version;
  id_is = id_reads numbered.id range.id;
  address_is = address_reads numbered.sled.address range.address;
  function_is = address_reads numbered.sled.function range.function;
  kind_is = kind_reads numbered.sled.kind;
  always_is = truth_reads numbered.sled.always;
  name_is = inl (record {
    written = single_quoted (sled_name names numbered);
    spelled = inl refl;
    labelled = refl;
    direct = λ same. absurd cc;
  });
  ending_is = ending_reads numbered.sled.version range.version;
  joined =
      named_as_one (codes "- { id: ") (decimal numbered.id) (codes ", address: ") (map_address numbered.sled.address) (codes ", function: ")
      (map_address numbered.sled.function) (codes ", kind: ") (map_kind_word numbered.sled.kind) (codes ", always-instrument: ") (map_truth_word numbered.sled.always)
      (codes ", function-name: ") (single_quoted (sled_name names numbered)) (ending_of numbered.sled.version);
}

-- ---- a text

lines_read : (names : SymbolNames) (sleds : List NumberedSled) → AreInRange sleds → SpellEach (map (bare_line names) sleds) (map (named_sled names) sleds)
lines_read names [] range = tt
lines_read names (sled ∷ sleds) range = (line_reads names sled range.0, lines_read names sleds range.1)

lines_and_end : (names : SymbolNames) (sleds : List NumberedSled) → AreInRange sleds → AreLines (map (bare_line names) sleds ++ codes "..." ∷ [])
lines_and_end names [] range = (record { within = refl; kept = refl }, tt)
lines_and_end names (sled ∷ sleds) range =
    (record { within = line_within names sled range.0; kept = line_kept names sled }, lines_and_end names sleds range.1)

-- no line that begins so is a comment
begins_so : (rest : List ℕ) → is_comment (45 ∷ rest) ≡ false
begins_so rest =
    ap (λ (t : Bool). option_map_or (λ (n : ℕ). slice_index_or (45 ∷ rest) n 0 == 35) (if t then Some 0 else None) false) (lt-ltb 0 (length (45 ∷ rest)) (omega arith))

no_comments : (names : SymbolNames) (sleds : List NumberedSled)
    → filter (λ line. not (is_comment line)) (map (bare_line names) sleds ++ codes "..." ∷ []) ≡ map (bare_line names) sleds ++ codes "..." ∷ []
no_comments names [] = refl
no_comments names (sled ∷ sleds) =
    let line : List ℕ = bare_line names sled in
    let rest : List (List ℕ) = filter (λ l. not (is_comment l)) (map (bare_line names) sleds ++ codes "..." ∷ []) in
    ap (λ (t : Bool). if not t then line ∷ rest else rest) (begins_so (drop 1 line)) ∙ ap (λ (l : List (List ℕ)). line ∷ l) (no_comments names sleds)

bare_text : (names : SymbolNames) (sleds : List NumberedSled) → flat_map (map_line names) sleds ≡ text_of_lines (map (bare_line names) sleds)
bare_text names [] = refl
bare_text names (sled ∷ sleds) =
    ap (λ (t : List ℕ). t ++ flat_map (map_line names) sleds) (line_is names sled)
    ∙ ap (λ (t : List ℕ). (bare_line names sled ++ 10 ∷ []) ++ t) (bare_text names sleds)

pub map_read : (program : MappedProgram) → AreInRange program.numbering.sleds
    → SpellsMap (map_text program) (map (named_sled program.names) program.numbering.sleds)
map_read program range =
    let names = program.names in
    let sleds = program.numbering.sleds in
    let bare = map (bare_line names) sleds in
    let text : flat_map (map_line names) sleds ++ codes "...\n" ≡ text_of_lines (bare ++ codes "..." ∷ []) =
    ap (λ (t : List ℕ). t ++ codes "...\n") (bare_text names sleds) ∙ sym (flat_map-append (λ (line : List ℕ). line ++ 10 ∷ []) bare (codes "..." ∷ [])) in
    record {
      said = bare;
      each = lines_read names sleds range;
      whole =
          ap (filter (λ line. not (is_comment line)))
          (ap lines (ap (λ (t : List ℕ). codes "---\n" ++ t) text)
          ∙ text_lines (codes "---" ∷ bare ++ codes "..." ∷ []) (record { within = refl; kept = refl }, lines_and_end names sleds range))
          ∙ ap (λ (l : List (List ℕ)). codes "---" ∷ l) (no_comments names sleds);
    }
