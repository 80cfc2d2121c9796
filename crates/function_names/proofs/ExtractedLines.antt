-- The lines of the map of a program, as texts and as entries.
use Rattle.std.proofs.Common.{◌≡◌, ◌≤◌, ◌<◌, ◌^◌, ◌∷◌, ◌++◌, ◌∙◌, ◌==◌, ◌||◌, ◌&&◌, ℕ, Bool, true, false, List, [], Some, None, drop, length, map, refl, ap, sym, arith, append_assoc, inl}
use Rattle.std.specs.Prelude.{All, codes, decimal, filter, nat_le, not, slice_index_or, if◌then◌else◌}
use Rattle.std.specs.List.{flat_map, list_all}
use Rattle.std.specs.Option.{option_map_or, unwrap_or}
use Rattle.std.specs.Str.Lines.{lines}
use Rattle.std.proofs.lemmas.Bool.{and_from, and_parts, eqb-true, leb-true, lt-ltb, ne_eqb}
use Rattle.std.proofs.lemmas.List.{length-append}
use Rattle.std.proofs.lemmas.List.Elements.{All-head, All-tail}
use Rattle.text_lines.specs.Written.{are_written_words, is_word_byte, is_written_word, written_line, written_text}
use Rattle.text_lines.proofs.WrittenLemmas.{number_short, number_word, written_lines}
use Rattle.map_names.specs.Entries.{NamedFunction, is_entry, is_event, is_exit, is_kind, is_truth}
use Rattle.map_names.proofs.SpelledLines.{joined_so}
use Rattle.map_names.specs.Maps.{is_comment}
use Rattle.map_names.specs.Spelling.{SpellEach, SpellsEntry, SpellsMap, single_byte}
use Rattle.xray_image.specs.declared.sled.Sled.{Sled}
use Rattle.xray_image.specs.declared.sled.SledKind.{SledKind}
use Rattle.xray_image.specs.declared.sled.SledKind.TheVariants.{Entry as EntryKind, Exit, Tail, Args}
use Rattle.xray_image.specs.Extract.{address_text, extract_text, kind_text, sled_line, truth_text}
use Rattle.xray_image.specs.Ids.{name_of}
use Rattle.xray_image.specs.Program.{Program, is_name_byte}
use Rattle.function_names.proofs.WrittenWords.{address_bytes, address_is, word_append, word_byte, word_bytes, word_is}

-- the entry of a sled
abbrev pub sled_entry : Program → Sled → NamedFunction
sled_entry program sled = record { id = sled.id; name = unwrap_or (name_of program sled.id) [] }

-- ---- names

either_byte : (a b : Bool) → {P : Type 0} → (a || b) ≡ true → (a ≡ true → P) → (b ≡ true → P) → P
either_byte true b is one other = one refl
either_byte false b is one other = other is

-- a byte of a name is one of a word, and no mark
name_range : (b : ℕ) → is_name_byte b ≡ true → (36 ≤ b) × (b ≤ 126) × (b ≡ 39 → ⊥)
name_range b is =
    either_byte ((nat_le 65 b && nat_le b 90) || (nat_le 97 b && nat_le b 122) || (nat_le 48 b && nat_le b 57) || (b == 95) || (b == 46)) (b == 36) is
    (λ five. either_byte ((nat_le 65 b && nat_le b 90) || (nat_le 97 b && nat_le b 122) || (nat_le 48 b && nat_le b 57) || (b == 95)) (b == 46) five
    (λ four. either_byte ((nat_le 65 b && nat_le b 90) || (nat_le 97 b && nat_le b 122) || (nat_le 48 b && nat_le b 57)) (b == 95) four
    (λ three. either_byte ((nat_le 65 b && nat_le b 90) || (nat_le 97 b && nat_le b 122)) (nat_le 48 b && nat_le b 57) three
    (λ two. either_byte (nat_le 65 b && nat_le b 90) (nat_le 97 b && nat_le b 122) two (between 65 90 (omega arith) (omega arith)) (between 97 122 (omega arith) (omega arith)))
    (between 48 57 (omega arith) (omega arith)))
    (λ one. exactly 95 (omega arith) (omega arith) one))
    (λ one. exactly 46 (omega arith) (omega arith) one))
    (λ one. dollar (eqb-true b 36 one))
  where
    between : (low high : ℕ) → 40 ≤ low → high ≤ 126 → (nat_le low b && nat_le b high) ≡ true → (36 ≤ b) × (b ≤ 126) × (b ≡ 39 → ⊥)
    between low high up down both =
        let parts = and_parts (nat_le low b) (nat_le b high) both in
        let least = leb-true low b parts.0 in
        let most = leb-true b high parts.1 in
        (omega (arith, least, up), omega (arith, most, down), λ same. omega (arith, same, least, up))

    exactly : (n : ℕ) → 40 ≤ n → n ≤ 126 → (b == n) ≡ true → (36 ≤ b) × (b ≤ 126) × (b ≡ 39 → ⊥)
    exactly n up down one = let same = eqb-true b n one in (omega (arith, same, up), omega (arith, same, down), λ e. omega (arith, e, same, up))

    dollar : b ≡ 36 → (36 ≤ b) × (b ≤ 126) × (b ≡ 39 → ⊥)
    dollar same = (omega (arith, same), omega (arith, same), λ e. omega (arith, e, same))

name_bytes : (name : List ℕ) → All (λ (b : ℕ). is_name_byte b ≡ true) name → (list_all is_word_byte name ≡ true) × (flat_map single_byte name ≡ name)
name_bytes [] each = (refl, refl)
name_bytes (b ∷ name) each =
    let range = name_range b (All-head (λ (x : ℕ). is_name_byte x ≡ true) b name each) in
    let rest = name_bytes name (All-tail (λ (x : ℕ). is_name_byte x ≡ true) b name each) in (
      and_from (is_word_byte b) (list_all is_word_byte name) (word_byte b range.0 range.1) rest.0,
      ap (λ (t : Bool). (if t then 39 ∷ 39 ∷ [] else b ∷ []) ++ flat_map single_byte name) (ne_eqb b 39 range.2) ∙ ap (λ (l : List ℕ). b ∷ l) rest.1,
    )

-- ---- a line

-- its words
abbrev words : (id address function kind always name : List ℕ) → List (List ℕ)
words id address function kind always name =
    codes "-" ∷ codes "{" ∷ codes "id:" ∷ (id ++ codes ",") ∷ codes "address:" ∷ (address ++ codes ",") ∷ codes "function:" ∷ (function ++ codes ",")
    ∷ codes "kind:" ∷ (kind ++ codes ",") ∷ codes "always-instrument:" ∷ (always ++ codes ",") ∷ codes "function-name:" ∷ (codes "'" ++ name ++ codes "'") ∷ codes "}" ∷ []

line_is : (id address function kind always name : List ℕ)
    → codes "- { id: " ++ id ++ codes ", address: " ++ address ++ codes ", function: " ++ function ++ codes ", kind: " ++ kind
    ++ codes ", always-instrument: " ++ always ++ codes ", function-name: '" ++ name ++ codes "' }\n"
    ≡ written_line (words id address function kind always name) ++ 10 ∷ []
line_is id address function kind always name = simp append_assoc

pieces_are : (id address function kind always name : List ℕ)
    → written_line (words id address function kind always name)
    ≡ codes "- { id: " ++ id ++ codes ", address: " ++ address ++ codes ", function: " ++ function ++ codes ", kind: " ++ kind
    ++ codes ", always-instrument: " ++ always ++ (codes ", function-name: " ++ (39 ∷ name ++ 39 ∷ [])) ++ codes " }"
pieces_are id address function kind always name =
    let quoted : List ℕ = 39 ∷ name ++ 39 ∷ [] in
    let fifth : List ℕ = codes " function-name: " ++ (quoted ++ codes " }") in
    let fourth : List ℕ = codes " always-instrument: " ++ ((always ++ codes ",") ++ fifth) in
    let third : List ℕ = codes " kind: " ++ ((kind ++ codes ",") ++ fourth) in
    let second : List ℕ = codes " function: " ++ ((function ++ codes ",") ++ third) in
    let first : List ℕ = codes " address: " ++ ((address ++ codes ",") ++ second) in
    ap (λ (t : List ℕ). codes "- { id: " ++ t) (append_assoc id (codes ",") first
    ∙ ap (λ (t : List ℕ). id ++ (codes ", address: " ++ t)) (append_assoc address (codes ",") second
    ∙ ap (λ (t : List ℕ). address ++ (codes ", function: " ++ t)) (append_assoc function (codes ",") third
    ∙ ap (λ (t : List ℕ). function ++ (codes ", kind: " ++ t)) (append_assoc kind (codes ",") fourth
    ∙ ap (λ (t : List ℕ). kind ++ (codes ", always-instrument: " ++ t)) (append_assoc always (codes ",") fifth)))))
    ∙ sym (joined_so (codes "- { id: ") id (codes ", address: ") address (codes ", function: ") function (codes ", kind: ") kind (codes ", always-instrument: ") always
    (codes ", function-name: " ++ quoted) (codes " }"))

-- the words of a sled
abbrev pub sled_words : Program → Sled → List (List ℕ)
sled_words program sled =
    words (decimal sled.id) (address_text sled.address) (address_text sled.function) (kind_text sled.kind) (truth_text sled.always) (unwrap_or (name_of program sled.id) [])

-- what fits a line
pub record Fits (program : Program) (sled : Sled) : Type 0 where
  pub id : sled.id ≤ 4294967295
  pub address : sled.address < 2 ^ 64
  pub function : sled.function < 2 ^ 64
  pub name : All (λ (b : ℕ). is_name_byte b ≡ true) (unwrap_or (name_of program sled.id) [])

kind_is : (kind : SledKind) → is_kind (kind_text kind) ≡ true
unfolding is_kind is_entry is_exit is_event
kind_is EntryKind = refl
kind_is Exit = refl
kind_is Tail = refl
kind_is Args = refl

truth_is : (always : Bool) → is_truth (truth_text always) ≡ true
unfolding is_truth
truth_is true = refl
truth_is false = refl

pub sled_spelled : (program : Program) (sled : Sled) → Fits program sled → SpellsEntry (written_line (sled_words program sled)) (sled_entry program sled)
sled_spelled program sled fits =
    let name : List ℕ = unwrap_or (name_of program sled.id) [] in
    record {
      id = decimal sled.id;
      address = address_text sled.address;
      function = address_text sled.function;
      kind = kind_text sled.kind;
      always = truth_text sled.always;
      named = codes ", function-name: " ++ (39 ∷ name ++ 39 ∷ []);
      ending = codes " }";
      id_is = number_short sled.id fits.id;
      address_is = address_is sled.address fits.address;
      function_is = address_is sled.function fits.function;
      kind_is = kind_is sled.kind;
      always_is = truth_is sled.always;
      name_is = inl (record {
        written = 39 ∷ name ++ 39 ∷ [];
        spelled = inl (ap (λ (l : List ℕ). 39 ∷ l ++ 39 ∷ []) (sym (name_bytes name fits.name).1));
        labelled = refl;
        direct = λ bare. absurd (let sizes = ap (λ (l : List ℕ). length l) bare in omega (arith, sizes));
      });
      ending_is = record { version = []; brace = codes " }"; version_is = inl refl; brace_is = inl refl; joined = refl };
      joined = pieces_are (decimal sled.id) (address_text sled.address) (address_text sled.function) (kind_text sled.kind) (truth_text sled.always) name;
    }

-- ---- words are words

kind_bytes : (kind : SledKind) → list_all is_word_byte (kind_text kind) ≡ true
kind_bytes EntryKind = refl
kind_bytes Exit = refl
kind_bytes Tail = refl
kind_bytes Args = refl

truth_bytes : (always : Bool) → list_all is_word_byte (truth_text always) ≡ true
truth_bytes true = refl
truth_bytes false = refl

-- a word and a comma
with_comma : (word : List ℕ) → list_all is_word_byte word ≡ true → is_written_word (word ++ codes ",") ≡ true
with_comma word bytes = word_is (word ++ codes ",") (let size = length-append word (codes ",") in omega (arith, size)) (word_append word (codes ",") bytes refl)

quoted_word : (name : List ℕ) → list_all is_word_byte name ≡ true → is_written_word (codes "'" ++ name ++ codes "'") ≡ true
quoted_word name bytes = word_is (39 ∷ name ++ codes "'") (omega arith) (word_append name (codes "'") bytes refl)

-- the words that vary
words_written : (a b c d e f : List ℕ) → is_written_word (a ++ codes ",") ≡ true → is_written_word (b ++ codes ",") ≡ true → is_written_word (c ++ codes ",") ≡ true
    → is_written_word (d ++ codes ",") ≡ true → is_written_word (e ++ codes ",") ≡ true → is_written_word (codes "'" ++ f ++ codes "'") ≡ true
    → are_written_words (words a b c d e f) ≡ true
words_written a b c d e f p q r s t u =
    and_from (is_written_word (a ++ codes ",")) _ p
    (and_from (is_written_word (b ++ codes ",")) _ q
    (and_from (is_written_word (c ++ codes ",")) _ r
    (and_from (is_written_word (d ++ codes ",")) _ s
    (and_from (is_written_word (e ++ codes ",")) _ t
    (and_from (is_written_word (codes "'" ++ f ++ codes "'")) true u refl)))))

pub sled_words_are : (program : Program) (sled : Sled) → Fits program sled → are_written_words (sled_words program sled) ≡ true
sled_words_are program sled fits =
    words_written (decimal sled.id) (address_text sled.address) (address_text sled.function) (kind_text sled.kind) (truth_text sled.always) (unwrap_or (name_of program sled.id) [])
    (with_comma (decimal sled.id) (word_bytes (decimal sled.id) (number_word sled.id (let low = fits.id in omega (arith, low)))))
    (with_comma (address_text sled.address) (address_bytes sled.address fits.address))
    (with_comma (address_text sled.function) (address_bytes sled.function fits.function))
    (with_comma (kind_text sled.kind) (kind_bytes sled.kind)) (with_comma (truth_text sled.always) (truth_bytes sled.always))
    (quoted_word (unwrap_or (name_of program sled.id) []) (name_bytes (unwrap_or (name_of program sled.id) []) fits.name).0)

-- ---- all lines

sleds_written : (program : Program) (sleds : List Sled)
    → flat_map (sled_line program) sleds ++ codes "...\n" ≡ written_text (map (sled_words program) sleds ++ (codes "..." ∷ []) ∷ [])
sleds_written program [] = refl
sleds_written program (sled ∷ sleds) =
    append_assoc (sled_line program sled) (flat_map (sled_line program) sleds) (codes "...\n")
    ∙ (ap (λ (l : List ℕ). l ++ (flat_map (sled_line program) sleds ++ codes "...\n"))
    (line_is (decimal sled.id) (address_text sled.address) (address_text sled.function) (kind_text sled.kind) (truth_text sled.always) (unwrap_or (name_of program sled.id) []))
    ∙ ap (λ (l : List ℕ). (written_line (sled_words program sled) ++ 10 ∷ []) ++ l) (sleds_written program sleds))

all_written : (program : Program) (sleds : List Sled) → All (Fits program) sleds → are_written_words (codes "..." ∷ []) ≡ true → list_all are_written_words (map (sled_words program) sleds ++ (codes "..." ∷ []) ∷ []) ≡ true
all_written program [] each last = refl
all_written program (sled ∷ sleds) each last =
    and_from (are_written_words (sled_words program sled)) (list_all are_written_words (map (sled_words program) sleds ++ (codes "..." ∷ []) ∷ []))
    (sled_words_are program sled (All-head (Fits program) sled sleds each)) (all_written program sleds (All-tail (Fits program) sled sleds each) last)

lines_of_sleds : (program : Program) (sleds : List Sled)
    → map written_line (map (sled_words program) sleds ++ (codes "..." ∷ []) ∷ []) ≡ map (λ (s : Sled). written_line (sled_words program s)) sleds ++ codes "..." ∷ []
lines_of_sleds program [] = refl
lines_of_sleds program (sled ∷ sleds) = ap (λ (l : List (List ℕ)). written_line (sled_words program sled) ∷ l) (lines_of_sleds program sleds)

each_spelled : (program : Program) (sleds : List Sled) → All (Fits program) sleds → SpellEach (map (λ (s : Sled). written_line (sled_words program s)) sleds) (map (sled_entry program) sleds)
each_spelled program [] each = tt
each_spelled program (sled ∷ sleds) each = (sled_spelled program sled (All-head (Fits program) sled sleds each), each_spelled program sleds (All-tail (Fits program) sled sleds each))

-- no line of them is a comment
begins_so : (rest : List ℕ) → is_comment (45 ∷ rest) ≡ false
begins_so rest =
    ap (λ (t : Bool). option_map_or (λ (n : ℕ). slice_index_or (45 ∷ rest) n 0 == 35) (if t then Some 0 else None) false) (lt-ltb 0 (length (45 ∷ rest)) (omega arith))

abbrev said_lines : List (List ℕ) → List (List ℕ)
said_lines all = filter (λ (line : List ℕ). not (is_comment line)) all

none_comments : (program : Program) (sleds : List Sled)
    → said_lines (map (λ (s : Sled). written_line (sled_words program s)) sleds ++ codes "..." ∷ []) ≡ map (λ (s : Sled). written_line (sled_words program s)) sleds ++ codes "..." ∷ []
none_comments program [] = refl
none_comments program (sled ∷ sleds) =
    let line : List ℕ = written_line (sled_words program sled) in
    let rest : List (List ℕ) = said_lines (map (λ (s : Sled). written_line (sled_words program s)) sleds ++ codes "..." ∷ []) in
    ap (λ (t : Bool). if not t then line ∷ rest else rest) (begins_so (drop 1 line)) ∙ ap (λ (l : List (List ℕ)). line ∷ l) (none_comments program sleds)

pub map_spelled : (program : Program) → All (Fits program) program.sleds → SpellsMap (extract_text program) (map (sled_entry program) program.sleds)
map_spelled program each =
    let sleds : List Sled = program.sleds in
    let all : List (List (List ℕ)) = map (sled_words program) sleds ++ (codes "..." ∷ []) ∷ [] in
    record {
      said = map (λ (s : Sled). written_line (sled_words program s)) sleds;
      each = each_spelled program sleds each;
      whole =
          ap said_lines (ap lines (append_assoc (codes "---\n") (flat_map (sled_line program) sleds) (codes "...\n") ∙ ap (λ (l : List ℕ). codes "---\n" ++ l) (sleds_written program sleds))
          ∙ (written_lines ((codes "---" ∷ []) ∷ all) (all_written program sleds each refl)
          ∙ ap (λ (l : List (List ℕ)). codes "---" ∷ l) (lines_of_sleds program sleds)))
          ∙ ap (λ (l : List (List ℕ)). codes "---" ∷ l) (none_comments program sleds);
    }
