-- What a picture shows of a name is escaped.
use Rattle.std.proofs.Common.{◌≡◌, ◌≤◌, ◌<◌, ◌+◌, ◌-◌, ◌∷◌, ◌++◌, ◌∙◌, ◌⊎◌, ◌==◌, ◌&&◌, ◌||◌, ℕ, zero, suc, Bool, true, false, not, inl, inr, List, [], length, take, get_or, refl, ap, sym, subst, append_assoc, arith}
use Rattle.std.specs.Prelude.{All, IsTrue, codes, nat_le, slice_index, if◌then◌else◌}
use Rattle.std.specs.List.{list_all}
use Rattle.std.specs.Str.{IsUtf8}
use Rattle.std.proofs.Math.Utf8.{encode, encodes, scalar, scalars}
use Rattle.std.proofs.lemmas.Bool.{and_from, and_parts, cases_lt, eq-eqb, eqb-false, false≢true, le-leb, leb-true, ne_eqb}
use Rattle.std.proofs.lemmas.List.{append-nil, length-take-le, take-append-le, take-take, take_all}
use Rattle.std.proofs.lemmas.List.Elements.{All-append, All-cons, All-from_get_or, All-head, All-nil, All-tail, All-take, All-weaker}
use Rattle.std.proofs.lemmas.Str.{IsUtf8-encode, IsUtf8-from_is_utf8, encode_ascii, inside_one, is_utf8-from_IsUtf8, len_utf8_bounds, length-encode}
use Rattle.flame_graph.specs.Characters.{begins_with, characters, characters_after, first_size, is_text}
use Rattle.flame_graph.specs.FlameText.{cut_text, is_outside, replacement, shortened, xml_byte, xml_character, xml_characters, xml_text, xml_wide}
use Rattle.flame_graph.specs.Laws.{EndsEscape, IsEscaped, NamesAreEscaped, is_text_byte}

-- ---- characters

-- a character has one byte, or no byte of ASCII
abbrev IsPlace : List ℕ → Type 0
IsPlace c = (length c ≡ 1) ⊎ All (λ (b : ℕ). 128 ≤ b) c

-- a prefix that is UTF-8, if no shorter one is
shortest : (n : ℕ) (bytes : List ℕ) → 2 ≤ n → begins_with n bytes ≡ true → ((m : ℕ) → 0 < m → m < n → begins_with m bytes ≡ false) → All (λ (b : ℕ). 128 ≤ b) (take n bytes)
shortest n bytes two is none = by_characters (IsUtf8-from_is_utf8 (take n bytes) parts.1)
  where
    parts : (nat_le n (length bytes) ≡ true) × (is_text (take n bytes) ≡ true)
    parts = and_parts _ _ is

    enough : n ≤ length bytes
    enough = leb-true n (length bytes) parts.0

    whole : length (take n bytes) ≡ n
    whole = length-take-le n bytes enough

    -- it is one character, whose bytes aren't ASCII
    by_size : (c : ℕ) (rest : List ℕ) → scalar c ≡ true → encode c ++ rest ≡ take n bytes → (length (encode c) < n) ⊎ (n ≤ length (encode c)) → All (λ (b : ℕ). 128 ≤ b) (take n bytes)
    by_size c rest ok same (inl less) =
        let m : ℕ = length (encode c) in
        let some : 0 < m = omega (arith, length-encode c, (len_utf8_bounds c).0) in
        let front : take m bytes ≡ encode c =
        sym (take-take m n bytes (omega (arith, less))) ∙ (ap (take m) (sym same) ∙ (take-append-le m (encode c) rest (omega arith) ∙ take_all m (encode c) (omega arith))) in
        let text : is_text (take m bytes) ≡ true = ap is_text front ∙ is_utf8-from_IsUtf8 (encode c) (IsUtf8-encode c ok) in
        absurd (false≢true (sym (none m some less) ∙ and_from (nat_le m (length bytes)) (is_text (take m bytes)) (le-leb m (length bytes) (omega (arith, less, enough))) text))
    by_size c rest ok same (inr all) =
        All-from_get_or (λ (b : ℕ). 128 ≤ b) (take n bytes) 0
        (λ i within. by_byte i within (cases_lt (get_or (take n bytes) i 0) 128))
      where
        by_byte : (i : ℕ) → i < length (take n bytes) → (get_or (take n bytes) i 0 < 128) ⊎ (128 ≤ get_or (take n bytes) i 0) → 128 ≤ get_or (take n bytes) i 0
        by_byte i within (inr high) = high
        by_byte i within (inl low) =
            let is_it : c ≡ get_or (take n bytes) i 0 = inside_one c rest (take n bytes) i (sym same) (omega (arith, within, whole, all)) low in
            let one : length (encode c) ≡ 1 = ap (λ (l : List ℕ). length l) (encode_ascii c (omega (arith, is_it, low))) in
            absurd (omega (arith, one, all, two))

    by_characters : IsUtf8 (take n bytes) → All (λ (b : ℕ). 128 ≤ b) (take n bytes)
    by_characters ([], (ok, same)) = absurd (let size = ap (λ (l : List ℕ). length l) same in omega (arith, size, whole, two))
    by_characters (c ∷ cs, (ok, same)) = let both = and_parts (scalar c) (scalars cs) ok in by_size c (encodes cs) both.0 same (cases_lt (length (encode c)) n)

-- the first character is one
first_is : (b : ℕ) (bytes : List ℕ) → IsPlace (take (first_size (b ∷ bytes)) (b ∷ bytes))
first_is b bytes =
    go (begins_with 1 (b ∷ bytes)) (begins_with 2 (b ∷ bytes)) (begins_with 3 (b ∷ bytes)) (begins_with 4 (b ∷ bytes)) refl refl refl refl
  where
    none_below : (n : ℕ) → (0 < n → begins_with 1 (b ∷ bytes) ≡ false) → (1 < n → begins_with 2 (b ∷ bytes) ≡ false) → (2 < n → begins_with 3 (b ∷ bytes) ≡ false) → n ≤ 3
        → (m : ℕ) → 0 < m → m < n + 1 → begins_with m (b ∷ bytes) ≡ false
    none_below n one two three few zero low high = absurd (omega (arith, low))
    none_below n one two three few (suc zero) low high = one (omega (arith, high))
    none_below n one two three few (suc (suc zero)) low high = two (omega (arith, high))
    none_below n one two three few (suc (suc (suc zero))) low high = three (omega (arith, high))
    none_below n one two three few (suc (suc (suc (suc m)))) low high = absurd (omega (arith, few, high))

    go : (one two three four : Bool) → begins_with 1 (b ∷ bytes) ≡ one → begins_with 2 (b ∷ bytes) ≡ two → begins_with 3 (b ∷ bytes) ≡ three
        → begins_with 4 (b ∷ bytes) ≡ four
        → IsPlace (take (if one then 1 else if two then 2 else if three then 3 else if four then 4 else 1) (b ∷ bytes))
    go true two three four p q r s = inl refl
    go false true three four p q r s =
        inr (shortest 2 (b ∷ bytes) (omega arith) q (none_below 1 (λ h. p) (λ h. absurd (omega (arith, h))) (λ h. absurd (omega (arith, h))) (omega arith)))
    go false false true four p q r s =
        inr (shortest 3 (b ∷ bytes) (omega arith) r (none_below 2 (λ h. p) (λ h. q) (λ h. absurd (omega (arith, h))) (omega arith)))
    go false false false true p q r s = inr (shortest 4 (b ∷ bytes) (omega arith) s (none_below 3 (λ h. p) (λ h. q) (λ h. r) (omega arith)))
    go false false false false p q r s = inl refl

all_after : (n : ℕ) (bytes : List ℕ) → All IsPlace (characters_after n bytes)
all_after n [] = All-nil IsPlace
all_after zero (b ∷ bytes) =
    All-cons IsPlace (take (first_size (b ∷ bytes)) (b ∷ bytes)) (characters_after (first_size (b ∷ bytes) - 1) bytes) (first_is b bytes)
    (all_after (first_size (b ∷ bytes) - 1) bytes)
all_after (suc n) (b ∷ bytes) = all_after n bytes

-- ---- escapes

-- each ampersand begins an escape
abbrev Escapes : List ℕ → Type 0
Escapes text = (before after : List ℕ) → text ≡ before ++ 38 ∷ after → EndsEscape after

-- a byte that is none
byte_then : (b : ℕ) (text : List ℕ) → (b ≡ 38 → ⊥) → Escapes text → Escapes (b ∷ text)
byte_then b text isnt escapes [] after is = absurd (isnt cc)
byte_then b text isnt escapes (x ∷ before) after is = escapes before after cc

bytes_then : (bytes text : List ℕ) → All (λ (b : ℕ). b ≡ 38 → ⊥) bytes → Escapes text → Escapes (bytes ++ text)
bytes_then [] text none escapes = escapes
bytes_then (b ∷ bytes) text none escapes =
    byte_then b (bytes ++ text) (All-head (λ (x : ℕ). x ≡ 38 → ⊥) b bytes none) (bytes_then bytes text (All-tail (λ (x : ℕ). x ≡ 38 → ⊥) b bytes none) escapes)

-- an escape
escape_then : (ending text : List ℕ) → All (λ (b : ℕ). b ≡ 38 → ⊥) ending → EndsEscape (ending ++ text) → Escapes text → Escapes (38 ∷ ending ++ text)
escape_then ending text none ends escapes [] after is = let P : List ℕ → Type 0 = EndsEscape in subst P (cc) ends
escape_then ending text none ends escapes (x ∷ before) after is = bytes_then ending text none escapes before after cc

-- a text of such bytes that can stand before others
record Joins (text : List ℕ) : Type 0 where
  bytes : All (λ (b : ℕ). IsTrue (is_text_byte b)) text
  joins : (later : List ℕ) → Escapes later → Escapes (text ++ later)

-- bytes that are none of an ampersand
all_join : (text : List ℕ) → All (λ (b : ℕ). IsTrue (is_text_byte b)) text → All (λ (b : ℕ). b ≡ 38 → ⊥) text → Joins text
all_join text fine none = record { bytes = fine; joins = λ later escapes. bytes_then text later none escapes }

escape_join : (ending : List ℕ) → All (λ (b : ℕ). IsTrue (is_text_byte b)) (38 ∷ ending) → All (λ (b : ℕ). b ≡ 38 → ⊥) ending
    → ((later : List ℕ) → EndsEscape (ending ++ later)) → Joins (38 ∷ ending)
escape_join ending fine none ends = record { bytes = fine; joins = λ later escapes. escape_then ending later none (ends later) escapes }

fine : (text : List ℕ) → list_all is_text_byte text ≡ true → All (λ (b : ℕ). IsTrue (is_text_byte b)) text
fine [] is = All-nil (λ (b : ℕ). IsTrue (is_text_byte b))
fine (b ∷ text) is =
    let parts = and_parts (is_text_byte b) (list_all is_text_byte text) is in
    All-cons (λ (x : ℕ). IsTrue (is_text_byte x)) b text parts.0 (fine text parts.1)

no_ampersand : (text : List ℕ) → list_all (λ (b : ℕ). not (b == 38)) text ≡ true → All (λ (b : ℕ). b ≡ 38 → ⊥) text
no_ampersand [] is = All-nil (λ (b : ℕ). b ≡ 38 → ⊥)
no_ampersand (b ∷ text) is =
    let parts = and_parts (not (b == 38)) (list_all (λ (x : ℕ). not (x == 38)) text) is in
    All-cons (λ (x : ℕ). x ≡ 38 → ⊥) b text (λ same. false≢true (sym (ap not (eq-eqb b 38 same)) ∙ parts.0)) (no_ampersand text parts.1)

-- ---- the escapes, and what replaces a character

ampersand : Joins (codes "&amp;")
ampersand = escape_join (codes "amp;") (fine (codes "&amp;") refl) (no_ampersand (codes "amp;") refl) (λ later. (later, inl refl))

less : Joins (codes "&lt;")
less = escape_join (codes "lt;") (fine (codes "&lt;") refl) (no_ampersand (codes "lt;") refl) (λ later. (later, inr (inl refl)))

greater : Joins (codes "&gt;")
greater = escape_join (codes "gt;") (fine (codes "&gt;") refl) (no_ampersand (codes "gt;") refl) (λ later. (later, inr (inr (inl refl))))

mark : Joins (codes "&quot;")
mark =
    escape_join (codes "quot;") (fine (codes "&quot;") refl) (no_ampersand (codes "quot;") refl)
    (λ later. (later, inr (inr (inr refl))))

replaced : Joins replacement
replaced = all_join replacement (fine replacement refl) (no_ampersand replacement refl)

dots : Joins (codes "..")
dots = all_join (codes "..") (fine (codes "..") refl) (no_ampersand (codes "..") refl)

-- ---- characters

of_byte : (b : ℕ) → Joins (xml_byte b)
of_byte b = go (b == 38) (b == 60) (b == 62) (b == 34) (nat_le 32 b && nat_le b 126) refl refl refl refl refl
  where
    go : (amp lt gt quot plain : Bool) → (b == 38) ≡ amp → (b == 60) ≡ lt → (b == 62) ≡ gt → (b == 34) ≡ quot → (nat_le 32 b && nat_le b 126) ≡ plain
        → Joins (if amp then codes "&amp;" else if lt then codes "&lt;" else if gt then codes "&gt;" else if quot then codes "&quot;" else if plain then b ∷ [] else replacement)
    go true lt gt quot plain p q r s t = ampersand
    go false true gt quot plain p q r s t = less
    go false false true quot plain p q r s t = greater
    go false false false true plain p q r s t = mark
    go false false false false true p q r s t =
        let parts = and_parts (nat_le 32 b) (nat_le b 126) t in
        let most : b ≤ 126 = leb-true b 126 parts.1 in
        let del : (b == 127) ≡ false = ne_eqb b 127 (λ same. omega (arith, same, most)) in
        let not_those : not (b == 127 || b == 34 || b == 60 || b == 62) ≡ true =
        ap not (ap (λ (u : Bool). u || b == 34 || b == 60 || b == 62) del ∙ (ap (λ (u : Bool). u || b == 60 || b == 62) s ∙ (ap (λ (u : Bool). u || b == 62) q ∙ r))) in
        let whole = and_from (nat_le 32 b) (not (b == 127 || b == 34 || b == 60 || b == 62)) parts.0 not_those in
        all_join (b ∷ []) (All-cons (λ (x : ℕ). IsTrue (is_text_byte x)) b [] whole (All-nil (λ (x : ℕ). IsTrue (is_text_byte x))))
        (All-cons (λ (x : ℕ). x ≡ 38 → ⊥) b [] (eqb-false b 38 p) (All-nil (λ (x : ℕ). x ≡ 38 → ⊥)))
    go false false false false false p q r s t = replaced

-- a byte that isn't ASCII
high_fine : (b : ℕ) → 128 ≤ b → IsTrue (is_text_byte b)
high_fine b high =
    let isnt : (n : ℕ) → n < 128 → (b == n) ≡ false = λ n low. ne_eqb b n (λ same. omega (arith, same, high, low)) in
    and_from (nat_le 32 b) (not (b == 127 || b == 34 || b == 60 || b == 62)) (le-leb 32 b (omega (arith, high)))
    (ap not (ap (λ (u : Bool). u || b == 34 || b == 60 || b == 62) (isnt 127 (omega arith))
    ∙ (ap (λ (u : Bool). u || b == 60 || b == 62) (isnt 34 (omega arith)) ∙ (ap (λ (u : Bool). u || b == 62) (isnt 60 (omega arith)) ∙ isnt 62 (omega arith)))))

of_wide : (c : List ℕ) → All (λ (b : ℕ). 128 ≤ b) c → Joins (xml_wide c)
of_wide c high = go (is_outside c)
  where
    go : (outside : Bool) → Joins (if outside then replacement else c)
    go true = replaced
    go false =
        all_join c (All-weaker (λ (b : ℕ). 128 ≤ b) (λ (b : ℕ). IsTrue (is_text_byte b)) high_fine c high)
        (All-weaker (λ (b : ℕ). 128 ≤ b) (λ (b : ℕ). b ≡ 38 → ⊥) (λ b up same. omega (arith, up, same)) c high)

of_character : (c : List ℕ) → IsPlace c → Joins (xml_character c)
of_character c is = go (length c == 1) refl is
  where
    go : (alone : Bool) → (length c == 1) ≡ alone → IsPlace c → Joins (if alone then xml_byte (slice_index c 0) else xml_wide c)
    go true e is = of_byte (slice_index c 0)
    go false e (inr high) = of_wide c high
    go false e (inl size) = absurd (eqb-false (length c) 1 e size)

joined : (one other : List ℕ) → Joins one → Joins other → Joins (one ++ other)
joined one other first second = record {
  bytes = All-append (λ (b : ℕ). IsTrue (is_text_byte b)) one other first.bytes second.bytes;
  joins = λ later escapes. let P : List ℕ → Type 0 = Escapes in subst P (sym (append_assoc one other later)) (first.joins (other ++ later) (second.joins later escapes));
}

of_characters : (cs : List (List ℕ)) → All IsPlace cs → Joins (xml_characters cs)
of_characters [] all = record { bytes = All-nil (λ (b : ℕ). IsTrue (is_text_byte b)); joins = λ later escapes. escapes }
of_characters (c ∷ cs) all =
    joined (xml_character c) (xml_characters cs) (of_character c (All-head IsPlace c cs all)) (of_characters cs (All-tail IsPlace c cs all))

-- ---- names

of_cut : (most : ℕ) (name : List ℕ) → Joins (cut_text most name)
of_cut most name =
    joined (xml_characters (take most (characters name))) (codes "..") (of_characters (take most (characters name)) (All-take IsPlace most (characters name) (all_after 0 name))) dots

of_label : (room : ℕ) (name : List ℕ) → Joins (shortened room name)
of_label room name = go (nat_le (length (characters name)) room)
  where
    go : (fits : Bool) → Joins (if fits then xml_text name else cut_text (room - 2) name)
    go true = of_characters (characters name) (all_after 0 name)
    go false = of_cut (room - 2) name

nothing : Escapes []
nothing [] after is = absurd cc
nothing (x ∷ before) after is = absurd cc

escaped : (text : List ℕ) → Joins text → IsEscaped text
escaped text is = record { bytes = is.bytes; ampersands = let P : List ℕ → Type 0 = Escapes in subst P (append-nil text) (is.joins [] nothing) }

pub names_are_escaped : NamesAreEscaped
names_are_escaped name room = (escaped (xml_text name) (of_characters (characters name) (all_after 0 name)), escaped (shortened room name) (of_label room name))
