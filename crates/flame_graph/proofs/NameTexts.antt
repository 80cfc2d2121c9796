-- What a picture shows of a name is UTF-8.
use Rattle.std.proofs.Common.{◌≡◌, ◌≤◌, ◌<◌, ◌-◌, ◌∷◌, ◌⊎◌, ◌==◌, ◌&&◌, ℕ, zero, suc, Bool, true, false, inl, inr, List, [], length, take, refl, arith}
use Rattle.std.specs.Prelude.{All, codes, nat_le, slice_index, if◌then◌else◌}
use Rattle.std.specs.Char.{encode_utf8}
use Rattle.std.specs.Str.{IsUtf8, chars, is_utf8}
use Rattle.std.proofs.lemmas.Bool.{and_parts, eqb-false, leb-true}
use Rattle.std.proofs.lemmas.List.Elements.{All-cons, All-head, All-nil, All-tail, All-take}
use Rattle.std.proofs.lemmas.Str.{IsUtf8-append, IsUtf8-from_ascii, IsUtf8-from_is_utf8, IsUtf8-nil}
use Rattle.flame_graph.specs.Characters.{begins_with, characters, characters_after, first_size, is_text}
use Rattle.flame_graph.specs.FlameText.{cut_text, is_outside, replacement, shortened, xml_byte, xml_character, xml_characters, xml_text, xml_wide}
use Rattle.flame_graph.specs.Laws.{NamesAreText}

-- ---- the characters of a name

-- a character is UTF-8, or has one byte
abbrev IsCharacter : List ℕ → Type 0
IsCharacter c = (is_text c ≡ true) ⊎ (length c ≡ 1)

begun : (size : ℕ) (bytes : List ℕ) → begins_with size bytes ≡ true → IsCharacter (take size bytes)
begun size bytes is = inl (and_parts _ _ is).1

-- the first character is one
first_is : (b : ℕ) (bytes : List ℕ) → IsCharacter (take (first_size (b ∷ bytes)) (b ∷ bytes))
first_is b bytes =
    go (begins_with 1 (b ∷ bytes)) (begins_with 2 (b ∷ bytes)) (begins_with 3 (b ∷ bytes)) (begins_with 4 (b ∷ bytes)) refl refl refl refl
  where
    go : (one two three four : Bool) → begins_with 1 (b ∷ bytes) ≡ one → begins_with 2 (b ∷ bytes) ≡ two → begins_with 3 (b ∷ bytes) ≡ three
        → begins_with 4 (b ∷ bytes) ≡ four
        → IsCharacter (take (if one then 1 else if two then 2 else if three then 3 else if four then 4 else 1) (b ∷ bytes))
    go true two three four p q r s = begun 1 (b ∷ bytes) p
    go false true three four p q r s = begun 2 (b ∷ bytes) q
    go false false true four p q r s = begun 3 (b ∷ bytes) r
    go false false false true p q r s = begun 4 (b ∷ bytes) s
    go false false false false p q r s = inr refl

all_after : (n : ℕ) (bytes : List ℕ) → All IsCharacter (characters_after n bytes)
all_after n [] = All-nil IsCharacter
all_after zero (b ∷ bytes) =
    All-cons IsCharacter (take (first_size (b ∷ bytes)) (b ∷ bytes)) (characters_after (first_size (b ∷ bytes) - 1) bytes) (first_is b bytes)
    (all_after (first_size (b ∷ bytes) - 1) bytes)
all_after (suc n) (b ∷ bytes) = all_after n bytes

-- ---- their texts

replaced : IsUtf8 replacement
unfolding is_utf8 chars encode_utf8
replaced = IsUtf8-from_is_utf8 replacement refl

ampersand : IsUtf8 (codes "&amp;")
unfolding is_utf8 chars encode_utf8
ampersand = IsUtf8-from_is_utf8 (codes "&amp;") refl

less : IsUtf8 (codes "&lt;")
unfolding is_utf8 chars encode_utf8
less = IsUtf8-from_is_utf8 (codes "&lt;") refl

greater : IsUtf8 (codes "&gt;")
unfolding is_utf8 chars encode_utf8
greater = IsUtf8-from_is_utf8 (codes "&gt;") refl

mark : IsUtf8 (codes "&quot;")
unfolding is_utf8 chars encode_utf8
mark = IsUtf8-from_is_utf8 (codes "&quot;") refl

dots : IsUtf8 (codes "..")
unfolding is_utf8 chars encode_utf8
dots = IsUtf8-from_is_utf8 (codes "..") refl

low : (b : ℕ) → b < 128 → (i : ℕ) → slice_index (b ∷ []) i < 128
low b is zero = is
low b is (suc i) = omega arith

one : (b : ℕ) → b < 128 → IsUtf8 (b ∷ [])
one b is = IsUtf8-from_ascii (b ∷ []) (low b is)

of_byte : (b : ℕ) → IsUtf8 (xml_byte b)
of_byte b = go (b == 38) (b == 60) (b == 62) (b == 34) (nat_le 32 b && nat_le b 126) refl
  where
    go : (amp lt gt quot plain : Bool) → (nat_le 32 b && nat_le b 126) ≡ plain
        → IsUtf8 (if amp then codes "&amp;" else if lt then codes "&lt;" else if gt then codes "&gt;" else if quot then codes "&quot;" else if plain then b ∷ [] else replacement)
    go true lt gt quot plain is = ampersand
    go false true gt quot plain is = less
    go false false true quot plain is = greater
    go false false false true plain is = mark
    go false false false false true is =
        let most : b ≤ 126 = leb-true b 126 (and_parts _ _ is).1 in
        one b (omega (arith, most))
    go false false false false false is = replaced

of_wide : (c : List ℕ) → is_text c ≡ true → IsUtf8 (xml_wide c)
of_wide c is = go (is_outside c)
  where
    go : (outside : Bool) → IsUtf8 (if outside then replacement else c)
    go true = replaced
    go false = IsUtf8-from_is_utf8 c is

of_character : (c : List ℕ) → IsCharacter c → IsUtf8 (xml_character c)
of_character c is = go (length c == 1) refl is
  where
    go : (alone : Bool) → (length c == 1) ≡ alone → IsCharacter c → IsUtf8 (if alone then xml_byte (slice_index c 0) else xml_wide c)
    go true e is = of_byte (slice_index c 0)
    go false e (inl text) = of_wide c text
    go false e (inr size) = absurd (eqb-false (length c) 1 e size)

of_characters : (cs : List (List ℕ)) → All IsCharacter cs → IsUtf8 (xml_characters cs)
of_characters [] all = IsUtf8-nil
of_characters (c ∷ cs) all =
    IsUtf8-append (xml_character c) (xml_characters cs)
    (of_character c (All-head IsCharacter c cs all)) (of_characters cs (All-tail IsCharacter c cs all))

-- ---- names

of_name : (name : List ℕ) → IsUtf8 (xml_text name)
of_name name = of_characters (characters name) (all_after 0 name)

of_cut : (most : ℕ) (name : List ℕ) → IsUtf8 (cut_text most name)
of_cut most name =
    IsUtf8-append (xml_characters (take most (characters name))) (codes "..")
    (of_characters (take most (characters name)) (All-take IsCharacter most (characters name) (all_after 0 name))) dots

of_label : (room : ℕ) (name : List ℕ) → IsUtf8 (shortened room name)
of_label room name = go (nat_le (length (characters name)) room)
  where
    go : (fits : Bool) → IsUtf8 (if fits then xml_text name else cut_text (room - 2) name)
    go true = of_name name
    go false = of_cut (room - 2) name

pub names_are_text : NamesAreText
names_are_text name room = (of_name name, of_label room name)
