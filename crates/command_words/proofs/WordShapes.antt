-- What a word looks like: to clap, and as an item.
use Rattle.std.proofs.Common.{◌≡◌, ◌∙◌, ◌+◌, ◌==◌, ℕ, Bool, true, false, suc, refl, sym, ap, arith, List, [], ◌∷◌, length, Some, None, true≢false}
use Rattle.std.specs.List.{before_first, after_first, list_any, position_or_len}
use Rattle.std.specs.Prelude.{◌||◌, codes, slice_get}
use Rattle.std.specs.Char.{encode_utf8}
use Rattle.std.specs.Str.{bytes_eq, chars, encode_utf8_all}
use Rattle.std.proofs.lemmas.Bool.{eqb-true}
use Rattle.clap.specs.Lexer.{long_of, short_of}
use Rattle.command_words.specs.Items.{may_name_file}

-- a name, the word --, an option with two dashes (45), or one dash before something else
pub data Shaped : List ℕ → Type 0 where
  named : (word : List ℕ) → may_name_file word ≡ true → long_of word ≡ None → short_of word ≡ None → bytes_eq word (codes "--") ≡ false → Shaped word
  dashes : Shaped (45 ∷ 45 ∷ [])
  long : (first : ℕ) (rest : List ℕ) → Shaped (45 ∷ 45 ∷ first ∷ rest)
  short : (first : ℕ) (rest : List ℕ) → (first == 45) ≡ false → Shaped (45 ∷ first ∷ rest)

-- each word is one of these
pub shaped : (word : List ℕ) → Shaped word
shaped [] = named [] refl refl refl refl
shaped (x ∷ []) = go (x == 45) refl
  where
    go : (b : Bool) → (x == 45) ≡ b → Shaped (x ∷ [])
    go true e = named (x ∷ []) refl (rw e refl) (rw e refl) (rw e refl)
    go false e = named (x ∷ []) refl (rw e refl) (rw e refl) (rw e refl)
shaped (x ∷ y ∷ rest) = go (x == 45) refl (y == 45) refl
  where
    after_dashes : (rest : List ℕ) → Shaped (45 ∷ 45 ∷ rest)
    after_dashes [] = dashes
    after_dashes (first ∷ more) = long first more

    go : (b : Bool) → (x == 45) ≡ b → (d : Bool) → (y == 45) ≡ d → Shaped (x ∷ y ∷ rest)
    go true e true f = rw (eqb-true x 45 e, eqb-true y 45 f) (after_dashes rest)
    go true e false f = rw (eqb-true x 45 e) (short y rest f)
    go false e d f = named (x ∷ y ∷ rest) (rw e refl) (rw e refl) (rw e refl) (rw e refl)

-- the word is text: its bytes are those of its characters
abbrev pub IsText : List ℕ → Type 0
IsText word = encode_utf8_all (chars word) ≡ word

-- so a character comes after a first dash
pub first_char : (y : ℕ) (rest : List ℕ) → IsText (45 ∷ y ∷ rest) → (x : ℕ) × (slice_get (chars (y ∷ rest)) 0 ≡ Some x)
unfolding chars encode_utf8
first_char y rest text = go (chars (y ∷ rest)) refl
  where
    go : (cs : List ℕ) → chars (y ∷ rest) ≡ cs → (x : ℕ) × (slice_get (chars (y ∷ rest)) 0 ≡ Some x)
    go [] e =
        let only : 45 ∷ [] ≡ 45 ∷ y ∷ rest = ap (λ cs. encode_utf8_all (45 ∷ cs)) (sym e) ∙ text in
        let sizes : 1 ≡ suc (suc (length rest)) = ap length only in
        absurd (omega arith)
    go (x ∷ xs) e = (x, rw e refl)

-- what comes before and after the first byte that passes, after one that doesn't
pub before_cons : (p : ℕ → Bool) (x : ℕ) (xs : List ℕ) → p x ≡ false → before_first p (x ∷ xs) ≡ x ∷ before_first p xs
before_cons p x xs fails =
    let next : 1 + position_or_len p xs ≡ suc (position_or_len p xs) = omega arith in
    rw (fails, next) refl

pub after_cons : (p : ℕ → Bool) (x : ℕ) (xs : List ℕ) → p x ≡ false → after_first p (x ∷ xs) ≡ after_first p xs
after_cons p x xs fails =
    let next : (1 + position_or_len p xs) + 1 ≡ suc (position_or_len p xs + 1) = omega arith in
    rw (fails, next) refl

-- if none passes, all comes before it
pub before_none : (p : ℕ → Bool) (xs : List ℕ) → list_any p xs ≡ false → before_first p xs ≡ xs
before_none p [] none = refl
before_none p (x ∷ xs) none = go (p x) refl none (before_none p xs)
  where
    go : (b : Bool) → p x ≡ b → (b || list_any p xs) ≡ false → (list_any p xs ≡ false → before_first p xs ≡ xs) → before_first p (x ∷ xs) ≡ x ∷ xs
    go true e h more = absurd (true≢false h)
    go false e h more = before_cons p x xs e ∙ ap (λ rest. x ∷ rest) (more h)
