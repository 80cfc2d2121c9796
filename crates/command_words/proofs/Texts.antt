-- Texts that are equal or not, and facts that hold of each of a list.
use Rattle.std.proofs.Common.{◌≡◌, ◌∙◌, ◌&&◌, ◌||◌, Bool, true, false, not, refl, sym, ap₂, List, [], ◌∷◌, ◌++◌, map, Option, true≢false}
use Rattle.std.specs.List.{cons_option, filter_map, list_all, list_any}
use Rattle.std.specs.Str.{bytes_eq}
use Rattle.std.proofs.lemmas.Slice.Eq.{bytes_eq-Decides}
use Rattle.clap.specs.Walk.{Text}
use Rattle.command_words.specs.private.Allowed.{are_distinct}
use Rattle.command_words.proofs.Arguments.{Each}

-- ---- texts

pub same_text : (text : Text) → bytes_eq text text ≡ true
same_text text = (bytes_eq-Decides text text).1 refl

pub equal_texts : (one other : Text) → bytes_eq one other ≡ true → one ≡ other
equal_texts one other same = (bytes_eq-Decides one other).0 same

-- texts that differ do so in either order
pub other_way : (one other : Text) → bytes_eq one other ≡ false → bytes_eq other one ≡ false
other_way one other differ = go (bytes_eq other one) refl
  where
    go : (b : Bool) → bytes_eq other one ≡ b → b ≡ false
    go true same =
        let back : bytes_eq one other ≡ true = (bytes_eq-Decides one other).1 (sym (equal_texts other one same)) in
        sym back ∙ differ
    go false e = refl

-- ---- tests

pub and_parts : (a b : Bool) → (a && b) ≡ true → (a ≡ true) × (b ≡ true)
and_parts true b e = (refl, e)
and_parts false b e = absurd (true≢false (sym e))

pub not_true : (b : Bool) → not b ≡ true → b ≡ false
not_true true e = sym e
not_true false e = refl

-- ---- each of a list

pub each_all : {X : Type 0} (P : X → Type 0) (xs : List X) → ((x : X) → P x) → Each P xs
each_all P [] all = tt
each_all P (x ∷ xs) all = (all x, each_all P xs all)

pub each_with : {X : Type 0} (P Q R : X → Type 0) (xs : List X) → ((x : X) → P x → Q x → R x) → Each P xs → Each Q xs → Each R xs
each_with P Q R [] joins one two = tt
each_with P Q R (x ∷ xs) joins one two = (joins x one.0 two.0, each_with P Q R xs joins one.1 two.1)

pub each_append : {X : Type 0} (P : X → Type 0) (xs ys : List X) → Each P (xs ++ ys) → Each P xs × Each P ys
each_append P [] ys each = (tt, each)
each_append P (x ∷ xs) ys each =
    let more = each_append P xs ys each.1 in
    ((each.0, more.0), more.1)

pub each_mapped : {X Y : Type 0} (P : Y → Type 0) (f : X → Y) (xs : List X) → Each P (map f xs) → Each (λ x. P (f x)) xs
each_mapped P f [] each = tt
each_mapped P f (x ∷ xs) each = (each.0, each_mapped P f xs each.1)

-- if none passes, each fails
pub each_fails : {X : Type 0} (p : X → Bool) (xs : List X) → list_any p xs ≡ false → Each (λ x. p x ≡ false) xs
each_fails p [] none = tt
each_fails p (x ∷ xs) none = go (p x) refl none (each_fails p xs)
  where
    go : (b : Bool) → p x ≡ b → (b || list_any p xs) ≡ false → (list_any p xs ≡ false → Each (λ x. p x ≡ false) xs) → (p x ≡ false) × Each (λ x. p x ≡ false) xs
    go true e h more = absurd (true≢false h)
    go false e h more = (e, more h)

-- what holds of each name holds of one among them
pub each_among : (P : Text → Type 0) (names : List Text) (name : Text) → Each P names → list_any (λ n. bytes_eq n name) names ≡ true → P name
each_among P [] name each among = absurd (true≢false (sym among))
each_among P (n ∷ names) name each among = go (bytes_eq n name) refl among (each_among P names name each.1)
  where
    go : (b : Bool) → bytes_eq n name ≡ b → (b || list_any (λ n. bytes_eq n name) names) ≡ true → (list_any (λ n. bytes_eq n name) names ≡ true → P name) → P name
    go true e h more =
        let same : n ≡ name = equal_texts n name e in
        rw (← same) each.0
    go false e h more = more h

-- so if one of them fails, not all pass
pub not_all : (p : Text → Bool) (names : List Text) (name : Text) → list_any (λ n. bytes_eq n name) names ≡ true → p name ≡ false → list_all p names ≡ false
not_all p [] name among fails = absurd (true≢false (sym among))
not_all p (n ∷ names) name among fails = go (bytes_eq n name) refl among (λ h. not_all p names name h fails)
  where
    last : (b : Bool) → (b && false) ≡ false
    last true = refl
    last false = refl

    go : (b : Bool) → bytes_eq n name ≡ b → (b || list_any (λ n. bytes_eq n name) names) ≡ true → (list_any (λ n. bytes_eq n name) names ≡ true → list_all p names ≡ false)
        → (p n && list_all p names) ≡ false
    go true e h more =
        let same : n ≡ name = equal_texts n name e in
        let first : p n ≡ false = rw same fails in
        rw first refl
    go false e h more = rw (more h) (last (p n))

-- tests and answers that agree on each item
pub all_alike : {X : Type 0} (p q : X → Bool) (xs : List X) → Each (λ x. p x ≡ q x) xs → list_all p xs ≡ list_all q xs
all_alike p q [] each = refl
all_alike p q (x ∷ xs) each = ap₂ (λ a b. a && b) each.0 (all_alike p q xs each.1)

pub any_alike : {X : Type 0} (p q : X → Bool) (xs : List X) → Each (λ x. p x ≡ q x) xs → list_any p xs ≡ list_any q xs
any_alike p q [] each = refl
any_alike p q (x ∷ xs) each = ap₂ (λ a b. a || b) each.0 (any_alike p q xs each.1)

pub found_alike : {X Y : Type 0} (f g : X → Option Y) (xs : List X) → Each (λ x. f x ≡ g x) xs → filter_map f xs ≡ filter_map g xs
found_alike f g [] each = refl
found_alike f g (x ∷ xs) each = ap₂ (λ o ys. cons_option o ys) each.0 (found_alike f g xs each.1)

-- ---- distinct texts

pub distinct_parts : (text : Text) (texts : List Text) → are_distinct (text ∷ texts) ≡ true
    → Each (λ other. bytes_eq text other ≡ false) texts × (are_distinct texts ≡ true)
distinct_parts text texts distinct =
    let parts = and_parts (not (list_any (bytes_eq text) texts)) (are_distinct texts) distinct in
    (each_fails (bytes_eq text) texts (not_true (list_any (bytes_eq text) texts) parts.0), parts.1)
