-- Lists of words that grow: by one sled's, and by zeros.
use Rattle.std.proofs.Common.{◌≡◌, ◌≤◌, ℕ, ◌+◌, ◌-◌, List, ◌++◌, [], ◌∷◌, Some, take, length, replicate, ap, append_assoc, ◌∙◌, sym, append-nil, take_all, arith}
use Rattle.std.specs.Prelude.{slice_get}
use Rattle.std.specs.List.{flat_map}
use Rattle.std.proofs.lemmas.Grind.{flat_map-append}
use Rattle.std.proofs.lemmas.List.{take_more}
use Rattle.std.proofs.lemmas.Option.{slice_get_within, get_or_from_slice_get}

-- one more item adds its part
pub flat_map_more : {X Y : Type 0} (f : X → List Y) (xs : List X) (i : ℕ) (x : X) (before piece after : List Y)
    → slice_get xs i ≡ Some x → before ≡ flat_map f (take i xs) → piece ≡ f x → after ≡ before ++ piece
    → after ≡ flat_map f (take (i + 1) xs)
flat_map_more f xs i x before piece after h b p a =
    let front = ap (flat_map f) (take_more xs i x (slice_get_within xs i x h) ∙ ap (λ y. take i xs ++ y ∷ []) (get_or_from_slice_get xs i x x h)) in
    let whole = front ∙ flat_map-append f (take i xs) (x ∷ []) ∙ ap (λ ys. flat_map f (take i xs) ++ ys) (append-nil (f x)) in
    a ∙ ap (λ ys. ys ++ piece) b ∙ ap (λ ys. flat_map f (take i xs) ++ ys) p ∙ sym whole

-- zeros after the last item's part
pub zeros_after : {X : Type 0} (f : X → List ℕ) (xs : List X) (i n len : ℕ) (before after : List ℕ)
    → length xs ≤ i → len ≡ length before → before ≡ flat_map f (take i xs)
    → after ≡ take (len + n) before ++ replicate (len + n - len) 0 → after ≡ flat_map f xs ++ replicate n 0
zeros_after f xs i n len before after last l b a =
    let whole : take (len + n) before ≡ before = take_all (len + n) before (omega arith) in
    let items = take_all i xs last in
    let count : len + n - len ≡ n = omega arith in
    a ∙ ap (λ ys. ys ++ replicate (len + n - len) 0) (whole ∙ b ∙ ap (flat_map f) items) ∙ ap (λ k. flat_map f xs ++ replicate k 0) count

-- four parts, one after the other
pub four_pieces : {X : Type 0} (base a b c d p q r s : List X) → p ≡ base ++ a → q ≡ p ++ b → r ≡ q ++ c → s ≡ r ++ d → s ≡ base ++ (a ++ b ++ c ++ d)
four_pieces base a b c d p q r s first second third fourth =
    fourth ∙ ap (λ xs. xs ++ d) (third ∙ ap (λ xs. xs ++ c) (second ∙ ap (λ xs. xs ++ b) first)) ∙ simp append_assoc
