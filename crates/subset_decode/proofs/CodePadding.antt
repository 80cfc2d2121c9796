-- The bytes after those of a code stay 0.
use Rattle.std.proofs.Common.{◌≡◌, ℕ, ◌+◌, ◌-◌, ◌≤◌, List, length, drop, replicate, sym, ap, ◌∙◌, drop-drop, arith}
use Rattle.std.proofs.lemmas.List.{drop-replicate}
use Rattle.std.proofs.lemmas.Slice.{drop-put_mid}
use borrow.Rule.Slice.PartMut.{put_mid}

pub padded_on : (xs ys : List ℕ) (len more : ℕ) → length xs ≡ 6 → length ys ≡ len + more - len → len + more ≤ 6
    → drop len xs ≡ replicate (6 - len) 0 → drop (len + more) (put_mid len (len + more - len) xs ys) ≡ replicate (6 - (len + more)) 0
padded_on xs ys len more whole wide fits zeros =
    drop-put_mid len (len + more - len) xs ys (len + more) (omega arith) (omega arith) wide
    ∙ ap (λ (n : ℕ). drop n xs) (omega arith)
    ∙ sym (drop-drop more len xs)
    ∙ ap (drop more) zeros
    ∙ drop-replicate more (6 - len) 0
    ∙ ap (λ (n : ℕ). replicate n 0) (omega arith)
