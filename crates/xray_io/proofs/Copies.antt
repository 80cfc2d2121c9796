-- Equal bytes, some at a time.
use Rattle.std.proofs.Common.{◌≡◌, ℕ, ◌+◌, ◌-◌, ◌≤◌, List, ◌++◌, take, replicate, ap, ◌∙◌, arith}
use Rattle.std.proofs.lemmas.List.{take-replicate, replicate-append-replicate}

-- n equal bytes
abbrev pub copies : ℕ → ℕ → List ℕ
copies n byte = replicate n byte

-- copies, and copies after them
copies_both : (a b n byte : ℕ) → a + b ≡ n → copies a byte ++ copies b byte ≡ copies n byte
copies_both a b n byte is = replicate-append-replicate a b byte ∙ ap (λ k. copies k byte) is

-- all but those that are left, and then some of these, at most the sixteen at hand
pub copies_more : (count left some byte : ℕ) → left ≤ count → some ≤ left → some ≤ 16
    → copies (count - left) byte ++ take some (copies 16 byte) ≡ copies (count - (left - some)) byte
copies_more count left some byte within more few =
    ap (λ (t : List ℕ). copies (count - left) byte ++ t) (take-replicate some 16 byte few)
    ∙ copies_both (count - left) some (count - (left - some)) byte (omega arith)

-- all but those that are left, and then these
pub copies_split : (count left byte : ℕ) → left ≤ count → copies (count - left) byte ++ copies left byte ≡ copies count byte
copies_split count left byte within = copies_both (count - left) left count byte (omega arith)
