-- Of two prefixes of the same bytes, one is a prefix of the other.
use Rattle.std.proofs.Common.{◌≡◌, ℕ, ◌⊎◌, inl, inr, List, [], ◌∷◌, ◌++◌, length, refl, sym, ap, ◌∙◌, append_assoc, arith}
use Rattle.std.proofs.lemmas.List.{append-nil, length-append}
use Rattle.subset_decode.specs.Encoding.{Begins}

pub Begins-trans : (a b c : List ℕ) → Begins a b → Begins b c → Begins a c
Begins-trans a b c p q = (p.0 ++ q.0, q.1 ∙ ap (λ (x : List ℕ). x ++ q.0) p.1 ∙ append_assoc a p.0 q.0)

pub Begins-all : (a : List ℕ) → Begins a a
Begins-all a = ([], sym (append-nil a))

-- a prefix without its last byte is a prefix
pub Begins-front : (a : List ℕ) (b : ℕ) (c : List ℕ) → Begins (a ++ b ∷ []) c → Begins a c
Begins-front a b c p = (b ∷ p.0, p.1 ∙ append_assoc a (b ∷ []) p.0)

cons_front : (x y : ℕ) (a b : List ℕ) → x ≡ y → Begins a b → Begins (x ∷ a) (y ∷ b)
cons_front x y a b e p = let h = p.1 in (p.0, cc)

nested_at : (a b c d : List ℕ) → a ++ c ≡ b ++ d → Begins a b ⊎ Begins b a
nested_at [] b c d e = inl (b, refl)
nested_at (x ∷ a) [] c d e = inr (x ∷ a, refl)
nested_at (x ∷ a) (y ∷ b) c d e =
    let head : x ≡ y = cc in
    let tail : a ++ c ≡ b ++ d = cc in
    elim (nested_at a b c d tail) [
      | inl p ↦ inl (cons_front x y a b head p)
      | inr p ↦ inr (cons_front y x b a (sym head) p)
    ]

-- two prefixes of one list
pub nested : (a b bytes : List ℕ) → Begins a bytes → Begins b bytes → Begins a b ⊎ Begins b a
nested a b bytes p q = nested_at a b p.0 q.0 (sym p.1 ∙ q.1)

after_at : (front : List ℕ) (b : ℕ) (q c d : List ℕ) → (front ++ b ∷ []) ++ c ≡ q ++ d → Begins q front ⊎ Begins (front ++ b ∷ []) q
after_at front b [] c d e = inl (front, refl)
after_at [] b (y ∷ q) c d e = let head : b ≡ y = cc in inr (q, cc)
after_at (x ∷ front) b (y ∷ q) c d e =
    let head : x ≡ y = cc in
    let tail : (front ++ b ∷ []) ++ c ≡ q ++ d = cc in
    elim (after_at front b q c d tail) [
      | inl p ↦ inl (cons_front y x q front (sym head) p)
      | inr p ↦ inr (cons_front x y (front ++ b ∷ []) q head p)
    ]

-- a prefix ends before the byte b, or goes on with it
pub following : (front : List ℕ) (b : ℕ) (q bytes : List ℕ) → Begins (front ++ b ∷ []) bytes → Begins q bytes → Begins q front ⊎ Begins (front ++ b ∷ []) q
following front b q bytes p r = after_at front b q p.0 r.0 (sym p.1 ∙ r.1)

ends_at : (f : List ℕ) (b : ℕ) (g : List ℕ) (d : ℕ) (x y : List ℕ) → (f ++ b ∷ []) ++ x ≡ (g ++ d ∷ []) ++ y → Begins (f ++ b ∷ []) g ⊎ (Begins (g ++ d ∷ []) f ⊎ (b ≡ d))
ends_at [] b [] d x y e = inr (inr cc)
ends_at [] b (v ∷ g) d x y e = let head : b ≡ v = cc in inl (g, cc)
ends_at (u ∷ f) b [] d x y e = let head : u ≡ d = cc in inr (inl (f, cc))
ends_at (u ∷ f) b (v ∷ g) d x y e =
    let head : u ≡ v = cc in
    let tail : (f ++ b ∷ []) ++ x ≡ (g ++ d ∷ []) ++ y = cc in
    elim (ends_at f b g d x y tail) [
      | inl p ↦ inl (cons_front u v (f ++ b ∷ []) g head p)
      | inr o ↦ elim o [
        | inl p ↦ inr (inl (cons_front v u (g ++ d ∷ []) f (sym head) p))
        | inr p ↦ inr (inr p)
      ]
    ]

-- two prefixes that end with a byte: one goes on after the other, or they end with the same byte
pub ends : (f : List ℕ) (b : ℕ) (g : List ℕ) (d : ℕ) (bytes : List ℕ) → Begins (f ++ b ∷ []) bytes → Begins (g ++ d ∷ []) bytes → Begins (f ++ b ∷ []) g ⊎ (Begins (g ++ d ∷ []) f ⊎ (b ≡ d))
ends f b g d bytes p q = ends_at f b g d p.0 q.0 (sym p.1 ∙ q.1)

-- a list that goes on after another is no prefix of it
pub longer : (a : List ℕ) (b : ℕ) (c : List ℕ) → Begins (a ++ b ∷ []) c → Begins c a → ⊥
longer a b c p q =
    omega (arith, simp length-append at (ap length p.1), simp length-append at (ap length q.1))
