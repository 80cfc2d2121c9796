-- Bytes of blocks in a set of bytes.
use Rattle.std.proofs.Common.{◌≡◌, ℕ, List, [], ◌∷◌, Bool, true, false, ◌||◌, map, Bor, refl, sym, ap, ◌∙◌}
use Rattle.std.specs.declared.cmp.Ordering.{Ordering}
use Rattle.std.specs.declared.cmp.Ordering.TheVariants.{Less, Equal, Greater}
use Rattle.std.specs.Ordering.{match_ordering, nat_cmp}
use Rattle.std.specs.Cmp.Lexicographic.{slice_cmp}
use Rattle.std.specs.BTreeSet.{insert_key}
use Rattle.std.specs.BTreeMap.{is_at}
use Rattle.std.specs.List.{list_any}
use Rattle.std.specs.Str.{bytes_eq}
use Rattle.std.proofs.lemmas.Map.Text.{is_eq-slice_cmp}
use Rattle.std.proofs.lemmas.Map.Lookups.{exact_bytes}
use Rattle.runtime_log.specs.Taken.{is_among_contents}

abbrev by_bytes : Bor (List ℕ) → Bor (List ℕ) → Ordering
by_bytes a b = slice_cmp nat_cmp a.now b.now

pub among_keys : (keys : List (Bor (List ℕ))) (q : List ℕ) → list_any (is_at (λ k. slice_cmp nat_cmp q k.now)) keys ≡ is_among_contents (map (λ k. k.now) keys) q
among_keys [] q = refl
among_keys (x ∷ xs) q =
    ap (λ (b : Bool). b || list_any (is_at (λ k. slice_cmp nat_cmp q k.now)) xs) (is_eq-slice_cmp q x.now)
    ∙ ap (λ (b : Bool). bytes_eq q x.now || b) (among_keys xs q)

twice : (b c : Bool) → (b || c) ≡ (b || (b || c))
twice true c = refl
twice false c = refl

exchanged : (a b c : Bool) → (a || (b || c)) ≡ (b || (a || c))
exchanged true true c = refl
exchanged true false c = refl
exchanged false true c = refl
exchanged false false c = refl

pub among_insert : (keys : List (Bor (List ℕ))) (key : Bor (List ℕ)) (q : List ℕ) → is_among_contents (map (λ k. k.now) (insert_key by_bytes keys key)) q ≡ (bytes_eq q key.now || is_among_contents (map (λ k. k.now) keys) q)
among_insert [] key q = refl
among_insert (x ∷ xs) key q = by_order (by_bytes key x) refl (among_insert xs key q)
  where
    by_order : (o : Ordering) → by_bytes key x ≡ o → is_among_contents (map (λ k. k.now) (insert_key by_bytes xs key)) q ≡ (bytes_eq q key.now || is_among_contents (map (λ k. k.now) xs) q)
        → is_among_contents (map (λ k. k.now) (match_ordering o (key ∷ x ∷ xs) (x ∷ xs) (x ∷ insert_key by_bytes xs key))) q ≡ (bytes_eq q key.now || is_among_contents (map (λ k. k.now) (x ∷ xs)) q)
    by_order Less e rest = refl
    by_order Equal e rest =
        let same : key.now ≡ x.now = exact_bytes key.now x.now e in
        twice (bytes_eq q x.now) (is_among_contents (map (λ k. k.now) xs) q)
        ∙ ap (λ (n : List ℕ). bytes_eq q n || (bytes_eq q x.now || is_among_contents (map (λ k. k.now) xs) q)) (sym same)
    by_order Greater e rest =
        ap (λ (b : Bool). bytes_eq q x.now || b) rest
        ∙ exchanged (bytes_eq q x.now) (bytes_eq q key.now) (is_among_contents (map (λ k. k.now) xs) q)
