-- Lists of views and of buffers, and what a step of one pass leaves of the others.
use Rattle.std.proofs.Common.{◌≡◌, ◌≢◌, ℕ, zero, suc, ◌+◌, ◌<◌, ◌≤◌, ◌⊎◌, Bool, true, false, true≢false, List, [], ◌∷◌, ◌++◌, length, replicate, set, sym, refl, ap, ◌∙◌, subst, ⊎_elim, arith, eq-or-lt_of_le, ◌==◌, inr, inl}
use Rattle.std.proofs.lemmas.List.{get_or_append_left, get_or_push, length_push}
use Rattle.std.proofs.lemmas.List.Elements.{filter-append}
use Rattle.std.proofs.lemmas.Bool.{both_ways, eq-eqb, ne_eqb}
use mathlib.Core.Option.{some, some-injective, some-ne-none}
use lib.ListN.{get_elem?}
use Rattle.crossbeam_queue.proofs.Lists.{at_set}
use Rattle.fdr_buffer.specs.Filled.{Filled}
use Rattle.buffer_queue.specs.declared.view.View.{View}
use Rattle.buffer_queue.specs.Views.{opener}
use Rattle.buffer_queue.specs.Left.{of_thread, row_at}
use Rattle.buffer_queue.specs.Rule.{Fits, HeadFits, IsCounted, IsUnopened, KeepsOpen, KeepsPool, LiveFits, PoolState, one_if, turning}

-- ---- places

pub in_range : (views : List View) (place : ℕ) (v : View) → get_elem? views place ≡ some v → place < length views
in_range [] place v e = absurd (some-ne-none v (sym e))
in_range (x ∷ xs) zero v e = omega arith
in_range (x ∷ xs) (suc place) v e = let h = in_range xs place v e in omega arith

-- what holds of one changed view and of all others holds of all
pub all_set : (F : ℕ → View → Type 0) (views : List View) (place : ℕ) (w : View) → F place w
    → ((j : ℕ) (u : View) → j ≢ place → get_elem? views j ≡ some u → F j u)
    → (j : ℕ) (u : View) → get_elem? (set views place w) j ≡ some u → F j u
all_set F views place w mine others j u e = ⊎_elim
    (λ (x : (j ≡ place) × (w ≡ u)). subst (λ (y : ℕ × View). F y.0 y.1) (λ i. (sym x.0 i, x.1 i)) mine)
    (λ (x : (j ≢ place) × (get_elem? views j ≡ some u)). others j u x.0 x.1)
    (at_set views place j w u e)

-- ---- passes between a put and a take

pub turning_set : (views : List View) (place : ℕ) (v w : View) → get_elem? views place ≡ some v
    → turning (set views place w) + one_if v.between ≡ turning views + one_if w.between
turning_set [] place v w e = absurd (some-ne-none v (sym e))
turning_set (x ∷ xs) zero v w e = let h : one_if x.between ≡ one_if v.between = ap (λ (y : View). one_if y.between) (some-injective x v e) in omega arith
turning_set (x ∷ xs) (suc place) v w e = let h = turning_set xs place v w e in omega arith

at_most_one : (b : Bool) → one_if b ≤ 1
at_most_one true = omega arith
at_most_one false = omega arith

turning_few : (views : List View) → turning views ≤ length views
turning_few [] = omega arith
turning_few (x ∷ xs) = let h = turning_few xs in let f = at_most_one x.between in omega arith

turning_fewer : (views : List View) (place : ℕ) (v : View) → get_elem? views place ≡ some v → turning views + 1 ≤ length views + one_if v.between
turning_fewer [] place v e = absurd (some-ne-none v (sym e))
turning_fewer (x ∷ xs) zero v e = let h : one_if x.between ≡ one_if v.between = ap (λ (y : View). one_if y.between) (some-injective x v e) in let b = turning_few xs in omega arith
turning_fewer (x ∷ xs) (suc place) v e = let h = turning_fewer xs place v e in let f = at_most_one x.between in omega arith

-- the pass at place 0 never turns
pub turning_room : (views : List View) (place : ℕ) (v : View) → get_elem? views place ≡ some v → 0 < place
    → ((u : View) → get_elem? views 0 ≡ some u → u.between ≡ false) → turning views + 2 ≤ length views + one_if v.between
turning_room [] place v e pos idle = absurd (some-ne-none v (sym e))
turning_room (o ∷ vs) zero v e pos idle = absurd (omega arith)
turning_room (o ∷ vs) (suc place) v e pos idle = let h = turning_fewer vs place v e in let f : one_if o.between ≡ 0 = ap one_if (idle o refl) in omega arith

pub turning_some : (views : List View) (place : ℕ) (v : View) → get_elem? views place ≡ some v → one_if v.between ≤ turning views
turning_some [] place v e = absurd (some-ne-none v (sym e))
turning_some (x ∷ xs) zero v e = let h : one_if x.between ≡ one_if v.between = ap (λ (y : View). one_if y.between) (some-injective x v e) in omega arith
turning_some (x ∷ xs) (suc place) v e = let h = turning_some xs place v e in omega arith

pub turning_push : (views : List View) (v : View) → turning (views ++ v ∷ []) ≡ turning views + one_if v.between
turning_push [] v = omega arith
turning_push (x ∷ xs) v = let h = turning_push xs v in omega arith

pub turning_none : (views : List View) → ((j : ℕ) (u : View) → get_elem? views j ≡ some u → u.between ≡ false) → turning views ≡ 0
turning_none [] h = refl
turning_none (x ∷ xs) h = let f : one_if x.between ≡ 0 = ap one_if (h 0 x refl) in let r = turning_none xs (λ j u e. h (suc j) u e) in omega arith

-- ---- a pool that a live pass is of is opened

none_live : (place : ℕ) (v : View) → get_elem? (opener ∷ []) place ≡ some v → v.live ≡ true → ⊥
none_live zero v e live = true≢false (sym live ∙ sym (ap (λ (y : View). y.live) (some-injective opener v e)))
none_live (suc place) v e live = some-ne-none v (sym e)

pub is_open : (items : List Filled) (views : List View) (place : ℕ) (v : View) → KeepsPool items views → get_elem? views place ≡ some v → v.live ≡ true → KeepsOpen items views
is_open items views place v h e live = ⊎_elim
    (λ (u : IsUnopened items views). absurd (none_live place v (ap (λ (l : List View). get_elem? l place) (sym u.1) ∙ e) live))
    (λ (k : KeepsOpen items views). k)
    h

-- ---- what passes know

pub fits_live : (t : PoolState) (place : ℕ) (w : View) → w.live ≡ true → w.opens ≡ false → LiveFits t place w → Fits t place w
fits_live t place w is_live is_closed l = record { live = λ _. l; rests = λ no. absurd (both_ways w.live no is_live); opened = is_closed }

-- what another pass knows is so after a step, if that changes neither the setup nor the pass's row
pub fits_still : (s t : PoolState) (place : ℕ) (v : View) → Fits s place v → t.setup ≡ s.setup → row_at t.sealed place ≡ row_at s.sealed place
    → (LiveFits s place v → (place ≡ 1) ⊎ (t.joined + 1 < place))
    → (LiveFits s place v → place ≡ 1 → HeadFits t v)
    → Fits t place v
fits_still s t place v f setup_same row_same out head_fits = record {
  live = λ yes. let l = f.live yes in record {
    thread = l.thread;
    some_thread = l.some_thread;
    setup = l.setup ∙ sym setup_same;
    sealed = l.sealed ∙ sym row_same;
    still_out = out l;
    head = head_fits l;
  };
  rests = f.rests;
  opened = f.opened;
}

-- what passes know is so after pass 1 has queued or drained a buffer
pub fit_head : (s : PoolState) (views : List View) (place : ℕ) (v : View) (pushed pushed' : ℕ) (drained drained' : List Filled)
    → ((j : ℕ) (u : View) → get_elem? views j ≡ some u → Fits s j u) → get_elem? views place ≡ some v → v.live ≡ true → place ≡ 1
    → HeadFits (record s { pushed = pushed'; drained = drained' }) (record v { pushed = pushed; drained = drained })
    → (j : ℕ) (u : View) → get_elem? (set views place (record v { pushed = pushed; drained = drained })) j ≡ some u → Fits (record s { pushed = pushed'; drained = drained' }) j u
fit_head s views place v pushed pushed' drained drained' fit at live one head =
    let t : PoolState = record s { pushed = pushed'; drained = drained' } in
    let w : View = record v { pushed = pushed; drained = drained } in
    let f = fit place v at in let l = f.live live in
    all_set (Fits t) views place w
    (fits_live t place w live f.opened (record { thread = l.thread; some_thread = l.some_thread; setup = l.setup; sealed = l.sealed; still_out = l.still_out; head = λ _. head }))
    (λ j u ne e. fits_still s t j u (fit j u e) refl refl (λ m. m.still_out) (λ m first. absurd (ne (first ∙ sym one))))

-- ---- lists of buffers

pub of_same : (t : ℕ) (x : Filled) → x.thread ≡ t → of_thread t (x ∷ []) ≡ x ∷ []
of_same t x e = rw (eq-eqb x.thread t e)

pub of_other : (t : ℕ) (x : Filled) → x.thread ≢ t → of_thread t (x ∷ []) ≡ []
of_other t x e = rw (ne_eqb x.thread t e)

pub of_push : (t : ℕ) (buffers : List Filled) (x : Filled) → of_thread t (buffers ++ x ∷ []) ≡ of_thread t buffers ++ of_thread t (x ∷ [])
of_push t buffers x = filter-append (λ (b : Filled). b.thread == t) buffers (x ∷ [])

pub counted_push : (t : ℕ) (buffers : List Filled) (x : Filled) → IsCounted t buffers → x.thread ≡ t → x.serial ≡ length buffers → IsCounted t (buffers ++ x ∷ [])
counted_push t buffers x counted is_thread is_next k d lt = ⊎_elim
    (λ (e : k ≡ length buffers). rw (get_or_push buffers x d k (sym e)) (is_thread, is_next ∙ sym e))
    (λ (l : k < length buffers). rw (get_or_append_left buffers (x ∷ []) d k l) (counted k d l))
    (let p : k < length buffers + 1 = subst (λ (n : ℕ). k < n) (length_push buffers x) lt in eq-or-lt_of_le (omega arith))

pub replicate_push : (n : ℕ) (x : Filled) → replicate n x ++ x ∷ [] ≡ replicate (suc n) x
replicate_push zero x = refl
replicate_push (suc n) x = ap (λ (l : List Filled). x ∷ l) (replicate_push n x)

pub row_at_longer : (rows : List (List Filled)) (p : ℕ) → row_at (rows ++ [] ∷ []) p ≡ row_at rows p
row_at_longer [] zero = refl
row_at_longer [] (suc p) = refl
row_at_longer (x ∷ xs) zero = refl
row_at_longer (x ∷ xs) (suc p) = row_at_longer xs p

pub at_new : (l : List View) (a b : View) (j : ℕ) → get_elem? (l ++ a ∷ []) j ≡ some b → (get_elem? l j ≡ some b) ⊎ ((j ≡ length l) × (a ≡ b))
at_new [] a b zero e = inr (refl, some-injective a b e)
at_new [] a b (suc j) e = absurd (some-ne-none b (sym e))
at_new (x ∷ xs) a b zero e = inl e
at_new (x ∷ xs) a b (suc j) e = ⊎_elim (λ (p : get_elem? xs j ≡ some b). inl p) (λ (q : (j ≡ length xs) × (a ≡ b)). inr (ap suc q.0, q.1)) (at_new xs a b j e)
