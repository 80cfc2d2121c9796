-- The steps that end a pool keep the rule: pass 1 is handed the other passes back, and drains what is queued.
use Rattle.std.proofs.Common.{◌≡◌, ◌≢◌, ℕ, zero, suc, ◌+◌, ◌-◌, ◌<◌, ◌≤◌, true, false, true≢false, List, [], ◌∷◌, ◌++◌, length, replicate, set, sym, refl, ap, ◌∙◌, subst, ⊎_elim, append_assoc, append-nil, length-append, length-set, arith, eq-or-lt_of_le, All, inr, inl}
use Rattle.std.proofs.lemmas.List.{get_or_append_left, get_or_push, length_push, nil_from_length, get_or_past, length-replicate}
use Rattle.std.proofs.lemmas.Bool.{cases_lt, cases_Bool}
use mathlib.Core.Option.{some, some-injective}
use lib.ListN.{get_elem?}
use Rattle.crossbeam_queue.specs.Fifo.{Pops, Merges, Learns}
use Rattle.crossbeam_queue.proofs.Lists.{at_set}
use Rattle.fdr_buffer.specs.Filled.{Filled, empty_buffer}
use Rattle.machine_step.specs.declared.setup.Setup.{Setup}
use Rattle.buffer_queue.specs.declared.view.View.{View}
use Rattle.buffer_queue.specs.Views.{spent}
use Rattle.buffer_queue.specs.private.Changes.{draining, taking_in}
use Rattle.buffer_queue.specs.Left.{IsLeft, IsUsed, row_at}
use Rattle.buffer_queue.specs.private.Steps.{MayDrain, MayTakeIn}
use Rattle.buffer_queue.specs.Rule.{Fits, KeepsOpen, KeepsPool, PoolState, one_if, turning}
use Rattle.buffer_queue.proofs.Places.{in_range, all_set, turning_set, turning_none, is_open, fit_head, fits_live, fits_still}
use Rattle.buffer_queue.proofs.AbsentBuffers.{counts}

-- ---- a pass is handed back

pub merges : (place : ℕ) (v : View) (other : ℕ) (u : View) → MayTakeIn v u → Merges KeepsPool place v other u (taking_in v u.sealed) spent
merges place v other u may items views holds at two at2 =
    let both : View = taking_in v u.sealed in
    let vs : List View = set views place both in
    let was : get_elem? views other ≡ some u = ⊎_elim (λ (x : (other ≡ place) × (both ≡ u)). absurd (two x.0)) (λ (x : (other ≢ place) × (get_elem? views other ≡ some u)). x.1) (at_set views place other both u at2) in
    let k = is_open items views place v holds at may.live in
    let f = k.fit place v at in
    let l = f.live may.live in
    let m = (k.fit other u was).live may.other_live in
    let one : place ≡ 1 = sym l.thread ∙ may.first in
    let h = l.head one in
    let joined_is = h.joined in
    let there : other ≡ k.state.joined + 2 = sym m.thread ∙ (may.next ∙ ap (λ (n : ℕ). n + 2) h.joined) in
    let here : other < length views = in_range views other u was in
    let long = k.one_each in
    let state : PoolState = record k.state { joined = k.state.joined + 1 } in
    let b1 = turning_set views place v both at in
    let b2 = turning_set vs other u spent at2 in
    let rest_u : one_if u.between ≡ 0 = ap one_if may.other_rests in
    inr (record {
      state = state;
      fresh = k.fresh;
      used = k.used;
      one_each = length-set vs other spent ∙ (length-set views place both ∙ k.one_each);
      one_row = k.one_row;
      some_out = let e : k.state.joined + 1 + 1 < k.state.passes = omega arith in e;
      few = k.few;
      fit = all_set (Fits state) vs other spent
          (record { live = λ yes. absurd (true≢false (sym yes)); rests = λ no. refl; opened = refl })
          (λ j y apart e. all_set (λ (i : ℕ) (z : View). i ≢ other → Fits state i z) views place both
          (λ _. fits_live state place both may.live f.opened (record {
            thread = l.thread;
            some_thread = l.some_thread;
            setup = l.setup;
            sealed = l.sealed;
            still_out = inl one;
            head = λ _. record {
              given = h.given;
              pushed = h.pushed;
              drained = h.drained;
              joined = length_push v.returned u.sealed ∙ ap (λ (n : ℕ). n + 1) h.joined;
              returned = λ i lt. let within : i < k.state.joined + 1 = lt in ⊎_elim
                  (λ (e : i ≡ k.state.joined). get_or_push v.returned u.sealed [] i (h.joined ∙ sym e) ∙ (m.sealed ∙ ap (row_at k.state.sealed) (there ∙ ap (λ (n : ℕ). n + 2) (sym e))))
                  (λ (below : i < k.state.joined). get_or_append_left v.returned (u.sealed ∷ []) [] i (omega arith) ∙ h.returned i below)
                  (eq-or-lt_of_le (omega arith));
            };
          }))
          (λ i z ne e2 apart2. fits_still k.state state i z (k.fit i z e2) refl refl
          (λ q. ⊎_elim (λ (p1 : i ≡ 1). inl p1) (λ (far : k.state.joined + 1 < i). inr (let no : i ≢ k.state.joined + 2 = (λ e3. apart2 (e3 ∙ sym there)) in let e : k.state.joined + 1 + 1 < i = omega arith in e)) q.still_out)
          (λ q p1. absurd (ne (p1 ∙ sym one))))
          j y e apart);
      counted = k.counted;
      enough = k.enough;
      stocking = k.stocking;
      draining = λ lt. let d = (k.draining lt).0 in absurd (omega arith);
      all = k.all;
      last = k.last;
      whole = k.whole;
      count = let c = k.count in let e : length k.state.drained + length items ≡ k.state.pushed + turning (set vs other spent) = omega arith in e;
      each = k.each;
    })

-- ---- what is queued is drained

-- pass 1 has all other passes, and none turns
all_back : (items : List Filled) (views : List View) (place : ℕ) (v : View) (k : KeepsOpen items views) → get_elem? views place ≡ some v → MayDrain v → (k.state.joined + 2 ≡ k.state.passes) × (turning views ≡ 0)
all_back items views place v k at may =
    let l = (k.fit place v at).live may.live in
    let one : place ≡ 1 = sym l.thread ∙ may.first in
    let h = l.head one in
    let a = h.joined in
    let b = h.given in
    let c = may.has_all in
    let long = k.one_each in
    let full : k.state.joined + 2 ≡ k.state.passes = omega arith in (
      full,
      turning_none views (λ j u e. let f = k.fit j u e in
          ⊎_elim (λ (yes : u.live ≡ true). let q = f.live yes in let lt : j < length views = in_range views j u e in
          ⊎_elim (λ (p1 : j ≡ 1). ap (λ (y : View). y.between) (some-injective u v (sym e ∙ (ap (get_elem? views) (p1 ∙ sym one) ∙ at))) ∙ may.rests)
          (λ (far : k.state.joined + 1 < j). absurd (omega arith)) q.still_out)
          (λ (no : u.live ≡ false). f.rests no) (cases_Bool u.live)),
    )

pub drains : (place : ℕ) (v : View) → MayDrain v → Pops KeepsPool place v (λ x w. w ≡ draining v x)
drains place v may x items views holds at =
    let k = is_open (x ∷ items) views place v holds at may.live in
    let l = (k.fit place v at).live may.live in
    let one : place ≡ 1 = sym l.thread ∙ may.first in
    let h = l.head one in
    let a = all_back (x ∷ items) views place v k at may in
    let w : View = draining v x in
    let b = turning_set views place v w at in
    let got : List Filled = k.state.drained ++ x ∷ [] in
    let state : PoolState = record k.state { drained = got } in (
      w,
      inr (record {
        state = state;
        fresh = k.fresh;
        used = k.used;
        one_each = length-set views place w ∙ k.one_each;
        one_row = k.one_row;
        some_out = k.some_out;
        few = k.few;
        fit = fit_head k.state views place v v.pushed k.state.pushed (v.drained ++ x ∷ []) got k.fit at may.live one
            (record { given = h.given; pushed = h.pushed; drained = ap (λ (d : List Filled). d ++ x ∷ []) h.drained; joined = h.joined; returned = h.returned });
        counted = k.counted;
        enough = k.enough;
        stocking = k.stocking;
        draining = λ _. (a.0, let z = a.1 in omega arith);
        all = append_assoc k.state.drained (x ∷ []) items ∙ k.all;
        last = k.last;
        whole = k.whole;
        count = let c = k.count in let m = length_push k.state.drained x in
            let e : length got + length items ≡ k.state.pushed + turning (set views place w) = omega arith in e;
        each = k.each;
      }),
      refl,
    )

head_counts : (items : List Filled) (views : List View) (place : ℕ) (v : View) (k : KeepsOpen items views) → get_elem? views place ≡ some v → MayDrain v
    → v.pushed + v.setup.threads ≡ v.setup.max → length v.drained + length items + v.setup.threads ≡ v.setup.max
head_counts items views place v k at may full =
    let l = (k.fit place v at).live may.live in
    let h = l.head (sym l.thread ∙ may.first) in
    let a = all_back items views place v k at may in
    let z = a.1 in
    let c = k.count in
    let p = h.pushed in
    let d : length v.drained ≡ length k.state.drained = ap length h.drained in
    omega arith

-- there is a buffer to drain while fewer were drained than there are spare ones
pub drains_some : (place : ℕ) (v : View) → MayDrain v → v.pushed + v.setup.threads ≡ v.setup.max → length v.drained + v.setup.threads < v.setup.max
    → Learns KeepsPool place v (λ items. 0 < length items)
drains_some place v may full less items views holds at =
    let k = is_open items views place v holds at may.live in
    let c = head_counts items views place v k at may full in
    omega arith

-- the rows that pass 1 has are those of threads 1, 2 and so on
rows_of_head : (mine : List Filled) (returned sealed : List (List Filled)) (joined : ℕ) → mine ≡ row_at sealed 1 → length returned ≡ joined → length sealed ≡ joined + 2
    → ((k : ℕ) → k < joined → row_at returned k ≡ row_at sealed (k + 2)) → (i : ℕ) → row_at (mine ∷ returned) i ≡ row_at sealed (i + 1)
rows_of_head mine returned sealed joined first rlong slong each zero = first
rows_of_head mine returned sealed joined first rlong slong each (suc i) = ⊎_elim
    (λ (lt : i < joined). each i lt ∙ ap (row_at sealed) (let e : i + 2 ≡ suc i + 1 = omega arith in e))
    (λ (le : joined ≤ i). get_or_past returned i [] (omega arith) ∙ sym (get_or_past sealed (suc i + 1) [] (omega arith)))
    (cases_lt i joined)

-- what is left, once all is drained
pub ends : (place : ℕ) (v : View) → MayDrain v → v.pushed + v.setup.threads ≡ v.setup.max → length v.drained + v.setup.threads ≡ v.setup.max
    → Learns KeepsPool place v (λ items. IsLeft v.setup (v.sealed ∷ v.returned) v.drained)
ends place v may full gone items views holds at =
    let k = is_open items views place v holds at may.live in
    let l = (k.fit place v at).live may.live in
    let one : place ≡ 1 = sym l.thread ∙ may.first in
    let h = l.head one in
    let c = head_counts items views place v k at may full in
    let a = all_back items views place v k at may in
    let nil : items ≡ [] = nil_from_length items (omega arith) in
    let rows : List (List Filled) = v.sealed ∷ v.returned in
    let slong = k.one_row in
    let rlong = h.joined in
    let all_in = a.0 in
    let row : (i : ℕ) → row_at rows i ≡ row_at k.state.sealed (i + 1) = rows_of_head v.sealed v.returned k.state.sealed k.state.joined (l.sealed ∙ ap (row_at k.state.sealed) one) h.joined (omega arith) h.returned in
    let size_is : k.state.setup.size ≡ v.setup.size = sym (ap (λ (s : Setup). s.size) l.setup) in
    let rows_long : length (v.sealed ∷ v.returned) ≡ k.state.joined + 1 = omega arith in
    let bound_is : k.state.passes ≡ length rows + 1 = (let e : k.state.passes ≡ k.state.joined + 1 + 1 = omega arith in e) ∙ sym (ap (λ (n : ℕ). n + 1) rows_long) in
    let all_is : v.drained ≡ replicate k.fresh (empty_buffer v.setup.size) ++ k.used =
    h.drained ∙ (sym (append-nil k.state.drained) ∙ (ap (λ (i : List Filled). k.state.drained ++ i) (sym nil) ∙ (k.all ∙ ap (λ (n : ℕ). replicate k.fresh (empty_buffer n) ++ k.used) size_is))) in
    let each_is : All (IsUsed v.setup.size (length rows + 1)) k.used = subst (λ (y : ℕ × ℕ). All (IsUsed y.0 y.1) k.used) (λ i. (size_is i, bound_is i)) k.each in
    let count_is : length v.drained ≡ v.setup.max - v.setup.threads = omega arith in
    let parts : length v.drained ≡ length (replicate k.fresh (empty_buffer v.setup.size)) + length k.used = ap length all_is ∙ length-append (replicate k.fresh (empty_buffer v.setup.size)) k.used in
    let fresh_long = length-replicate k.fresh (empty_buffer v.setup.size) in
    record {
      fresh = k.fresh;
      used = k.used;
      all = all_is;
      count = count_is;
      each = each_is;
      last = λ i. let s = k.last (i + 1) in (s.0, row i ∙ s.1);
      absent = counts v.setup.size (v.setup.max - v.setup.threads) k.fresh rows k.used each_is
          (λ i. let s = k.last (i + 1) in (s.0, row i ∙ s.1))
          (λ some_fresh i. k.whole some_fresh (i + 1) ∙ sym (row i))
          (omega arith);
    }
