-- A put and a take keep the rule. There is room for the put, and something to take.
use Rattle.std.proofs.Common.{◌≡◌, ◌≢◌, ℕ, zero, suc, ◌+◌, ◌<◌, true, false, List, [], ◌∷◌, ◌++◌, length, replicate, set, sym, refl, ap, ◌∙◌, subst, ⊎_elim, append_assoc, append-nil, length-set, get_or-set_same, get_or-set_other, arith, eq-or-lt_of_le, All, inr, zero-le}
use Rattle.std.proofs.lemmas.List.{length_push, nil_from_length}
use Rattle.std.proofs.lemmas.List.Elements.{All-push, All-tail, All-head}
use Rattle.std.proofs.lemmas.Bool.{cases_eq, cases_Bool, eq-eqb, ne_eqb}
use mathlib.Core.Option.{some}
use lib.ListN.{get_elem?}
use Rattle.crossbeam_queue.specs.Fifo.{Pushes, Pops, Learns}
use Rattle.fdr_buffer.specs.Filled.{Filled, empty_buffer}
use Rattle.machine_step.specs.declared.setup.Setup.{Setup}
use Rattle.buffer_queue.specs.declared.view.View.{View}
use Rattle.buffer_queue.specs.private.Changes.{putting, taking}
use Rattle.buffer_queue.specs.Left.{IsSuffix, IsUsed, of_thread, row_at}
use Rattle.buffer_queue.specs.private.Steps.{IsStocked, MayPut}
use Rattle.buffer_queue.specs.Rule.{Fits, IsCounted, KeepsOpen, KeepsPool, PoolState, one_if}
use Rattle.buffer_queue.proofs.Places.{in_range, all_set, turning_set, turning_room, turning_some, is_open, fits_live, fits_still, of_same, of_other, of_push, counted_push}

-- ---- the put

-- all fresh buffers are queued, and none is drained
pub settled : (items : List Filled) (views : List View) (place : ℕ) (v : View) (k : KeepsOpen items views) → get_elem? views place ≡ some v → v.live ≡ true → IsStocked v
    → (k.state.pushed + k.state.setup.threads ≡ k.state.setup.max) × (k.state.drained ≡ [])
settled items views place v k e live stocked =
    let l = (k.fit place v e).live live in
    let here : place < length views = in_range views place v e in
    let long = k.one_each in
    let enough = k.enough in
    ⊎_elim (λ (one : place ≡ 1).
    let s = stocked (l.thread ∙ one) in
    let h = l.head one in
    (subst (λ (n : ℕ). n + k.state.setup.threads ≡ k.state.setup.max) h.pushed (subst (λ (s : Setup). v.pushed + s.threads ≡ s.max) l.setup s.0), sym h.drained ∙ s.1))
    (λ (far : k.state.joined + 1 < place). (
      (⊎_elim (λ (e : k.state.pushed + k.state.setup.threads ≡ k.state.setup.max). e)
          (λ (lt : k.state.pushed + k.state.setup.threads < k.state.setup.max). let two = (k.stocking lt).0 in absurd (omega arith)) (eq-or-lt_of_le enough)),
      nil_from_length k.state.drained (⊎_elim (λ (e : 0 ≡ length k.state.drained). sym e)
          (λ (lt : 0 < length k.state.drained). let j = (k.draining lt).0 in absurd (omega arith)) (eq-or-lt_of_le (zero-le {n = length k.state.drained}))),
    ))
    l.still_out

pub puts : (n place : ℕ) (v : View) (x : Filled) → MayPut v x → Pushes KeepsPool n place v x (λ w. w ≡ putting v x)
puts n place v x may items views room holds at =
    let k = is_open items views place v holds at may.live in
    let f = k.fit place v at in
    let l = f.live may.live in
    let r = settled items views place v k at may.live may.stocked in
    let long = k.one_each in
    let rows_long = k.one_row in
    let here : place < length views = in_range views place v at in
    let some_thread = l.some_thread in
    let w : View = putting v x in
    let row : List Filled = v.sealed ++ x ∷ [] in
    let rows : List (List Filled) = set k.state.sealed place row in
    let state : PoolState = record k.state { sealed = rows } in
    let same : row_at rows place ≡ row = get_or-set_same k.state.sealed place row [] (omega arith) in
    let other : (j : ℕ) → j ≢ place → row_at rows j ≡ row_at k.state.sealed j = λ j ne. get_or-set_other k.state.sealed place j row [] ne in
    let by : x.thread ≡ place = may.thread ∙ l.thread in (
      w,
      inr (record {
        state = state;
        fresh = k.fresh;
        used = k.used ++ x ∷ [];
        one_each = length-set views place w ∙ k.one_each;
        one_row = length-set k.state.sealed place row ∙ k.one_row;
        some_out = k.some_out;
        few = k.few;
        fit = all_set (Fits state) views place w
            (fits_live state place w may.live f.opened (record {
              thread = l.thread;
              some_thread = l.some_thread;
              setup = l.setup;
              sealed = sym same;
              still_out = l.still_out;
              head = λ one. let h = l.head one in record {
                given = h.given;
                pushed = h.pushed;
                drained = h.drained;
                joined = h.joined;
                returned = λ i lt. h.returned i lt ∙ sym (other (i + 2) (λ e. absurd (omega arith)));
              };
            }))
            (λ j u ne e. fits_still k.state state j u (k.fit j u e) refl (other j ne) (λ m. m.still_out) (λ m one. let h = m.head one in record {
              given = h.given;
              pushed = h.pushed;
              drained = h.drained;
              joined = h.joined;
              returned = λ i lt. let below : i < k.state.joined = lt in
                  h.returned i lt ∙ sym (other (i + 2) (λ e. ⊎_elim (λ (p1 : place ≡ 1). absurd (omega arith)) (λ (far : k.state.joined + 1 < place). absurd (omega arith)) l.still_out));
            }));
        counted = λ p. ⊎_elim
            (λ (e : p ≡ place). subst (λ (q : ℕ). IsCounted q (row_at rows q)) (sym e) (subst (IsCounted place) (sym same)
            (counted_push place v.sealed x (subst (IsCounted place) (sym l.sealed) (k.counted place)) by may.serial)))
            (λ (ne : p ≢ place). subst (IsCounted p) (sym (other p ne)) (k.counted p))
            (cases_eq p place);
        enough = k.enough;
        stocking = λ lt. absurd (let less : k.state.pushed + k.state.setup.threads < k.state.setup.max = lt in let e = r.0 in omega arith);
        draining = λ lt. absurd (let some_drained : 0 < length k.state.drained = lt in let e : length k.state.drained ≡ 0 = ap length r.1 in omega arith);
        all = sym (append_assoc k.state.drained items (x ∷ [])) ∙ (ap (λ (l : List Filled). l ++ x ∷ []) k.all ∙ append_assoc (replicate k.fresh (empty_buffer k.state.setup.size)) k.used (x ∷ []));
        last = λ p. ⊎_elim
            (λ (e : p ≡ place). let s = k.last p in (
              s.0,
              subst (λ (q : ℕ). row_at rows q ≡ row) (sym e) same
                  ∙ ap (λ (l : List Filled). l ++ x ∷ []) (l.sealed ∙ (ap (row_at k.state.sealed) (sym e) ∙ s.1))
                  ∙ append_assoc s.0 (of_thread p k.used) (x ∷ [])
                  ∙ ap (λ (l : List Filled). s.0 ++ l) (sym (of_push p k.used x ∙ ap (λ (l : List Filled). of_thread p k.used ++ l) (of_same p x (by ∙ sym e)))),
            ))
            (λ (ne : p ≢ place). let s = k.last p in
            (s.0, other p ne ∙ (s.1 ∙ ap (λ (l : List Filled). s.0 ++ l) (sym (of_push p k.used x ∙ (ap (λ (l : List Filled). of_thread p k.used ++ l) (of_other p x (λ e. ne (sym e ∙ by))) ∙ append-nil (of_thread p k.used)))))))
            (cases_eq p place);
        whole = λ some_fresh p. ⊎_elim
            (λ (e : p ≡ place). of_push p k.used x ∙ (ap (λ (l : List Filled). of_thread p k.used ++ l) (of_same p x (by ∙ sym e))
            ∙ (ap (λ (l : List Filled). l ++ x ∷ []) (k.whole some_fresh p ∙ (ap (row_at k.state.sealed) e ∙ sym l.sealed)) ∙ subst (λ (q : ℕ). row ≡ row_at rows q) (sym e) (sym same))))
            (λ (ne : p ≢ place). of_push p k.used x ∙ (ap (λ (l : List Filled). of_thread p k.used ++ l) (of_other p x (λ e. ne (sym e ∙ by))) ∙ (append-nil (of_thread p k.used) ∙ (k.whole some_fresh p ∙ sym (other p ne)))))
            (cases_eq p place);
        count =
            let b = turning_set views place v w at in
            let f0 : one_if v.between ≡ 0 = ap one_if may.rests in
            let c = k.count in
            let m = length_push items x in omega arith;
        each = All-push (IsUsed k.state.setup.size k.state.passes) k.used x k.each (record {
          is_size = may.size ∙ ap (λ (s : Setup). s.size) l.setup;
          is_begun = may.begun;
          some_thread = omega arith;
          below = omega arith;
        });
      }),
      refl,
    )

first_rests : (items : List Filled) (views : List View) (k : KeepsOpen items views) (u : View) → get_elem? views 0 ≡ some u → u.between ≡ false
first_rests items views k u e = let f = k.fit 0 u e in
    ⊎_elim (λ (yes : u.live ≡ true). let l = f.live yes in let p = l.some_thread in absurd (omega arith)) (λ (no : u.live ≡ false). f.rests no) (cases_Bool u.live)

-- there is room for a buffer of a pass that rests
pub has_room : (place : ℕ) (v : View) → v.live ≡ true → v.between ≡ false → Learns KeepsPool place v (λ items. length items < v.setup.max)
has_room place v live rest items views holds at =
    let k = is_open items views place v holds at live in
    let l = (k.fit place v at).live live in
    let long = k.one_each in
    let some_thread = l.some_thread in
    let b = turning_room views place v at some_thread (first_rests items views k) in
    let f : one_if v.between ≡ 0 = ap one_if rest in
    let c = k.count in
    let few = k.few in
    let enough = k.enough in
    subst (λ (s : Setup). length items < s.max) (sym l.setup) (omega arith)

-- ---- the take

none_drained : (items : List Filled) (views : List View) (place : ℕ) (v : View) (k : KeepsOpen items views) → get_elem? views place ≡ some v → v.between ≡ true → k.state.drained ≡ []
none_drained items views place v k e between =
    let b = turning_some views place v e in
    let f : one_if v.between ≡ 1 = ap one_if between in
    nil_from_length k.state.drained (⊎_elim (λ (e : 0 ≡ length k.state.drained). sym e)
    (λ (lt : 0 < length k.state.drained). let n = (k.draining lt).1 in absurd (omega arith)) (eq-or-lt_of_le (zero-le {n = length k.state.drained})))

-- what is left when the buffer at the front goes
record Following (size bound : ℕ) (x : Filled) (items : List Filled) (fresh : ℕ) (used : List Filled) : Type 0 where
  fresh' : ℕ
  used' : List Filled
  all : items ≡ replicate fresh' (empty_buffer size) ++ used'
  is_size : x.size ≡ size
  last : (p : ℕ) → IsSuffix (of_thread p used') (of_thread p used)
  whole : 0 < fresh' → (used' ≡ used) × (0 < fresh)
  none : used ≡ [] → used' ≡ []
  each : All (IsUsed size bound) used'

of_suffix : (p : ℕ) (x : Filled) (buffers : List Filled) → IsSuffix (of_thread p buffers) (of_thread p (x ∷ buffers))
of_suffix p x buffers = ⊎_elim
    (λ (e : x.thread ≡ p). (x ∷ [], rw (eq-eqb x.thread p e)))
    (λ (ne : x.thread ≢ p). ([], rw (ne_eqb x.thread p ne)))
    (cases_eq x.thread p)

following : (size bound : ℕ) (x : Filled) (items : List Filled) (fresh : ℕ) (used : List Filled) → x ∷ items ≡ replicate fresh (empty_buffer size) ++ used
    → All (IsUsed size bound) used → Following size bound x items fresh used
following size bound x items zero [] e u = let e' : x ∷ items ≡ [] = e in absurd (cc)
following size bound x items zero (y ∷ ys) e u = let e' : x ∷ items ≡ y ∷ ys = e in let same : x ≡ y = cc in let rest : items ≡ ys = cc in record {
  fresh' = 0;
  used' = ys;
  all = rest;
  is_size = ap (λ (b : Filled). b.size) same ∙ (All-head (IsUsed size bound) y ys u).is_size;
  last = λ p. of_suffix p y ys;
  whole = λ lt. absurd (omega arith);
  none = λ nil. absurd (cc);
  each = All-tail (IsUsed size bound) y ys u;
}
following size bound x items (suc n) used e u = let e' : x ∷ items ≡ empty_buffer size ∷ (replicate n (empty_buffer size) ++ used) = e in
    let same : x ≡ empty_buffer size = cc in let rest : items ≡ replicate n (empty_buffer size) ++ used = cc in record {
      fresh' = n;
      used' = used;
      all = rest;
      is_size = ap (λ (b : Filled). b.size) same;
      last = λ p. ([], refl);
      whole = λ lt. (refl, omega arith);
      none = λ nil. nil;
      each = u;
    }

suffix_along : (a b c : List Filled) → IsSuffix a b → IsSuffix b c → IsSuffix a c
suffix_along a b c x y = (y.0 ++ x.0, y.1 ∙ (ap (λ (l : List Filled). y.0 ++ l) x.1 ∙ sym (append_assoc y.0 x.0 a)))

pub takes : (place : ℕ) (v : View) → v.live ≡ true → v.between ≡ true → Pops KeepsPool place v (λ x w. (w ≡ taking v) × (x.size ≡ v.setup.size))
takes place v live between x items views holds at =
    let k = is_open (x ∷ items) views place v holds at live in
    let f = k.fit place v at in
    let l = f.live live in
    let nil = none_drained (x ∷ items) views place v k at between in
    let all : x ∷ items ≡ replicate k.fresh (empty_buffer k.state.setup.size) ++ k.used = ap (λ (d : List Filled). d ++ (x ∷ items)) (sym nil) ∙ k.all in
    let b = following k.state.setup.size k.state.passes x items k.fresh k.used all k.each in
    let w : View = taking v in (
      w,
      inr (record {
        state = k.state;
        fresh = b.fresh';
        used = b.used';
        one_each = length-set views place w ∙ k.one_each;
        one_row = k.one_row;
        some_out = k.some_out;
        few = k.few;
        fit = all_set (Fits k.state) views place w
            (fits_live k.state place w live f.opened (record {
              thread = l.thread;
              some_thread = l.some_thread;
              setup = l.setup;
              sealed = l.sealed;
              still_out = l.still_out;
              head = λ one. let h = l.head one in record { given = h.given; pushed = h.pushed; drained = h.drained; joined = h.joined; returned = h.returned };
            }))
            (λ j u ne e. k.fit j u e);
        counted = k.counted;
        enough = k.enough;
        stocking = λ lt. let s = k.stocking lt in (s.0, b.none s.1, s.2);
        draining = λ lt. absurd (let e : length k.state.drained ≡ 0 = ap length nil in omega arith);
        all = ap (λ (d : List Filled). d ++ items) nil ∙ b.all;
        last = λ p. suffix_along _ _ _ (b.last p) (k.last p);
        whole = λ some_fresh p. let s = b.whole some_fresh in ap (of_thread p) s.0 ∙ k.whole s.1 p;
        count =
            let t = turning_set views place v w at in
            let g : one_if v.between ≡ 1 = ap one_if between in
            let c = k.count in omega arith;
        each = b.each;
      }),
      (refl, b.is_size ∙ ap (λ (s : Setup). s.size) (sym l.setup)),
    )

-- there is a buffer to take after a put
pub has_some : (place : ℕ) (v : View) → v.live ≡ true → v.between ≡ true → Learns KeepsPool place v (λ items. 0 < length items)
has_some place v live between items views holds at =
    let k = is_open items views place v holds at live in
    let nil : length k.state.drained ≡ 0 = ap length (none_drained items views place v k at between) in
    let b = turning_some views place v at in
    let g : one_if v.between ≡ 1 = ap one_if between in
    let c = k.count in
    omega arith
