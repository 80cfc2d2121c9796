-- The steps that open a pool keep the rule: pass 1 is made, queues fresh buffers, and makes the other passes.
use Rattle.std.proofs.Common.{◌≡◌, ℕ, zero, suc, ◌+◌, ◌<◌, ◌≤◌, true≢false, List, [], ◌∷◌, ◌++◌, length, replicate, set, sym, refl, ap, ◌∙◌, subst, ⊎_elim, append_assoc, append-nil, length-set, arith, inr, inl}
use Rattle.std.proofs.lemmas.List.{length_push, get_or_past}
use mathlib.Core.Option.{some, some-injective, some-ne-none}
use lib.ListN.{get_elem?}
use Rattle.crossbeam_queue.specs.Fifo.{Pushes, Forks}
use Rattle.fdr_buffer.specs.Filled.{Filled, empty_buffer}
use Rattle.machine_step.specs.declared.setup.Setup.{Setup}
use Rattle.buffer_queue.specs.declared.view.View.{View}
use Rattle.buffer_queue.specs.Views.{opener, spent}
use Rattle.buffer_queue.specs.private.Changes.{giving, head_view, new_view, stocking}
use Rattle.buffer_queue.specs.Left.{row_at}
use Rattle.buffer_queue.specs.private.Steps.{MayGive, MayStock}
use Rattle.buffer_queue.specs.Rule.{Fits, IsCounted, IsUnopened, KeepsOpen, KeepsPool, PoolState, turning}
use Rattle.buffer_queue.proofs.Places.{all_set, turning_set, turning_push, is_open, fit_head, fits_live, fits_still, replicate_push, row_at_longer, at_new}
use Rattle.buffer_queue.proofs.PutAndTake.{settled}

-- ---- pass 1 is made

no_rows : (p : ℕ) → row_at ([] ∷ [] ∷ []) p ≡ []
no_rows zero = refl
no_rows (suc zero) = refl
no_rows (suc (suc p)) = refl

abbrev first_state : Setup → PoolState
first_state s = record { setup = s; passes = 2; pushed = 0; joined = 0; drained = []; sealed = [] ∷ [] ∷ [] }

first_fit : (s : Setup) (place : ℕ) (v : View) → get_elem? (spent ∷ head_view s 1 0 ∷ []) place ≡ some v → Fits (first_state s) place v
first_fit s zero v e = subst (Fits (first_state s) 0) (some-injective spent v e) (record { live = λ yes. absurd (true≢false (sym yes)); rests = λ no. refl; opened = refl })
first_fit s (suc zero) v e = subst (Fits (first_state s) 1) (some-injective (head_view s 1 0) v e) (record {
  live = λ yes. record {
    thread = refl;
    some_thread = omega arith;
    setup = refl;
    sealed = refl;
    still_out = inl refl;
    head = λ one. record { given = refl; pushed = refl; drained = refl; joined = refl; returned = λ k lt. absurd (omega arith) };
  };
  rests = λ no. absurd (true≢false no);
  opened = refl;
})
first_fit s (suc (suc place)) v e = absurd (some-ne-none v (sym e))

begins_open : (s : Setup) → 1 ≤ s.threads → s.threads ≤ s.max → KeepsOpen [] (spent ∷ head_view s 1 0 ∷ [])
begins_open s some_thread enough_buffers = record {
  state = first_state s;
  fresh = 0;
  used = [];
  one_each = refl;
  one_row = refl;
  some_out = omega arith;
  few = omega arith;
  fit = first_fit s;
  counted = λ p k d lt. absurd (let e : length (row_at ([] ∷ [] ∷ []) p) ≡ 0 = ap (λ (l : List Filled). length l) (no_rows p) in omega arith);
  enough = omega arith;
  stocking = λ lt. (refl, refl, no_rows);
  draining = λ lt. absurd (omega arith);
  all = refl;
  last = λ p. ([], no_rows p);
  whole = λ lt. absurd (omega arith);
  count = refl;
  each = λ k d lt. absurd (omega arith);
}

first_place : (place : ℕ) (w : View) → get_elem? (opener ∷ []) place ≡ some opener → set (opener ∷ []) place w ≡ w ∷ []
first_place zero w e = refl
first_place (suc place) w e = absurd (some-ne-none opener (sym e))

pub begins : KeepsPool [] (opener ∷ [])
begins = inl (refl, refl)

pub opens : (place : ℕ) (s : Setup) → 1 ≤ s.threads → s.threads ≤ s.max → Forks KeepsPool place opener spent (head_view s 1 0)
opens place s some_thread enough_buffers items views holds at = ⊎_elim
    (λ (u : IsUnopened items views).
    let at' : get_elem? (opener ∷ []) place ≡ some opener = ap (λ (l : List View). get_elem? l place) (sym u.1) ∙ at in
    let changed : set views place spent ++ head_view s 1 0 ∷ [] ≡ spent ∷ head_view s 1 0 ∷ [] =
    ap (λ (l : List View). set l place spent ++ head_view s 1 0 ∷ []) u.1 ∙ ap (λ (l : List View). l ++ head_view s 1 0 ∷ []) (first_place place spent at') in
    inr (subst (λ (y : List Filled × List View). KeepsOpen y.0 y.1) (λ i. (sym u.0 i, sym changed i)) (begins_open s some_thread enough_buffers)))
    (λ (k : KeepsOpen items views). absurd (true≢false (k.fit place opener at).opened))
    holds

-- ---- a fresh buffer is queued

pub stocks : (n place : ℕ) (v : View) (x : Filled) → MayStock v x → Pushes KeepsPool n place v x (λ w. w ≡ stocking v)
stocks n place v x may items views room holds at =
    let k = is_open items views place v holds at may.live in
    let l = (k.fit place v at).live may.live in
    let one : place ≡ 1 = sym l.thread ∙ may.first in
    let h = l.head one in
    let wanted : v.pushed + k.state.setup.threads < k.state.setup.max = subst (λ (s : Setup). v.pushed + s.threads < s.max) l.setup may.wanted in
    let pushed_is = h.pushed in
    let s = k.stocking (omega arith) in
    let w : View = stocking v in
    let state : PoolState = record k.state { pushed = k.state.pushed + 1 } in
    let fresh_is : x ≡ empty_buffer k.state.setup.size = may.fresh ∙ ap (λ (s : Setup). empty_buffer s.size) l.setup in
    let old : List Filled = replicate k.fresh (empty_buffer k.state.setup.size) in
    let only_fresh : old ++ k.used ≡ old = ap (λ (l : List Filled). old ++ l) s.1 ∙ append-nil old in
    let longer : old ++ x ∷ [] ≡ replicate (suc k.fresh) (empty_buffer k.state.setup.size) =
    ap (λ (y : Filled). old ++ y ∷ []) fresh_is ∙ replicate_push k.fresh (empty_buffer k.state.setup.size) in (
      w,
      inr (record {
        state = state;
        fresh = suc k.fresh;
        used = [];
        one_each = length-set views place w ∙ k.one_each;
        one_row = k.one_row;
        some_out = k.some_out;
        few = k.few;
        fit = fit_head k.state views place v (v.pushed + 1) (k.state.pushed + 1) v.drained k.state.drained k.fit at may.live one
            (record { given = h.given; pushed = ap (λ (n : ℕ). n + 1) h.pushed; drained = h.drained; joined = h.joined; returned = h.returned });
        counted = k.counted;
        enough = let e : k.state.pushed + 1 + k.state.setup.threads ≤ k.state.setup.max = omega arith in e;
        stocking = λ lt. (s.0, refl, s.2);
        draining = λ lt. let d = k.draining lt in (d.0, let b = turning_set views place v w at in let z = d.1 in omega arith);
        all = sym (append_assoc k.state.drained items (x ∷ [])) ∙ (ap (λ (l : List Filled). l ++ x ∷ []) (k.all ∙ only_fresh) ∙ (longer ∙ sym (append-nil (replicate (suc k.fresh) (empty_buffer k.state.setup.size)))));
        last = λ p. ([], s.2 p);
        whole = λ some_fresh p. sym (s.2 p);
        count =
            let b = turning_set views place v w at in
            let c = k.count in
            let m = length_push items x in
            let e : length k.state.drained + length (items ++ x ∷ []) ≡ k.state.pushed + 1 + turning (set views place w) = omega arith in e;
        each = λ i d lt. absurd (omega arith);
      }),
      refl,
    )

-- ---- the next pass is made

pub gives : (place : ℕ) (v : View) → MayGive v → Forks KeepsPool place v (giving v) (new_view v.setup (v.given + 1))
gives place v may items views holds at =
    let k = is_open items views place v holds at may.live in
    let f = k.fit place v at in
    let l = f.live may.live in
    let r = settled items views place v k at may.live may.stocked in
    let one : place ≡ 1 = sym l.thread ∙ may.first in
    let h = l.head one in
    let given_is = h.given in
    let wanted : v.given < k.state.setup.threads = subst (λ (s : Setup). v.given < s.threads) l.setup may.wanted in
    let left : View = giving v in
    let right : View = new_view v.setup (v.given + 1) in
    let rows : List (List Filled) = k.state.sealed ++ [] ∷ [] in
    let state : PoolState = record k.state { passes = k.state.passes + 1; sealed = rows } in
    let same : (p : ℕ) → row_at rows p ≡ row_at k.state.sealed p = λ p. row_at_longer k.state.sealed p in
    let vs : List View = set views place left in
    let long : length vs ≡ k.state.passes = length-set views place left ∙ k.one_each in
    let some_out = k.some_out in
    let rows_long = k.one_row in
    let passes_some : 1 < k.state.passes = omega arith in
    inr (record {
      state = state;
      fresh = k.fresh;
      used = k.used;
      one_each = length_push vs right ∙ ap (λ (n : ℕ). n + 1) long;
      one_row = length_push k.state.sealed [] ∙ ap (λ (n : ℕ). n + 1) k.one_row;
      some_out = let e : k.state.joined + 1 < k.state.passes + 1 = omega arith in e;
      few = let e : k.state.passes + 1 ≤ k.state.setup.threads + 1 = omega arith in e;
      fit = λ j u e. ⊎_elim
          (λ (old : get_elem? vs j ≡ some u). all_set (Fits state) views place left
          (fits_live state place left may.live f.opened (record {
            thread = l.thread;
            some_thread = l.some_thread;
            setup = l.setup;
            sealed = l.sealed ∙ sym (same place);
            still_out = l.still_out;
            head = λ _. record {
              given = ap (λ (n : ℕ). n + 1) h.given;
              pushed = h.pushed;
              drained = h.drained;
              joined = h.joined;
              returned = λ i lt. h.returned i lt ∙ sym (same (i + 2));
            };
          }))
          (λ j u ne e. fits_still k.state state j u (k.fit j u e) refl (same j) (λ m. m.still_out) (λ m one'. absurd (ne (one' ∙ sym one))))
          j u old)
          (λ (new : (j ≡ length vs) × (right ≡ u)). subst (λ (y : ℕ × View). Fits state y.0 y.1) (λ i. (sym (new.0 ∙ long) i, new.1 i))
          (fits_live state k.state.passes right refl refl (record {
            thread = h.given;
            some_thread = omega arith;
            setup = l.setup;
            sealed = sym (same k.state.passes ∙ get_or_past k.state.sealed k.state.passes [] (omega arith));
            still_out = inr k.some_out;
            head = λ p1. absurd (omega arith);
          })))
          (at_new vs right u j e);
      counted = λ p. subst (λ (row : List Filled). IsCounted p row) (sym (same p)) (k.counted p);
      enough = k.enough;
      stocking = λ lt. absurd (let less : k.state.pushed + k.state.setup.threads < k.state.setup.max = lt in let e = r.0 in omega arith);
      draining = λ lt. absurd (let some_drained : 0 < length k.state.drained = lt in let e : length k.state.drained ≡ 0 = ap length r.1 in omega arith);
      all = k.all;
      last = λ p. let s = k.last p in (s.0, same p ∙ s.1);
      whole = λ some_fresh p. k.whole some_fresh p ∙ sym (same p);
      count =
          let a = turning_push vs right in
          let b = turning_set views place v left at in
          let c = k.count in
          let e : length k.state.drained + length items ≡ k.state.pushed + turning (vs ++ right ∷ []) = omega arith in e;
      each = λ i d lt. let s = k.each i d lt in let below = s.below in record { is_size = s.is_size; is_begun = s.is_begun; some_thread = s.some_thread; below = omega arith };
    })
