-- The steps of a thread's seat keep the rule.
use Rattle.std.proofs.Common.{◌≡◌, ◌≢◌, ℕ, zero, suc, ◌+◌, ◌-◌, ◌<◌, ◌≤◌, List, length, get_or, set, sym, refl, ap, ◌∙◌, subst, arith}
use Rattle.std.proofs.Common.{length-set, get_or-set_other}
use mathlib.Core.Logic.{dite}
use mathlib.Core.Option.{none}
use native.Mathlib.Decide.{ℕ_discrete}
use Rattle.atomic_table.specs.Table.{Me, step, keeps, Allows}
use Rattle.patch_script.specs.Plans.{Plan}
use Rattle.sled_rule.specs.declared.views.PatchView.{PatchView}
use Rattle.sled_rule.specs.declared.views.WorkView.{WorkView}
use Rattle.sled_rule.specs.declared.views.View.{View}
use Rattle.sled_rule.specs.declared.views.View.TheVariants.{Work}
use Rattle.sled_rule.specs.Plans.{IsCodeIn, code_in, bound_in, start_in}
use Rattle.sled_rule.specs.Slots.{code_slot, progress_slot}
use Rattle.sled_rule.specs.Rule.{IsCore, IsWork, KeepsCode}
use Rattle.sled_rule.specs.Steps.{work_of, IsFetched}
use Rattle.sled_rule.specs.private.Plays.{fetched, counted}
use Rattle.sled_rule.specs.Views.{loading, counting}
use Rattle.sled_rule.proofs.Laws.{BoundReached}
use Rattle.sled_rule.proofs.SlotsApart.{one_slot, slots_apart}
use Rattle.sled_rule.proofs.OtherSeats.{IsLater, still, moves, loads, known_work, progress_else, progress_here, progress_grows, rises_more, work_on}

-- ---- a load

-- the first place, from `low` on, at which a word has a value
record IsFirst (f : ℕ → ℕ) (value low place : ℕ) : Type 0 where
  from : low ≤ place
  here : f place ≡ value
  before : (p : ℕ) → low ≤ p → p < place → f p ≡ value → ⊥

-- if some place has the value, there is a first one at or before it
first_place : (f : ℕ → ℕ) (value low n : ℕ) → f (low + n) ≡ value → (place : ℕ) × (place ≤ low + n) × IsFirst f value low place
first_place f value low zero e =
    (low, omega arith, record { from = omega arith; here = let z : low + 0 ≡ low = omega arith in ap f (sym z) ∙ e; before = λ p a b. absurd (omega arith) })
first_place f value low (suc n) e = dite (ℕ_discrete (f low) value)
    (λ now. (low, omega arith, record { from = omega arith; here = now; before = λ p a b. absurd (omega arith) }))
    (λ later.
    let z : suc low + n ≡ low + suc n = omega arith in
    let r = first_place f value (suc low) n (ap f z ∙ e) in
    let l = r.1 in let from = r.2.from in (
      r.0,
      omega arith,
      record {
        from = omega arith;
        here = r.2.here;
        before = λ p a b. dite (ℕ_discrete p low) (λ s. λ i. later (ap f (sym s) ∙ i)) (λ ns. r.2.before p (omega arith) b);
      },
    ))

-- the patcher's place is one that the thread may load from
reaches : (plan : Plan) → BoundReached plan → (words : List ℕ) (p : PatchView) (owner : ℕ → ℕ) (me : ℕ) (v : WorkView) → IsCore plan words p → IsWork plan words p owner me v
    → p.place ≤ bound_in plan v.thread v.count
reaches plan bounds words p owner me v core k =
    bounds v.thread v.count p.place core.place (λ i c l e. let a = core.awaited i v.thread c l e in let b = k.count in omega arith)

-- a seat's view after a load
loading_work : (plan : Plan) (words : List ℕ) (p : PatchView) (owner : ℕ → ℕ) (me : ℕ) (v : WorkView) (word value place : ℕ) → IsCore plan words p → IsWork plan words p owner me v
    → place ≤ p.place → place ≤ bound_in plan v.thread v.count → IsFirst (λ x. code_in plan x word) value v.seen place → IsWork plan words p owner me (loading v word value place)
loading_work plan words p owner me v word value place core k le bound l =
    work_on plan words words p owner me v place v.count _ k l.from le k.count
    (rises_more plan v.thread (start_in plan) v.seen v.loads _ k.loads l.from record { value = l.here; bound = bound })

pub fetches : (plan : Plan) → BoundReached plan → (slots id : ℕ) (me : Me (Unit {0}) View) (slot word : ℕ) (v : WorkView) → me.0 ≡ Work v → IsCodeIn plan word → slot ≡ code_slot plan word
    → Allows (KeepsCode plan) slots id me slot (λ n. n) (fetched (step slots slot 0 0 none) me)
fetches plan bounds slots id me slot word v is inside at_slot s r _ at _ =
    let k = known_work plan s r id me.0 v at is in
    let n : ℕ = get_or s.words slot 0 in
    let from = k.to in
    let gap : v.seen + (r.patch.place - v.seen) ≡ r.patch.place = omega arith in
    let here : code_in plan (v.seen + (r.patch.place - v.seen)) word ≡ n = ap (λ (x : ℕ). code_in plan x word) gap ∙ sym (ap (λ (i : ℕ). get_or s.words i 0) at_slot ∙ r.core.code word inside) in
    let q = first_place (λ x. code_in plan x word) n v.seen (r.patch.place - v.seen) here in
    let le = q.1 in
    let most = reaches plan bounds s.words r.patch r.owner id v r.core k in
    let bound : q.0 ≤ bound_in plan v.thread v.count = omega arith in (
      Work (loading v word n q.0),
      keeps,
      tt,
      loads plan s r slot s.homes r.patch r.owner id (Work (loading v word n q.0)) r.core (still plan s.words r.patch r.owner id)
          (loading_work plan s.words r.patch r.owner id v word n q.0 r.core k (omega arith) bound q.2) (λ j a b. refl),
      (
        refl,
        subst (λ (z : View). (other : ℕ) → IsCodeIn (work_of z).script other → slot ≡ code_slot (work_of z).script other → IsFetched (work_of z) other n (loading v word n q.0)) (sym is)
            (λ other is_code at_other.
            let other_code : IsCodeIn plan other = subst (λ (z : Plan). IsCodeIn z other) k.script is_code in
            let same : word ≡ other = one_slot plan word other inside other_code (sym at_slot ∙ (at_other ∙ ap (λ (z : Plan). code_slot z other) k.script)) in
            subst (λ (w : ℕ). IsFetched v w n (loading v word n q.0)) same
            record {
              place = q.0;
              from = q.2.from;
              bound = subst (λ (z : Plan). q.0 ≤ bound_in z v.thread v.count) (sym k.script) bound;
              here = subst (λ (z : Plan). code_in z q.0 word ≡ n) (sym k.script) q.2.here;
              first = subst (λ (z : Plan). (p : ℕ) → v.seen ≤ p → p < q.0 → code_in z p word ≡ n → ⊥) (sym k.script) q.2.before;
              view = refl;
            }),
        refl,
      ),
    )

-- ---- a store of the thread's count

-- what the words hold after it
counted_core : (plan : Plan) (words : List ℕ) (p : PatchView) (owner : ℕ → ℕ) (me : ℕ) (v : WorkView) (n : ℕ) → IsCore plan words p → IsWork plan words p owner me v → v.count ≤ n
    → IsCore plan (set words (progress_slot plan v.thread) n) p
counted_core plan words p owner me v n core k le =
    let wide = core.wide in let a = k.given in let b = core.given in let first = k.first in let count = k.count in
    let inside : progress_slot plan v.thread < length words = omega arith in
    let grows = λ (u : ℕ). progress_grows plan words n v.thread u inside (omega arith) in
    let apart = λ (u : ℕ) (ne : u ≢ v.thread). progress_else plan words (progress_slot plan v.thread) n u (λ e. ne (omega arith)) in record {
      script = core.script;
      wide = length-set words (progress_slot plan v.thread) n ∙ core.wide;
      place = core.place;
      given = core.given;
      code = λ w h. get_or-set_other words (progress_slot plan v.thread) (code_slot plan w) n 0 (λ e. slots_apart plan w v.thread h (sym e)) ∙ core.code w h;
      started = core.started;
      met = λ i m e. let o = core.met i m e in record {
        first = o.first;
        given = o.given;
        seen = o.seen;
        ended = apart m.thread (λ z. k.unmet record { index = i; one = m; at = e; is = z }) ∙ o.ended;
      };
      once = core.once;
      idle = λ u h h'. apart u (λ e. omega arith) ∙ core.idle u h h';
      awaited = λ i u c h e. let o = core.awaited i u c h e in let g = grows u in omega arith;
      room = core.room;
      known = λ u h. let o = core.known u h in let g = grows u in omega arith;
    }

pub counts : (plan : Plan) (slots id : ℕ) (me : Me (Unit {0}) View) (word n : ℕ) (v : WorkView) → me.0 ≡ Work v → word ≡ progress_slot plan v.thread → v.count ≤ n
    → Allows (KeepsCode plan) slots id me word (λ _. n) (λ _. counted (step slots word n 0 none) me n)
counts plan slots id me word n v is at_word le s r _ at _ =
    let k = known_work plan s r id me.0 v at is in
    let core = counted_core plan s.words r.patch r.owner id v n r.core k le in
    let a = k.given in let b = r.core.given in let wide = r.core.wide in let first = k.first in let count = k.count in
    let inside : progress_slot plan v.thread < length s.words = omega arith in
    let new : WorkView = counting v n in (
      Work new,
      keeps,
      tt,
      moves plan s r (set s.words word n) s.homes r.patch r.owner id (Work new)
          (subst (λ (i : ℕ). IsCore plan (set s.words i n) r.patch) (sym at_word) core)
          (subst (λ (i : ℕ). IsLater plan s.words (set s.words i n) r.patch r.patch r.owner r.owner id) (sym at_word)
          record {
            place = omega arith;
            given = omega arith;
            grows = λ t. progress_grows plan s.words n v.thread t inside (omega arith);
            own = λ t f h other. (refl, progress_else plan s.words (progress_slot plan v.thread) n t (λ e. let same : t ≡ v.thread = omega arith in other (ap r.owner same ∙ k.own)), λ m. m);
          })
          (subst (λ (i : ℕ). IsWork plan (set s.words i n) r.patch r.owner id new) (sym at_word)
          (work_on plan s.words (set s.words (progress_slot plan v.thread) n) r.patch r.owner id v v.seen n v.loads k (omega arith) k.to (progress_here plan s.words n v.thread inside) k.loads))
          (λ j c d. refl),
      (ap (λ (z : View). Work (counting (work_of z) n)) (sym is), refl),
    )
