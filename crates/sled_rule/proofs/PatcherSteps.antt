-- The steps of the patcher's seat keep the rule.
use Rattle.std.proofs.Common.{◌≡◌, ℕ, ◌+◌, ◌<◌, ◌≤◌, List, length, get_or, set, sym, refl, ap, ◌∙◌, subst, arith, unwrap_or}
use Rattle.std.proofs.Common.{length-set, get_or-set_other, get_or-set_same}
use Rattle.std.specs.Prelude.{◌==◌, true, false, slice_index, nat_lt, if◌then◌else◌}
use Rattle.std.proofs.lemmas.Bool.Decides.{nat_tests}
use mathlib.Core.Logic.{dite}
use mathlib.Core.Option.{some, none}
use native.Mathlib.Decide.{ℕ_discrete, dec_lt}
use lib.ListN.{get_elem?}
use Rattle.atomic_table.specs.Table.{Me, step, keeps, Allows}
use Rattle.patch_script.specs.declared.micro.Micro.TheVariants.{Store, Await}
use Rattle.patch_script.specs.CodeAt.{stored_in}
use Rattle.patch_script.specs.Plans.{Plan}
use Rattle.sled_rule.specs.declared.views.Met.{Met}
use Rattle.sled_rule.specs.declared.views.PatchView.{PatchView}
use Rattle.sled_rule.specs.declared.views.View.{View}
use Rattle.sled_rule.specs.declared.views.View.TheVariants.{Patch}
use Rattle.sled_rule.specs.Plans.{IsCodeIn, code_in, micro_in}
use Rattle.sled_rule.specs.Slots.{code_slot, progress_slot}
use Rattle.sled_rule.specs.Rule.{progress, IsCore, KeepsCode, WasMet}
use Rattle.sled_rule.specs.Steps.{patch_of}
use Rattle.sled_rule.specs.private.Plays.{patched, looked, confirmed}
use Rattle.sled_rule.specs.Views.{advanced, knowing, looked_at}
use Rattle.sled_rule.proofs.Laws.{CodeNext, code_stored, code_awaited, store_within, await_within}
use Rattle.sled_rule.proofs.SlotsApart.{one_slot, slot_within, slots_apart}
use Rattle.sled_rule.proofs.OtherSeats.{IsLater, still, moves, loads, known_patch, progress_else}

-- ---- a store of the script

-- a word after a store
stored_word : (plan : Plan) (words : List ℕ) (i n w before : ℕ) → IsCodeIn plan i → IsCodeIn plan w → code_slot plan i < length words
    → get_or words (code_slot plan w) 0 ≡ before
    → get_or (set words (code_slot plan i) n) (code_slot plan w) 0 ≡ unwrap_or (stored_in w (Store i n)) before
stored_word plan words i n w before stored other inside is = dite (ℕ_discrete i w)
    (λ e.
    let a : get_or (set words (code_slot plan i) n) (code_slot plan w) 0 ≡ n =
    subst (λ (z : ℕ). get_or (set words (code_slot plan i) n) (code_slot plan z) 0 ≡ n) e (get_or-set_same words (code_slot plan i) n 0 inside) in
    a ∙ sym (stores i w n before e))
    (λ ne. get_or-set_other words (code_slot plan i) (code_slot plan w) n 0 (λ e. ne (one_slot plan i w stored other (sym e))) ∙ (is ∙ sym (leaves i w n before ne)))
  where
    stores : (i w n before : ℕ) → i ≡ w → unwrap_or (stored_in w (Store i n)) before ≡ n
    stores i w n before e = let test : (i == w) ≡ true = grind (arith, nat_tests) in rw test refl

    leaves : (i w n before : ℕ) → (i ≡ w → ⊥) → unwrap_or (stored_in w (Store i n)) before ≡ before
    leaves i w n before ne = let test : (i == w) ≡ false = grind (arith, nat_tests) in rw test refl

patched_core : (plan : Plan) → CodeNext plan → (words : List ℕ) (p : PatchView) (i n : ℕ) → IsCore plan words p → micro_in plan p.place ≡ Store i n → IsCodeIn plan i
    → IsCore plan (set words (code_slot plan i) n) (advanced p)
patched_core plan next words p i n core step inside =
    let wide = core.wide in
    let within = store_within plan p.place i n step in
    let slot = slot_within plan i inside in
    let same = λ (t : ℕ). progress_else plan words (code_slot plan i) n t (slots_apart plan i t inside) in record {
      script = core.script;
      wide = length-set words (code_slot plan i) n ∙ core.wide;
      place = omega arith;
      given = core.given;
      code = λ w h. stored_word plan words i n w (code_in plan p.place w) inside h (omega arith) (core.code w h) ∙ sym (code_stored plan next p.place i n w step);
      started = λ h. let a = core.started h in omega arith;
      met = λ j m e. let o = core.met j m e in let a = o.seen in record { first = o.first; given = o.given; seen = omega arith; ended = same m.thread ∙ o.ended };
      once = core.once;
      idle = λ t h h'. same t ∙ core.idle t h h';
      awaited = λ j t c h e. dite (ℕ_discrete j p.place)
          (λ is. let e' : micro_in plan p.place ≡ Await t c = ap (micro_in plan) (sym is) ∙ e in absurd (cc))
          (λ ne. let o = core.awaited j t c (omega arith) e in let z = same t in omega arith);
      room = core.room;
      known = λ t h. let o = core.known t h in let z = same t in omega arith;
    }

pub patches : (plan : Plan) → CodeNext plan → (slots id : ℕ) (me : Me (Unit {0}) View) (slot word n : ℕ) (p : PatchView) → me.0 ≡ Patch p → micro_in plan p.place ≡ Store word n → IsCodeIn plan word
    → slot ≡ code_slot plan word → Allows (KeepsCode plan) slots id me slot (λ _. n) (λ _. patched (step slots slot n 0 none) me n)
patches plan next slots id me slot word n p is at_step inside at_slot s r _ at _ =
    let k = known_patch plan s r id me.0 p at is in
    let at_step' : micro_in plan r.patch.place ≡ Store word n = subst (λ (z : PatchView). micro_in plan z.place ≡ Store word n) k.0 at_step in
    let same = λ (t : ℕ). progress_else plan s.words slot n t (λ e. slots_apart plan word t inside (e ∙ at_slot)) in (
      Patch (advanced r.patch),
      keeps,
      tt,
      moves plan s r (set s.words slot n) s.homes (advanced r.patch) r.owner id (Patch (advanced r.patch))
          (subst (λ (i : ℕ). IsCore plan (set s.words i n) (advanced r.patch)) (sym at_slot) (patched_core plan next s.words r.patch word n r.core at_step' inside))
          record {
            place = omega arith;
            given = omega arith;
            grows = λ t. let z = same t in omega arith;
            own = λ t a b c. (refl, same t, λ m. m);
          }
          (refl, k.1) (λ j other here. absurd (other (here ∙ sym k.1))),
      (ap (λ (z : PatchView). Patch (advanced z)) (sym k.0) ∙ ap (λ (z : View). Patch (advanced (patch_of z))) (sym is), refl),
    )

-- ---- a load of the progress word that is awaited

-- what the words hold, if more of a thread is known, and these threads were met
pub met_core : (plan : Plan) (words : List ℕ) (p : PatchView) (met : List Met) (t n : ℕ) → IsCore plan words p → n ≤ progress plan words t
    → ((i : ℕ) (one : Met) → get_elem? met i ≡ some one → WasMet plan words p one)
    → ((i j : ℕ) (one other : Met) → get_elem? met i ≡ some one → get_elem? met j ≡ some other → one.thread ≡ other.thread → i ≡ j)
    → IsCore plan words (record p { met = met; known = set p.known t n })
met_core plan words p met t n core le each once = record {
  script = core.script;
  wide = core.wide;
  place = core.place;
  given = core.given;
  met = λ i m e. let o = each i m e in record { first = o.first; given = o.given; seen = o.seen; ended = o.ended };
  once = once;
  code = core.code;
  started = core.started;
  idle = core.idle;
  awaited = core.awaited;
  room = length-set p.known t n ∙ core.room;
  known = λ u h. let room = core.room in dite (ℕ_discrete u t)
      (λ e. let a : get_or (set p.known t n) t 0 ≡ n = get_or-set_same p.known t n 0 (omega arith) in subst (λ (z : ℕ). get_or (set p.known t n) z 0 ≤ progress plan words z) (sym e) (omega arith))
      (λ ne. let a = get_or-set_other p.known t u n 0 ne in let o = core.known u h in omega arith);
}

-- the same threads were met
pub knowing_core : (plan : Plan) (words : List ℕ) (p : PatchView) (t n : ℕ) → IsCore plan words p → n ≤ progress plan words t → IsCore plan words (knowing p t n)
knowing_core plan words p t n core le = met_core plan words p p.met t n core le core.met core.once

-- an await that is reached is passed
awaited_core : (plan : Plan) → CodeNext plan → (words : List ℕ) (p : PatchView) (t c : ℕ) → IsCore plan words p → micro_in plan p.place ≡ Await t c → c ≤ progress plan words t
    → IsCore plan words (advanced p)
awaited_core plan next words p t c core step le =
    let within = await_within plan p.place t c step in record {
      script = core.script;
      wide = core.wide;
      place = omega arith;
      given = core.given;
      code = λ w h. core.code w h ∙ sym (code_awaited plan next p.place t c w step);
      started = λ h. let a = core.started h in omega arith;
      met = λ j m e. let o = core.met j m e in let a = o.seen in record { first = o.first; given = o.given; seen = omega arith; ended = o.ended };
      once = core.once;
      idle = core.idle;
      awaited = λ j u d h e. dite (ℕ_discrete j p.place)
          (λ is. let e' : micro_in plan p.place ≡ Await u d = ap (micro_in plan) (sym is) ∙ e in let a : u ≡ t = cc in let b : d ≡ c = cc in
          subst (λ (z : ℕ). d ≤ progress plan words z) (sym a) (omega arith))
          (λ ne. core.awaited j u d (omega arith) e);
      room = core.room;
      known = core.known;
    }

looked_core : (plan : Plan) → CodeNext plan → (words : List ℕ) (p : PatchView) (t c : ℕ) → IsCore plan words p → micro_in plan p.place ≡ Await t c
    → IsCore plan words (looked_at p t c (progress plan words t)) × (p.place ≤ (looked_at p t c (progress plan words t)).place)
looked_core plan next words p t c core step =
    let n : ℕ = progress plan words t in
    let k = knowing_core plan words p t n core (omega arith) in
    let with_place = λ (x : ℕ). let y : PatchView = record p { place = x; known = set p.known t n } in y in
    let Good : ℕ → Type 0 = λ x. IsCore plan words (with_place x) × (p.place ≤ x) in
    dite (dec_lt n c)
    (λ less. let is : (if nat_lt n c then p.place else p.place + 1) ≡ p.place = grind (arith, nat_tests) in subst Good (sym is) (k, omega arith))
    (λ more. let is : (if nat_lt n c then p.place else p.place + 1) ≡ p.place + 1 = grind (arith, nat_tests) in
    subst Good (sym is) (awaited_core plan next words (knowing p t n) t c k step (omega arith), omega arith))

pub looks : (plan : Plan) → CodeNext plan → (slots id : ℕ) (me : Me (Unit {0}) View) (word t c : ℕ) (p : PatchView) → me.0 ≡ Patch p → micro_in plan p.place ≡ Await t c
    → t ≤ plan.threads → word ≡ progress_slot plan t
    → Allows (KeepsCode plan) slots id me word (λ n. n) (looked (step slots word 0 0 none) me)
looks plan next slots id me word t c p is at_step last at_word s r _ at _ =
    let k = known_patch plan s r id me.0 p at is in
    let core = subst (λ (z : PatchView). IsCore plan s.words z) (sym k.0) r.core in
    let n : ℕ = progress plan s.words t in
    let g = looked_core plan next s.words p t c core at_step in
    let here : get_or s.words word 0 ≡ n = ap (λ (i : ℕ). get_or s.words i 0) at_word in
    let low : slice_index p.known t ≤ n = core.known t last in
    let le = g.1 in (
      Patch (looked_at p t c n),
      keeps,
      tt,
      loads plan s r word s.homes (looked_at p t c n) r.owner id (Patch (looked_at p t c n)) g.0
          (subst (λ (z : PatchView). IsLater plan s.words s.words z (looked_at p t c n) r.owner r.owner id) k.0
          record { place = le; given = omega arith; grows = λ u. omega arith; own = λ u a b d. (refl, refl, λ m. m) })
          (refl, k.1) (λ j other at_patcher. absurd (other (at_patcher ∙ sym k.1))),
      (
        λ t' c' e.
            let e' : micro_in p.script p.place ≡ Await t' c' = subst (λ (z : View). micro_in (patch_of z).script (patch_of z).place ≡ Await t' c') is e in
            let e'' : micro_in plan p.place ≡ Await t' c' = subst (λ (z : Plan). micro_in z p.place ≡ Await t' c') core.script e' in
            let a : t ≡ t' = cc in let b : c ≡ c' = cc in
            subst (λ (z : View). (slice_index (patch_of z).known t' ≤ get_or s.words word 0) × (Patch (looked_at p t c n) ≡ Patch (looked_at (patch_of z) t' c' (get_or s.words word 0)))
            × (slice_index (looked_at (patch_of z) t' c' (get_or s.words word 0)).known t' ≡ get_or s.words word 0)) (sym is) (
              subst (λ (z : ℕ × ℕ). slice_index p.known z.0 ≤ z.1) (λ i. (a i, sym here i)) low,
              λ i. Patch (looked_at p (a i) (b i) (sym here i)),
              get_or-set_same p.known t' (get_or s.words word 0) 0 (subst (λ (z : ℕ). z < length p.known) a (omega (arith, core.room, last))),
            ),
        refl,
      ),
    )

-- ---- a load that changes nothing

pub confirms : (plan : Plan) (slots id : ℕ) (me : Me (Unit {0}) View) (word : ℕ) (p : PatchView) → me.0 ≡ Patch p
    → Allows (KeepsCode plan) slots id me word (λ n. n) (confirmed (step slots word 0 0 none) me)
confirms plan slots id me word p is s r _ at _ =
    let k = known_patch plan s r id me.0 p at is in
    let core = subst (λ (z : PatchView). IsCore plan s.words z) (sym k.0) r.core in (
      me.0,
      keeps,
      tt,
      loads plan s r word s.homes r.patch r.owner id me.0 r.core (still plan s.words r.patch r.owner id) (r.each id me.0 at) (λ j a b. refl),
      (
        refl,
        refl,
        λ i one e. subst (λ (z : View). (i : ℕ) (one : Met) → get_elem? (patch_of z).met i ≡ some one → one.seen ≤ (patch_of z).place) (sym is)
            (λ i' one' e'. (core.met i' one' e').seen) i one e,
      ),
    )
