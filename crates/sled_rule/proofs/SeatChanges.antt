-- Seats that come and go keep the rule.
use Rattle.std.proofs.Common.{◌≡◌, ◌≢◌, inl, inr, ℕ, suc, ◌+◌, ◌<◌, max, List, [], ◌∷◌, ◌++◌, length, set, sym, refl, ap, ◌∙◌, subst, arith}
use Rattle.std.specs.Prelude.{slice_index}
use mathlib.Core.Option.{some}
use lib.ListN.{get_elem?}
use Rattle.atomic_table.specs.Table.{State, Splits, Joins}
use Rattle.atomic_table.proofs.Lists.{at_set, set_else}
use Rattle.sled_rule.specs.declared.views.Met.{Met}
use Rattle.sled_rule.specs.declared.views.PatchView.{PatchView}
use Rattle.sled_rule.specs.declared.views.WorkView.{WorkView}
use Rattle.sled_rule.specs.declared.views.NoteView.{NoteView}
use Rattle.sled_rule.specs.declared.views.TallyView.{TallyView}
use Rattle.sled_rule.specs.declared.views.View.{View}
use Rattle.sled_rule.specs.declared.views.View.TheVariants.{Patch, Work, Note, Tally, Spent}
use Rattle.patch_script.specs.Plans.{Plan}
use Rattle.sled_rule.specs.Plans.{start_in}
use Rattle.sled_rule.specs.Rule.{Rises, IsMet, WasMet, IsCore, IsWork, IsNote, IsTally, Knows, KeepsCode}
use Rattle.sled_rule.specs.Views.{ended_count, giving, next_work, note_at, tally_at, hearing, heeding, meeting}
use Rattle.sled_rule.proofs.Rows.{put, put_here, put_else, at_end, at_front}
use Rattle.sled_rule.proofs.OtherSeats.{IsLater, still, stays, known_work, known_patch, rises_up, work_on}
use Rattle.sled_rule.proofs.PatcherSteps.{knowing_core, met_core}

module _ (plan : Plan) where
  -- a seat's view is split in two
  comes : (s : State (Unit {0}) View) (r : KeepsCode plan s) (p' : PatchView) (owner' : ℕ → ℕ) (me : ℕ) (left right : View) → IsCore plan s.words p'
      → IsLater plan s.words s.words r.patch p' r.owner owner' me
      → Knows plan s.words p' r.patcher owner' me left → Knows plan s.words p' r.patcher owner' (length (set s.views me left)) right
      → ((j : ℕ) → j ≢ me → j ≡ r.patcher → r.patch ≡ p')
      → KeepsCode plan record { words = s.words; homes = s.homes; views = set s.views me left ++ right ∷ [] }
  comes s r p' owner' me left right core later mine new same = record {
    patch = p';
    patcher = r.patcher;
    owner = owner';
    core = core;
    each = λ j v e. elim (at_end (set s.views me left) right v j e) [
      | inr t ↦ subst (λ (z : ℕ × View). Knows plan s.words p' r.patcher owner' z.0 z.1) (λ i. (sym t.0 i, t.1 i)) new
      | inl h ↦ elim (at_set s.views me j left v h) [
        | inl t ↦ subst (λ (z : ℕ × View). Knows plan s.words p' r.patcher owner' z.0 z.1) (λ i. (sym t.0 i, t.1 i)) mine
        | inr t ↦ stays plan s.words s.words r.patch p' r.owner owner' r.patcher me j later t.0 (same j t.0) v (r.each j v t.1)
      ]
    ];
  }

  -- a seat takes in another's view, which is spent
  goes : (s : State (Unit {0}) View) (r : KeepsCode plan s) (p' : PatchView) (me other : ℕ) (both : View) → IsCore plan s.words p'
      → IsLater plan s.words s.words r.patch p' r.owner r.owner other
      → Knows plan s.words p' r.patcher r.owner me both
      → ((j : ℕ) → j ≢ me → j ≡ r.patcher → r.patch ≡ p')
      → KeepsCode plan record { words = s.words; homes = s.homes; views = set (set s.views me both) other Spent }
  goes s r p' me other both core later mine same = record {
    patch = p';
    patcher = r.patcher;
    owner = r.owner;
    core = core;
    each = λ j v e. elim (at_set (set s.views me both) other j Spent v e) [
      | inl t ↦ subst (Knows plan s.words p' r.patcher r.owner j) t.1 tt
      | inr h ↦ elim (at_set s.views me j both v h.1) [
        | inl t ↦ subst (λ (z : ℕ × View). Knows plan s.words p' r.patcher r.owner z.0 z.1) (λ i. (sym t.0 i, t.1 i)) mine
        | inr t ↦ stays plan s.words s.words r.patch p' r.owner r.owner r.patcher other j later h.0 (same j t.0) v (r.each j v t.1)
      ]
    ];
  }

  giving_core : (words : List ℕ) (p : PatchView) → IsCore plan words p → p.place ≡ start_in plan → p.given < plan.threads → IsCore plan words (giving p)
  giving_core words p core starts few = record {
    script = core.script;
    wide = core.wide;
    place = core.place;
    given = omega arith;
    code = core.code;
    started = λ h. omega arith;
    met = λ j m e. let o = core.met j m e in let a = o.given in record { first = o.first; given = omega arith; seen = o.seen; ended = o.ended };
    once = core.once;
    idle = λ t h h'. core.idle t (omega arith) h';
    awaited = core.awaited;
    room = core.room;
    known = core.known;
  }

  new_work : (words : List ℕ) (p : PatchView) (owner : ℕ → ℕ) (seat : ℕ) → IsCore plan words p → p.place ≡ start_in plan → p.given < plan.threads
      → IsWork plan words (giving p) (put owner (p.given + 1) seat) seat (next_work p)
  unfolding Rises
  new_work words p owner seat core starts few =
      let here : start_in p.script ≡ start_in plan = ap start_in core.script in record {
        script = core.script;
        first = omega arith;
        given = omega arith;
        own = put_here owner (p.given + 1) seat (p.given + 1) refl;
        unmet = λ m. let o = core.met m.index m.one m.at in let a = o.given in let b = m.is in absurd (omega arith);
        from = omega arith;
        to = omega arith;
        count = core.idle (p.given + 1) (omega arith) (omega arith);
        loads = omega arith;
      }

  pub gives : (id : ℕ) (view : View) (p : PatchView) → view ≡ Patch p → p.place ≡ start_in plan → p.given < plan.threads
      → Splits (KeepsCode plan) id view (Patch (giving p)) (Work (next_work p))
  gives id view p is starts few s r at =
      let k = known_patch plan s r id view p at is in
      let core = subst (λ (z : PatchView). IsCore plan s.words z) (sym k.0) r.core in
      let seat : ℕ = length (set s.views id (Patch (giving p))) in
      comes s r (giving p) (put r.owner (p.given + 1) seat) id (Patch (giving p)) (Work (next_work p)) (giving_core s.words p core starts few)
      (subst (λ (z : PatchView). IsLater plan s.words s.words z (giving p) r.owner (put r.owner (p.given + 1) seat) id) k.0
      record { place = omega arith; given = omega arith; grows = λ t. omega arith; own = λ t a b c. (put_else r.owner (p.given + 1) seat t (λ e. omega arith), refl, λ m. m) })
      (refl, k.1) (new_work s.words p r.owner seat core starts few) (λ j other here. absurd (other (here ∙ sym k.1)))

  pub notes : (id : ℕ) (view : View) (p : PatchView) → view ≡ Patch p → Splits (KeepsCode plan) id view (Patch p) (Note (note_at p))
  notes id view p is s r at =
      let k = known_patch plan s r id view p at is in
      let core = subst (λ (z : PatchView). IsCore plan s.words z) (sym k.0) r.core in
      comes s r r.patch r.owner id (Patch p) (Note (note_at p)) r.core (still plan s.words r.patch r.owner id)
      k (subst (λ (z : PatchView). IsNote plan z (note_at p)) k.0 record { script = core.script; told = omega arith }) (λ j a b. refl)

  pub tallies : (id : ℕ) (view : View) (v : WorkView) → view ≡ Work v → Splits (KeepsCode plan) id view (Work v) (Tally (tally_at v))
  tallies id view v is s r at =
      let k = known_work plan s r id view v at is in let c = k.count in
      comes s r r.patch r.owner id (Work v) (Tally (tally_at v)) r.core (still plan s.words r.patch r.owner id)
      k record { script = k.script; first = k.first; given = k.given; count = omega arith } (λ j a b. refl)

  -- what the other seat's view says
  other_view : (s : State (Unit {0}) View) (r : KeepsCode plan s) (id other : ℕ) (both w w' : View) → ¬ (other ≡ id) → get_elem? (set s.views id both) other ≡ some w → w ≡ w'
      → Knows plan s.words r.patch r.patcher r.owner other w'
  other_view s r id other both w w' apart at is = subst (Knows plan s.words r.patch r.patcher r.owner other) is (r.each other w (sym (set_else s.views id other both apart) ∙ at))

  pub hears : (id : ℕ) (view : View) (v : WorkView) (other : ℕ) (note : View) (n : NoteView) → view ≡ Work v → note ≡ Note n
      → Joins (KeepsCode plan) id view other note (Work (hearing v n)) Spent
  hears id view v other note n is is' s r at apart at' =
      let k = known_work plan s r id view v at is in
      let o : IsNote plan r.patch n = other_view s r id other (Work (hearing v n)) note (Note n) apart at' is' in
      let b = k.to in let c = o.told in
      goes s r r.patch id other (Work (hearing v n)) r.core (still plan s.words r.patch r.owner other)
      (work_on plan s.words s.words r.patch r.owner id v (max v.seen n.told) v.count v.loads k (omega arith) (omega arith) k.count
      (rises_up plan v.thread (start_in plan) v.seen (max v.seen n.told) v.loads (omega arith) k.loads))
      (λ j a b. refl)

  pub heeds : (id : ℕ) (view : View) (p : PatchView) (other : ℕ) (tally : View) (t : TallyView) → view ≡ Patch p → tally ≡ Tally t
      → Joins (KeepsCode plan) id view other tally (Patch (heeding p t)) Spent
  heeds id view p other tally t is is' s r at apart at' =
      let k = known_patch plan s r id view p at is in
      let core = subst (λ (z : PatchView). IsCore plan s.words z) (sym k.0) r.core in
      let o : IsTally plan s.words r.patch t = other_view s r id other (Patch (heeding p t)) tally (Tally t) apart at' is' in
      let a = r.core.given in let b = o.given in let c = o.count in let d = core.known t.thread (omega arith) in
      goes s r (heeding p t) id other (Patch (heeding p t)) (knowing_core plan s.words p t.thread (max (slice_index p.known t.thread) t.count) core (omega arith))
      (subst (λ (z : PatchView). IsLater plan s.words s.words z (heeding p t) r.owner r.owner other) k.0 record { place = omega arith; given = omega arith; grows = λ u. omega arith; own = λ u a b c. (refl, refl, λ m. m) })
      (refl, k.1) (λ j other here. absurd (other (here ∙ sym k.1)))

  -- the first of the threads that were met is the new one
  met_after : (p : PatchView) (v : WorkView) (t : ℕ) → t ≢ v.thread → IsMet (meeting p v).met t → IsMet p.met t
  met_after p v t ne m = elim (at_front p.met (record { thread = v.thread; seen = v.seen }) m.one m.index m.at) [
    | inl h ↦ let a = ap (λ (z : Met). z.thread) h.1 in let b = m.is in absurd (ne (sym b ∙ sym a))
    | inr h ↦ record { index = h.0; one = m.one; at = h.2; is = m.is }
  ]

  meeting_core : (words : List ℕ) (p : PatchView) (owner : ℕ → ℕ) (other : ℕ) (v : WorkView) → IsCore plan words p → IsWork plan words p owner other v → v.count ≡ ended_count
      → IsCore plan words (meeting p v)
  meeting_core words p owner other v core w ended =
      let c = w.count in let new : Met = record { thread = v.thread; seen = v.seen } in
      met_core plan words p (new ∷ p.met) v.thread ended_count core (omega arith)
      (λ i m e. elim (at_front p.met new m i e) [
        | inl h ↦ subst (WasMet plan words p) h.1 record { first = w.first; given = w.given; seen = w.to; ended = w.count ∙ ended }
        | inr h ↦ core.met h.0 m h.2
      ])
      (λ i j m n e f same. elim (at_front p.met new m i e) [
        | inl a ↦ elim (at_front p.met new n j f) [
          | inl b ↦ a.0 ∙ sym b.0
          | inr b ↦ absurd (w.unmet record { index = b.0; one = n; at = b.2; is = sym same ∙ sym (ap (λ (z : Met). z.thread) a.1) })
        ]
        | inr a ↦ elim (at_front p.met new n j f) [
          | inl b ↦ absurd (w.unmet record { index = a.0; one = m; at = a.2; is = same ∙ sym (ap (λ (z : Met). z.thread) b.1) })
          | inr b ↦ a.1 ∙ (ap suc (core.once a.0 b.0 m n a.2 b.2 same) ∙ sym b.1)
        ]
      ])

  pub meets : (id : ℕ) (view : View) (p : PatchView) (other : ℕ) (worker : View) (v : WorkView) → view ≡ Patch p → worker ≡ Work v → v.count ≡ ended_count
      → Joins (KeepsCode plan) id view other worker (Patch (meeting p v)) Spent
  meets id view p other worker v is is' ended s r at apart at' =
      let k = known_patch plan s r id view p at is in
      let core = subst (λ (z : PatchView). IsCore plan s.words z) (sym k.0) r.core in
      let o : IsWork plan s.words r.patch r.owner other v = other_view s r id other (Patch (meeting p v)) worker (Work v) apart at' is' in
      let w = subst (λ (z : PatchView). IsWork plan s.words z r.owner other v) (sym k.0) o in
      goes s r (meeting p v) id other (Patch (meeting p v)) (meeting_core s.words p r.owner other v core w ended)
      (subst (λ (z : PatchView). IsLater plan s.words s.words z (meeting p v) r.owner r.owner other) k.0 record {
        place = omega arith;
        given = omega arith;
        grows = λ u. omega arith;
        own = λ u a b c. (refl, refl, met_after p v u (λ e. c (ap r.owner e ∙ w.own)));
      })
      (refl, k.1) (λ j other here. absurd (other (here ∙ sym k.1)))
