-- What a step leaves to other seats, and the rule after a step.
use Rattle.std.proofs.Common.{◌≡◌, ◌≢◌, inl, inr, ℕ, ◌<◌, ◌≤◌, List, [], ◌∷◌, ◌++◌, length, get_or, set, sym, refl, ◌∙◌, subst, arith}
use Rattle.std.proofs.Common.{get_or-set_other, get_or-set_same}
use mathlib.Core.Logic.{dite}
use mathlib.Core.Option.{some}
use mathlib.Core.Option as maybe
use native.Mathlib.Decide.{ℕ_discrete}
use lib.ListN.{get_elem?}
use lib.Seq.{set-get_or}
use Rattle.atomic_table.specs.Table.{State}
use Rattle.atomic_table.proofs.Lists.{at_set}
use Rattle.sled_rule.specs.declared.views.Load.{Load}
use Rattle.sled_rule.specs.declared.views.PatchView.{PatchView}
use Rattle.sled_rule.specs.declared.views.WorkView.{WorkView}
use Rattle.sled_rule.specs.declared.views.View.{View}
use Rattle.sled_rule.specs.declared.views.View.TheVariants.{Patch, Work, Note, Tally, Spent}
use Rattle.patch_script.specs.Plans.{Plan}
use Rattle.sled_rule.specs.Plans.{start_in}
use Rattle.sled_rule.specs.Slots.{progress_slot}
use Rattle.sled_rule.specs.Rule.{progress, Rises, IsLawful, IsMet, IsCore, IsWork, Knows, KeepsCode}

-- what the other seats, all but `me`, rely on over a step
pub record IsLater (plan : Plan) (words words' : List ℕ) (p p' : PatchView) (owner owner' : ℕ → ℕ) (me : ℕ) : Type 0 where
  pub place : p.place ≤ p'.place
  pub given : p.given ≤ p'.given
  pub grows : (t : ℕ) → progress plan words t ≤ progress plan words' t
  pub own : (t : ℕ) → 0 < t → t ≤ p.given → owner t ≢ me → (owner' t ≡ owner t) × (progress plan words' t ≡ progress plan words t) × (IsMet p'.met t → IsMet p.met t)

-- a step that changes nothing that others see
pub still : (plan : Plan) (words : List ℕ) (p : PatchView) (owner : ℕ → ℕ) (me : ℕ) → IsLater plan words words p p owner owner me
still plan words p owner me = record { place = omega arith; given = omega arith; grows = λ t. omega arith; own = λ t a b c. (refl, refl, λ m. m) }

module _ (plan : Plan) where
  pub stays : (words words' : List ℕ) (p p' : PatchView) (owner owner' : ℕ → ℕ) (patcher me j : ℕ) → IsLater plan words words' p p' owner owner' me
      → j ≢ me → (j ≡ patcher → p ≡ p') → (v : View) → Knows plan words p patcher owner j v → Knows plan words' p' patcher owner' j v
  stays words words' p p' owner owner' patcher me j l other same (Patch v) k = (k.0 ∙ same k.1, k.1)
  stays words words' p p' owner owner' patcher me j l other same (Work v) k =
      let o = l.own v.thread k.first k.given (λ e. other (sym k.own ∙ e)) in
      let a = l.given in let b = l.place in let c = k.given in let d = k.to in record {
        script = k.script;
        first = k.first;
        given = omega arith;
        own = o.0 ∙ k.own;
        unmet = λ m. k.unmet (o.2 m);
        from = k.from;
        to = omega arith;
        count = o.1 ∙ k.count;
        loads = k.loads;
      }
  stays words words' p p' owner owner' patcher me j l other same (Note v) k = let a = l.place in let b = k.told in record { script = k.script; told = omega arith }
  stays words words' p p' owner owner' patcher me j l other same (Tally v) k =
      let a = l.given in let c = k.given in let g = l.grows v.thread in let d = k.count in record {
        script = k.script;
        first = k.first;
        given = omega arith;
        count = omega arith;
      }
  stays words words' p p' owner owner' patcher me j l other same Spent k = tt

  -- the rule after a step of the seat
  pub moves : (s : State (Unit {0}) View) (r : KeepsCode plan s) (words' : List ℕ) (homes' : List (maybe.Option (Unit {0}))) (p' : PatchView) (owner' : ℕ → ℕ) (me : ℕ) (w : View)
      → IsCore plan words' p' → IsLater plan s.words words' r.patch p' r.owner owner' me → Knows plan words' p' r.patcher owner' me w
      → ((j : ℕ) → j ≢ me → j ≡ r.patcher → r.patch ≡ p')
      → KeepsCode plan record { words = words'; homes = homes'; views = set s.views me w }
  moves s r words' homes' p' owner' me w core later mine same = record {
    patch = p';
    patcher = r.patcher;
    owner = owner';
    core = core;
    each = λ j v e. elim (at_set s.views me j w v e) [
      | inl t ↦ subst (λ (z : ℕ × View). Knows plan words' p' r.patcher owner' z.0 z.1) (λ i. (sym t.0 i, t.1 i)) mine
      | inr t ↦ stays s.words words' r.patch p' r.owner owner' r.patcher me j later t.0 (same j t.0) v (r.each j v t.1)
    ];
  }

  -- the same for a load, which leaves the words as they are
  pub loads : (s : State (Unit {0}) View) (r : KeepsCode plan s) (i : ℕ) (homes' : List (maybe.Option (Unit {0}))) (p' : PatchView) (owner' : ℕ → ℕ) (me : ℕ) (w : View)
      → IsCore plan s.words p' → IsLater plan s.words s.words r.patch p' r.owner owner' me → Knows plan s.words p' r.patcher owner' me w
      → ((j : ℕ) → j ≢ me → j ≡ r.patcher → r.patch ≡ p')
      → KeepsCode plan record { words = set s.words i (get_or s.words i 0); homes = homes'; views = set s.views me w }
  loads s r i homes' p' owner' me w core later mine same =
      subst (λ (ws : List ℕ). KeepsCode plan record { words = ws; homes = homes'; views = set s.views me w }) (sym (set-get_or s.words i 0)) (moves s r s.words homes' p' owner' me w core later mine same)

  -- what the seat's own view says
  pub known_work : (s : State (Unit {0}) View) (r : KeepsCode plan s) (me : ℕ) (view : View) (v : WorkView) → get_elem? s.views me ≡ some view → view ≡ Work v → IsWork plan s.words r.patch r.owner me v
  known_work s r me view v at is = subst (Knows plan s.words r.patch r.patcher r.owner me) is (r.each me view at)

  pub known_patch : (s : State (Unit {0}) View) (r : KeepsCode plan s) (me : ℕ) (view : View) (p : PatchView) → get_elem? s.views me ≡ some view → view ≡ Patch p → (p ≡ r.patch) × (me ≡ r.patcher)
  known_patch s r me view p at is = subst (Knows plan s.words r.patch r.patcher r.owner me) is (r.each me view at)

  -- progress words that a store leaves as they are, or raises
  pub progress_else : (words : List ℕ) (i n t : ℕ) → progress_slot plan t ≢ i → progress plan (set words i n) t ≡ progress plan words t
  progress_else words i n t other = get_or-set_other words i (progress_slot plan t) n 0 other

  pub progress_here : (words : List ℕ) (n t : ℕ) → progress_slot plan t < length words → progress plan (set words (progress_slot plan t) n) t ≡ n
  progress_here words n t inside = get_or-set_same words (progress_slot plan t) n 0 inside

  pub progress_grows : (words : List ℕ) (n t u : ℕ) → progress_slot plan t < length words → progress plan words t ≤ n
      → progress plan words u ≤ progress plan (set words (progress_slot plan t) n) u
  progress_grows words n t u inside le = dite (ℕ_discrete u t)
      (λ e. let h = progress_here words n t inside in subst (λ (z : ℕ). progress plan words z ≤ progress plan (set words (progress_slot plan t) n) z) (sym e) (omega arith))
      (λ ne. let h = progress_else words (progress_slot plan t) n u (λ e. ne (omega arith)) in omega arith)

  -- loads
  pub rises_low : (thread low high : ℕ) (ls : List Load) → Rises plan thread low ls high → low ≤ high
  unfolding Rises
  rises_low thread low high [] h = h
  rises_low thread low high (l ∷ ls) h = let a = h.0 in let b = rises_low thread l.place high ls h.2 in omega arith

  pub rises_up : (thread low high high' : ℕ) (ls : List Load) → high ≤ high' → Rises plan thread low ls high → Rises plan thread low ls high'
  unfolding Rises
  rises_up thread low high high' [] le h = omega arith
  rises_up thread low high high' (l ∷ ls) le h = (h.0, h.1, rises_up thread l.place high high' ls le h.2)

  pub rises_more : (thread low high : ℕ) (ls : List Load) (l : Load) → Rises plan thread low ls high → high ≤ l.place → IsLawful plan thread l → Rises plan thread low (ls ++ l ∷ []) l.place
  unfolding Rises
  rises_more thread low high [] l h le lawful = (omega arith, lawful, omega arith)
  rises_more thread low high (x ∷ xs) l h le lawful = (h.0, h.1, rises_more thread x.place high xs l h.2 le lawful)

  -- A thread's seat after a load, a note or a store of its count. It has seen no less than before, and nothing past the
  -- patcher's place.
  pub work_on : (words words' : List ℕ) (p : PatchView) (owner : ℕ → ℕ) (me : ℕ) (v : WorkView) (seen count : ℕ) (ls : List Load) → IsWork plan words p owner me v
      → v.seen ≤ seen → seen ≤ p.place → progress plan words' v.thread ≡ count → Rises plan v.thread (start_in plan) ls seen
      → IsWork plan words' p owner me (record v { seen = seen; count = count; loads = ls })
  work_on words words' p owner me v seen count ls k le within counted rises = let a = k.from in record {
    script = k.script;
    first = k.first;
    given = k.given;
    own = k.own;
    unmet = k.unmet;
    from = omega arith;
    to = within;
    count = counted;
    loads = rises;
  }
