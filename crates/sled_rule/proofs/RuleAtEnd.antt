-- What the rule says at the end.
use Rattle.std.proofs.Common.{◌≡◌, ℕ, zero, suc, ◌<◌, ◌≤◌, List, [], ◌∷◌, get_or, sym, ap, ◌∙◌, subst}
use Rattle.std.specs.Prelude.{slice_index}
use mathlib.Core.Option.{some, some-injective, some-ne-none}
use lib.ListN.{get_elem?}
use Rattle.atomic_table.specs.Table.{State}
use Rattle.sled_rule.specs.declared.views.PatchView.{PatchView}
use Rattle.sled_rule.specs.declared.views.View.{View}
use Rattle.sled_rule.specs.declared.views.View.TheVariants.{Patch}
use Rattle.sled_words.specs.Words.{progress_word}
use Rattle.patch_script.specs.Plans.{Plan}
use Rattle.sled_rule.specs.Plans.{IsCodeIn, code_in}
use Rattle.sled_rule.specs.Slots.{code_slot, progress_slot}
use Rattle.sled_rule.specs.Rule.{progress, IsCore, IsMet, KeepsCode}
use Rattle.sled_rule.specs.Views.{ended_count}
use Rattle.sled_rule.proofs.OtherSeats.{known_patch}

pub read_at : (l : List ℕ) (k x : ℕ) → get_elem? l k ≡ some x → get_or l k 0 ≡ x
read_at [] k x e = absurd (some-ne-none x (sym e))
read_at (y ∷ ys) zero x e = some-injective y x e
read_at (y ∷ ys) (suc k) x e = read_at ys k x e

-- the progress word of a thread, as it is copied to its number
pub progress_read : (key plan : Plan) (thread : ℕ) (words items out : List ℕ) → key ≡ plan → words ≡ items
    → get_elem? items (progress_slot plan thread) ≡ some (slice_index out (progress_word plan.program plan.threads thread))
    → get_or out (progress_word plan.program plan.threads thread) 0 ≡ progress key words thread
progress_read key plan thread words items out same is copied =
    sym (read_at items (progress_slot plan thread) _ copied)
    ∙ (ap (λ (l : List ℕ). get_or l (progress_slot plan thread) 0) (sym is) ∙ ap (λ (z : Plan). progress z words thread) (sym same))

module _ (plan : Plan) (s : State (Unit {0}) View) (r : KeepsCode plan s) (id : ℕ) (view : View) (p : PatchView) (at : get_elem? s.views id ≡ some view) (is : view ≡ Patch p) where
  last_core : IsCore plan s.words p
  last_core = subst (λ (z : PatchView). IsCore plan s.words z) (sym (known_patch plan s r id view p at is).0) r.core

  pub last_code : (w : ℕ) → IsCodeIn plan w → get_or s.words (code_slot plan w) 0 ≡ code_in plan p.place w
  last_code w h = last_core.code w h

  pub last_progress : (t : ℕ) → IsMet p.met t → progress plan s.words t ≡ ended_count
  last_progress t m = subst (λ (u : ℕ). progress plan s.words u ≡ ended_count) m.is (last_core.met m.index m.one m.at).ended

  pub last_given : p.given ≤ plan.threads
  last_given = last_core.given

  pub last_idle : (t : ℕ) → p.given < t → t ≤ plan.threads → progress plan s.words t ≡ 0
  last_idle t above within = last_core.idle t above within
