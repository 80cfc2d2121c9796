-- The loads of a seat follow the script over each step.
use Rattle.std.proofs.Common.{◌≡◌, ℕ, max, sym, subst, arith}
use Rattle.sled_rule.specs.declared.views.PatchView.{PatchView}
use Rattle.sled_rule.specs.declared.views.WorkView.{WorkView}
use Rattle.sled_rule.specs.declared.views.NoteView.{NoteView}
use Rattle.sled_rule.specs.declared.views.View.{View}
use Rattle.sled_rule.specs.declared.views.View.TheVariants.{Work}
use Rattle.sled_rule.specs.Rule.{Rises}
use Rattle.sled_rule.specs.Following.{IsFollowing}
use Rattle.sled_rule.specs.Plans.{start_in}
use Rattle.sled_rule.specs.Steps.{work_of, IsFetched}
use Rattle.sled_rule.specs.Views.{hearing, next_work}
use Rattle.sled_rule.proofs.OtherSeats.{rises_more, rises_up}

pub fetched_follows : (v : WorkView) (word value : ℕ) (new : WorkView) → IsFetched v word value new → IsFollowing v → IsFollowing new
fetched_follows v word value new f h =
    subst IsFollowing (sym f.view) (rises_more v.script v.thread (start_in v.script) v.seen v.loads _ h f.from record { value = f.here; bound = f.bound })

pub heard_follows : (v : WorkView) (note : NoteView) (new : View) → new ≡ Work (hearing v note) → IsFollowing v → IsFollowing (work_of new)
heard_follows v note new is h =
    subst (λ (z : View). IsFollowing (work_of z)) (sym is) (rises_up v.script v.thread (start_in v.script) v.seen (max v.seen note.told) v.loads (omega arith) h)

begins : (p : PatchView) → IsFollowing (next_work p)
unfolding Rises
begins p = omega arith

pub next_follows : (p : PatchView) (new : View) → new ≡ Work (next_work p) → IsFollowing (work_of new)
next_follows p new is = subst (λ (z : View). IsFollowing (work_of z)) (sym is) (begins p)
