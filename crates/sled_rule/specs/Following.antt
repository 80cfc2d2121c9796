-- That a seat's loads follow its script.
use Rattle.std.proofs.Common.{ℕ, List, [], ◌∷◌}
use Rattle.std.proofs.Props.{props}
use Rattle.patch_script.specs.Plans.{Plan}
use Rattle.sled_rule.specs.declared.views.Load.{Load}
use Rattle.sled_rule.specs.declared.views.WorkView.{WorkView}
use Rattle.sled_rule.specs.Plans.{start_in}
use Rattle.sled_rule.specs.Rule.{IsLawful, Rises}

-- the loads of a seat, from the place where threads start up to what the seat has seen
abbrev pub IsFollowing : WorkView → Type 0
IsFollowing v = Rises v.script v.thread (start_in v.script) v.loads v.seen

-- it has at most one proof
lawful_prop : (plan : Plan) (thread : ℕ) (load : Load) → IsProp (IsLawful plan thread load)
lawful_prop plan thread load = hlevel props

pub rises_prop : (plan : Plan) (thread low : ℕ) (loads : List Load) (high : ℕ) → IsProp (Rises plan thread low loads high)
unfolding Rises
rises_prop plan thread low [] high = hlevel props
rises_prop plan thread low (load ∷ loads) high = hlevel (props, lawful_prop plan thread load, rises_prop plan thread load.place loads high)
