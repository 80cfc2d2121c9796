-- The events that are still to come of a block, after one more record.
use Rattle.std.proofs.Common.{◌≡◌, ℕ, ◌+◌, ◌<◌, false, List, [], ◌∷◌, ◌++◌, length, drop, Option, Some, None, Result, Ok, Err, refl, sym, ap, ◌∙◌}
use Rattle.std.specs.Prelude.{IfSome, is_some, option_to_list}
use Rattle.fdr_record.specs.declared.event.Event.{Event}
use Rattle.fdr_file.specs.declared.fault.TraceFault.{TraceFault}
use Rattle.fdr_file.specs.declared.stage.Stage.{Stage}
use Rattle.fdr_file.specs.declared.stage.Told.{Told}
use Rattle.runtime_log.specs.declared.version.LogVersion.{LogVersion}
use Rattle.runtime_log.specs.declared.walk.BlockWalk.{BlockWalk}
use Rattle.runtime_log.specs.Logs.{log_places, log_record_rows}
use Rattle.runtime_log.specs.OwnEvents.{log_record_length}
use Rattle.runtime_log.specs.private.Walks.{IsPast, events_by, events_told, settled, walk_events}
use Rattle.runtime_log.proofs.RecordWalk.{events_first, events_none}

-- the events from a record on, by what is at its place
abbrev FromHere : BlockWalk → Result (Stage × Told) TraceFault → List Event
FromHere walk said =
    let n = log_record_length walk.version walk.rest.now in
    events_by said (λ next. events_told walk.version next (log_places walk.version (walk.at + n) (drop n walk.rest.now)))

pub walk_step : (walk next : BlockWalk) (told : Told) → 0 < length walk.rest.now → log_record_rows walk.version walk.stage (walk.at, walk.rest.now) ≡ Ok (next.stage, told)
    → IsPast walk next → walk_events walk ≡ settled told ++ walk_events next
walk_step walk next told some is past =
    events_first walk.version walk.stage walk.at walk.rest.now some
    ∙ ap (FromHere walk) is
    ∙ ap (λ (k : ℕ). settled told ++ events_told walk.version next.stage (log_places walk.version k (drop (log_record_length walk.version walk.rest.now) walk.rest.now))) (sym past.at_is)
    ∙ ap (λ (xs : List ℕ). settled told ++ events_told walk.version next.stage (log_places walk.version next.at xs)) (sym past.rest)
    ∙ ap (λ (v : LogVersion). settled told ++ events_told v next.stage (log_places v next.at next.rest.now)) (sym past.version)

pub walk_stop : (walk : BlockWalk) (fault : TraceFault) → 0 < length walk.rest.now → log_record_rows walk.version walk.stage (walk.at, walk.rest.now) ≡ Err fault → walk_events walk ≡ []
walk_stop walk fault some is = events_first walk.version walk.stage walk.at walk.rest.now some ∙ ap (FromHere walk) is

pub walk_end : (walk : BlockWalk) → length walk.rest.now ≡ 0 → walk_events walk ≡ []
walk_end walk none = events_none walk.version walk.stage walk.at walk.rest.now none

-- a record that settles no event
pub settles_none : (first later : Option Event) → is_some first ≡ false → (first ≡ None → later ≡ None) → option_to_list first ++ option_to_list later ≡ []
settles_none None later none ends = ap option_to_list (ends refl)
settles_none (Some event) later none ends = absurd cc

-- the first of the events, if there is one
pub gives_some : (first : Option Event) (events later : List Event) → events ≡ option_to_list first ++ later → IfSome first (λ event. events ≡ event ∷ later)
gives_some None events later is = tt
gives_some (Some event) events later is = is
