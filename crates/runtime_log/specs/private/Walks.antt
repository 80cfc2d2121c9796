-- A way through the records of a block, from one to the next.
use Rattle.std.specs.Prelude.{◌≡◌, ◌<◌, ◌≤◌, ℕ, ◌+◌, ◌*◌, ◌^◌, All, List, [], ◌∷◌, ◌++◌, drop, length, option_to_list, Option, Some, Result, Ok, Err}
use Rattle.fdr_record.specs.declared.event.Event.{Event}
use Rattle.fdr_record.specs.Records.{metadata_length}
use Rattle.fdr_file.specs.declared.events.Argument.TheVariants.{Barred}
use Rattle.fdr_file.specs.declared.events.Base.{Base}
use Rattle.fdr_file.specs.declared.fault.TraceFault.{TraceFault}
use Rattle.fdr_file.specs.declared.stage.Inside.TheVariants.{Events}
use Rattle.fdr_file.specs.declared.stage.Span.{Span}
use Rattle.fdr_file.specs.declared.stage.Stage.{Stage}
use Rattle.fdr_file.specs.declared.stage.Stage.TheVariants.{Within}
use Rattle.fdr_file.specs.declared.stage.Told.{Told}
use Rattle.fdr_file.specs.declared.stage.Told.TheVariants.{Nothing, Begun, Noted}
use Rattle.fdr_file.specs.Scanning.{stage_after}
use Rattle.runtime_log.specs.declared.own_event.OwnKind.{OwnKind}
use Rattle.runtime_log.specs.declared.stretch.Stretch.{Stretch}
use Rattle.runtime_log.specs.declared.version.LogVersion.{LogVersion}
use Rattle.runtime_log.specs.declared.walk.BlockWalk.{BlockWalk}
use Rattle.runtime_log.specs.declared.walk.OpenedBlock.{OpenedBlock}
use Rattle.runtime_log.specs.Logs.{block_content, block_opened, block_size_rows, cut_length, log_places, log_record_rows, whole_content}
use Rattle.runtime_log.specs.OwnEvents.{log_record_length, own_kind}
use Rattle.runtime_log.specs.private.Stretches.{IsStretch}

-- a walk before the first record of a block that begins at a place and has this size, up to the record that is cut
pub record IsOpened (version : LogVersion) (at size : ℕ) (bytes : List ℕ) (walk : BlockWalk) : Type 0 where
  pub version_is : walk.version ≡ version
  pub rest : walk.rest.now ≡ whole_content version (block_content size bytes)
  pub at_is : walk.at ≡ at + metadata_length
  pub stage : walk.stage ≡ (block_opened at (length (whole_content version (block_content size bytes)))).stage

-- what comes of the first record of a block
abbrev pub OpensTo : LogVersion → ℕ → List ℕ → Result OpenedBlock TraceFault → Type 0
OpensTo version at bytes (Ok opened) =
    (size : ℕ) × (block_size_rows version (at, bytes) ≡ Ok size) × (metadata_length + size ≤ length bytes) × IsOpened version at size bytes opened.walk
    × (opened.cut ≡ cut_length version (block_content size bytes))
OpensTo version at bytes (Err fault) = block_size_rows version (at, bytes) ≡ Err fault

-- a walk after one more record
pub record IsPast (old new : BlockWalk) : Type 0 where
  pub version : new.version ≡ old.version
  pub fits : log_record_length old.version old.rest.now ≤ length old.rest.now
  pub some : 0 < log_record_length old.version old.rest.now
  pub rest : new.rest.now ≡ drop (log_record_length old.version old.rest.now) old.rest.now
  pub at_is : new.at ≡ old.at + log_record_length old.version old.rest.now

-- what comes of a record: the walk goes on, or the record is refused
abbrev pub StepsTo : (old new : BlockWalk) → Result (Told × Option OwnKind) TraceFault → Type 0
StepsTo old new (Ok x) =
    (log_record_rows old.version old.stage (old.at, old.rest.now) ≡ Ok (new.stage, x.0))
    × (x.1 ≡ own_kind old.version old.rest.now) × IsPast old new
StepsTo old new (Err fault) = (log_record_rows old.version old.stage (old.at, old.rest.now) ≡ Err fault) × (new ≡ old)

-- among the events of a block, after a record with this CPU and this counter that no argument may follow
pub record IsCounted (walk : BlockWalk) (span : Span) (base : Base) : Type 0 where
  pub stage : walk.stage ≡ Within span (Events (Some base))
  pub barred : base.argument ≡ Barred
  pub end : walk.at + length walk.rest.now ≡ span.end

-- a walk after the stretch that was next
pub record IsPastStretch (old : BlockWalk) (stretch : Stretch) (new : BlockWalk) : Type 0 where
  pub span : Span
  pub base : Base
  pub counted : IsCounted old span base
  pub is : IsStretch base.cpu base.tsc old.rest.now stretch
  pub fit : All (λ b. b < 256) old.rest.now × (base.cpu < 2 ^ 16)
  pub version : new.version ≡ old.version
  pub rest : new.rest.now ≡ drop (stretch.count * 8) old.rest.now
  pub at_is : new.at ≡ old.at + stretch.count * 8
  pub stage : new.stage ≡ stage_after span new.at (Events (Some (record base { tsc = stretch.last.tsc })))

-- ---- what a walk has still to say

-- the events that are settled by what is at a place
abbrev pub settled : Told → List Event
settled Nothing = []
settled (Begun thread wall pid) = []
settled (Noted entry event) = option_to_list entry ++ option_to_list event

-- the events that a record settles, and those after it; none after a fault
abbrev pub events_by : Result (Stage × Told) TraceFault → (Stage → List Event) → List Event
events_by (Ok said) later = settled said.1 ++ later said.0
events_by (Err fault) later = []

-- the events that are settled by what is at these places, up to the first fault
abbrev pub events_told : LogVersion → Stage → List (ℕ × List ℕ) → List Event
events_told version stage [] = []
events_told version stage (place ∷ later) = events_by (log_record_rows version stage place) λ next. events_told version next later

-- those that the rest of the block settles
abbrev pub walk_events : BlockWalk → List Event
walk_events walk = events_told walk.version walk.stage (log_places walk.version walk.at walk.rest.now)
