-- What has been read of a log, after one more record or block.
use Rattle.std.proofs.Common.{◌≡◌, ℕ, ◌+◌, ◌-◌, ◌*◌, ◌<◌, ◌≤◌, List, [], ◌∷◌, ◌++◌, length, drop, take, Option, Some, None, Result, Ok, Err, refl, sym, ap, subst, ◌∙◌, inl, inr, arith}
use Rattle.std.specs.Prelude.{◌≢◌}
use Rattle.std.specs.Option.{option_or}
use Rattle.std.proofs.lemmas.List.{drop-drop, length-drop}
use Rattle.xray_io.specs.Rows.{InTurn, ◌>>=◌}
use Rattle.fdr_record.specs.declared.event.Event.{Event}
use Rattle.fdr_file.specs.declared.fault.TraceFault.{TraceFault}
use Rattle.fdr_file.specs.declared.stage.Stage.{Stage}
use Rattle.fdr_file.specs.declared.stage.Told.{Told}
use Rattle.fdr_file.specs.declared.trace.Block.{Block}
use Rattle.runtime_log.specs.declared.blocks.LogBlock.{LogBlock as Placed}
use Rattle.runtime_log.specs.declared.blocks.LogBlocks.{LogBlocks}
use Rattle.runtime_log.specs.declared.own_event.OwnKind.{OwnKind}
use Rattle.runtime_log.specs.declared.own_event.OwnKind.TheVariants.{Custom, Typed}
use Rattle.runtime_log.specs.declared.version.LogVersion.{LogVersion}
use Rattle.runtime_log.specs.declared.walk.BlockWalk.{BlockWalk}
use Rattle.runtime_log.specs.Logs.{BlockSoFar, LogBlock, block_content, block_opened, block_said, block_size_rows, content_rows, log_block_in, whole_content, log_places, log_record_rows, block_with, one_custom, one_typed, said_rows}
use Rattle.runtime_log.specs.OwnEvents.{log_record_length, own_kind}
use Rattle.runtime_log.specs.private.Choices.{IsAt, Shows, counter_first}
use Rattle.runtime_log.specs.private.Readings.{MayPass, ReadsOn, walk_reads}
use Rattle.runtime_log.specs.private.Stretches.{stretch_events}
use Rattle.runtime_log.specs.private.Walks.{IsOpened, IsPast}
use Rattle.runtime_log.proofs.Stretches.{so_past, walk_read}
use Rattle.runtime_log.proofs.RecordWalk.{rows_first, rows_none, so_with}

-- ---- the records of a block

pub custom_few : (own : Option OwnKind) → one_custom own ≤ 1
custom_few None = omega arith
custom_few (Some Custom) = omega arith
custom_few (Some Typed) = omega arith

pub typed_few : (own : Option OwnKind) → one_typed own ≤ 1
typed_few None = omega arith
typed_few (Some Custom) = omega arith
typed_few (Some Typed) = omega arith

-- the counter of the first of more events
pub counter_more : (events more : List Event) → option_or (counter_first events) (counter_first more) ≡ counter_first (events ++ more)
counter_more [] more = refl
counter_more (event ∷ events) more = refl

-- what is at a place, by the walk that stands there
row_is : (version : LogVersion) (stage : Stage) (walk : BlockWalk) (x : Result (Stage × Told) TraceFault) → walk.version ≡ version → walk.stage ≡ stage
    → log_record_rows walk.version walk.stage (walk.at, walk.rest.now) ≡ x → log_record_rows version stage (walk.at, walk.rest.now) ≡ x
row_is version stage walk x v s is =
    ap (λ (w : LogVersion). log_record_rows w stage (walk.at, walk.rest.now)) (sym v)
    ∙ ap (λ (t : Stage). log_record_rows walk.version t (walk.at, walk.rest.now)) (sym s) ∙ is

-- the records that are left after one of them
abbrev Onward : LogVersion → Result BlockSoFar TraceFault → ℕ → List ℕ → Result BlockSoFar TraceFault
Onward version said at bytes = said >>= λ next. InTurn (said_rows version) next (log_places version at bytes)

pub reads_more : (so : BlockSoFar) (old : LogBlocks) (before : Placed) (first : BlockWalk) (new : LogBlocks) (placed : Placed) (walk : BlockWalk) (later : LogBlocks) (after : Placed)
    (next : BlockWalk) (told : Told) → ReadsOn so old before first new placed walk → ((b : Block) → Shows placed b → Shows after (block_with told b)) → walk.version ≡ first.version → 0 < length walk.rest.now
    → log_record_rows walk.version walk.stage (walk.at, walk.rest.now) ≡ Ok (next.stage, told) → IsPast walk next
    → later.custom ≡ new.custom + one_custom (own_kind walk.version walk.rest.now) → later.typed ≡ new.typed + one_typed (own_kind walk.version walk.rest.now)
    → ReadsOn so old before first later after next
reads_more so old before first new placed walk later after next told r hears v some is past custom typed =
    let rest = walk.rest.now in
    let then_so = so_with first.version r.now rest (next.stage, told) in
    let row = row_is first.version r.now.stage walk (Ok (next.stage, told)) v r.stage is in
    let long : log_record_length walk.version rest ≡ log_record_length first.version rest = ap (λ (w : LogVersion). log_record_length w rest) v in
    let place : walk.at + log_record_length first.version rest ≡ next.at = sym (past.at_is ∙ ap (λ (k : ℕ). walk.at + k) long) in
    let left : drop (log_record_length first.version rest) rest ≡ next.rest.now = sym (past.rest ∙ ap (λ (k : ℕ). drop k rest) long) in
    let c : one_custom (own_kind walk.version rest) ≡ one_custom (own_kind first.version rest) = ap (λ (w : LogVersion). one_custom (own_kind w rest)) v in
    let t : one_typed (own_kind walk.version rest) ≡ one_typed (own_kind first.version rest) = ap (λ (w : LogVersion). one_typed (own_kind w rest)) v in record {
      now = then_so;
      on =
          r.on ∙ rows_first first.version r.now walk.at rest some
          ∙ ap (λ (x : Result (Stage × Told) TraceFault). Onward first.version (x >>= λ said. Ok (so_with first.version r.now rest said)) (walk.at + log_record_length first.version rest) (drop (log_record_length first.version rest) rest)) row
          ∙ ap (λ (k : ℕ). InTurn (said_rows first.version) then_so (log_places first.version k (drop (log_record_length first.version rest) rest))) place
          ∙ ap (λ (xs : List ℕ). InTurn (said_rows first.version) then_so (log_places first.version next.at xs)) left;
      stage = refl;
      shows = λ s. hears r.now.block (r.shows s);
      custom = omega (arith, custom, c, r.custom);
      typed = omega (arith, typed, t, r.typed);
    }

-- a record that is refused
pub reads_stop : (so : BlockSoFar) (old : LogBlocks) (before : Placed) (first : BlockWalk) (new : LogBlocks) (placed : Placed) (walk : BlockWalk) (fault : TraceFault)
    → ReadsOn so old before first new placed walk → walk.version ≡ first.version → 0 < length walk.rest.now
    → log_record_rows walk.version walk.stage (walk.at, walk.rest.now) ≡ Err fault
    → walk_reads first so ≡ Err fault
reads_stop so old before first new placed walk fault r v some is =
    let rest = walk.rest.now in
    let row = row_is first.version r.now.stage walk (Err fault) v r.stage is in
    r.on ∙ rows_first first.version r.now walk.at rest some
    ∙ ap (λ (x : Result (Stage × Told) TraceFault). Onward first.version (x >>= λ said. Ok (so_with first.version r.now rest said)) (walk.at + log_record_length first.version rest) (drop (log_record_length first.version rest) rest)) row

-- no record is left
pub reads_all : (so : BlockSoFar) (old : LogBlocks) (before : Placed) (first : BlockWalk) (new : LogBlocks) (placed : Placed) (walk : BlockWalk) (r : ReadsOn so old before first new placed walk)
    → length walk.rest.now ≡ 0 → walk_reads first so ≡ Ok r.now
reads_all so old before first new placed walk r none = r.on ∙ rows_none first.version r.now walk.at walk.rest.now none

-- ---- a stretch of a block

-- the first counter stays if there are more events
counter_kept : (events more : List Event) → counter_first events ≢ None → counter_first (events ++ more) ≡ counter_first events
counter_kept [] more some = absurd (some refl)
counter_kept (event ∷ events) more some = refl

-- a walk that may be past a stretch ends where it did
pub passed : (walk next : BlockWalk) (first : Option ℕ) → MayPass walk first next
    → (next.version ≡ walk.version) × (next.at + length next.rest.now ≡ walk.at + length walk.rest.now) × (walk.at ≤ next.at)
passed walk next first (inl same) = rw same (refl, refl, omega arith)
passed walk next first (inr (some, stretch, p)) =
    (p.version, omega (arith, p.at_is, ap length p.rest, length-drop (stretch.count * 8) walk.rest.now, p.is.within), omega (arith, p.at_is))

pub reads_past : (so : BlockSoFar) (old : LogBlocks) (before : Placed) (first : BlockWalk) (new : LogBlocks) (placed : Placed) (walk next : BlockWalk)
    → ReadsOn so old before first new placed walk → walk.version ≡ first.version → MayPass walk placed.first next → ReadsOn so old before first new placed next
reads_past so old before first new placed walk next r v (inl same) = subst (ReadsOn so old before first new placed) (sym same) r
reads_past so old before first new placed walk next r v (inr (some, stretch, p)) =
    let es = stretch_events stretch.count p.base.cpu p.base.tsc walk.rest.now in
    record {
      now = so_past r.now next.stage es;
      on = r.on ∙ walk_read walk stretch next p first.version r.now v r.stage;
      stage = refl;
      shows = λ s.
          let shown = r.shows s in
          record {
            thread = shown.thread;
            pid = shown.pid;
            wall = shown.wall;
            first = shown.first ∙ sym (counter_kept r.now.block.events es (λ none. some (shown.first ∙ none)));
          };
      custom = r.custom;
      typed = r.typed;
    }

-- ---- a block

-- the records of a block, by the walk that was opened before the first of them
pub opened_rows : (version : LogVersion) (at size : ℕ) (rest : List ℕ) (walk : BlockWalk) (x : Result BlockSoFar TraceFault) → IsOpened version at size rest walk
    → InTurn (said_rows walk.version) (block_opened at (length (whole_content version (block_content size rest)))) (log_places walk.version walk.at walk.rest.now) ≡ x → content_rows version at size rest ≡ x
opened_rows version at size rest walk x o is =
    let whole = whole_content version (block_content size rest) in
    let so = block_opened at (length whole) in
    ap (λ (w : LogVersion). InTurn (said_rows w) so (log_places w (at + 16) whole)) (sym o.version_is)
    ∙ ap (λ (k : ℕ). InTurn (said_rows walk.version) so (log_places walk.version k whole)) (sym o.at_is)
    ∙ ap (λ (xs : List ℕ). InTurn (said_rows walk.version) so (log_places walk.version walk.at xs)) (sym o.rest)
    ∙ is

-- a block by what its records say
abbrev Said : LogVersion → ℕ → List ℕ → Result BlockSoFar TraceFault → Result LogBlock TraceFault
Said version at content read = read >>= λ so. Ok (block_said version at content so)

pub block_is : (version : LogVersion) (at size : ℕ) (rest : List ℕ) (all : BlockSoFar) → block_size_rows version (at, rest) ≡ Ok size
    → content_rows version at size rest ≡ Ok all → log_block_in version (at, rest) ≡ Ok (block_said version at (block_content size rest) all)
block_is version at size rest all sized is =
    ap (λ (n : Result ℕ TraceFault). n >>= λ k. Said version at (block_content k rest) (content_rows version at k rest)) sized
    ∙ ap (Said version at (block_content size rest)) is

pub block_stops : (version : LogVersion) (at size : ℕ) (rest : List ℕ) (fault : TraceFault) → block_size_rows version (at, rest) ≡ Ok size
    → content_rows version at size rest ≡ Err fault → log_block_in version (at, rest) ≡ Err fault
block_stops version at size rest fault sized is =
    ap (λ (n : Result ℕ TraceFault). n >>= λ k. Said version at (block_content k rest) (content_rows version at k rest)) sized
    ∙ ap (Said version at (block_content size rest)) is

pub block_unsized : (version : LogVersion) (at : ℕ) (rest : List ℕ) (fault : TraceFault) → block_size_rows version (at, rest) ≡ Err fault → log_block_in version (at, rest) ≡ Err fault
block_unsized version at rest fault sized = ap (λ (n : Result ℕ TraceFault). n >>= λ k. Said version at (block_content k rest) (content_rows version at k rest)) sized

-- the places of a block that was read
pub block_at : (version : LogVersion) (bytes : List ℕ) (at size : ℕ) (placed : Placed) (all : BlockSoFar) → at ≤ length bytes → 16 + size ≤ length (drop at bytes)
    → log_block_in version (at, drop at bytes) ≡ Ok (block_said version at (block_content size (drop at bytes)) all)
    → placed.begin ≡ at → placed.end ≡ at + 16 + size → Shows placed all.block
    → IsAt bytes version placed (block_said version at (block_content size (drop at bytes)) all)
block_at version bytes at size placed all within fits said begin end shows =
    let from : placed.begin + 16 ≡ at + 16 = omega (arith, begin) in
    let long : placed.end - (placed.begin + 16) ≡ size = omega (arith, begin, end) in
    record {
      said = said;
      within = record { head = omega (arith, begin, end); whole = omega (arith, end, fits, length-drop at bytes) };
      place = begin;
      content =
          ap (λ (k : ℕ). take k (drop (placed.begin + 16) bytes)) long
          ∙ ap (λ (k : ℕ). take size (drop k bytes)) from
          ∙ ap (take size) (sym (drop-drop 16 at bytes));
      shows = shows;
    }
