-- From one record of a block to the next.
use Rattle.std.proofs.Common.{◌≡◌, ℕ, zero, suc, ◌+◌, ◌-◌, ◌*◌, ◌<◌, ◌≤◌, eqb, List, [], ◌∷◌, ◌++◌, length, drop, slice_index, ◌%◌, Option, Some, None, Result, Ok, Err, lit<, inl, inr, refl, sym, ap, ◌∙◌, append_assoc, append-nil, length-append, arith}
use Rattle.std.proofs.lemmas.Bool.{cases_Bool}
use Rattle.xray_io.specs.Rows.{InTurn, ◌>>=◌}
use Rattle.fdr_record.specs.declared.event.Event.{Event}
use Rattle.fdr_file.specs.declared.fault.TraceFault.{TraceFault}
use Rattle.fdr_file.specs.declared.stage.Stage.{Stage}
use Rattle.fdr_file.specs.declared.stage.Told.{Told}
use Rattle.fdr_file.specs.declared.stage.Told.TheVariants.{Nothing, Begun, Noted}
use Rattle.fdr_file.specs.declared.trace.Block.{Block}
use Rattle.fdr_file.specs.Places.{starts}
use Rattle.fdr_file.specs.Traces.{record_length}
use Rattle.runtime_log.specs.declared.own_event.OwnKind.{OwnKind}
use Rattle.runtime_log.specs.declared.version.LogVersion.{LogVersion}
use Rattle.runtime_log.specs.Logs.{BlockSoFar, block_with, log_places, log_record_rows, one_custom, one_typed, said_rows}
use Rattle.runtime_log.specs.OwnEvents.{log_record_length, own_kind}
use Rattle.runtime_log.specs.private.Walks.{events_by, events_told, settled}

-- ---- places

-- bytes of a part that was begun earlier are skipped
starts_after : (len : List ℕ → ℕ) (left at : ℕ) (bytes : List ℕ) → starts len left at bytes ≡ starts len 0 (at + left) (drop left bytes)
unfolding starts
starts_after len zero at bytes = ap (λ (k : ℕ). starts len 0 k bytes) (omega arith)
starts_after len (suc left) at [] = refl
starts_after len (suc left) at (byte ∷ bytes) =
    starts_after len left (at + 1) bytes ∙ ap (λ (k : ℕ). starts len 0 k (drop left bytes)) (omega arith)

-- the first part, and what begins after it
pub starts_first : (len : List ℕ → ℕ) (at : ℕ) (bytes : List ℕ) → 0 < length bytes → 0 < len bytes → starts len 0 at bytes ≡ (at, bytes) ∷ starts len 0 (at + len bytes) (drop (len bytes) bytes)
unfolding starts
starts_first len at [] some whole = absurd (omega arith)
starts_first len at (byte ∷ bytes) some whole =
    let n = len (byte ∷ bytes) in
    let more : n ≡ suc (n - 1) = omega arith in
    let place : at + 1 + (n - 1) ≡ at + n = omega arith in
    ap (λ (following : List (ℕ × List ℕ)). (at, byte ∷ bytes) ∷ following)
    (starts_after len (n - 1) (at + 1) bytes
    ∙ ap (λ (k : ℕ). starts len 0 k (drop (n - 1) bytes)) place
    ∙ ap (λ (k : ℕ). starts len 0 (at + n) (drop k (byte ∷ bytes))) (sym more))

pub starts_none : (len : List ℕ → ℕ) (at : ℕ) (bytes : List ℕ) → length bytes ≡ 0 → starts len 0 at bytes ≡ []
unfolding starts
starts_none len at [] none = refl
starts_none len at (byte ∷ bytes) none = absurd (omega arith)

-- there are no more places than bytes
pub starts_few : (len : List ℕ → ℕ) (left at : ℕ) (bytes : List ℕ) → length (starts len left at bytes) ≤ length bytes
unfolding starts
starts_few len left at [] = omega arith
starts_few len (suc left) at (byte ∷ bytes) = omega (arith, starts_few len left (at + 1) bytes)
starts_few len zero at (byte ∷ bytes) = omega (arith, starts_few len (len (byte ∷ bytes) - 1) (at + 1) bytes)

-- ---- records

-- a record has some bytes
pub record_some : (bytes : List ℕ) → 0 < record_length bytes
record_some bytes = elim (cases_Bool (eqb (slice_index bytes 0 % 2) 0)) [ inl e ↦ rw e (lit< tt) | inr e ↦ rw e (lit< tt) ]

pub log_record_some : (version : LogVersion) (bytes : List ℕ) → 0 < log_record_length version bytes
log_record_some version bytes = by_kind (own_kind version bytes) refl
  where
    by_kind : (o : Option OwnKind) → own_kind version bytes ≡ o → 0 < log_record_length version bytes
    by_kind None e = rw e (record_some bytes)
    by_kind (Some kind) e = rw e (omega arith)

-- the places from a record on
pub places_first : (version : LogVersion) (at : ℕ) (bytes : List ℕ) → 0 < length bytes
    → log_places version at bytes ≡ (at, bytes) ∷ log_places version (at + log_record_length version bytes) (drop (log_record_length version bytes) bytes)
places_first version at bytes some = starts_first (log_record_length version) at bytes some (log_record_some version bytes)

-- what the records say, by the first of them
pub rows_first : (version : LogVersion) (so : BlockSoFar) (at : ℕ) (bytes : List ℕ) → 0 < length bytes
    → InTurn (said_rows version) so (log_places version at bytes)
    ≡ (said_rows version so (at, bytes) >>= λ next. InTurn (said_rows version) next (log_places version (at + log_record_length version bytes) (drop (log_record_length version bytes) bytes)))
rows_first version so at bytes some = ap (InTurn (said_rows version) so) (places_first version at bytes some)

pub rows_none : (version : LogVersion) (so : BlockSoFar) (at : ℕ) (bytes : List ℕ) → length bytes ≡ 0
    → InTurn (said_rows version) so (log_places version at bytes) ≡ Ok so
rows_none version so at bytes none = ap (InTurn (said_rows version) so) (starts_none (log_record_length version) at bytes none)

-- ---- the events that they settle

pub events_first : (version : LogVersion) (stage : Stage) (at : ℕ) (bytes : List ℕ) → 0 < length bytes
    → events_told version stage (log_places version at bytes)
    ≡ events_by (log_record_rows version stage (at, bytes)) (λ next. events_told version next (log_places version (at + log_record_length version bytes) (drop (log_record_length version bytes) bytes)))
events_first version stage at bytes some = ap (events_told version stage) (places_first version at bytes some)

pub events_none : (version : LogVersion) (stage : Stage) (at : ℕ) (bytes : List ℕ) → length bytes ≡ 0 → events_told version stage (log_places version at bytes) ≡ []
events_none version stage at bytes none = ap (events_told version stage) (starts_none (log_record_length version) at bytes none)

-- a block with what a record says has the events that it settles more
block_longer : (told : Told) (block : Block) → (block_with told block).events ≡ block.events ++ settled told
block_longer Nothing block = sym (append-nil block.events)
block_longer (Begun thread wall pid) block = sym (append-nil block.events)
block_longer (Noted entry event) block = refl

-- the block so far, after a record that says this and leads to this stage
abbrev pub so_with : LogVersion → BlockSoFar → List ℕ → Stage × Told → BlockSoFar
so_with version so bytes said = record {
  stage = said.0;
  block = block_with said.1 so.block;
  custom = so.custom + one_custom (own_kind version bytes);
  typed = so.typed + one_typed (own_kind version bytes);
}

-- the events of a block are those that its records settle
pub events_said : (version : LogVersion) (so : BlockSoFar) (places : List (ℕ × List ℕ)) (all : BlockSoFar)
    → InTurn (said_rows version) so places ≡ Ok all → all.block.events ≡ so.block.events ++ events_told version so.stage places
events_said version so [] all is =
    let same : so ≡ all = cc in
    sym (append-nil so.block.events ∙ ap (λ (s : BlockSoFar). s.block.events) same)
events_said version so ((at, bytes) ∷ later) all is = by_row (λ s all h. events_said version s later all h) (log_record_rows version so.stage (at, bytes)) refl is
  where
    by_row : ((s : BlockSoFar) (all : BlockSoFar) → InTurn (said_rows version) s later ≡ Ok all → all.block.events ≡ s.block.events ++ events_told version s.stage later)
        → (x : Result (Stage × Told) TraceFault) → log_record_rows version so.stage (at, bytes) ≡ x
        → ((x >>= λ said. Ok (so_with version so bytes said)) >>= λ next. InTurn (said_rows version) next later) ≡ Ok all
        → all.block.events ≡ so.block.events ++ events_by (log_record_rows version so.stage (at, bytes)) (λ next. events_told version next later)
    by_row again (Ok said) e h =
        rw e (again (so_with version so bytes said) all h
        ∙ ap (λ (es : List Event). es ++ events_told version said.0 later) (block_longer said.1 so.block)
        ∙ append_assoc so.block.events (settled said.1) (events_told version said.0 later))
    by_row again (Err fault) e h = absurd cc

-- a record settles at most two events
settled_few : (told : Told) → length (settled told) ≤ 2
settled_few Nothing = omega arith
settled_few (Begun thread wall pid) = omega arith
settled_few (Noted None None) = omega arith
settled_few (Noted None (Some event)) = omega arith
settled_few (Noted (Some entry) None) = omega arith
settled_few (Noted (Some entry) (Some event)) = omega arith

pub events_few : (version : LogVersion) (stage : Stage) (places : List (ℕ × List ℕ)) → length (events_told version stage places) ≤ 2 * length places
events_few version stage [] = omega arith
events_few version stage (place ∷ later) = by_row (λ next. events_few version next later) (log_record_rows version stage place)
  where
    by_row : ((next : Stage) → length (events_told version next later) ≤ 2 * length later) → (x : Result (Stage × Told) TraceFault) → length (events_by x (λ next. events_told version next later)) ≤ 2 * length (place ∷ later)
    by_row again (Ok said) = omega (arith, length-append (settled said.1) (events_told version said.0 later), settled_few said.1, again said.0)
    by_row again (Err fault) = omega arith
