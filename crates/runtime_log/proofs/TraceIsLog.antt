-- A trace of version 3 is a log. The reading of a trace, record by record, is that of a log: a block begins where it is
-- due, its records lead to its end, and no record is an event of the program's own.
use Rattle.std.proofs.Common.{◌≡◌, ℕ, ◌^◌, ◌%◌, zero, suc, ◌+◌, ◌-◌, ◌<◌, ◌≤◌, Bool, true, false, cond, eqb, ltb, List, [], ◌∷◌, ◌++◌, length, drop, map, take, Option, Some, None, Result, Ok, Err, refl, sym, ap, subst, ◌∙◌, inl, inr, append_assoc, append-nil, arith}
use Rattle.std.specs.Prelude.{◌⊎◌, ◌&&◌, not, option_to_list}
use Rattle.std.proofs.lemmas.Bool.{cases_lt, eqb-false, eqb-true, le-ltb, ltb-false}
use Rattle.std.proofs.lemmas.List.{drop-drop, drop-take, length-drop, length-take}
use Rattle.xray_io.specs.Rows.{First, InTurn, NeedsPart, ◌>>=◌}
use Rattle.xray_io.specs.declared.wall.Wall.{Wall}
use Rattle.fdr_record.specs.declared.event.Event.{Event}
use Rattle.fdr_record.specs.declared.fault.RecFault.{RecFault}
use Rattle.fdr_record.specs.declared.rec.Rec.{Rec}
use Rattle.fdr_record.specs.declared.event.Kind.TheVariants.{Entry, Exit, TailExit, EntryArgs}
use Rattle.fdr_record.specs.declared.rec.Rec.TheVariants.{NewBuffer, NewCpu, TscWrap, WallTime, Pid, CallArg, Extents, Function}
use Rattle.fdr_file.specs.declared.events.Argument.TheVariants as arguments
use Rattle.fdr_file.specs.declared.events.Base.{Base}
use Rattle.fdr_file.specs.declared.fault.TraceFault.{TraceFault}
use Rattle.fdr_file.specs.declared.fault.TraceFault.TheVariants as traces
use Rattle.fdr_file.specs.declared.header.Header.{Header}
use Rattle.fdr_file.specs.declared.stage.Inside.{Inside}
use Rattle.fdr_file.specs.declared.stage.Inside.TheVariants as insides
use Rattle.fdr_file.specs.declared.stage.Span.{Span}
use Rattle.fdr_file.specs.declared.stage.Stage.{Stage}
use Rattle.fdr_file.specs.declared.stage.Stage.TheVariants.{Due, Within, Faulty}
use Rattle.fdr_file.specs.declared.stage.Told.{Told}
use Rattle.fdr_file.specs.declared.stage.Told.TheVariants.{Nothing, Begun, Noted}
use Rattle.fdr_file.specs.declared.trace.Block.{Block}
use Rattle.fdr_file.specs.declared.trace.Trace.{Trace}
use Rattle.fdr_file.specs.declared.version.Version.{Version}
use Rattle.fdr_file.specs.declared.version.Version.TheVariants as versions
use Rattle.fdr_file.specs.Places.{starts}
use Rattle.fdr_file.specs.Scanning.{Scanned, block_span, empty_block, entry_with, extents_next, extents_span, inside_next, last_longer, longer_block, record_or, scan_start, scanned, scanned_ends, scanned_from, scanned_on, scanned_over, stage_after, stage_ends, stage_judged, stage_within, step_on, version_read, with_event, with_told}
use Rattle.fdr_file.specs.Traces.{block_length, header_in, is_arg, pid_named, record_in, record_length, size_named, thread_named, trace_of, type_in, version_in, version_of, wall_named}
use Rattle.runtime_log.specs.declared.blocks.Mode.TheVariants.{Recorder}
use Rattle.runtime_log.specs.declared.version.LogVersion.TheVariants.{Three}
use Rattle.runtime_log.specs.Laws.{TracesAreLogs, said_of}
use Rattle.runtime_log.specs.Logs.{BlockSoFar, Log, LogBlock, as_log, block_content, block_opened, block_said, block_size_rows, block_with, content_rows, log_block_in, log_block_rows, log_of_blocks, log_places, log_record_rows, logged, recorder_blocks, recorder_header, said_rows, sized_rows, too_few, unless_faulty, whole_content, whole_rows}
use Rattle.runtime_log.specs.OwnEvents.{log_record_in, log_record_length}
use Rattle.runtime_log.specs.Versions.{log_version_of}
use Rattle.runtime_log.specs.private.Headers.{mode_of}
use Rattle.runtime_log.specs.Arguments.{arg_follows, found_arg, found_before, rec_before}
use Rattle.runtime_log.proofs.ArgumentsBehind.{none_follows, rec_alone}
use Rattle.runtime_log.proofs.BlockLists.{Onward, block_first, block_sized, size_is}
use Rattle.runtime_log.proofs.BlockReading.{block_is}
use Rattle.runtime_log.proofs.CutRecords.{never_cut, whole_all}
use Rattle.runtime_log.proofs.RecordCuts.{extents_long, long_as, not_own, record_as, record_cut, record_short}
use Rattle.runtime_log.proofs.RecordWalk.{places_first, record_some, rows_none, so_with, starts_first, starts_none}
use Rattle.runtime_log.proofs.WholeLogs.{recorder_headed, recorder_read}

-- ---- the reading of a trace

-- read from a stage on, bytes lead to these blocks, and to where a block is due
abbrev Ends : Stage → List Block → ℕ → List ℕ → List Block → Type 0
Ends stage blocks at bytes all = scanned_on versions.Three (record { stage = stage; blocks = blocks }) at bytes ≡ record { stage = Due; blocks = all }

ends_first : (stage : Stage) (blocks : List Block) (at : ℕ) (bytes : List ℕ) (all : List Block) → 0 < length bytes → Ends stage blocks at bytes all
    → let said : Stage × Told = stage_judged versions.Three stage at (record_length bytes) (record_in bytes) in
    Ends said.0 (with_told said.1 blocks) (at + record_length bytes) (drop (record_length bytes) bytes) all
unfolding scanned_over
ends_first stage blocks at bytes all some ends =
    let so : Scanned = record { stage = stage; blocks = blocks } in
    sym (ap (λ (places : List (ℕ × List ℕ)). scanned_over versions.Three so places) (starts_first record_length at bytes some (record_some bytes))) ∙ ends

ends_last : (stage : Stage) (blocks : List Block) (at : ℕ) (bytes : List ℕ) (all : List Block) → length bytes ≡ 0 → Ends stage blocks at bytes all → (stage ≡ Due) × (blocks ≡ all)
unfolding scanned_over
ends_last stage blocks at bytes all none ends =
    let so : Scanned = record { stage = stage; blocks = blocks } in
    let same : so ≡ record { stage = Due; blocks = all } = sym (ap (λ (places : List (ℕ × List ℕ)). scanned_over versions.Three so places) (starts_none record_length at bytes none)) ∙ ends in
    (ap (λ (s : Scanned). s.stage) same, ap (λ (s : Scanned). s.blocks) same)

-- a fault stays
faulty_stays : (span : Span) (fault : TraceFault) (blocks : List Block) (places : List (ℕ × List ℕ))
    → scanned_over versions.Three (record { stage = Faulty span fault; blocks = blocks }) places ≡ record { stage = Faulty span fault; blocks = blocks }
unfolding scanned_over
faulty_stays span fault blocks [] = refl
faulty_stays span fault blocks ((at, bytes) ∷ later) = faulty_stays span fault blocks later

no_fault : (span : Span) (fault : TraceFault) (blocks : List Block) (at : ℕ) (bytes : List ℕ) (all : List Block) → Ends (Faulty span fault) blocks at bytes all → ⊥
no_fault span fault blocks at bytes all ends =
    let same : Faulty span fault ≡ Due = ap (λ (s : Scanned). s.stage) (sym (faulty_stays span fault blocks (starts record_length 0 at bytes)) ∙ ends) in
    absurd cc

-- ---- a record within a block

record StepsWithin (span : Span) (inside : Inside) (at : ℕ) (bytes : List ℕ) (blocks all : List Block) : Type 0 where
  r : Rec
  found : record_in bytes ≡ Ok r
  within : at + record_length bytes ≤ span.end
  said : Inside × Told
  next : inside_next versions.Three inside (eqb (at + record_length bytes) span.end) at r ≡ Ok said
  judged : stage_judged versions.Three (Within span inside) at (record_length bytes) (Ok r) ≡ (stage_after span (at + record_length bytes) said.0, said.1)
  left : Ends (stage_after span (at + record_length bytes) said.0) (with_told said.1 blocks) (at + record_length bytes) (drop (record_length bytes) bytes) all

step_within : (span : Span) (inside : Inside) (at : ℕ) (bytes : List ℕ) (blocks all : List Block) → 0 < length bytes → Ends (Within span inside) blocks at bytes all
    → StepsWithin span inside at bytes blocks all
step_within span inside at bytes blocks all some ends = by_found (record_in bytes) refl (ends_first (Within span inside) blocks at bytes all some ends)
  where
    len : ℕ
    len = record_length bytes

    After : Stage × Told → Type 0
    After said = Ends said.0 (with_told said.1 blocks) (at + len) (drop len bytes) all

    read : Bool → Rec → Result (Inside × Told) TraceFault
    read b r = cond b (Err (traces.Extents at)) (Ok r) >>= λ x. inside_next versions.Three inside (eqb (at + len) span.end) at x

    by_next : (r : Rec) → record_in bytes ≡ Ok r → ltb span.end (at + len) ≡ false → (x : Result (Inside × Told) TraceFault)
        → inside_next versions.Three inside (eqb (at + len) span.end) at r ≡ x → After (stage_within span (at + len) x) → StepsWithin span inside at bytes blocks all
    by_next r found within (Err fault) e after = absurd (no_fault span fault blocks (at + len) (drop len bytes) all after)
    by_next r found within (Ok said) e after = record {
      r = r;
      found = found;
      within = ltb-false span.end (at + len) within;
      said = said;
      next = e;
      judged = ap (λ (b : Bool). stage_within span (at + len) (read b r)) within ∙ ap (stage_within span (at + len)) e;
      left = after;
    }

    by_end : (r : Rec) → record_in bytes ≡ Ok r → (b : Bool) → ltb span.end (at + len) ≡ b → After (stage_within span (at + len) (read b r)) → StepsWithin span inside at bytes blocks all
    by_end r found true e after = absurd (no_fault span (traces.Extents at) blocks (at + len) (drop len bytes) all after)
    by_end r found false e after = by_next r found e (inside_next versions.Three inside (eqb (at + len) span.end) at r) refl after

    by_bad : (fault : RecFault) (b : Bool)
        → After (stage_within span (at + len) (cond b (Err (traces.Extents at)) (record_or at (Err fault)) >>= λ x. inside_next versions.Three inside (eqb (at + len) span.end) at x)) → ⊥
    by_bad fault true after = no_fault span (traces.Extents at) blocks (at + len) (drop len bytes) all after
    by_bad fault false after = no_fault span _ blocks (at + len) (drop len bytes) all after

    by_found : (found : Result Rec RecFault) → record_in bytes ≡ found → After (stage_judged versions.Three (Within span inside) at len found) → StepsWithin span inside at bytes blocks all
    by_found (Err fault) e after = absurd (by_bad fault (ltb span.end (at + len)) after)
    by_found (Ok r) e after = by_end r e (ltb span.end (at + len)) refl after

-- ---- a block, as its records say it

-- What a block's records have said, and the blocks of the reading: those before it, and this one once it was begun. Its
-- first records need room up to its end.
abbrev Tracks : Span → Inside → ℕ → (before blocks : List Block) → Block → Type 0
Tracks span insides.Opened at before blocks block = (at + 48 ≤ span.end) × (blocks ≡ before) × (block.events ≡ [])
Tracks span (insides.Thread thread) at before blocks block = (at + 32 ≤ span.end) × (blocks ≡ before) × (block.events ≡ [])
Tracks span (insides.Wall thread wall) at before blocks block = (at + 16 ≤ span.end) × (blocks ≡ before) × (block.events ≡ [])
Tracks span (insides.Events base) at before blocks block = (at ≤ span.end) × (blocks ≡ before ++ block ∷ [])

-- a block with these events
abbrev block_of_events : Block → List Event → Block
block_of_events block events = record block { events = events }

last_is_longer : (event : Event) (before : List Block) (block : Block) → last_longer event (before ++ block ∷ []) ≡ before ++ longer_block block event ∷ []
last_is_longer event [] block = refl
last_is_longer event (b ∷ []) block = refl
last_is_longer event (b ∷ other ∷ before) block = ap (λ (bs : List Block). b ∷ bs) (last_is_longer event (other ∷ before) block)

with_event_at : (o : Option Event) (before : List Block) (block : Block) → with_event o (before ++ block ∷ []) ≡ before ++ block_of_events block (block.events ++ option_to_list o) ∷ []
with_event_at None before block = ap (λ (es : List Event). before ++ block_of_events block es ∷ []) (sym (append-nil block.events))
with_event_at (Some event) before block = last_is_longer event before block

noted_at : (entry event : Option Event) (before blocks : List Block) (block : Block) → blocks ≡ before ++ block ∷ []
    → with_told (Noted entry event) blocks ≡ before ++ block_with (Noted entry event) block ∷ []
noted_at entry event before blocks block are =
    ap (λ (bs : List Block). with_event event (with_event entry bs)) are
    ∙ ap (with_event event) (with_event_at entry before block)
    ∙ with_event_at event before (block_of_events block (block.events ++ option_to_list entry))
    ∙ ap (λ (es : List Event). before ++ block_of_events block es ∷ []) (append_assoc block.events (option_to_list entry) (option_to_list event))

tracks_next : (span : Span) (inside : Inside) (at len : ℕ) (ends : Bool) (r : Rec) (said : Inside × Told) (before blocks : List Block) (block : Block) → len ≤ 16 → at + len ≤ span.end
    → inside_next versions.Three inside ends at r ≡ Ok said → Tracks span inside at before blocks block
    → Tracks span said.0 (at + len) before (with_told said.1 blocks) (block_with said.1 block)
tracks_next span inside at len ends r said before blocks block short within next tracks = by_inside inside next tracks
  where
    Goal : Inside × Told → Type 0
    Goal s = Tracks span s.0 (at + len) before (with_told s.1 blocks) (block_with s.1 block)

    moved : (s : Inside × Told) → ◌≡◌ {A = Result (Inside × Told) TraceFault} (Ok s) (Ok said) → Goal s → Goal said
    moved s e goal =
        let same : s ≡ said = cc in
        subst Goal same goal

    by_thread : (o : Option ℕ) → (NeedsPart o (Err (traces.Order at)) λ thread. Ok (insides.Thread thread, Nothing)) ≡ Ok said → Tracks span insides.Opened at before blocks block → Goal said
    by_thread None e t = absurd cc
    by_thread (Some thread) e t = moved (insides.Thread thread, Nothing) e (omega (arith, t.0, short), t.1, t.2)

    by_wall : (thread : ℕ) (o : Option Wall) → (NeedsPart o (Err (traces.Order at)) λ wall. Ok (insides.Wall thread wall, Nothing)) ≡ Ok said
        → Tracks span (insides.Thread thread) at before blocks block → Goal said
    by_wall thread None e t = absurd cc
    by_wall thread (Some wall) e t = moved (insides.Wall thread wall, Nothing) e (omega (arith, t.0, short), t.1, t.2)

    by_pid : (thread : ℕ) (wall : Wall) (o : Option ℕ) → (NeedsPart o (Err (traces.Order at)) λ pid. Ok (insides.Events None, Begun thread wall pid)) ≡ Ok said
        → Tracks span (insides.Wall thread wall) at before blocks block → Goal said
    by_pid thread wall None e t = absurd cc
    by_pid thread wall (Some pid) e t =
        let begun : blocks ++ empty_block thread wall pid ∷ [] ≡ before ++ block_with (Begun thread wall pid) block ∷ [] =
        ap (λ (bs : List Block). bs ++ empty_block thread wall pid ∷ []) t.1
        ∙ ap (λ (es : List Event). before ++ block_of_events (empty_block thread wall pid) es ∷ []) (sym t.2) in
        moved (insides.Events None, Begun thread wall pid) e (within, begun)

    by_step : (base : Option Base) (x : Result (Base × Option Event × Option Event) TraceFault) → (x >>= λ step. Ok (insides.Events (Some step.0), Noted step.1 step.2)) ≡ Ok said
        → Tracks span (insides.Events base) at before blocks block → Goal said
    by_step base (Err fault) e t = absurd cc
    by_step base (Ok step) e t = moved (insides.Events (Some step.0), Noted step.1 step.2) e (within, noted_at step.1 step.2 before blocks block t.1)

    by_inside : (i : Inside) → inside_next versions.Three i ends at r ≡ Ok said → Tracks span i at before blocks block → Goal said
    by_inside insides.Opened e t = by_thread (thread_named r) e t
    by_inside (insides.Thread thread) e t = by_wall thread (wall_named r) e t
    by_inside (insides.Wall thread wall) e t = by_pid thread wall (pid_named r) e t
    by_inside (insides.Events base) e t = by_step base (step_on ends at r base) e t

-- at its end a block was begun
tracks_end : (span : Span) (inside : Inside) (at : ℕ) (before blocks : List Block) (block : Block) → at ≡ span.end → Tracks span inside at before blocks block → blocks ≡ before ++ block ∷ []
tracks_end span insides.Opened at before blocks block end tracks = absurd (omega (arith, end, tracks.0))
tracks_end span (insides.Thread thread) at before blocks block end tracks = absurd (omega (arith, end, tracks.0))
tracks_end span (insides.Wall thread wall) at before blocks block end tracks = absurd (omega (arith, end, tracks.0))
tracks_end span (insides.Events base) at before blocks block end tracks = tracks.1

-- ---- the same record in a log

-- a record of a block of a log, which the block's bytes end behind
log_row : (stage : Stage) (at m : ℕ) (bytes : List ℕ) (r : Rec) (next : Stage × Told) → record_in bytes ≡ Ok r → record_length bytes ≤ m → rec_before (arg_follows (take m bytes)) r ≡ r
    → unless_faulty (stage_judged versions.Three stage at (record_length bytes) (Ok r)) ≡ Ok next → log_record_rows Three stage (at, take m bytes) ≡ Ok next
log_row stage at m bytes r next found within alone judged =
    let cut = record_cut bytes m r found within in
    let xs = take m bytes in
    let own = not_own xs r cut.same in
    let long : log_record_length Three xs ≡ record_length bytes = long_as xs own ∙ cut.long in
    let there : ltb (length xs) (record_length bytes) ≡ false = le-ltb (length xs) (record_length bytes) (omega (arith, length-take m bytes, cut.whole, within)) in
    ap (λ (n : ℕ). First (ltb (length xs) n) (Err (traces.Extents at)) (unless_faulty (stage_judged versions.Three stage at n (log_record_in Three stage xs)))) long
    ∙ ap (λ (x : Result Rec RecFault). First (ltb (length xs) (record_length bytes)) (Err (traces.Extents at)) (unless_faulty (stage_judged versions.Three stage at (record_length bytes) x))) (record_as stage xs own ∙ (ap (found_before (arg_follows xs)) cut.same ∙ ap (λ (s : Rec). let x : Result Rec RecFault = Ok s in x) alone))
    ∙ ap (λ (b : Bool). First b (Err (traces.Extents at)) (unless_faulty (stage_judged versions.Three stage at (record_length bytes) (Ok r)))) there
    ∙ judged

-- the records of a block of a log, from this one on
log_rows : (so : BlockSoFar) (stage : Stage) (at m : ℕ) (bytes : List ℕ) (r : Rec) (next : Stage × Told) → so.stage ≡ stage → record_in bytes ≡ Ok r → record_length bytes ≤ m → rec_before (arg_follows (take m bytes)) r ≡ r
    → unless_faulty (stage_judged versions.Three stage at (record_length bytes) (Ok r)) ≡ Ok next
    → InTurn (said_rows Three) so (log_places Three at (take m bytes))
    ≡ InTurn (said_rows Three) (so_with Three so (take m bytes) next) (log_places Three (at + record_length bytes) (drop (record_length bytes) (take m bytes)))
log_rows so stage at m bytes r next is found within alone judged =
    let cut = record_cut bytes m r found within in
    let xs = take m bytes in
    let own = not_own xs r cut.same in
    let long : log_record_length Three xs ≡ record_length bytes = long_as xs own ∙ cut.long in
    let some : 0 < length xs = omega (arith, length-take m bytes, cut.whole, within, record_some bytes) in
    let row : log_record_rows Three so.stage (at, xs) ≡ Ok next = ap (λ (s : Stage). log_record_rows Three s (at, xs)) is ∙ log_row stage at m bytes r next found within alone judged in
    ap (InTurn (said_rows Three) so) (places_first Three at xs some)
    ∙ ap (λ (x : Result (Stage × Told) TraceFault). (x >>= λ said. Ok (so_with Three so xs said)) >>= λ s. InTurn (said_rows Three) s (log_places Three (at + log_record_length Three xs) (drop (log_record_length Three xs) xs))) row
    ∙ ap (λ (n : ℕ). InTurn (said_rows Three) (so_with Three so xs next) (log_places Three (at + n) (drop n xs))) long

-- ---- a record, and the one behind it

-- what is accepted next
next_accepted : (span : Span) (inside : Inside) (at : ℕ) (bytes : List ℕ) (blocks all : List Block) → Ends (Within span inside) blocks at bytes all → StepsWithin span inside at bytes blocks all
next_accepted span inside at bytes blocks all ends = by_length (cases_lt 0 (length bytes))
  where
    by_length : (0 < length bytes) ⊎ (length bytes ≤ 0) → StepsWithin span inside at bytes blocks all
    by_length (inl some) = step_within span inside at bytes blocks all some ends
    by_length (inr few) =
        let none : length bytes ≡ 0 = omega (arith, few) in
        let no = (ends_last (Within span inside) blocks at bytes all none ends).0 in
        absurd cc

-- behind an entry of action 0 no argument is accepted
abbrev barred_base : Base → ℕ → Base
barred_base base delta = record { cpu = base.cpu; tsc = (base.tsc + delta) % 2 ^ 64; argument = arguments.Barred }

no_arg_behind : (base : Base) (func delta : ℕ) (ends : Bool) (at : ℕ) (r : Rec) (said : Inside × Told) → inside_next versions.Three (insides.Events (Some (barred_base base delta))) ends at r ≡ Ok said
    → rec_before (is_arg r) (Function Entry func delta) ≡ Function Entry func delta
no_arg_behind base func delta ends at (CallArg value) said is = absurd cc
no_arg_behind base func delta ends at (NewBuffer thread) said is = refl
no_arg_behind base func delta ends at (NewCpu cpu tsc) said is = refl
no_arg_behind base func delta ends at (TscWrap tsc) said is = refl
no_arg_behind base func delta ends at (WallTime wall) said is = refl
no_arg_behind base func delta ends at (Pid pid) said is = refl
no_arg_behind base func delta ends at (Extents size) said is = refl
no_arg_behind base func delta ends at (Function kind f d) said is = refl

entry_pair : (inside : Inside) (ends other : Bool) (at behind func delta : ℕ) (r : Rec) (said next : Inside × Told) → inside_next versions.Three inside ends at (Function Entry func delta) ≡ Ok said
    → inside_next versions.Three said.0 other behind r ≡ Ok next → rec_before (is_arg r) (Function Entry func delta) ≡ Function Entry func delta
entry_pair insides.Opened ends other at behind func delta r said next is follows = absurd cc
entry_pair (insides.Thread thread) ends other at behind func delta r said next is follows = absurd cc
entry_pair (insides.Wall thread wall) ends other at behind func delta r said next is follows = absurd cc
entry_pair (insides.Events None) ends other at behind func delta r said next is follows = absurd cc
entry_pair (insides.Events (Some base)) ends other at behind func delta r said next is follows =
    let made : Inside × Told = (
      insides.Events (Some (barred_base base delta)),
      Noted (entry_with (Some base) 0) (Some (record { cpu = base.cpu; func = func; kind = Entry; tsc = (base.tsc + delta) % 2 ^ 64; arg = 0 })),
    ) in
    let same : made ≡ said = cc in
    no_arg_behind base func delta other behind r next (ap (λ (s : Inside × Told). inside_next versions.Three s.0 other behind r) same ∙ follows)

accepted_pair : (inside : Inside) (ends other : Bool) (at behind : ℕ) (r s : Rec) (said next : Inside × Told) → inside_next versions.Three inside ends at r ≡ Ok said
    → inside_next versions.Three said.0 other behind s ≡ Ok next → rec_before (is_arg s) r ≡ r
accepted_pair inside ends other at behind (NewBuffer thread) s said next is follows = refl
accepted_pair inside ends other at behind (NewCpu cpu tsc) s said next is follows = refl
accepted_pair inside ends other at behind (TscWrap tsc) s said next is follows = refl
accepted_pair inside ends other at behind (WallTime wall) s said next is follows = refl
accepted_pair inside ends other at behind (Pid pid) s said next is follows = refl
accepted_pair inside ends other at behind (CallArg value) s said next is follows = refl
accepted_pair inside ends other at behind (Extents size) s said next is follows = refl
accepted_pair inside ends other at behind (Function Entry func delta) s said next is follows = entry_pair inside ends other at behind func delta s said next is follows
accepted_pair inside ends other at behind (Function Exit func delta) s said next is follows = refl
accepted_pair inside ends other at behind (Function TailExit func delta) s said next is follows = refl
accepted_pair inside ends other at behind (Function EntryArgs func delta) s said next is follows = refl

-- ---- the records of a block

record BlockFollows (span : Span) (at : ℕ) (bytes : List ℕ) (before all : List Block) (so : BlockSoFar) : Type 0 where
  fits : span.end ≤ at + length bytes
  last : BlockSoFar
  reads : InTurn (said_rows Three) so (log_places Three at (take (span.end - at) bytes)) ≡ Ok last
  left : Ends Due (before ++ last.block ∷ []) span.end (drop (span.end - at) bytes) all

records_follow : (n : ℕ) (span : Span) (inside : Inside) (at : ℕ) (bytes : List ℕ) (before blocks all : List Block) (so : BlockSoFar) → length bytes ≤ n
    → Tracks span inside at before blocks so.block → so.stage ≡ Within span inside → Ends (Within span inside) blocks at bytes all → BlockFollows span at bytes before all so
records_follow zero span inside at bytes before blocks all so few tracks stage ends =
    let none : length bytes ≡ 0 = omega arith in
    let no = (ends_last (Within span inside) blocks at bytes all none ends).0 in
    absurd cc
records_follow (suc n) span inside at bytes before blocks all so few tracks stage ends =
    by_length (cases_lt 0 (length bytes)) (λ i b bs s f t st e. records_follow n span i (at + record_length bytes) (drop (record_length bytes) bytes) b bs all s f t st e)
  where
    len : ℕ
    len = record_length bytes

    Again : Type 0
    Again = (i : Inside) (b bs : List Block) (s : BlockSoFar) → length (drop len bytes) ≤ n → Tracks span i (at + len) b bs s.block → s.stage ≡ Within span i
        → Ends (Within span i) bs (at + len) (drop len bytes) all → BlockFollows span (at + len) (drop len bytes) b all s

    by_last : (st : StepsWithin span inside at bytes blocks all) → Again → (b : Bool) → eqb (at + len) span.end ≡ b
        → stage_judged versions.Three (Within span inside) at len (Ok st.r) ≡ (cond b Due (Within span st.said.0), st.said.1)
        → Ends (cond b Due (Within span st.said.0)) (with_told st.said.1 blocks) (at + len) (drop len bytes) all → BlockFollows span at bytes before all so
    by_last st again true e judged left =
        let end : at + len ≡ span.end = eqb-true (at + len) span.end e in
        let m = span.end - at in
        let within : len ≤ m = omega (arith, end) in
        let cut = record_cut bytes m st.r st.found within in
        let next : Stage × Told = (Due, st.said.1) in
        let xs = take m bytes in
        let few : length xs ≤ record_length xs = omega (arith, length-take m bytes, cut.long, end) in
        let alone : rec_before (arg_follows xs) st.r ≡ st.r = ap (λ (b : Bool). rec_before b st.r) (none_follows xs few) ∙ rec_alone st.r in
        let rows = log_rows so (Within span inside) at m bytes st.r next stage st.found within alone (ap unless_faulty judged) in
        let after = so_with Three so (take m bytes) next in
        let none : length (drop len (take m bytes)) ≡ 0 = omega (arith, length-drop len (take m bytes), length-take m bytes, end) in
        let then_is = tracks_next span inside at len (eqb (at + len) span.end) st.r st.said before blocks so.block (record_short bytes) (omega (arith, end)) st.next tracks in
        let blocks_are : with_told st.said.1 blocks ≡ before ++ after.block ∷ [] = tracks_end span st.said.0 (at + len) before (with_told st.said.1 blocks) (block_with st.said.1 so.block) end then_is in
        let same : len ≡ m = omega (arith, end) in record {
          fits = omega (arith, end, cut.whole);
          last = after;
          reads = rows ∙ rows_none Three after (at + len) (drop len (take m bytes)) none;
          left =
              subst (λ (k : ℕ). Ends Due (before ++ after.block ∷ []) span.end (drop k bytes) all) same
              (subst (λ (k : ℕ). Ends Due (before ++ after.block ∷ []) k (drop len bytes) all) end
              (subst (λ (bs : List Block). Ends Due bs (at + len) (drop len bytes) all) blocks_are left));
        }
    by_last st again false e judged left =
        let other = eqb-false (at + len) span.end e in
        let inner : at + len < span.end = omega (arith, st.within, other) in
        let m = span.end - at in
        let within : len ≤ m = omega (arith, inner) in
        let cut = record_cut bytes m st.r st.found within in
        let next : Stage × Told = (Within span st.said.0, st.said.1) in
        let parts : m ≡ len + (span.end - (at + len)) = omega (arith, inner) in
        let rest : drop len (take m bytes) ≡ take (span.end - (at + len)) (drop len bytes) = ap (λ (k : ℕ). drop len (take k bytes)) parts ∙ drop-take len (span.end - (at + len)) bytes in
        let xs = take m bytes in
        let other_r = next_accepted span st.said.0 (at + len) (drop len bytes) (with_told st.said.1 blocks) all left in
        let there = record_cut (drop len bytes) (span.end - (at + len)) other_r.r other_r.found (omega (arith, other_r.within)) in
        let follows : arg_follows xs ≡ is_arg other_r.r =
        ap (λ (k : ℕ). found_arg (record_in (drop k xs))) cut.long ∙ (ap (λ (ys : List ℕ). found_arg (record_in ys)) rest ∙ ap found_arg there.same) in
        let alone : rec_before (arg_follows xs) st.r ≡ st.r =
        ap (λ (b : Bool). rec_before b st.r) follows
        ∙ accepted_pair inside (eqb (at + len) span.end) (eqb (at + len + record_length (drop len bytes)) span.end) at (at + len) st.r other_r.r st.said other_r.said st.next other_r.next in
        let rows = log_rows so (Within span inside) at m bytes st.r next stage st.found within alone (ap unless_faulty judged) in
        let after = so_with Three so (take m bytes) next in
        let then_is = tracks_next span inside at len (eqb (at + len) span.end) st.r st.said before blocks so.block (record_short bytes) st.within st.next tracks in
        let f = again st.said.0 before (with_told st.said.1 blocks) after (omega (arith, few, length-drop len bytes, record_some bytes)) then_is refl left in
        let behind : drop (span.end - (at + len)) (drop len bytes) ≡ drop m bytes = drop-drop (span.end - (at + len)) len bytes ∙ ap (λ (k : ℕ). drop k bytes) (sym parts) in record {
          fits = omega (arith, f.fits, length-drop len bytes, cut.whole);
          last = f.last;
          reads = rows ∙ ap (λ (xs : List ℕ). InTurn (said_rows Three) after (log_places Three (at + len) xs)) rest ∙ f.reads;
          left = subst (λ (xs : List ℕ). Ends Due (before ++ f.last.block ∷ []) span.end xs all) behind f.left;
        }

    by_length : (0 < length bytes) ⊎ (length bytes ≤ 0) → Again → BlockFollows span at bytes before all so
    by_length (inr none) again =
        let zero_long : length bytes ≡ 0 = omega (arith, none) in
        let no = (ends_last (Within span inside) blocks at bytes all zero_long ends).0 in
        absurd cc
    by_length (inl some) again =
        let st = step_within span inside at bytes blocks all some ends in
        by_last st again (eqb (at + len) span.end) refl st.judged st.left

-- ---- the extents of a block

record StepsDue (at : ℕ) (bytes : List ℕ) (blocks all : List Block) : Type 0 where
  size : ℕ
  found : record_in bytes ≡ Ok (Extents size)
  enough : 48 ≤ size
  left : Ends (Within (block_span at size) insides.Opened) blocks (at + record_length bytes) (drop (record_length bytes) bytes) all

step_due : (at : ℕ) (bytes : List ℕ) (blocks all : List Block) → 0 < length bytes → Ends Due blocks at bytes all → StepsDue at bytes blocks all
step_due at bytes blocks all some ends = by_found (record_in bytes) refl (ends_first Due blocks at bytes all some ends)
  where
    len : ℕ
    len = record_length bytes

    by_least : (r : Rec) → record_in bytes ≡ Ok r → (size : ℕ) → size_named r ≡ Some size → (b : Bool) → ltb size 48 ≡ b
        → Ends (First b (Faulty (extents_span at) (traces.Extents at)) (Within (block_span at size) insides.Opened)) blocks (at + len) (drop len bytes) all → StepsDue at bytes blocks all
    by_least r found size named true e after = absurd (no_fault (extents_span at) (traces.Extents at) blocks (at + len) (drop len bytes) all after)
    by_least r found size named false e after = record {
      size = size;
      found = found ∙ ap (λ (x : Rec). let y : Result Rec RecFault = Ok x in y) (size_is r size named);
      enough = ltb-false size 48 e;
      left = after;
    }

    by_size : (r : Rec) → record_in bytes ≡ Ok r → (o : Option ℕ) → size_named r ≡ o
        → Ends (NeedsPart o (Faulty (extents_span at) (traces.Order at)) λ size. First (ltb size 48) (Faulty (extents_span at) (traces.Extents at)) (Within (block_span at size) insides.Opened)) blocks (at + len) (drop len bytes) all
        → StepsDue at bytes blocks all
    by_size r found None named after = absurd (no_fault (extents_span at) (traces.Order at) blocks (at + len) (drop len bytes) all after)
    by_size r found (Some size) named after = by_least r found size named (ltb size 48) refl after

    by_found : (found : Result Rec RecFault) → record_in bytes ≡ found → Ends (extents_next versions.Three at found) blocks (at + len) (drop len bytes) all → StepsDue at bytes blocks all
    by_found (Err fault) e after = absurd (no_fault (extents_span at) (traces.Bad at fault) blocks (at + len) (drop len bytes) all after)
    by_found (Ok r) e after = by_size r e (size_named r) refl after

-- enough bytes for a preamble
large : (size : ℕ) → 48 ≤ size → too_few Three size ≡ false
large size enough = and_false (not (eqb size 0)) (ltb size 48) (le-ltb size 48 enough)
  where
    and_false : (a b : Bool) → b ≡ false → (a && b) ≡ false
    and_false true b e = e
    and_false false b e = refl

-- the size of the block in the log
size_rows : (at size : ℕ) (bytes : List ℕ) → record_in bytes ≡ Ok (Extents size) → 48 ≤ size → 16 + size ≤ length bytes → block_size_rows Three (at, bytes) ≡ Ok size
size_rows at size bytes found enough fits =
    let whole : ltb (length bytes) 16 ≡ false = le-ltb (length bytes) 16 (omega (arith, fits)) in
    let own = not_own bytes (Extents size) found in
    ap (λ (b : Bool). First b (Err (traces.Short at)) (sized_rows Three (at, bytes) (log_record_in Three Due bytes))) whole
    ∙ ap (sized_rows Three (at, bytes)) (record_as Due bytes own ∙ ap (found_before (arg_follows bytes)) found)
    ∙ ap (λ (b : Bool). First b (Err (traces.Extents at)) (First (ltb (length bytes) (16 + size)) (Err (traces.Short at)) (Ok size))) (large size enough)
    ∙ ap (λ (b : Bool). let x : Result ℕ TraceFault = First b (Err (traces.Short at)) (Ok size) in x) (le-ltb (length bytes) (16 + size) fits)

-- ---- the blocks

record BlocksFollow (at : ℕ) (bytes : List ℕ) (before all : List Block) (said : List LogBlock) : Type 0 where
  more : List LogBlock
  reads : InTurn (log_block_rows Three) said (starts block_length 0 at bytes) ≡ Ok (said ++ more)
  told : all ≡ before ++ map (λ (b : LogBlock). b.block) more

no_blocks : (at : ℕ) (bytes : List ℕ) (before all : List Block) (said : List LogBlock) → length bytes ≡ 0 → Ends Due before at bytes all → BlocksFollow at bytes before all said
no_blocks at bytes before all said none ends =
    let whole : Ok said ≡ Ok (said ++ []) = ap (λ (bs : List LogBlock). let x : Result (List LogBlock) TraceFault = Ok bs in x) (sym (append-nil said)) in record {
      more = [];
      reads = ap (InTurn (log_block_rows Three) said) (starts_none block_length at bytes none) ∙ whole;
      told = sym (ends_last Due before at bytes all none ends).1 ∙ sym (append-nil before);
    }

-- a block, and those after it
one_more : (at : ℕ) (bytes : List ℕ) (said more : List LogBlock) (b : LogBlock) → 0 < length bytes → log_block_in Three (at, bytes) ≡ Ok b
    → InTurn (log_block_rows Three) (said ++ b ∷ []) (starts block_length 0 (at + block_length bytes) (drop (block_length bytes) bytes)) ≡ Ok ((said ++ b ∷ []) ++ more)
    → InTurn (log_block_rows Three) said (starts block_length 0 at bytes) ≡ Ok (said ++ b ∷ more)
one_more at bytes said more b some is rest =
    block_first Three said at bytes some
    ∙ ap (λ (x : Result LogBlock TraceFault). Onward Three (x >>= λ s. Ok (said ++ s ∷ [])) (at + block_length bytes) (drop (block_length bytes) bytes)) is
    ∙ rest
    ∙ ap (λ (bs : List LogBlock). let x : Result (List LogBlock) TraceFault = Ok bs in x) (append_assoc said (b ∷ []) more)

blocks_follow : (n at : ℕ) (bytes : List ℕ) (before all : List Block) (said : List LogBlock) → length bytes ≤ n → Ends Due before at bytes all → BlocksFollow at bytes before all said
blocks_follow zero at bytes before all said few ends =
    let none : length bytes ≡ 0 = omega arith in
    no_blocks at bytes before all said none ends
blocks_follow (suc n) at bytes before all said few ends =
    by_length (cases_lt 0 (length bytes)) (λ place xs bs ss f e. blocks_follow n place xs bs all ss f e)
  where
    Again : Type 0
    Again = (place : ℕ) (xs : List ℕ) (bs : List Block) (ss : List LogBlock) → length xs ≤ n → Ends Due bs place xs all → BlocksFollow place xs bs all ss

    by_block : (st : StepsDue at bytes before all) → Again
        → BlockFollows (block_span at st.size) (at + 16) (drop 16 bytes) before all (block_opened at st.size) → BlocksFollow at bytes before all said
    by_block st again f =
        let size = st.size in
        let far : at + 16 + size - (at + 16) ≡ size = omega arith in
        let some : 0 < length bytes = omega (arith, length-drop 16 bytes, f.fits, st.enough) in
        let sized = size_rows at size bytes st.found st.enough (omega (arith, length-drop 16 bytes, f.fits, st.enough)) in
        let content : List ℕ = block_content size bytes in
        let whole : whole_content Three content ≡ content = whole_all Three content (never_cut Three content (λ same. cc)) in
        let long_content : length content ≡ size = omega (arith, length-take size (drop 16 bytes), length-drop 16 bytes, f.fits) in
        let reads : content_rows Three at size bytes ≡ Ok f.last =
        ap (whole_rows Three at) whole
        ∙ (ap (λ (n : ℕ). InTurn (said_rows Three) (block_opened at n) (log_places Three (at + 16) content)) long_content
        ∙ (ap (λ (k : ℕ). InTurn (said_rows Three) (block_opened at size) (log_places Three (at + 16) (take k (drop 16 bytes)))) (sym far) ∙ f.reads)) in
        let b : LogBlock = block_said Three at (block_content size bytes) f.last in
        let is : log_block_in Three (at, bytes) ≡ Ok b = block_is Three at size bytes f.last sized reads in
        let long : block_length bytes ≡ 16 + size = block_sized Three at bytes size sized in
        let place : at + block_length bytes ≡ at + 16 + size = omega (arith, long) in
        let rest : drop (at + 16 + size - (at + 16)) (drop 16 bytes) ≡ drop (block_length bytes) bytes =
        ap (λ (k : ℕ). drop k (drop 16 bytes)) far ∙ drop-drop size 16 bytes ∙ ap (λ (k : ℕ). drop k bytes) (sym long) in
        let left =
        subst (λ (k : ℕ). Ends Due (before ++ f.last.block ∷ []) k (drop (block_length bytes) bytes) all) (sym place)
        (subst (λ (xs : List ℕ). Ends Due (before ++ f.last.block ∷ []) (at + 16 + size) xs all) rest f.left) in
        let g = again (at + block_length bytes) (drop (block_length bytes) bytes) (before ++ f.last.block ∷ []) (said ++ b ∷ []) (omega (arith, few, some, length-drop (block_length bytes) bytes)) left in record {
          more = b ∷ g.more;
          reads = one_more at bytes said g.more b some is g.reads;
          told = g.told ∙ append_assoc before (f.last.block ∷ []) (map (λ (x : LogBlock). x.block) g.more);
        }

    by_length : (0 < length bytes) ⊎ (length bytes ≤ 0) → Again → BlocksFollow at bytes before all said
    by_length (inr none) again =
        let zero_long : length bytes ≡ 0 = omega (arith, none) in
        no_blocks at bytes before all said zero_long ends
    by_length (inl some) again =
        let st = step_due at bytes before all some ends in
        let long : record_length bytes ≡ 16 = extents_long bytes st.size st.found in
        let left = subst (λ (k : ℕ). Ends (Within (block_span at st.size) insides.Opened) before (at + k) (drop k bytes) all) long st.left in
        let room : at + 16 + 48 ≤ at + 16 + st.size = omega (arith, st.enough) in
        by_block st again
        (records_follow (length (drop 16 bytes)) (block_span at st.size) insides.Opened (at + 16) (drop 16 bytes) before before all (block_opened at st.size) (omega arith) (room, refl, refl) refl left)

-- ---- a trace

-- a header of a trace
record HasVersion (bytes : List ℕ) (version : Version) : Type 0 where
  long : ltb (length bytes) 32 ≡ false
  named : version_of (version_in bytes) ≡ Some version
  typed : eqb (type_in bytes) 1 ≡ true

has_version : (bytes : List ℕ) (version : Version) → version_read bytes ≡ Ok version → HasVersion bytes version
has_version bytes version is = by_long (ltb (length bytes) 32) refl is
  where
    by_type : (v : Version) → ltb (length bytes) 32 ≡ false → version_of (version_in bytes) ≡ Some v → (b : Bool) → eqb (type_in bytes) 1 ≡ b
        → First (not b) (Err (traces.Form (type_in bytes))) (Ok v) ≡ Ok version → HasVersion bytes version
    by_type v long named true e h =
        let same : v ≡ version = cc in
        record { long = long; named = named ∙ ap (λ (w : Version). let o : Option Version = Some w in o) same; typed = e }
    by_type v long named false e h = absurd cc

    by_version : (o : Option Version) → ltb (length bytes) 32 ≡ false → version_of (version_in bytes) ≡ o
        → (NeedsPart o (Err (traces.Version (version_in bytes))) λ v. First (not (eqb (type_in bytes) 1)) (Err (traces.Form (type_in bytes))) (Ok v)) ≡ Ok version → HasVersion bytes version
    by_version None long e h = absurd cc
    by_version (Some v) long e h = by_type v long e (eqb (type_in bytes) 1) refl h

    by_long : (b : Bool) → ltb (length bytes) 32 ≡ b
        → First b (Err (traces.Short 0)) (NeedsPart (version_of (version_in bytes)) (Err (traces.Version (version_in bytes))) λ v. First (not (eqb (type_in bytes) 1)) (Err (traces.Form (type_in bytes))) (Ok v)) ≡ Ok version
        → HasVersion bytes version
    by_long true e h = absurd cc
    by_long false e h = by_version (version_of (version_in bytes)) e refl h

-- the version of a trace of version 3
third : (version : Version) (n : ℕ) → version_of n ≡ Some version → n ≡ 3 → version ≡ versions.Three
third version n named three =
    let same : Some versions.Three ≡ Some version = sym (ap version_of three) ∙ named in
    let one : versions.Three ≡ version = cc in
    sym one

-- where the reading of a trace ends
record EndsTrace (bytes : List ℕ) (trace : Trace) : Type 0 where
  version : HasVersion bytes versions.Three
  header : trace.header ≡ header_in bytes
  ends : Ends Due [] 32 (drop 32 bytes) trace.blocks

ends_trace : ((xs : List ℕ) → trace_of xs ≡ scanned_ends (length xs) (header_in xs) (scanned xs)) → (bytes : List ℕ) (trace : Trace) → trace_of bytes ≡ Ok trace → trace.header.version ≡ 3
    → EndsTrace bytes trace
ends_trace by_records bytes trace reads three = by_version (version_read bytes) refl (sym (by_records bytes) ∙ reads)
  where
    by_short : (fault : TraceFault) (begin : ℕ) (b : Bool) → cond b (Err (traces.Short begin)) (Err fault) ≡ Ok trace → ⊥
    by_short fault begin true h = absurd cc
    by_short fault begin false h = absurd cc

    by_stage : (version : Version) → HasVersion bytes version → (stage : Stage) (blocks : List Block) → scanned_on version scan_start 32 (drop 32 bytes) ≡ record { stage = stage; blocks = blocks }
        → stage_ends (length bytes) (header_in bytes) blocks stage ≡ Ok trace → EndsTrace bytes trace
    by_stage version has Due blocks e h =
        let same : record { header = header_in bytes; blocks = blocks } ≡ trace = cc in
        let header : header_in bytes ≡ trace.header = ap (λ (t : Trace). t.header) same in
        let number : version_in bytes ≡ 3 = ap (λ (x : Header). x.version) header ∙ three in
        let is = third version (version_in bytes) has.named number in record {
          version = subst (HasVersion bytes) is has;
          header = sym header;
          ends =
              ap (λ (v : Version). scanned_on v scan_start 32 (drop 32 bytes)) (sym is) ∙ e
              ∙ ap (λ (bs : List Block). let s : Scanned = record { stage = Due; blocks = bs } in s) (ap (λ (t : Trace). t.blocks) same);
        }
    by_stage version has (Within span inside) blocks e h = absurd cc
    by_stage version has (Faulty span fault) blocks e h = absurd (by_short fault span.begin (ltb (length bytes) span.end) h)

    by_version : (x : Result Version TraceFault) → version_read bytes ≡ x → scanned_ends (length bytes) (header_in bytes) (scanned_from x bytes) ≡ Ok trace → EndsTrace bytes trace
    by_version (Err fault) e h = absurd (by_short fault 0 (ltb (length bytes) 0) h)
    by_version (Ok version) e h =
        let s = scanned_on version scan_start 32 (drop 32 bytes) in
        by_stage version (has_version bytes version e) s.stage s.blocks refl h

-- the mode of a trace, as a log
trace_mode : (bytes : List ℕ) → HasVersion bytes versions.Three → version_in bytes ≡ 3 → mode_of bytes ≡ Ok (Recorder Three)
trace_mode bytes has number = recorder_headed bytes Three (ltb-false (length bytes) 32 has.long) (ap log_version_of number) (eqb-true (type_in bytes) 1 has.typed)

-- the log that a trace is
pub record LogOfTrace (bytes : List ℕ) (trace : Trace) : Type 0 where
  pub log : Log
  pub says : logged bytes ≡ Ok log
  pub blocks : recorder_blocks Three bytes ≡ Ok log.blocks
  pub said : said_of log ≡ trace
  pub none : log.events ≡ []

pub log_of_trace : ((xs : List ℕ) → trace_of xs ≡ scanned_ends (length xs) (header_in xs) (scanned xs)) → (bytes : List ℕ) (trace : Trace) → trace_of bytes ≡ Ok trace → trace.header.version ≡ 3
    → LogOfTrace bytes trace
log_of_trace by_records bytes trace reads three =
    let t = ends_trace by_records bytes trace reads three in
    let number : version_in bytes ≡ 3 = ap (λ (h : Header). h.version) (sym t.header) ∙ three in
    let f = blocks_follow (length (drop 32 bytes)) 32 (drop 32 bytes) [] trace.blocks [] (omega arith) t.ends in
    let header : recorder_header bytes ≡ trace.header = ap (λ (n : ℕ). let h : Header = record (header_in bytes) { version = n } in h) (sym number) ∙ sym t.header in record {
      log = log_of_blocks (recorder_header bytes) f.more;
      says = recorder_read bytes Three f.more (trace_mode bytes t.version number) (ap as_log f.reads);
      blocks = f.reads;
      said =
          ap (λ (h : Header). let x : Trace = record { header = h; blocks = map (λ (b : LogBlock). b.block) f.more } in x) header
          ∙ ap (λ (bs : List Block). let x : Trace = record { header = trace.header; blocks = bs } in x) (sym f.told);
      none = refl;
    }

pub trace_is_log : ((xs : List ℕ) → trace_of xs ≡ scanned_ends (length xs) (header_in xs) (scanned xs)) → TracesAreLogs
trace_is_log by_records bytes trace reads three =
    let t = log_of_trace by_records bytes trace reads three in (t.log, t.says, t.said)
