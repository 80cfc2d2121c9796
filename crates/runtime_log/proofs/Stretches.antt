-- Stretches of function records: what they say, and the records of their events.
use Rattle.std.proofs.Common.{◌≡◌, ℕ, zero, suc, ◌+◌, ◌*◌, ◌/◌, ◌%◌, ◌^◌, ◌<◌, ◌≤◌, Bool, true, false, cond, eqb, ltb, List, [], ◌∷◌, ◌++◌, length, drop, slice_index, Option, Some, None, Result, Ok, Err, refl, sym, ap, subst, ◌∙◌, append_assoc, append-nil, eq-eqb, arith}
use Rattle.std.specs.Prelude.{is_some, option_to_list}
use Rattle.std.proofs.lemmas.Bool.Decides.{nat_tests}
use Rattle.std.proofs.lemmas.List.{drop-drop, length-drop}
use Rattle.std.specs.Option.{option_map_or}
use Rattle.xray_io.specs.Rows.{First, InTurn, ◌>>=◌}
use Rattle.byteorder.specs.Endian.{little_number}
use Rattle.fdr_record.specs.declared.event.Event.{Event}
use Rattle.fdr_record.specs.declared.event.Kind.{Kind}
use Rattle.fdr_record.specs.declared.event.Kind.TheVariants.{Entry, Exit, TailExit}
use Rattle.fdr_record.specs.declared.rec.Rec.{Rec}
use Rattle.fdr_record.specs.declared.fault.RecFault.{RecFault}
use Rattle.fdr_record.specs.declared.rec.Rec.TheVariants.{TscWrap, Function}
use Rattle.fdr_record.specs.Reading.{function_record_at, kind_read}
use Rattle.fdr_file.specs.declared.events.Argument.{Argument}
use Rattle.fdr_file.specs.declared.events.Argument.TheVariants.{Barred}
use Rattle.fdr_file.specs.declared.events.Base.{Base}
use Rattle.fdr_file.specs.declared.fault.TraceFault.{TraceFault}
use Rattle.fdr_file.specs.declared.fault.TraceFault.TheVariants as traces
use Rattle.fdr_file.specs.declared.stage.Inside.{Inside}
use Rattle.fdr_file.specs.declared.stage.Inside.TheVariants.{Events}
use Rattle.fdr_file.specs.declared.stage.Span.{Span}
use Rattle.fdr_file.specs.declared.stage.Stage.{Stage}
use Rattle.fdr_file.specs.declared.stage.Stage.TheVariants.{Due, Within}
use Rattle.fdr_file.specs.declared.stage.Told.{Told}
use Rattle.fdr_file.specs.declared.stage.Told.TheVariants.{Noted}
use Rattle.fdr_file.specs.Scanning.{stage_after, stage_judged}
use Rattle.fdr_file.specs.Traces.{logs_arg, record_in}
use Rattle.runtime_log.specs.declared.own_event.OwnKind.{OwnKind}
use Rattle.runtime_log.specs.declared.stretch.Stretch.{Stretch}
use Rattle.runtime_log.specs.declared.version.LogVersion.{LogVersion}
use Rattle.runtime_log.specs.declared.version.LogVersion.TheVariants.{Two, Three, Four, Five}
use Rattle.runtime_log.specs.declared.walk.BlockWalk.{BlockWalk}
use Rattle.runtime_log.specs.Logs.{BlockSoFar, log_places, log_record_rows, said_rows, unless_faulty}
use Rattle.runtime_log.specs.Arguments.{traced_in}
use Rattle.runtime_log.specs.OwnEvents.{counter_so_far, first_kind, log_record_in, log_record_length, own_delta, own_kind}
use Rattle.runtime_log.specs.Versions.{trace_version}
use Rattle.runtime_log.specs.private.Stretches.{AreStretch, IsPlain, IsStretch, SaysStretch, action_in, counter_in, event_in, kind_in, last_counter, stretch_events}
use Rattle.runtime_log.specs.private.Walks.{IsCounted, IsPastStretch, events_by, events_told, walk_events}
use Rattle.runtime_log.proofs.RecordWalk.{events_first, rows_first, so_with}

-- ---- one record

-- the kind of one of the first three actions
abbrev pub kind_by : ℕ → Kind
kind_by action = cond (eqb action 0) Entry (cond (eqb action 1) Exit TailExit)

kind_plain : (action : ℕ) → action ≤ 2 → kind_read action ≡ Ok (kind_by action)
kind_plain zero few = refl
kind_plain (suc zero) few = refl
kind_plain (suc (suc zero)) few = refl
kind_plain (suc (suc (suc n))) few = absurd (omega arith)

no_argument_by : (a b : Bool) → logs_arg (cond a Entry (cond b Exit TailExit)) ≡ false
no_argument_by true b = refl
no_argument_by false true = refl
no_argument_by false false = refl

pub no_argument : (bytes : List ℕ) → logs_arg (kind_in bytes) ≡ false
no_argument bytes = no_argument_by (eqb (action_in bytes) 0) (eqb (action_in bytes) 1)

-- the record of an event of a stretch
abbrev pub record_of : List ℕ → Rec
record_of bytes = Function (kind_in bytes) (little_number 4 bytes / 16) (little_number 4 (drop 4 bytes))

-- an even first byte, of bytes that are long enough
plain_read : (bytes : List ℕ) → 8 ≤ length bytes → slice_index bytes 0 % 2 ≡ 0 → action_in bytes ≤ 2 → record_in bytes ≡ Ok (record_of bytes)
unfolding record_in function_record_at
plain_read [] whole even few = absurd (omega arith)
plain_read (first ∷ rest) whole even few =
    let is_even = eq-eqb (first % 2) 0 even in
    let long : ltb (length (first ∷ rest)) 8 ≡ false = grind (arith, nat_tests) in
    rw (is_even, long, kind_plain (first / 2 % 8) few) refl

even_kind : (version : LogVersion) (first : ℕ) → first % 2 ≡ 0 → first_kind version first ≡ None
even_kind version first even =
    let custom : eqb first 11 ≡ false = grind (arith, nat_tests) in
    let typed : eqb first 17 ≡ false = grind (arith, nat_tests) in
    by_version version custom typed
  where
    by_version : (v : LogVersion) → eqb first 11 ≡ false → eqb first 17 ≡ false → first_kind v first ≡ None
    by_version Two custom typed = rw custom refl
    by_version Three custom typed = rw custom refl
    by_version Four custom typed = rw custom refl
    by_version Five custom typed = rw (custom, typed) refl

pub plain_own : (version : LogVersion) (tsc : ℕ) (bytes : List ℕ) → IsPlain tsc bytes → own_kind version bytes ≡ None
plain_own version tsc bytes plain = by_long (ltb (length bytes) 16)
  where
    by_long : (b : Bool) → cond b None (first_kind version (slice_index bytes 0)) ≡ None
    by_long true = refl
    by_long false = even_kind version (slice_index bytes 0) plain.function

pub plain_length : (version : LogVersion) (tsc : ℕ) (bytes : List ℕ) → IsPlain tsc bytes → log_record_length version bytes ≡ 8
plain_length version tsc bytes plain =
    let even = eq-eqb (slice_index bytes 0 % 2) 0 plain.function in
    rw (plain_own version tsc bytes plain, even) refl

-- a CPU and a counter that no argument may follow
abbrev pub counted : ℕ → ℕ → Base
counted cpu tsc = record { cpu = cpu; tsc = tsc; argument = Barred }

-- where the reading of a block stands after these
abbrev pub counted_at : Span → ℕ → ℕ → ℕ → Stage
counted_at span at cpu tsc = stage_after span at (Events (Some (counted cpu tsc)))

not_faulty : (b : Bool) (span : Span) (inside : Inside) (told : Told) → unless_faulty (cond b Due (Within span inside), told) ≡ Ok (cond b Due (Within span inside), told)
not_faulty true span inside told = refl
not_faulty false span inside told = refl

plain_row : (version : LogVersion) (span : Span) (cpu tsc at : ℕ) (bytes : List ℕ) → IsPlain tsc bytes → at + 8 ≤ span.end
    → log_record_rows version (Within span (Events (Some (counted cpu tsc)))) (at, bytes)
    ≡ Ok (counted_at span (at + 8) cpu (counter_in tsc bytes), Noted None (Some (event_in cpu (counter_in tsc bytes) bytes)))
plain_row version span cpu tsc at bytes plain within =
    let own = plain_own version tsc bytes plain in
    let even = eq-eqb (slice_index bytes 0 % 2) 0 plain.function in
    let read : traced_in bytes ≡ Ok (record_of bytes) = plain.alone ∙ plain_read bytes plain.whole plain.function plain.action in
    let long : ltb (length bytes) 8 ≡ false = grind (arith, nat_tests, plain.whole) in
    let inside : ltb span.end (at + 8) ≡ false = grind (arith, nat_tests) in
    let same : (tsc + little_number 4 (drop 4 bytes)) % 2 ^ 64 ≡ tsc + little_number 4 (drop 4 bytes) = omega (arith, plain.counter) in
    let stage : Stage = Within span (Events (Some (counted cpu tsc))) in
    let found : log_record_in version stage bytes ≡ Ok (record_of bytes) =
    ap (λ (o : Option OwnKind). option_map_or (λ kind. let x : Result Rec RecFault = Ok (TscWrap ((counter_so_far stage + own_delta version bytes) % 2 ^ 64)) in x) o (traced_in bytes)) own ∙ read in
    ap (λ (x : Result Rec RecFault). First (ltb (length bytes) (log_record_length version bytes)) (Err (traces.Extents at)) (unless_faulty (stage_judged (trace_version version) stage at (log_record_length version bytes) x))) found
    ∙ rw (own, even, long, inside, no_argument bytes, same)
    (not_faulty (eqb (at + 8) span.end) span (Events (Some (counted cpu (counter_in tsc bytes)))) (Noted None (Some (event_in cpu (counter_in tsc bytes) bytes))))

-- ---- a stretch among the records of a block

within_block : (span : Span) (at cpu tsc : ℕ) → at < span.end → counted_at span at cpu tsc ≡ Within span (Events (Some (counted cpu tsc)))
within_block span at cpu tsc before =
    let other : eqb at span.end ≡ false = grind (arith, nat_tests) in rw other refl

pub drop_next : (n : ℕ) (bytes : List ℕ) → drop 8 (drop (n * 8) bytes) ≡ drop (suc n * 8) bytes
drop_next n bytes =
    let more : n * 8 + 8 ≡ suc n * 8 = omega arith in
    drop-drop 8 (n * 8) bytes ∙ ap (λ (k : ℕ). drop k bytes) more

-- the row of one more record
row_next : (version : LogVersion) (span : Span) (cpu tsc at : ℕ) (bytes : List ℕ) (n : ℕ) → at + length bytes ≡ span.end → suc n * 8 ≤ length bytes → AreStretch (suc n) tsc bytes
    → log_record_rows version (counted_at span (at + n * 8) cpu (last_counter n tsc bytes)) (at + n * 8, drop (n * 8) bytes)
    ≡ Ok (counted_at span (at + suc n * 8) cpu (last_counter (suc n) tsc bytes), Noted None (Some (event_in cpu (last_counter (suc n) tsc bytes) (drop (n * 8) bytes))))
row_next version span cpu tsc at bytes n end whole are =
    let t = last_counter n tsc bytes in
    let rest = drop (n * 8) bytes in
    let here = at + n * 8 in
    let stage = within_block span here cpu t (omega (arith, end, whole)) in
    let next : here + 8 ≡ at + suc n * 8 = omega arith in
    ap (λ (s : Stage). log_record_rows version s (here, rest)) stage
    ∙ plain_row version span cpu t here rest are.1 (omega (arith, end, whole))
    ∙ ap (λ (k : ℕ). let x : Result (Stage × Told) TraceFault = Ok (counted_at span k cpu (counter_in t rest), Noted None (Some (event_in cpu (counter_in t rest) rest))) in x) next

-- the events that are told from a stretch on
pub stretch_told : (version : LogVersion) (span : Span) (cpu tsc at : ℕ) (bytes : List ℕ) (n : ℕ) → 0 < length bytes → at + length bytes ≡ span.end → n * 8 ≤ length bytes → AreStretch n tsc bytes
    → events_told version (Within span (Events (Some (counted cpu tsc)))) (log_places version at bytes)
    ≡ stretch_events n cpu tsc bytes ++ events_told version (counted_at span (at + n * 8) cpu (last_counter n tsc bytes)) (log_places version (at + n * 8) (drop (n * 8) bytes))
stretch_told version span cpu tsc at bytes zero some end whole are =
    let here : at ≡ at + 0 * 8 = omega arith in
    ap (λ (s : Stage). events_told version s (log_places version at bytes)) (sym (within_block span at cpu tsc (omega (arith, end, some))))
    ∙ ap (λ (k : ℕ). events_told version (counted_at span k cpu tsc) (log_places version k bytes)) here
stretch_told version span cpu tsc at bytes (suc n) some end whole are =
    let t = last_counter n tsc bytes in
    let rest = drop (n * 8) bytes in
    let here = at + n * 8 in
    let stage = counted_at span here cpu t in
    let e = event_in cpu (last_counter (suc n) tsc bytes) rest in
    let next = counted_at span (at + suc n * 8) cpu (last_counter (suc n) tsc bytes) in
    let left : 0 < length rest = omega (arith, whole, length-drop (n * 8) bytes) in
    let long = plain_length version t rest are.1 in
    let place : here + 8 ≡ at + suc n * 8 = omega arith in
    let one : events_told version stage (log_places version here rest) ≡ e ∷ events_told version next (log_places version (at + suc n * 8) (drop (suc n * 8) bytes)) =
    events_first version stage here rest left
    ∙ ap (λ (x : Result (Stage × Told) TraceFault). events_by x (λ s. events_told version s (log_places version (here + log_record_length version rest) (drop (log_record_length version rest) rest))))
    (row_next version span cpu tsc at bytes n end whole are)
    ∙ ap (λ (k : ℕ). e ∷ events_told version next (log_places version (here + k) (drop k rest))) long
    ∙ ap (λ (k : ℕ). e ∷ events_told version next (log_places version k (drop 8 rest))) place
    ∙ ap (λ (xs : List ℕ). e ∷ events_told version next (log_places version (at + suc n * 8) xs)) (drop_next n bytes) in
    stretch_told version span cpu tsc at bytes n some end (omega (arith, whole)) are.0
    ∙ ap (λ (es : List Event). stretch_events n cpu tsc bytes ++ es) one
    ∙ sym (append_assoc (stretch_events n cpu tsc bytes) (e ∷ []) (events_told version next (log_places version (at + suc n * 8) (drop (suc n * 8) bytes))))

-- what was said so far, after more events
abbrev pub so_past : BlockSoFar → Stage → List Event → BlockSoFar
so_past so stage events = record so { stage = stage; block = record so.block { events = so.block.events ++ events } }

so_none : (so : BlockSoFar) (stage : Stage) → so.stage ≡ stage → so ≡ so_past so stage []
so_none so stage is = rw (append-nil so.block.events, sym is) refl

so_next : (version : LogVersion) (so : BlockSoFar) (stage next : Stage) (es : List Event) (e : Event) (bytes : List ℕ) → own_kind version bytes ≡ None
    → so_with version (so_past so stage es) bytes (next, Noted None (Some e)) ≡ so_past so next (es ++ e ∷ [])
so_next version so stage next es e bytes own =
    let custom : so.custom + 0 ≡ so.custom = omega arith in
    let typed : so.typed + 0 ≡ so.typed = omega arith in
    rw (own, append_assoc so.block.events es (e ∷ []), custom, typed) refl

-- what is read from a stretch on
pub stretch_read : (version : LogVersion) (span : Span) (cpu tsc at : ℕ) (bytes : List ℕ) (n : ℕ) (so : BlockSoFar) → so.stage ≡ Within span (Events (Some (counted cpu tsc)))
    → 0 < length bytes → at + length bytes ≡ span.end → n * 8 ≤ length bytes → AreStretch n tsc bytes
    → InTurn (said_rows version) so (log_places version at bytes)
    ≡ InTurn (said_rows version) (so_past so (counted_at span (at + n * 8) cpu (last_counter n tsc bytes)) (stretch_events n cpu tsc bytes)) (log_places version (at + n * 8) (drop (n * 8) bytes))
stretch_read version span cpu tsc at bytes zero so is some end whole are =
    let here : at ≡ at + 0 * 8 = omega arith in
    let stage = is ∙ sym (within_block span at cpu tsc (omega (arith, end, some))) in
    ap (λ (s : BlockSoFar). InTurn (said_rows version) s (log_places version at bytes)) (so_none so (counted_at span at cpu tsc) stage)
    ∙ ap (λ (k : ℕ). InTurn (said_rows version) (so_past so (counted_at span k cpu tsc) []) (log_places version k bytes)) here
stretch_read version span cpu tsc at bytes (suc n) so is some end whole are =
    let t = last_counter n tsc bytes in
    let rest = drop (n * 8) bytes in
    let here = at + n * 8 in
    let stage = counted_at span here cpu t in
    let e = event_in cpu (last_counter (suc n) tsc bytes) rest in
    let next = counted_at span (at + suc n * 8) cpu (last_counter (suc n) tsc bytes) in
    let mid = so_past so stage (stretch_events n cpu tsc bytes) in
    let left : 0 < length rest = omega (arith, whole, length-drop (n * 8) bytes) in
    let long = plain_length version t rest are.1 in
    let own = plain_own version t rest are.1 in
    let place : here + 8 ≡ at + suc n * 8 = omega arith in
    let Onward : Result BlockSoFar TraceFault → Result BlockSoFar TraceFault = λ said. said >>= λ s. InTurn (said_rows version) s (log_places version (here + log_record_length version rest) (drop (log_record_length version rest) rest)) in
    let after = so_with version mid rest (next, Noted None (Some e)) in
    let last = so_past so next (stretch_events n cpu tsc bytes ++ e ∷ []) in
    stretch_read version span cpu tsc at bytes n so is some end (omega (arith, whole)) are.0
    ∙ rows_first version mid here rest left
    ∙ ap (λ (x : Result (Stage × Told) TraceFault). Onward (x >>= λ said. Ok (so_with version mid rest said))) (row_next version span cpu tsc at bytes n end whole are)
    ∙ ap (λ (k : ℕ). InTurn (said_rows version) after (log_places version (here + k) (drop k rest))) long
    ∙ ap (λ (k : ℕ). InTurn (said_rows version) after (log_places version k (drop 8 rest))) place
    ∙ ap (λ (xs : List ℕ). InTurn (said_rows version) after (log_places version (at + suc n * 8) xs)) (drop_next n bytes)
    ∙ ap (λ (s : BlockSoFar). InTurn (said_rows version) s (log_places version (at + suc n * 8) (drop (suc n * 8) bytes))) (so_next version so stage next (stretch_events n cpu tsc bytes) e rest own)

-- ---- a walk

-- the stage of a walk that stands behind a record with a CPU and a counter
counted_stage : (walk : BlockWalk) (span : Span) (base : Base) → IsCounted walk span base → walk.stage ≡ Within span (Events (Some (counted base.cpu base.tsc)))
counted_stage walk span base c =
    c.stage ∙ ap (λ (a : Argument). let x : Stage = Within span (Events (Some (record { cpu = base.cpu; tsc = base.tsc; argument = a }))) in x) c.barred

-- the stage of the walk after the stretch
past_stage : (old : BlockWalk) (stretch : Stretch) (new : BlockWalk) (p : IsPastStretch old stretch new)
    → new.stage ≡ counted_at p.span (old.at + stretch.count * 8) p.base.cpu (last_counter stretch.count p.base.tsc old.rest.now)
past_stage old stretch new p =
    p.stage
    ∙ ap (λ (a : Argument). let x : Stage = stage_after p.span new.at (Events (Some (record { cpu = p.base.cpu; tsc = stretch.last.tsc; argument = a }))) in x) p.counted.barred
    ∙ ap (λ (e : Event). counted_at p.span new.at p.base.cpu e.tsc) p.is.last
    ∙ ap (λ (k : ℕ). counted_at p.span k p.base.cpu (last_counter stretch.count p.base.tsc old.rest.now)) p.at_is

stretch_some : (old : BlockWalk) (stretch : Stretch) (new : BlockWalk) → IsPastStretch old stretch new → 0 < length old.rest.now
stretch_some old stretch new p = omega (arith, p.is.some, p.is.within)

-- the events that are still to come, before a stretch and after it
pub walk_stretch : (old : BlockWalk) (stretch : Stretch) (new : BlockWalk) (p : IsPastStretch old stretch new)
    → walk_events old ≡ stretch_events stretch.count p.base.cpu p.base.tsc old.rest.now ++ walk_events new
walk_stretch old stretch new p =
    let rest = old.rest.now in
    let es = stretch_events stretch.count p.base.cpu p.base.tsc rest in
    let stage = past_stage old stretch new p in
    ap (λ (s : Stage). events_told old.version s (log_places old.version old.at rest)) (counted_stage old p.span p.base p.counted)
    ∙ stretch_told old.version p.span p.base.cpu p.base.tsc old.at rest stretch.count (stretch_some old stretch new p) p.counted.end p.is.within p.is.are
    ∙ ap (λ (s : Stage). es ++ events_told old.version s (log_places old.version (old.at + stretch.count * 8) (drop (stretch.count * 8) rest))) (sym stage)
    ∙ ap (λ (k : ℕ). es ++ events_told old.version new.stage (log_places old.version k (drop (stretch.count * 8) rest))) (sym p.at_is)
    ∙ ap (λ (xs : List ℕ). es ++ events_told old.version new.stage (log_places old.version new.at xs)) (sym p.rest)
    ∙ ap (λ (v : LogVersion). es ++ events_told v new.stage (log_places v new.at new.rest.now)) (sym p.version)

-- the same of what is read
pub walk_read : (old : BlockWalk) (stretch : Stretch) (new : BlockWalk) (p : IsPastStretch old stretch new) (version : LogVersion) (so : BlockSoFar) → old.version ≡ version → old.stage ≡ so.stage
    → InTurn (said_rows version) so (log_places version old.at old.rest.now)
    ≡ InTurn (said_rows version) (so_past so new.stage (stretch_events stretch.count p.base.cpu p.base.tsc old.rest.now)) (log_places version new.at new.rest.now)
walk_read old stretch new p version so v is =
    let rest = old.rest.now in
    let es = stretch_events stretch.count p.base.cpu p.base.tsc rest in
    stretch_read version p.span p.base.cpu p.base.tsc old.at rest stretch.count so (sym is ∙ counted_stage old p.span p.base p.counted) (stretch_some old stretch new p) p.counted.end p.is.within p.is.are
    ∙ ap (λ (s : Stage). InTurn (said_rows version) (so_past so s es) (log_places version (old.at + stretch.count * 8) (drop (stretch.count * 8) rest))) (sym (past_stage old stretch new p))
    ∙ ap (λ (k : ℕ). InTurn (said_rows version) (so_past so new.stage es) (log_places version k (drop (stretch.count * 8) rest))) (sym p.at_is)
    ∙ ap (λ (xs : List ℕ). InTurn (said_rows version) (so_past so new.stage es) (log_places version new.at xs)) (sym p.rest)

-- what a walk stands behind is one record
same_base : (walk : BlockWalk) (span other : Span) (base more : Base) → IsCounted walk span base → IsCounted walk other more → base ≡ more
same_base walk span other base more one two =
    let same = sym one.stage ∙ two.stage in cc

-- a stretch after an event that a walk stands behind
pub walk_says : (after : Event) (old new : BlockWalk) (stretch : Stretch) (span : Span) (base : Base) → IsCounted old span base → base.cpu ≡ after.cpu → base.tsc ≡ after.tsc
    → IsPastStretch old stretch new → SaysStretch after stretch old.rest.now (walk_events old) (walk_events new)
walk_says after old new stretch span base counted cpu_is tsc_is p =
    let rest = old.rest.now in
    let same = same_base old p.span span p.base base p.counted counted in
    let cpu : p.base.cpu ≡ after.cpu = ap (λ (b : Base). b.cpu) same ∙ cpu_is in
    let tsc : p.base.tsc ≡ after.tsc = ap (λ (b : Base). b.tsc) same ∙ tsc_is in
    record {
      fit = (p.fit.0, omega (arith, p.fit.1, cpu));
      is = subst (λ (t : ℕ). IsStretch after.cpu t rest stretch) tsc (subst (λ (c : ℕ). IsStretch c p.base.tsc rest stretch) cpu p.is);
      parts =
          walk_stretch old stretch new p ∙ ap (λ (c : ℕ). stretch_events stretch.count c p.base.tsc rest ++ walk_events new) cpu
          ∙ ap (λ (t : ℕ). stretch_events stretch.count after.cpu t rest ++ walk_events new) tsc;
    }

-- the same, if no event is given before those of the walk
pub recorder_says : (pending : Option Event) (after : Event) (stretch : Stretch) (bytes : List ℕ) (events left : List Event) → is_some pending ≡ false
    → SaysStretch after stretch bytes events left → SaysStretch after stretch bytes (option_to_list pending ++ events) (option_to_list pending ++ left)
recorder_says None after stretch bytes events left none says = says
recorder_says (Some event) after stretch bytes events left none says = absurd cc
