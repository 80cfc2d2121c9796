-- The shape of a block of a log: its preamble, and the records behind it.
use Rattle.std.proofs.Common.{◌≡◌, ℕ, ◌+◌, ◌-◌, ◌<◌, ◌≤◌, Bool, true, false, cond, eqb, List, [], ◌∷◌, ◌++◌, length, drop, take, Option, Some, None, Ok, Err, refl, sym, ap, subst, ◌∙◌, inl, inr, add-zero, append-nil, arith}
use Rattle.std.specs.Prelude.{◌≢◌, ◌⊎◌, ◌&&◌, ◌||◌, count_by, not}
use Rattle.std.specs.List.{AllByRecursion, filter_map, list_any}
use Rattle.std.proofs.lemmas.Bool.{cases_lt, ne_eqb}
use Rattle.std.proofs.lemmas.List.{length-drop, length-take, take-append-drop}
use Rattle.std.proofs.lemmas.List.Elements.{All-drop}
use Rattle.xray_io.specs.Rows.{InTurn, NeedsPart}
use Rattle.xray_io.specs.declared.wall.Wall.{Wall}
use Rattle.fdr_record.specs.declared.event.Event.{Event}
use Rattle.fdr_record.specs.declared.event.Kind.{Kind}
use Rattle.fdr_record.specs.declared.rec.Rec.{Rec}
use Rattle.fdr_record.specs.declared.rec.Rec.TheVariants.{NewBuffer, TscWrap, WallTime, Pid, Function}
use Rattle.fdr_record.specs.Records.{length_of}
use Rattle.fdr_file.specs.declared.fault.TraceFault.{TraceFault}
use Rattle.fdr_file.specs.declared.fault.TraceFault.TheVariants as faults
use Rattle.fdr_file.specs.declared.stage.Inside.{Inside}
use Rattle.fdr_file.specs.declared.stage.Inside.TheVariants as insides
use Rattle.fdr_file.specs.declared.stage.Span.{Span}
use Rattle.fdr_file.specs.declared.stage.Stage.{Stage}
use Rattle.fdr_file.specs.declared.stage.Stage.TheVariants.{Due, Within}
use Rattle.fdr_file.specs.declared.stage.Told.{Told}
use Rattle.fdr_file.specs.declared.stage.Told.TheVariants.{Nothing, Begun}
use Rattle.fdr_file.specs.declared.trace.Block.{Block}
use Rattle.fdr_file.specs.declared.version.Version.{Version}
use Rattle.fdr_file.specs.declared.version.Version.TheVariants as versions
use Rattle.fdr_file.specs.Events.{events_after}
use Rattle.fdr_file.specs.Grammar.{ArgsFollow, BeginWithCpu, IsInner, block_records}
use Rattle.fdr_file.specs.Scanning.{after_wall, block_span, inside_next, stage_after}
use Rattle.fdr_file.specs.Traces.{Standing, block_of, first_or, first_takes_arg, may_stand, names_cpu, needs_cpu, pid_named, preamble_bytes, records_among, thread_named, wall_named}
use Rattle.fdr_file.specs.private.Faults.{record_faults, standing_faults, unless}
use Rattle.fdr_file.proofs.PlacesDecide.{IsBehind, events_decided, may_behind, none_wrong, one_after}
use Rattle.runtime_log.specs.declared.own_event.OwnKind.{OwnKind}
use Rattle.runtime_log.specs.declared.version.LogVersion.{LogVersion}
use Rattle.runtime_log.specs.declared.version.LogVersion.TheVariants.{Two, Three, Four, Five}
use Rattle.runtime_log.specs.Grammar.{AreLogRecords, IsLogRecord, LogRecord, OfProgram, OfTrace, is_custom_event, is_typed_event, stand_for}
use Rattle.runtime_log.specs.Logs.{BlockSoFar, block_opened, block_with, log_places, one_custom, one_typed, said_rows}
use Rattle.runtime_log.specs.OwnEvents.{counter_so_far, log_record_length, own_kind}
use Rattle.runtime_log.specs.Versions.{trace_version}
use Rattle.runtime_log.proofs.ArgumentsBehind.{rec_other}
use Rattle.runtime_log.proofs.LogEvents.{EventsRead, count_more, events_read, longer, no_bytes}
use Rattle.runtime_log.proofs.LogRecords.{BeginsLog, Decodes, LogStep, as_record, begins_log, follows_in, kind_of, log_step}
use Rattle.runtime_log.proofs.RecordFits.{AreBytes}
use Rattle.runtime_log.proofs.RecordWalk.{rows_none, so_with}

-- ---- a record of a preamble

-- a block so far, in which a record of a trace leads to a stage and says this
abbrev pub so_traced : BlockSoFar → Stage → Told → BlockSoFar
so_traced so stage told = record { stage = stage; block = block_with told so.block; custom = so.custom; typed = so.typed }

pub record TraceStep (version : LogVersion) (span : Span) (at : ℕ) (bytes : List ℕ) (so last : BlockSoFar) (r : Rec) (inside : Inside) (told : Told) : Type 0 where
  pub is : IsLogRecord version (OfTrace r) (take 16 bytes)
  pub whole : 16 ≤ length bytes
  pub rest : InTurn (said_rows version) (so_traced so (stage_after span (at + 16) inside) told) (log_places version (at + 16) (drop 16 bytes)) ≡ Ok last

trace_step : Decodes → (version : LogVersion) (span : Span) (at : ℕ) (bytes : List ℕ) (so last : BlockSoFar) (before : Inside) (r : Rec) (inside : Inside) (told : Told) → AreBytes bytes
    → (st : LogStep version span before at bytes so last) → st.r ≡ r → length_of r ≡ 16 → ((n : ℕ) → r ≢ TscWrap n) → ((kind : Kind) (func delta : ℕ) → r ≡ Function kind func delta → ⊥) → st.said ≡ (inside, told) → TraceStep version span at bytes so last r inside told
trace_step decodes version span at bytes so last before r inside told all st r_is long other plain said = by_record l.lr l.is l.stands l.kind
  where
    len : ℕ
    len = log_record_length version bytes

    l : BeginsLog version (Within span before) bytes st.r
    l = begins_log decodes version (Within span before) bytes st.r all st.within st.found

    by_record : (lr : LogRecord) → IsLogRecord version lr (take len bytes) → st.r ≡ as_record (counter_so_far (Within span before)) (follows_in version bytes) lr → own_kind version bytes ≡ kind_of lr
        → TraceStep version span at bytes so last r inside told
    by_record (OfProgram kind delta) is stands e = absurd (other _ (sym r_is ∙ stands))
    by_record (OfTrace s) is stands e =
        let same : s ≡ r = rec_other (follows_in version bytes) s r plain (sym stands ∙ r_is) in
        let sixteen : len ≡ 16 = omega (arith, length-take len bytes, st.within, is.1.whole, ap length_of same, long) in
        let custom : so.custom + one_custom (own_kind version bytes) ≡ so.custom = ap (λ (o : Option OwnKind). so.custom + one_custom o) e ∙ add-zero so.custom in
        let typed : so.typed + one_typed (own_kind version bytes) ≡ so.typed = ap (λ (o : Option OwnKind). so.typed + one_typed o) e ∙ add-zero so.typed in
        let made : ℕ → Inside × Told → ℕ → ℕ → BlockSoFar = λ k x c t. record { stage = stage_after span (at + k) x.0; block = block_with x.1 so.block; custom = c; typed = t } in
        let so_is : so_with version so bytes (stage_after span (at + len) st.said.0, st.said.1) ≡ so_traced so (stage_after span (at + 16) inside) told =
        ap (λ (x : Inside × Told). made len x (so.custom + one_custom (own_kind version bytes)) (so.typed + one_typed (own_kind version bytes))) said
        ∙ ap (λ (k : ℕ). made k (inside, told) (so.custom + one_custom (own_kind version bytes)) (so.typed + one_typed (own_kind version bytes))) sixteen
        ∙ ap (λ (c : ℕ). made 16 (inside, told) c (so.typed + one_typed (own_kind version bytes))) custom
        ∙ ap (λ (t : ℕ). made 16 (inside, told) so.custom t) typed in record {
          is = subst (λ (k : ℕ). IsLogRecord version (OfTrace r) (take k bytes)) sixteen (subst (λ (x : Rec). IsLogRecord version (OfTrace x) (take len bytes)) same is);
          whole = omega (arith, st.within, sixteen);
          rest =
              sym (ap (λ (k : ℕ). InTurn (said_rows version) (so_traced so (stage_after span (at + 16) inside) told) (log_places version (at + k) (drop k bytes))) sixteen)
              ∙ sym (ap (λ (s : BlockSoFar). InTurn (said_rows version) s (log_places version (at + len) (drop len bytes))) so_is) ∙ st.rest;
        }

thread_is : (r : Rec) (x : ℕ) → thread_named r ≡ Some x → r ≡ NewBuffer x
thread_is (NewBuffer thread) x e = cc
thread_is r x e = absurd cc

wall_is : (r : Rec) (x : Wall) → wall_named r ≡ Some x → r ≡ WallTime x
wall_is (WallTime wall) x e = cc
wall_is r x e = absurd cc

pid_is : (r : Rec) (x : ℕ) → pid_named r ≡ Some x → r ≡ Pid x
pid_is (Pid pid) x e = cc
pid_is r x e = absurd cc

-- the thread
record ThreadRead (version : LogVersion) (span : Span) (at : ℕ) (bytes : List ℕ) (so last : BlockSoFar) : Type 0 where
  thread : ℕ
  step : TraceStep version span at bytes so last (NewBuffer thread) (insides.Thread thread) Nothing

thread_read : Decodes → (version : LogVersion) (span : Span) (at : ℕ) (bytes : List ℕ) (so last : BlockSoFar) → AreBytes bytes → LogStep version span insides.Opened at bytes so last → ThreadRead version span at bytes so last
thread_read decodes version span at bytes so last all st = by_named (thread_named st.r) refl st.next
  where
    by_named : (o : Option ℕ) → thread_named st.r ≡ o → (NeedsPart o (Err (faults.Order at)) λ thread. Ok (insides.Thread thread, Nothing)) ≡ Ok st.said → ThreadRead version span at bytes so last
    by_named None e h = absurd cc
    by_named (Some thread) e h =
        let said : st.said ≡ (insides.Thread thread, Nothing) = cc in record {
          thread = thread;
          step = trace_step decodes version span at bytes so last insides.Opened (NewBuffer thread) (insides.Thread thread) Nothing all st (thread_is st.r thread e) refl (λ n same. cc) (λ kind func delta same. cc) said;
        }

-- the wall time
record WallRead (version : LogVersion) (tv : Version) (thread : ℕ) (span : Span) (at : ℕ) (bytes : List ℕ) (so last : BlockSoFar) : Type 0 where
  wall : Wall
  step : TraceStep version span at bytes so last (WallTime wall) (after_wall tv thread wall).0 (after_wall tv thread wall).1

wall_read : Decodes → (version : LogVersion) (tv : Version) → trace_version version ≡ tv → (thread : ℕ) (span : Span) (at : ℕ) (bytes : List ℕ) (so last : BlockSoFar) → AreBytes bytes
    → LogStep version span (insides.Thread thread) at bytes so last → WallRead version tv thread span at bytes so last
wall_read decodes version tv v thread span at bytes so last all st = by_named (wall_named st.r) refl (sym (ap (λ (x : Version). inside_next x (insides.Thread thread) (eqb (at + log_record_length version bytes) span.end) at st.r) v) ∙ st.next)
  where
    by_named : (o : Option Wall) → wall_named st.r ≡ o → (NeedsPart o (Err (faults.Order at)) λ wall. Ok (after_wall tv thread wall)) ≡ Ok st.said → WallRead version tv thread span at bytes so last
    by_named None e h = absurd cc
    by_named (Some wall) e h =
        let said : st.said ≡ after_wall tv thread wall = cc in record {
          wall = wall;
          step = trace_step decodes version span at bytes so last (insides.Thread thread) (WallTime wall) (after_wall tv thread wall).0 (after_wall tv thread wall).1 all st (wall_is st.r wall e) refl (λ n same. cc) (λ kind func delta same. cc) said;
        }

-- the process
record PidRead (version : LogVersion) (thread : ℕ) (wall : Wall) (span : Span) (at : ℕ) (bytes : List ℕ) (so last : BlockSoFar) : Type 0 where
  pid : ℕ
  step : TraceStep version span at bytes so last (Pid pid) (insides.Events None) (Begun thread wall pid)

pid_read : Decodes → (version : LogVersion) (thread : ℕ) (wall : Wall) (span : Span) (at : ℕ) (bytes : List ℕ) (so last : BlockSoFar) → AreBytes bytes
    → LogStep version span (insides.Wall thread wall) at bytes so last → PidRead version thread wall span at bytes so last
pid_read decodes version thread wall span at bytes so last all st = by_named (pid_named st.r) refl st.next
  where
    by_named : (o : Option ℕ) → pid_named st.r ≡ o → (NeedsPart o (Err (faults.Order at)) λ pid. Ok (insides.Events None, Begun thread wall pid)) ≡ Ok st.said → PidRead version thread wall span at bytes so last
    by_named None e h = absurd cc
    by_named (Some pid) e h =
        let said : st.said ≡ (insides.Events None, Begun thread wall pid) = cc in record {
          pid = pid;
          step = trace_step decodes version span at bytes so last (insides.Wall thread wall) (Pid pid) (insides.Events None) (Begun thread wall pid) all st (pid_is st.r pid e) refl (λ n same. cc) (λ kind func delta same. cc) said;
        }

-- ---- records behind a preamble

both_empty : {A : Type 0} (xs ys : List A) → xs ++ ys ≡ [] → (xs ≡ []) × (ys ≡ [])
both_empty [] ys e = (refl, e)
both_empty (x ∷ xs) ys e = absurd cc

and_both : (a b : Bool) → (a && b) ≡ true → (a ≡ true) × (b ≡ true)
and_both true b e = (refl, e)
and_both false b e = absurd cc

unless_true : (b : Bool) (f : TraceFault) → unless b f ≡ [] → b ≡ true
unless_true true f e = refl
unless_true false f e = absurd cc

names : (a b : Bool) → (a || b) ≡ true → not b ≡ true → a ≡ true
names true b e f = refl
names false true e f = absurd cc
names false false e f = absurd cc

-- a record without a fault, after others
record IsClean (version : Version) (before : List Rec) (at : ℕ) (r : Rec) (following : List Standing) : Type 0 where
  stands : may_stand version before r ≡ true
  based : (list_any names_cpu before || not (needs_cpu r)) ≡ true
  rest : standing_faults version (r ∷ before) following ≡ []

is_clean : (version : Version) (before : List Rec) (at : ℕ) (r : Rec) (following : List Standing) → standing_faults version before ((at, Ok r) ∷ following) ≡ [] → IsClean version before at r following
is_clean version before at r following clean =
    let here = both_empty (record_faults version before at r) (standing_faults version (r ∷ before) following) clean in
    let order = both_empty (unless (may_stand version before r) (faults.Order at)) (unless (list_any names_cpu before || not (needs_cpu r)) (faults.NoBase at)) here.0 in
    record { stands = unless_true _ (faults.Order at) order.0; based = unless_true _ (faults.NoBase at) order.1; rest = here.1 }

inner_are : (version : Version) (before : List Rec) (said : List Standing) → IsBehind version before → standing_faults version before said ≡ []
    → AllByRecursion IsInner (records_among said) × ArgsFollow (first_takes_arg before) (records_among said)
inner_are version before [] many clean = (tt, tt)
inner_are version before ((at, Err fault) ∷ following) many clean = absurd cc
inner_are version before ((at, Ok r) ∷ following) many clean =
    let c = is_clean version before at r following clean in
    let stands = and_both _ _ c.stands in
    let may : (names_cpu r || needs_cpu r) ≡ true = sym (may_behind version before r many) ∙ stands.0 in
    let rest = inner_are version (r ∷ before) following (one_after version before r many) c.rest in
    ((may, rest.0), (stands.1, rest.1))

based_are : (version : Version) (before : List Rec) (said : List Standing) → IsBehind version before → list_any names_cpu before ≡ false → standing_faults version before said ≡ [] → BeginWithCpu (records_among said)
based_are version before [] many none clean = tt
based_are version before ((at, Err fault) ∷ following) many none clean = absurd cc
based_are version before ((at, Ok r) ∷ following) many none clean =
    let c = is_clean version before at r following clean in
    let stands = and_both _ _ c.stands in
    let may : (names_cpu r || needs_cpu r) ≡ true = sym (may_behind version before r many) ∙ stands.0 in
    names (names_cpu r) (needs_cpu r) may (sym (ap (λ (b : Bool). b || not (needs_cpu r)) none) ∙ c.based)

-- none of them names a process
pub no_pid : (records : List Rec) → AllByRecursion IsInner records → filter_map pid_named records ≡ []
no_pid [] inner = refl
no_pid (Pid pid ∷ records) inner =
    let not_so = inner.0 in
    absurd cc
no_pid (r ∷ records) inner = no_pid records inner.1

-- the records behind a preamble, and what they say
pub record BehindPreamble (version : LogVersion) (past : List Rec) (bytes : List ℕ) (so last : BlockSoFar) : Type 0 where
  pub records : List LogRecord
  pub spelled : AreLogRecords version records bytes
  pub inner : AllByRecursion IsInner (stand_for past records)
  pub based : BeginWithCpu (stand_for past records)
  pub args : ArgsFollow false (stand_for past records)
  pub block : last.block ≡ longer so.block (events_after past (stand_for past records))
  pub custom : last.custom ≡ so.custom + count_by is_custom_event records
  pub typed : last.typed ≡ so.typed + count_by is_typed_event records

behind_read : (version : LogVersion) (tv : Version) (past : List Rec) (bytes : List ℕ) (so last : BlockSoFar) → IsBehind tv past → list_any names_cpu past ≡ false → first_takes_arg past ≡ false
    → EventsRead version None past bytes so last → BehindPreamble version past bytes so last
behind_read version tv past bytes so last many none takes read =
    let said : List Standing = read.first ∷ read.later in
    let is = sym (events_decided tv None past said many (none, takes) (λ end. refl)) ∙ read.reads in
    let clean = none_wrong (standing_faults tv past said) (events_after past (records_among said)) read.events is in
    let inner = inner_are tv past said many clean.0 in
    let based = based_are tv past said many none clean.0 in record {
      records = read.records;
      spelled = read.spelled;
      inner = subst (AllByRecursion IsInner) read.among inner.0;
      based = subst BeginWithCpu read.among based;
      args = subst (ArgsFollow false) read.among (subst (λ (b : Bool). ArgsFollow b (records_among said)) takes inner.1);
      block = read.block ∙ ap (longer so.block) (sym clean.1 ∙ ap (events_after past) read.among);
      custom = read.custom;
      typed = read.typed;
    }

-- the same, if there may be no record
pub behind_any : Decodes → (version : LogVersion) (tv : Version) (span : Span) (past : List Rec) (at : ℕ) (bytes : List ℕ) (so last : BlockSoFar) → IsBehind tv past → list_any names_cpu past ≡ false
    → first_takes_arg past ≡ false → AreBytes bytes → span.end ≡ at + length bytes → so.stage ≡ stage_after span at (insides.Events None)
    → InTurn (said_rows version) so (log_places version at bytes) ≡ Ok last → BehindPreamble version past bytes so last
behind_any decodes version tv span past at bytes so last many none takes all end stage reads = by_length (cases_lt 0 (length bytes))
  where
    by_length : (0 < length bytes) ⊎ (length bytes ≤ 0) → BehindPreamble version past bytes so last
    by_length (inl some) =
        let inside : eqb at span.end ≡ false = ne_eqb at span.end (λ there. omega (arith, end, some, there)) in
        behind_read version tv past bytes so last many none takes
        (events_read decodes version (length bytes) span None past at bytes so last (omega arith) some all end
        (stage ∙ ap (λ (b : Bool). cond b Due (Within span (insides.Events None))) inside) tt reads)
    by_length (inr few) =
        let zero_long : length bytes ≡ 0 = omega (arith, few) in
        let both : Ok so ≡ Ok last = sym (rows_none version so at bytes zero_long) ∙ reads in
        let same : so ≡ last = cc in record {
          records = [];
          spelled = no_bytes bytes zero_long;
          inner = tt;
          based = tt;
          args = tt;
          block = sym (ap (λ (s : BlockSoFar). s.block) same) ∙ ap (λ (es : List Event). let b : Block = record so.block { events = es } in b) (sym (append-nil so.block.events));
          custom = sym (ap (λ (s : BlockSoFar). s.custom) same) ∙ sym (add-zero so.custom);
          typed = sym (ap (λ (s : BlockSoFar). s.typed) same) ∙ sym (add-zero so.typed);
        }

-- ---- the records of a block

pub record BlockRead (version : LogVersion) (content : List ℕ) (last : BlockSoFar) : Type 0 where
  pub records : List LogRecord
  pub spelled : AreLogRecords version records content
  pub others : List Rec
  pub are : stand_for [] records ≡ block_records (trace_version version) last.block others
  pub inner : AllByRecursion IsInner others
  pub based : BeginWithCpu others
  pub args : ArgsFollow false others
  pub told : last.block ≡ block_of (stand_for [] records)
  pub custom : last.custom ≡ count_by is_custom_event records
  pub typed : last.typed ≡ count_by is_typed_event records

pub no_custom : (r : Rec) (records : List LogRecord) → count_by is_custom_event (OfTrace r ∷ records) ≡ count_by is_custom_event records
no_custom r records = count_more is_custom_event (OfTrace r) records ∙ omega arith

pub no_typed : (r : Rec) (records : List LogRecord) → count_by is_typed_event (OfTrace r ∷ records) ≡ count_by is_typed_event records
no_typed r records = count_more is_typed_event (OfTrace r) records ∙ omega arith

-- the records of a block of this version
records_are : (version : LogVersion) (tv : Version) (made block : Block) (others : List Rec) → trace_version version ≡ tv → block ≡ made → block_records tv made others ≡ block_records (trace_version version) block others
records_are version tv made block others v same = ap (λ (x : Block). block_records tv x others) (sym same) ∙ ap (λ (x : Version). block_records x block others) (sym v)

three_read : Decodes → (version : LogVersion) → trace_version version ≡ versions.Three → (at size : ℕ) (content : List ℕ) (last : BlockSoFar) → AreBytes content → length content ≡ size → 48 ≤ size
    → InTurn (said_rows version) (block_opened at size) (log_places version (at + 16) content) ≡ Ok last → BlockRead version content last
three_read decodes version v at size content last all long least reads =
    let span : Span = block_span at size in
    let so0 : BlockSoFar = block_opened at size in
    let c1 = drop 16 content in
    let c2 = drop 16 c1 in
    let c3 = drop 16 c2 in
    let all1 : AreBytes c1 = All-drop (λ b. b < 256) 16 content all in
    let all2 : AreBytes c2 = All-drop (λ b. b < 256) 16 c1 all1 in
    let all3 : AreBytes c3 = All-drop (λ b. b < 256) 16 c2 all2 in
    let long1 : length c1 ≡ size - 16 = omega (arith, length-drop 16 content, long) in
    let long2 : length c2 ≡ size - 32 = omega (arith, length-drop 16 c1, long1) in
    let long3 : length c3 ≡ size - 48 = omega (arith, length-drop 16 c2, long2) in
    let t = thread_read decodes version span (at + 16) content so0 last all (log_step version span insides.Opened (at + 16) content so0 last (omega (arith, long, least)) refl reads) in
    let so1 : BlockSoFar = so_traced so0 (stage_after span (at + 16 + 16) (insides.Thread t.thread)) Nothing in
    let in1 : eqb (at + 16 + 16) span.end ≡ false = ne_eqb (at + 16 + 16) span.end (λ there. omega (arith, least, there)) in
    let w = wall_read decodes version versions.Three v t.thread span (at + 16 + 16) c1 so1 last all1
    (log_step version span (insides.Thread t.thread) (at + 16 + 16) c1 so1 last (omega (arith, long1, least)) (ap (λ (b : Bool). cond b Due (Within span (insides.Thread t.thread))) in1) t.step.rest) in
    let so2 : BlockSoFar = so_traced so1 (stage_after span (at + 16 + 16 + 16) (insides.Wall t.thread w.wall)) Nothing in
    let in2 : eqb (at + 16 + 16 + 16) span.end ≡ false = ne_eqb (at + 16 + 16 + 16) span.end (λ there. omega (arith, least, there)) in
    let p = pid_read decodes version t.thread w.wall span (at + 16 + 16 + 16) c2 so2 last all2
    (log_step version span (insides.Wall t.thread w.wall) (at + 16 + 16 + 16) c2 so2 last (omega (arith, long2, least)) (ap (λ (b : Bool). cond b Due (Within span (insides.Wall t.thread w.wall))) in2) w.step.rest) in
    let so3 : BlockSoFar = so_traced so2 (stage_after span (at + 16 + 16 + 16 + 16) (insides.Events None)) (Begun t.thread w.wall p.pid) in
    let past : List Rec = Pid p.pid ∷ WallTime w.wall ∷ NewBuffer t.thread ∷ [] in
    let b = behind_any decodes version versions.Three span past (at + 16 + 16 + 16 + 16) c3 so3 last (0, refl) refl refl all3 (omega (arith, long3, least)) refl p.step.rest in
    let others = stand_for past b.records in record {
      records = OfTrace (NewBuffer t.thread) ∷ OfTrace (WallTime w.wall) ∷ OfTrace (Pid p.pid) ∷ b.records;
      spelled = (take 16 content, c1, sym (take-append-drop 16 content), t.step.is, (take 16 c1, c2, sym (take-append-drop 16 c1), w.step.is, (take 16 c2, c3, sym (take-append-drop 16 c2), p.step.is, b.spelled)));
      others = others;
      are = records_are version versions.Three (record { thread = t.thread; wall = w.wall; pid = p.pid; events = events_after past others }) last.block others v b.block;
      inner = b.inner;
      based = b.based;
      args = b.args;
      told = b.block;
      custom = omega (arith, b.custom, no_custom (NewBuffer t.thread) (OfTrace (WallTime w.wall) ∷ OfTrace (Pid p.pid) ∷ b.records), no_custom (WallTime w.wall) (OfTrace (Pid p.pid) ∷ b.records), no_custom (Pid p.pid) b.records);
      typed = omega (arith, b.typed, no_typed (NewBuffer t.thread) (OfTrace (WallTime w.wall) ∷ OfTrace (Pid p.pid) ∷ b.records), no_typed (WallTime w.wall) (OfTrace (Pid p.pid) ∷ b.records), no_typed (Pid p.pid) b.records);
    }

two_read : Decodes → (version : LogVersion) → trace_version version ≡ versions.Two → (at size : ℕ) (content : List ℕ) (last : BlockSoFar) → AreBytes content → length content ≡ size → 32 ≤ size
    → InTurn (said_rows version) (block_opened at size) (log_places version (at + 16) content) ≡ Ok last → BlockRead version content last
two_read decodes version v at size content last all long least reads =
    let span : Span = block_span at size in
    let so0 : BlockSoFar = block_opened at size in
    let c1 = drop 16 content in
    let c2 = drop 16 c1 in
    let all1 : AreBytes c1 = All-drop (λ b. b < 256) 16 content all in
    let all2 : AreBytes c2 = All-drop (λ b. b < 256) 16 c1 all1 in
    let long1 : length c1 ≡ size - 16 = omega (arith, length-drop 16 content, long) in
    let long2 : length c2 ≡ size - 32 = omega (arith, length-drop 16 c1, long1) in
    let t = thread_read decodes version span (at + 16) content so0 last all (log_step version span insides.Opened (at + 16) content so0 last (omega (arith, long, least)) refl reads) in
    let so1 : BlockSoFar = so_traced so0 (stage_after span (at + 16 + 16) (insides.Thread t.thread)) Nothing in
    let in1 : eqb (at + 16 + 16) span.end ≡ false = ne_eqb (at + 16 + 16) span.end (λ there. omega (arith, least, there)) in
    let w = wall_read decodes version versions.Two v t.thread span (at + 16 + 16) c1 so1 last all1
    (log_step version span (insides.Thread t.thread) (at + 16 + 16) c1 so1 last (omega (arith, long1, least)) (ap (λ (b : Bool). cond b Due (Within span (insides.Thread t.thread))) in1) t.step.rest) in
    let so2 : BlockSoFar = so_traced so1 (stage_after span (at + 16 + 16 + 16) (insides.Events None)) (Begun t.thread w.wall 0) in
    let past : List Rec = WallTime w.wall ∷ NewBuffer t.thread ∷ [] in
    let b = behind_any decodes version versions.Two span past (at + 16 + 16 + 16) c2 so2 last (0, refl) refl refl all2 (omega (arith, long2, least)) refl w.step.rest in
    let others = stand_for past b.records in record {
      records = OfTrace (NewBuffer t.thread) ∷ OfTrace (WallTime w.wall) ∷ b.records;
      spelled = (take 16 content, c1, sym (take-append-drop 16 content), t.step.is, (take 16 c1, c2, sym (take-append-drop 16 c1), w.step.is, b.spelled));
      others = others;
      are = records_are version versions.Two (record { thread = t.thread; wall = w.wall; pid = 0; events = events_after past others }) last.block others v b.block;
      inner = b.inner;
      based = b.based;
      args = b.args;
      told = b.block ∙ ap (λ (ps : List ℕ). let x : Block = record { thread = t.thread; wall = w.wall; pid = first_or 0 ps; events = events_after past others } in x) (sym (no_pid others b.inner));
      custom = omega (arith, b.custom, no_custom (NewBuffer t.thread) (OfTrace (WallTime w.wall) ∷ b.records), no_custom (WallTime w.wall) b.records);
      typed = omega (arith, b.typed, no_typed (NewBuffer t.thread) (OfTrace (WallTime w.wall) ∷ b.records), no_typed (WallTime w.wall) b.records);
    }

pub block_read : Decodes → (version : LogVersion) (at size : ℕ) (content : List ℕ) (last : BlockSoFar) → AreBytes content → length content ≡ size → preamble_bytes (trace_version version) ≤ size
    → InTurn (said_rows version) (block_opened at size) (log_places version (at + 16) content) ≡ Ok last → BlockRead version content last
block_read decodes Two at size content last all long least reads = two_read decodes Two refl at size content last all long least reads
block_read decodes Three at size content last all long least reads = three_read decodes Three refl at size content last all long least reads
block_read decodes Four at size content last all long least reads = three_read decodes Four refl at size content last all long least reads
block_read decodes Five at size content last all long least reads = three_read decodes Five refl at size content last all long least reads
