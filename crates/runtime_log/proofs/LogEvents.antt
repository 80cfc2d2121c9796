-- The records among the events of a block of a log: what is read of them is what they say.
use Rattle.std.proofs.Common.{◌≡◌, ℕ, zero, suc, ◌+◌, ◌%◌, ◌^◌, ◌<◌, ◌≤◌, Bool, true, false, cond, eqb, List, [], ◌∷◌, ◌++◌, length, drop, take, Option, Some, None, Result, Ok, Err, refl, sym, ap, subst, ◌∙◌, inl, inr, add-zero, append_assoc, append-nil, arith}
use Rattle.std.specs.Prelude.{⊤, ◌≢◌, ◌⊎◌, ◌&&◌, not, count_by, option_to_list, sum}
use Rattle.std.proofs.lemmas.Bool.{cases_lt, eq-eqb, ne_eqb}
use Rattle.std.proofs.lemmas.List.{length-drop, take-append-drop}
use Rattle.std.proofs.lemmas.List.Elements.{All-drop}
use Rattle.std.proofs.lemmas.List.Sums.{sum_by-cons}
use Rattle.xray_io.specs.Rows.{InTurn, ◌>>=◌}
use Rattle.fdr_record.specs.declared.event.Event.{Event}
use Rattle.fdr_record.specs.declared.event.Kind.{Kind}
use Rattle.fdr_record.specs.declared.rec.Rec.{Rec}
use Rattle.fdr_record.specs.declared.rec.Rec.TheVariants.{NewBuffer, NewCpu, TscWrap, WallTime, Pid, CallArg, Extents, Function}
use Rattle.fdr_file.specs.declared.events.Argument.{Argument}
use Rattle.fdr_file.specs.declared.events.Argument.TheVariants as arguments
use Rattle.fdr_file.specs.declared.events.Base.{Base}
use Rattle.fdr_file.specs.declared.fault.TraceFault.{TraceFault}
use Rattle.fdr_file.specs.declared.stage.Inside.{Inside}
use Rattle.fdr_file.specs.declared.stage.Inside.TheVariants as insides
use Rattle.fdr_file.specs.declared.stage.Span.{Span}
use Rattle.fdr_file.specs.declared.stage.Stage.TheVariants.{Due, Within}
use Rattle.fdr_file.specs.declared.stage.Told.{Told}
use Rattle.fdr_file.specs.declared.stage.Told.TheVariants.{Noted}
use Rattle.fdr_file.specs.declared.trace.Block.{Block}
use Rattle.fdr_file.specs.Events.{counter_at, deltas_since, whole_counter}
use Rattle.fdr_file.specs.Scanning.{argument_on, entry_with, stage_after, step_on}
use Rattle.fdr_file.specs.Traces.{Standing, logs_arg, records_among}
use Rattle.fdr_file.specs.private.Reading.{events_on, is_end}
use Rattle.runtime_log.specs.declared.own_event.OwnKind.{OwnKind}
use Rattle.runtime_log.specs.declared.version.LogVersion.{LogVersion}
use Rattle.runtime_log.specs.Grammar.{AreLogRecords, LogRecord, OfProgram, OfTrace, arg_first, is_custom_event, is_typed_event, stand_for, stands_for}
use Rattle.runtime_log.specs.Logs.{BlockSoFar, block_with, log_places, one_custom, one_typed, said_rows}
use Rattle.runtime_log.specs.Arguments.{rec_before}
use Rattle.runtime_log.specs.OwnEvents.{based_counter, log_record_length, own_kind}
use Rattle.runtime_log.proofs.LogRecords.{BeginsLog, Decodes, LogStep, as_record, begins_log, follows_in, kind_of, log_step, one_of_custom, one_of_typed}
use Rattle.runtime_log.proofs.RecordFits.{AreBytes}
use Rattle.runtime_log.proofs.RecordsAgain.{arg_agrees}
use Rattle.runtime_log.proofs.RecordWalk.{log_record_some, rows_none, so_with}

-- ---- the counter

abbrev Step : Type 0
Step = Base × Option Event × Option Event

-- the counter that is known is that of the records before
abbrev pub Counts : Option Base → List Rec → Type 0
Counts None past = ⊤
Counts (Some base) past = base.tsc % 2 ^ 64 ≡ counter_at past

counter_on : (tsc whole sum delta : ℕ) → tsc % 2 ^ 64 ≡ (whole + sum) % 2 ^ 64 → (tsc + delta) % 2 ^ 64 % 2 ^ 64 ≡ (whole + (delta + sum)) % 2 ^ 64
counter_on tsc whole sum delta e = omega arith

counts_function : (base : Base) (kind : Kind) (func delta : ℕ) (past : List Rec) → base.tsc % 2 ^ 64 ≡ counter_at past → (base.tsc + delta) % 2 ^ 64 % 2 ^ 64 ≡ counter_at (Function kind func delta ∷ past)
counts_function base kind func delta past is =
    counter_on base.tsc (whole_counter past) (sum (deltas_since past)) delta is ∙ ap (λ (s : ℕ). (whole_counter past + s) % 2 ^ 64) (sym (sum_by-cons (λ x. x) delta (deltas_since past)))

ok_step : Step → Result Step TraceFault
ok_step step = Ok step

pub counts_step : (ends : Bool) (at : ℕ) (r : Rec) (base : Option Base) (past : List Rec) (step : Step) → step_on ends at r base ≡ Ok step → Counts base past → Counts (Some step.0) (r ∷ past)
counts_step ends at (NewCpu cpu tsc) base past step is counts =
    let one : Base = record { cpu = cpu; tsc = tsc; argument = arguments.Barred } in
    let two : Step = (one, entry_with base 0, None) in
    let same : two ≡ step = cc in
    subst (λ (s : Step). Counts (Some s.0) (NewCpu cpu tsc ∷ past)) same (ap (λ (n : ℕ). n % 2 ^ 64) (sym (add-zero tsc)))
counts_step ends at (TscWrap tsc) None past step is counts = absurd cc
counts_step ends at (TscWrap tsc) (Some base) past step is counts =
    let one : Base = record { cpu = base.cpu; tsc = tsc; argument = arguments.Barred } in
    let two : Step = (one, entry_with (Some base) 0, None) in
    let same : two ≡ step = cc in
    subst (λ (s : Step). Counts (Some s.0) (TscWrap tsc ∷ past)) same (ap (λ (n : ℕ). n % 2 ^ 64) (sym (add-zero tsc)))
counts_step ends at (Function kind func delta) None past step is counts = absurd cc
counts_step ends at (Function kind func delta) (Some base) past step is counts = by_test (logs_arg kind && not ends) is
  where
    tsc : ℕ
    tsc = (base.tsc + delta) % 2 ^ 64

    waiting : Step
    waiting = (record { cpu = base.cpu; tsc = tsc; argument = arguments.Awaited func }, entry_with (Some base) 0, None)

    plain : Step
    plain = (record { cpu = base.cpu; tsc = tsc; argument = arguments.Barred }, entry_with (Some base) 0, Some (record { cpu = base.cpu; func = func; kind = kind; tsc = tsc; arg = 0 }))

    there : tsc % 2 ^ 64 ≡ counter_at (Function kind func delta ∷ past)
    there = counts_function base kind func delta past counts

    by_test : (b : Bool) → ◌≡◌ {A = Result Step TraceFault} (Ok (cond b waiting plain)) (Ok step) → Counts (Some step.0) (Function kind func delta ∷ past)
    by_test true h =
        let same : waiting ≡ step = cc in
        subst (λ (s : Step). Counts (Some s.0) (Function kind func delta ∷ past)) same there
    by_test false h =
        let same : plain ≡ step = cc in
        subst (λ (s : Step). Counts (Some s.0) (Function kind func delta ∷ past)) same there
counts_step ends at (CallArg value) None past step is counts = absurd cc
counts_step ends at (CallArg value) (Some base) past step is counts = by_argument base.argument is
  where
    by_argument : (a : Argument) → argument_on at value base a ≡ Ok step → Counts (Some step.0) (CallArg value ∷ past)
    by_argument arguments.Barred h = absurd cc
    by_argument (arguments.Awaited func) h =
        let two : Step = (record base { argument = arguments.Known }, entry_with (Some base) value, None) in
        let same : two ≡ step = cc in
        subst (λ (s : Step). Counts (Some s.0) (CallArg value ∷ past)) same counts
    by_argument arguments.Known h =
        let two : Step = (base, None, None) in
        let same : two ≡ step = cc in
        subst (λ (s : Step). Counts (Some s.0) (CallArg value ∷ past)) same counts
counts_step ends at (NewBuffer thread) base past step is counts = absurd cc
counts_step ends at (WallTime wall) base past step is counts = absurd cc
counts_step ends at (Pid pid) base past step is counts = absurd cc
counts_step ends at (Extents size) base past step is counts = absurd cc

counter_same : (tsc counter delta : ℕ) → tsc % 2 ^ 64 ≡ counter → (tsc + delta) % 2 ^ 64 ≡ (counter + delta) % 2 ^ 64
counter_same tsc counter delta e = omega arith

-- what a record stands for, by the counter that is known and by the records before it
pub stands_same : (ends : Bool) (at : ℕ) (follows : Bool) (lr : LogRecord) (later : List LogRecord) (base : Option Base) (past : List Rec) (step : Step) → follows ≡ arg_first later
    → step_on ends at (as_record (based_counter base) follows lr) base ≡ Ok step → Counts base past → as_record (based_counter base) follows lr ≡ stands_for past lr later
stands_same ends at follows (OfTrace r) later base past step agrees is counts = ap (λ (b : Bool). rec_before b r) agrees
stands_same ends at follows (OfProgram kind delta) later None past step agrees is counts = absurd cc
stands_same ends at follows (OfProgram kind delta) later (Some base) past step agrees is counts = ap (λ (n : ℕ). let r : Rec = TscWrap n in r) (counter_same base.tsc (counter_at past) delta counts)

-- ---- the events that are read

pub events_more : (base : Option Base) (at : ℕ) (r : Rec) (following : List Standing) (step : Step) (xs : List Event) → step_on (is_end following) at r base ≡ Ok step → events_on (Some step.0) following ≡ Ok xs
    → events_on base ((at, Ok r) ∷ following) ≡ Ok ((option_to_list step.1 ++ option_to_list step.2) ++ xs)
unfolding events_on
events_more base at r following step xs e f = rw (e, f) refl

pub events_end : (base : Option Base) → events_on base [] ≡ Ok []
unfolding events_on
events_end base = refl

-- a block with more events
abbrev pub longer : Block → List Event → Block
longer block events = record block { events = block.events ++ events }

pub record EventsRead (version : LogVersion) (base : Option Base) (past : List Rec) (bytes : List ℕ) (so last : BlockSoFar) : Type 0 where
  pub records : List LogRecord
  pub spelled : AreLogRecords version records bytes
  pub first : Standing
  pub later : List Standing
  pub among : records_among (first ∷ later) ≡ stand_for past records
  pub events : List Event
  pub reads : events_on base (first ∷ later) ≡ Ok events
  pub block : last.block ≡ longer so.block events
  pub custom : last.custom ≡ so.custom + count_by is_custom_event records
  pub typed : last.typed ≡ so.typed + count_by is_typed_event records

pub no_bytes : (bytes : List ℕ) → length bytes ≡ 0 → bytes ≡ []
no_bytes [] none = refl
no_bytes (b ∷ bytes) none = absurd (omega (arith, none))

pub count_more : (p : LogRecord → Bool) (lr : LogRecord) (records : List LogRecord) → count_by p (lr ∷ records) ≡ cond (p lr) 1 0 + count_by p records
count_more p lr records = sum_by-cons (λ (x : LogRecord). cond (p x) 1 0) lr records

-- one record more, before others
custom_more : (lr : LogRecord) (o : Option OwnKind) (before rest all : ℕ) (records : List LogRecord) → o ≡ kind_of lr → rest ≡ count_by is_custom_event records → all ≡ before + one_custom o + rest → all ≡ before + count_by is_custom_event (lr ∷ records)
custom_more lr o before rest all records e f g =
    let one : one_custom o ≡ cond (is_custom_event lr) 1 0 = ap one_custom e ∙ one_of_custom lr in
    omega (arith, g, one, f, count_more is_custom_event lr records)

typed_more : (lr : LogRecord) (o : Option OwnKind) (before rest all : ℕ) (records : List LogRecord) → o ≡ kind_of lr → rest ≡ count_by is_typed_event records → all ≡ before + one_typed o + rest → all ≡ before + count_by is_typed_event (lr ∷ records)
typed_more lr o before rest all records e f g =
    let one : one_typed o ≡ cond (is_typed_event lr) 1 0 = ap one_typed e ∙ one_of_typed lr in
    omega (arith, g, one, f, count_more is_typed_event lr records)

abbrev Reads : LogVersion → ℕ → Type 0
Reads version n = (span : Span) (base : Option Base) (past : List Rec) (at : ℕ) (bytes : List ℕ) (so last : BlockSoFar) → length bytes ≤ n → 0 < length bytes → AreBytes bytes → span.end ≡ at + length bytes
    → so.stage ≡ Within span (insides.Events base) → Counts base past → InTurn (said_rows version) so (log_places version at bytes) ≡ Ok last → EventsRead version base past bytes so last

pub events_read : Decodes → (version : LogVersion) (n : ℕ) → Reads version n
events_read decodes version zero span base past at bytes so last few some all end stage counts reads = absurd (omega arith)
events_read decodes version (suc n) span base past at bytes so last few some all end stage counts reads =
    by_step (events_read decodes version n) (log_step version span (insides.Events base) at bytes so last some stage reads)
  where
    len : ℕ
    len = log_record_length version bytes

    rest : List ℕ
    rest = drop len bytes

    Here : Type 0
    Here = EventsRead version base past bytes so last

    next : LogStep version span (insides.Events base) at bytes so last → BlockSoFar
    next st = so_with version so bytes (stage_after span (at + len) st.said.0, st.said.1)

    block_next : (st : LogStep version span (insides.Events base) at bytes so last) (step : Step) → st.said ≡ (insides.Events (Some step.0), Noted step.1 step.2)
        → (next st).block ≡ longer so.block (option_to_list step.1 ++ option_to_list step.2)
    block_next st step said = ap (λ (s : Inside × Told). block_with s.1 so.block) said

    -- the record stands for what it was read as
    as_read : (st : LogStep version span (insides.Events base) at bytes so last) (l : BeginsLog version (Within span (insides.Events base)) bytes st.r) (step : Step) (b : Bool) (later : List LogRecord)
        → step_on b at st.r base ≡ Ok step → AreLogRecords version later rest → st.r ≡ stands_for past l.lr later
    as_read st l step b later e are =
        l.stands
        ∙ stands_same b at (follows_in version bytes) l.lr later base past step (arg_agrees version later rest are) (ap (λ (r : Rec). step_on b at r base) (sym l.stands) ∙ e) counts

    by_last : (st : LogStep version span (insides.Events base) at bytes so last) (l : BeginsLog version (Within span (insides.Events base)) bytes st.r) (step : Step)
        → step_on true at st.r base ≡ Ok step → st.said ≡ (insides.Events (Some step.0), Noted step.1 step.2) → length rest ≡ 0 → Here
    by_last st l step e said none =
        let ends : Ok (next st) ≡ Ok last = sym (rows_none version (next st) (at + len) rest none) ∙ st.rest in
        let same : next st ≡ last = cc in
        let settled = option_to_list step.1 ++ option_to_list step.2 in
        let block : last.block ≡ longer so.block settled = ap (λ (s : BlockSoFar). s.block) (sym same) ∙ block_next st step said in
        let custom : last.custom ≡ so.custom + one_custom (own_kind version bytes) + 0 = ap (λ (s : BlockSoFar). s.custom) (sym same) ∙ sym (add-zero _) in
        let typed : last.typed ≡ so.typed + one_typed (own_kind version bytes) + 0 = ap (λ (s : BlockSoFar). s.typed) (sym same) ∙ sym (add-zero _) in
        let r_is = as_read st l step true [] e (no_bytes rest none) in record {
          records = l.lr ∷ [];
          spelled = (take len bytes, rest, sym (take-append-drop len bytes), l.is, no_bytes rest none);
          first = (at, Ok st.r);
          later = [];
          among = ap (λ (r : Rec). r ∷ []) r_is;
          events = settled ++ [];
          reads = events_more base at st.r [] step [] e (events_end (Some step.0));
          block = block ∙ ap (longer so.block) (sym (append-nil settled));
          custom = custom_more l.lr (own_kind version bytes) so.custom 0 last.custom [] l.kind refl custom;
          typed = typed_more l.lr (own_kind version bytes) so.typed 0 last.typed [] l.kind refl typed;
        }

    by_more : (st : LogStep version span (insides.Events base) at bytes so last) (l : BeginsLog version (Within span (insides.Events base)) bytes st.r) (step : Step)
        → step_on false at st.r base ≡ Ok step → st.said ≡ (insides.Events (Some step.0), Noted step.1 step.2)
        → EventsRead version (Some step.0) (st.r ∷ past) rest (next st) last → Here
    by_more st l step e said later =
        let settled = option_to_list step.1 ++ option_to_list step.2 in
        let r_is = as_read st l step false later.records e later.spelled in
        record {
          records = l.lr ∷ later.records;
          spelled = (take len bytes, rest, sym (take-append-drop len bytes), l.is, later.spelled);
          first = (at, Ok st.r);
          later = later.first ∷ later.later;
          among = ap (λ (x : List Rec). st.r ∷ x) later.among ∙ ap (λ (r : Rec). r ∷ stand_for (r ∷ past) later.records) r_is;
          events = settled ++ later.events;
          reads = events_more base at st.r (later.first ∷ later.later) step later.events e later.reads;
          block =
              later.block ∙ ap (λ (b : Block). longer b later.events) (block_next st step said)
              ∙ ap (λ (es : List Event). let b : Block = record so.block { events = es } in b) (append_assoc so.block.events settled later.events);
          custom = custom_more l.lr (own_kind version bytes) so.custom (count_by is_custom_event later.records) last.custom later.records l.kind refl later.custom;
          typed = typed_more l.lr (own_kind version bytes) so.typed (count_by is_typed_event later.records) last.typed later.records l.kind refl later.typed;
        }

    by_end : Reads version n → (st : LogStep version span (insides.Events base) at bytes so last) (l : BeginsLog version (Within span (insides.Events base)) bytes st.r) (step : Step)
        → step_on (eqb (at + len) span.end) at st.r base ≡ Ok step → st.said ≡ (insides.Events (Some step.0), Noted step.1 step.2) → (0 < length rest) ⊎ (length rest ≤ 0) → Here
    by_end again st l step e said (inr none) =
        let zero_left : length rest ≡ 0 = omega (arith, none) in
        let there : at + len ≡ span.end = omega (arith, length-drop len bytes, st.within, zero_left, end) in
        by_last st l step (ap (λ (b : Bool). step_on b at st.r base) (sym (eq-eqb (at + len) span.end there)) ∙ e) said zero_left
    by_end again st l step e said (inl more) =
        let other : at + len ≢ span.end = λ there. omega (arith, length-drop len bytes, st.within, more, end, there) in
        let inside : eqb (at + len) span.end ≡ false = ne_eqb (at + len) span.end other in
        let known = counts_step (eqb (at + len) span.end) at st.r base past step e counts in
        let stage : (next st).stage ≡ Within span (insides.Events (Some step.0)) =
        ap (λ (b : Bool). cond b Due (Within span st.said.0)) inside ∙ ap (λ (s : Inside × Told). Within span s.0) said in
        by_more st l step (ap (λ (b : Bool). step_on b at st.r base) (sym inside) ∙ e) said
        (again span (Some step.0) (st.r ∷ past) (at + len) rest (next st) last (omega (arith, length-drop len bytes, log_record_some version bytes, few))
        more (All-drop (λ b. b < 256) len bytes all) (omega (arith, length-drop len bytes, st.within, end)) stage known st.rest)

    by_next : Reads version n → (st : LogStep version span (insides.Events base) at bytes so last) → (x : Result Step TraceFault) → step_on (eqb (at + len) span.end) at st.r base ≡ x
        → (x >>= λ step. Ok (insides.Events (Some step.0), Noted step.1 step.2)) ≡ Ok st.said → Here
    by_next again st (Err fault) e h = absurd cc
    by_next again st (Ok step) e h =
        let same : st.said ≡ (insides.Events (Some step.0), Noted step.1 step.2) = cc in
        by_end again st (begins_log decodes version (Within span (insides.Events base)) bytes st.r all st.within st.found) step e same (cases_lt 0 (length rest))

    by_step : Reads version n → LogStep version span (insides.Events base) at bytes so last → Here
    by_step again st = by_next again st (step_on (eqb (at + len) span.end) at st.r base) refl st.next
