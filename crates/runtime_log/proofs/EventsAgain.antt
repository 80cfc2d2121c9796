-- The records among the events of a block by the grammar are read as what they say.
use Rattle.std.proofs.Common.{◌≡◌, ℕ, ◌+◌, ◌%◌, ◌^◌, Bool, true, false, cond, eqb, List, [], ◌∷◌, ◌++◌, length, Option, Some, None, Result, Ok, Err, refl, sym, ap, subst, ◌∙◌, add-zero, append_assoc, append-nil, arith}
use Rattle.std.specs.Prelude.{⊤, ◌||◌, count_by, option_to_list}
use Rattle.std.specs.List.{AllByRecursion, list_any}
use Rattle.std.proofs.lemmas.Bool.{eq-eqb, ne_eqb}
use Rattle.std.proofs.lemmas.List.{length-append}
use Rattle.xray_io.specs.Rows.{InTurn, ◌>>=◌}
use Rattle.fdr_record.specs.declared.event.Event.{Event}
use Rattle.fdr_record.specs.declared.rec.Rec.{Rec}
use Rattle.fdr_record.specs.declared.rec.Rec.TheVariants.{NewCpu, TscWrap}
use Rattle.fdr_file.specs.declared.events.Base.{Base}
use Rattle.fdr_file.specs.declared.fault.TraceFault.{TraceFault}
use Rattle.fdr_file.specs.declared.stage.Inside.{Inside}
use Rattle.fdr_file.specs.declared.stage.Inside.TheVariants as insides
use Rattle.fdr_file.specs.declared.stage.Span.{Span}
use Rattle.fdr_file.specs.declared.stage.Stage.{Stage}
use Rattle.fdr_file.specs.declared.stage.Stage.TheVariants.{Due, Within}
use Rattle.fdr_file.specs.declared.stage.Told.{Told}
use Rattle.fdr_file.specs.declared.stage.Told.TheVariants.{Noted}
use Rattle.fdr_file.specs.declared.version.Version.{Version}
use Rattle.fdr_file.specs.Events.{counter_at, events_after}
use Rattle.fdr_file.specs.Grammar.{ArgsFollow, BeginWithCpu, IsInner}
use Rattle.fdr_file.specs.Scanning.{inside_next, stage_after, step_on}
use Rattle.fdr_file.specs.Traces.{Standing, first_takes_arg, names_cpu, records_among, record_in}
use Rattle.fdr_file.specs.private.Faults.{decided, standing_faults}
use Rattle.fdr_file.specs.private.Reading.{events_on, is_end}
use Rattle.fdr_file.proofs.PlacesDecide.{IsBehind, events_decided, may_behind, one_after}
use Rattle.runtime_log.specs.declared.version.LogVersion.{LogVersion}
use Rattle.runtime_log.specs.Grammar.{AreLogRecords, LogRecord, OfProgram, OfTrace, arg_first, is_custom_event, is_typed_event, stand_for, stands_for}
use Rattle.runtime_log.specs.Logs.{BlockSoFar, log_places, one_custom, one_typed, said_rows}
use Rattle.runtime_log.specs.Arguments.{found_arg, rec_before}
use Rattle.runtime_log.specs.OwnEvents.{based_counter}
use Rattle.runtime_log.specs.Versions.{trace_version}
use Rattle.runtime_log.proofs.LogEvents.{Counts, count_more, counts_step, events_end, longer}
use Rattle.runtime_log.proofs.LogRecords.{as_record, kind_of, one_of_custom, one_of_typed}
use Rattle.runtime_log.proofs.RecordWalk.{rows_none}
use Rattle.runtime_log.proofs.RecordsAgain.{arg_agrees, front_some, run_step, so_lr}

-- ---- records at their places

pub said_at : (version : LogVersion) (at : ℕ) (past : List Rec) (records : List LogRecord) (bytes : List ℕ) → AreLogRecords version records bytes → List Standing
said_at version at past [] bytes are = []
said_at version at past (r ∷ records) bytes (front, following, parts, is, rest) = (at, Ok (stands_for past r records)) ∷ said_at version (at + length front) (stands_for past r records ∷ past) records following rest

pub said_among : (version : LogVersion) (at : ℕ) (past : List Rec) (records : List LogRecord) (bytes : List ℕ) (are : AreLogRecords version records bytes)
    → records_among (said_at version at past records bytes are) ≡ stand_for past records
unfolding said_at
said_among version at past [] bytes are = refl
said_among version at past (r ∷ records) bytes (front, following, parts, is, rest) =
    ap (λ (x : List Rec). stands_for past r records ∷ x) (said_among version (at + length front) (stands_for past r records ∷ past) records following rest)

abbrev pub AreOk : List Standing → Type 0
AreOk [] = ⊤
AreOk ((at, Ok r) ∷ said) = AreOk said
AreOk ((at, Err fault) ∷ said) = ⊥

pub said_ok : (version : LogVersion) (at : ℕ) (past : List Rec) (records : List LogRecord) (bytes : List ℕ) (are : AreLogRecords version records bytes) → AreOk (said_at version at past records bytes are)
unfolding said_at
said_ok version at past [] bytes are = tt
said_ok version at past (r ∷ records) bytes (front, following, parts, is, rest) = said_ok version (at + length front) (stands_for past r records ∷ past) records following rest

-- ---- none has a fault

or_true : (b : Bool) → (b || true) ≡ true
or_true true = refl
or_true false = refl

or_after : {b : Bool} (a : Bool) → b ≡ true → (a || b) ≡ true
or_after true e = refl
or_after false e = e

clean_after : (version : Version) (before : List Rec) (said : List Standing) → AreOk said → IsBehind version before → list_any names_cpu before ≡ true → AllByRecursion IsInner (records_among said)
    → ArgsFollow (first_takes_arg before) (records_among said) → standing_faults version before said ≡ []
clean_after version before [] all many cpu inner args = refl
clean_after version before ((at, Err fault) ∷ said) all many cpu inner args = absurd all
clean_after version before ((at, Ok r) ∷ said) all many cpu (here, rest) (arg, args) =
    rw (may_behind version before r many, here, arg, cpu)
    (clean_after version (r ∷ before) said all (one_after version before r many) (or_after (names_cpu r) cpu) rest args)

clean_all : (version : Version) (before : List Rec) (said : List Standing) → AreOk said → IsBehind version before → AllByRecursion IsInner (records_among said) → BeginWithCpu (records_among said)
    → ArgsFollow false (records_among said) → standing_faults version before said ≡ []
clean_all version before [] all many inner based args = refl
clean_all version before ((at, Err fault) ∷ said) all many inner based args = absurd all
clean_all version before ((at, Ok (NewCpu cpu tsc)) ∷ said) all many (here, rest) based (arg, args) =
    let r : Rec = NewCpu cpu tsc in
    rw (may_behind version before r many, or_true (list_any names_cpu before)) (clean_after version (r ∷ before) said all (one_after version before r many) refl rest args)
clean_all version before ((at, Ok r) ∷ said) all many inner based args = absurd cc

-- the events that are read of them
pub events_are : (version : LogVersion) (tv : Version) (at : ℕ) (past : List Rec) (records : List LogRecord) (bytes : List ℕ) (are : AreLogRecords version records bytes) → IsBehind tv past
    → list_any names_cpu past ≡ false → first_takes_arg past ≡ false → AllByRecursion IsInner (stand_for past records) → BeginWithCpu (stand_for past records) → ArgsFollow false (stand_for past records)
    → events_on None (said_at version at past records bytes are) ≡ Ok (events_after past (stand_for past records))
events_are version tv at past records bytes are many none takes inner based args =
    let said = said_at version at past records bytes are in
    let among : records_among said ≡ stand_for past records = said_among version at past records bytes are in
    let clean : standing_faults tv past said ≡ [] =
    clean_all tv past said (said_ok version at past records bytes are) many (subst (AllByRecursion IsInner) (sym among) inner) (subst BeginWithCpu (sym among) based) (subst (ArgsFollow false) (sym among) args) in
    events_decided tv None past said many (none, takes) (λ end. refl)
    ∙ ap (λ (fs : List TraceFault). decided fs (events_after past (records_among said))) clean
    ∙ ap (λ (rs : List Rec). let x : Result (List Event) TraceFault = Ok (events_after past rs) in x) among

-- ---- they are read

abbrev Step : Type 0
Step = Base × Option Event × Option Event

record EventsCut (base : Option Base) (at : ℕ) (r : Rec) (following : List Standing) (events : List Event) : Type 0 where
  step : Step
  stepped : step_on (is_end following) at r base ≡ Ok step
  more : List Event
  rest : events_on (Some step.0) following ≡ Ok more
  sum_is : events ≡ (option_to_list step.1 ++ option_to_list step.2) ++ more

events_cut : (base : Option Base) (at : ℕ) (r : Rec) (following : List Standing) (events : List Event) → events_on base ((at, Ok r) ∷ following) ≡ Ok events → EventsCut base at r following events
unfolding events_on
events_cut base at r following events is = by_step (step_on (is_end following) at r base) refl is
  where
    by_rest : (step : Step) → step_on (is_end following) at r base ≡ Ok step → (x : Result (List Event) TraceFault) → events_on (Some step.0) following ≡ x
        → (x >>= λ more. Ok ((option_to_list step.1 ++ option_to_list step.2) ++ more)) ≡ Ok events → EventsCut base at r following events
    by_rest step e (Err fault) f h = absurd cc
    by_rest step e (Ok more) f h =
        let same : events ≡ (option_to_list step.1 ++ option_to_list step.2) ++ more = cc in
        record { step = step; stepped = e; more = more; rest = f; sum_is = same }

    by_step : (x : Result Step TraceFault) → step_on (is_end following) at r base ≡ x
        → (x >>= λ step. events_on (Some step.0) following >>= λ more. Ok ((option_to_list step.1 ++ option_to_list step.2) ++ more)) ≡ Ok events → EventsCut base at r following events
    by_step (Err fault) e h = absurd cc
    by_step (Ok step) e h = by_rest step e (events_on (Some step.0) following) refl h

counter_same : (tsc counter delta : ℕ) → tsc % 2 ^ 64 ≡ counter → (tsc + delta) % 2 ^ 64 ≡ (counter + delta) % 2 ^ 64
counter_same tsc counter delta e = omega arith

as_stands : (ends : Bool) (at : ℕ) (follows : Bool) (lr : LogRecord) (later : List LogRecord) (base : Option Base) (past : List Rec) (step : Step) → follows ≡ arg_first later
    → step_on ends at (stands_for past lr later) base ≡ Ok step → Counts base past → as_record (based_counter base) follows lr ≡ stands_for past lr later
as_stands ends at follows (OfTrace r) later base past step agrees is counts = ap (λ (b : Bool). rec_before b r) agrees
as_stands ends at follows (OfProgram kind delta) later None past step agrees is counts = absurd cc
as_stands ends at follows (OfProgram kind delta) later (Some base) past step agrees is counts = ap (λ (n : ℕ). let r : Rec = TscWrap n in r) (counter_same base.tsc (counter_at past) delta counts)

-- a block so far after all of its records
abbrev pub so_done : BlockSoFar → List Event → List LogRecord → BlockSoFar
so_done so events records = record {
  stage = Due;
  block = longer so.block events;
  custom = so.custom + count_by is_custom_event records;
  typed = so.typed + count_by is_typed_event records;
}

-- no record is left exactly at the end of the block
is_last : (version : LogVersion) (at place : ℕ) (past : List Rec) (records : List LogRecord) (bytes : List ℕ) (are : AreLogRecords version records bytes) (end : ℕ) → end ≡ at + length bytes
    → is_end (said_at version place past records bytes are) ≡ eqb at end
unfolding said_at
is_last version at place past [] bytes are end there = sym (eq-eqb at end (omega (arith, ap length are, there)))
is_last version at place past (r ∷ records) bytes (front, following, parts, is, rest) end there =
    sym (ne_eqb at end (λ same. omega (arith, same, there, ap length parts, length-append front following, front_some version r front following is)))

pub events_again : (version : LogVersion) (records : List LogRecord) (span : Span) (base : Option Base) (past : List Rec) (at : ℕ) (bytes : List ℕ) (so : BlockSoFar) (events : List Event)
    (are : AreLogRecords version records bytes) → span.end ≡ at + length bytes → so.stage ≡ stage_after span at (insides.Events base) → Counts base past
    → events_on base (said_at version at past records bytes are) ≡ Ok events
    → InTurn (said_rows version) so (log_places version at bytes) ≡ Ok (so_done so events records)
unfolding said_at
events_again version [] span base past at bytes so events are end stage counts reads =
    let none : length bytes ≡ 0 = ap length are in
    let both : Ok [] ≡ Ok events = sym (events_end base) ∙ reads in
    let empty : [] ≡ events = cc in
    let due : so.stage ≡ Due = stage ∙ ap (λ (b : Bool). cond b Due (Within span (insides.Events base))) (eq-eqb at span.end (omega (arith, end, none))) in
    rows_none version so at bytes none
    ∙ ap (λ (s : Stage). let x : Result BlockSoFar TraceFault = Ok (record so { stage = s }) in x) due
    ∙ ap (λ (es : List Event). let x : Result BlockSoFar TraceFault = Ok (record so { stage = Due; block = record so.block { events = es } }) in x) (sym (append-nil so.block.events) ∙ ap (λ (es : List Event). so.block.events ++ es) empty)
    ∙ ap (λ (n : ℕ). let x : Result BlockSoFar TraceFault = Ok (record so { stage = Due; block = longer so.block events; custom = n }) in x) (sym (add-zero so.custom))
    ∙ ap (λ (n : ℕ). let x : Result BlockSoFar TraceFault = Ok (record so { stage = Due; block = longer so.block events; custom = so.custom + 0; typed = n }) in x) (sym (add-zero so.typed))
events_again version (r ∷ records) span base past at bytes so events (front, following, parts, is, rest) end stage counts reads =
    by_cut (events_cut base at (stands_for past r records) (said_at version (at + length front) (stands_for past r records ∷ past) records following rest) events reads)
    (λ step so1 more. events_again version records span (Some step.0) (stands_for past r records ∷ past) (at + length front) following so1 more rest)
  where
    n : ℕ
    n = length front

    long : length bytes ≡ n + length following
    long = ap length parts ∙ length-append front following

    Again : Type 0
    Again = (step : Step) (so1 : BlockSoFar) (more : List Event) → span.end ≡ at + n + length following → so1.stage ≡ stage_after span (at + n) (insides.Events (Some step.0))
        → Counts (Some step.0) (stands_for past r records ∷ past)
        → events_on (Some step.0) (said_at version (at + n) (stands_for past r records ∷ past) records following rest) ≡ Ok more
        → InTurn (said_rows version) so1 (log_places version (at + n) following) ≡ Ok (so_done so1 more records)

    by_cut : EventsCut base at (stands_for past r records) (said_at version (at + n) (stands_for past r records ∷ past) records following rest) events → Again
        → InTurn (said_rows version) so (log_places version at bytes) ≡ Ok (so_done so events (r ∷ records))
    by_cut c again =
        let step = c.step in
        let settled = option_to_list step.1 ++ option_to_list step.2 in
        let told : Inside × Told = (insides.Events (Some step.0), Noted step.1 step.2) in
        let last = is_last version (at + n) (at + n) (stands_for past r records ∷ past) records following rest span.end (omega (arith, end, long)) in
        let stepped : step_on (eqb (at + n) span.end) at (stands_for past r records) base ≡ Ok step = ap (λ (b : Bool). step_on b at (stands_for past r records) base) (sym last) ∙ c.stepped in
        let as_is = as_stands (eqb (at + n) span.end) at (found_arg (record_in following)) r records base past step (arg_agrees version records following rest) stepped counts in
        let next : inside_next (trace_version version) (insides.Events base) (eqb (at + n) span.end) at (as_record (based_counter base) (found_arg (record_in following)) r) ≡ Ok told =
        ap (λ (x : Rec). inside_next (trace_version version) (insides.Events base) (eqb (at + n) span.end) at x) as_is
        ∙ ap (λ (x : Result Step TraceFault). x >>= λ s. Ok (insides.Events (Some s.0), Noted s.1 s.2)) stepped in
        let within : so.stage ≡ Within span (insides.Events base) =
        stage ∙ ap (λ (b : Bool). cond b Due (Within span (insides.Events base))) (ne_eqb at span.end (λ same. omega (arith, same, end, long, front_some version r front following is))) in
        let so1 : BlockSoFar = so_lr so r (stage_after span (at + n) (insides.Events (Some step.0))) (Noted step.1 step.2) in
        let custom : so.custom + one_custom (kind_of r) + count_by is_custom_event records ≡ so.custom + count_by is_custom_event (r ∷ records) = omega (arith, one_of_custom r, count_more is_custom_event r records) in
        let typed : so.typed + one_typed (kind_of r) + count_by is_typed_event records ≡ so.typed + count_by is_typed_event (r ∷ records) = omega (arith, one_of_typed r, count_more is_typed_event r records) in
        let all : (so.block.events ++ settled) ++ c.more ≡ so.block.events ++ events = append_assoc so.block.events settled c.more ∙ ap (λ (es : List Event). so.block.events ++ es) (sym c.sum_is) in
        let made : List Event → ℕ → ℕ → Result BlockSoFar TraceFault = λ es x y. Ok (record { stage = Due; block = record so.block { events = es }; custom = x; typed = y }) in
        ap (λ (xs : List ℕ). InTurn (said_rows version) so (log_places version at xs)) parts
        ∙ run_step version span (insides.Events base) at r front following so told is within (omega (arith, end, long)) next
        ∙ again step so1 c.more (omega (arith, end, long)) refl (counts_step (eqb (at + n) span.end) at (stands_for past r records) base past step stepped counts) c.rest
        ∙ ap (λ (es : List Event). made es (so.custom + one_custom (kind_of r) + count_by is_custom_event records) (so.typed + one_typed (kind_of r) + count_by is_typed_event records)) all
        ∙ ap (λ (x : ℕ). made (so.block.events ++ events) x (so.typed + one_typed (kind_of r) + count_by is_typed_event records)) custom
        ∙ ap (λ (y : ℕ). made (so.block.events ++ events) (so.custom + count_by is_custom_event (r ∷ records)) y) typed
