-- What is read from first to last is what the places of a file decide.
use Rattle.std.proofs.Common.{◌≡◌, ℕ, zero, suc, ◌+◌, ◌%◌, ◌≤◌, ◌<◌, ◌^◌, Bool, true, false, cond, eqb, ltb, List, [], ◌∷◌, ◌++◌, length, slice_index, lit≤, take, drop, map, Option, Some, None, Result, Ok, Err, add-zero, refl, sym, ap, ◌∙◌, append_assoc, arith, inl, inr}
use Rattle.std.specs.Prelude.{option_to_list, ◌||◌, ◌&&◌, ◌⊎◌, not, sum, is_some}
use Rattle.std.specs.List.{filter_map, list_any}
use Rattle.std.proofs.lemmas.Bool.{cases_Bool, ltb-false, le-leb}
use Rattle.xray_io.specs.declared.wall.Wall.{Wall}
use Rattle.xray_io.specs.Rows.{◌>>=◌}
use Rattle.fdr_file.specs.declared.header.Header.{Header}
use Rattle.fdr_file.specs.declared.trace.Block.{Block}
use Rattle.fdr_file.specs.declared.trace.Trace.{Trace}
use Rattle.fdr_file.specs.declared.version.Version.{Version}
use Rattle.fdr_file.specs.declared.version.Version.TheVariants.{Two, Three}
use Rattle.fdr_file.specs.Places.{starts}
use Rattle.std.specs.List.{flat_map}
use Rattle.std.proofs.lemmas.List.Concat.{flat_map-cons}
use Rattle.fdr_file.proofs.NextParts.{stands_none, stands_taken, starts_first}
use Rattle.std.proofs.lemmas.Grind.{common_steps}
use Rattle.std.proofs.lemmas.List.{append-nil, drop-drop, drop-take, length-drop, length-take}
use Rattle.std.proofs.lemmas.List.Sums.{sum_by-cons}
use Rattle.fdr_record.specs.declared.event.Event.{Event}
use Rattle.fdr_record.specs.declared.event.Kind.{Kind}
use Rattle.fdr_record.specs.declared.event.Kind.TheVariants.{Entry, Exit, TailExit, EntryArgs}
use Rattle.fdr_record.specs.declared.rec.Rec.{Rec}
use Rattle.fdr_record.specs.declared.rec.Rec.TheVariants.{NewBuffer, NewCpu, TscWrap, WallTime, Pid, CallArg, Extents, Function}
use Rattle.fdr_record.specs.declared.fault.RecFault.{RecFault}
use Rattle.fdr_record.specs.Reading.{function_record_at, metadata_record_at}
use Rattle.fdr_file.specs.declared.events.Argument.{Argument}
use Rattle.fdr_file.specs.declared.events.Argument.TheVariants as arguments
use Rattle.fdr_file.specs.declared.events.Base.{Base}
use Rattle.fdr_file.specs.declared.fault.TraceFault.{TraceFault}
use Rattle.fdr_file.specs.declared.fault.TraceFault.TheVariants as faults
use Rattle.fdr_file.specs.Events.{arg_of, arg_said, counter_at, cpu_of, deltas_since, events_after, whole_counter}
use Rattle.fdr_file.specs.Traces.{PreambleItem, extents_in, first_or, first_takes_arg, header_in, is_arg, logs_arg, may_be, names_cpu, needs_cpu, preamble_bytes, preamble_of, record_in, records_among, Standing, block_in, block_of, block_standings, pid_named, block_length, record_length, standings, thread_named, wall_named}
use Rattle.fdr_file.specs.Scanning.{entry_due, entry_with, step_on}
use Rattle.fdr_file.specs.private.Faults.{decided, record_faults, standing_faults, block_faults, unless}
use Rattle.fdr_file.specs.private.Reading.{Left, blocks_read, body_on, end_named, end_on, events_on, is_end, left_at, named_on, pid_on, preamble_on, read_first, record_on}

-- ---- the extents

pub extents_is : (bytes : List ℕ) (size : ℕ) → record_in bytes ≡ Ok (Extents size) → extents_in bytes ≡ size
unfolding record_in function_record_at metadata_record_at
extents_is bytes size e = grind (arith, common_steps)

-- ---- events

-- an argument may be next
abbrev may_come : Argument → Bool
may_come arguments.Barred = false
may_come (arguments.Awaited func) = true
may_come arguments.Known = true

-- the CPU and counter are those that the records say, and an argument may be next if the last of them takes one
abbrev IsBase : Option Base → List Rec → Type 0
IsBase None before = (list_any names_cpu before ≡ false) × (first_takes_arg before ≡ false)
IsBase (Some base) before =
    (list_any names_cpu before ≡ true) × (base.cpu ≡ cpu_of before) × (base.tsc % 2 ^ 64 ≡ counter_at before) × (may_come base.argument ≡ first_takes_arg before)

-- the entry whose argument these records may begin with
abbrev due : Option Base → List Rec → List Event
due base records = option_to_list (entry_with base (arg_said records))

-- no entry waits for its argument at the end
abbrev IsSettled : Option Base → List Standing → Type 0
IsSettled base said = is_end said ≡ true → entry_with base 0 ≡ None

decided_more : {A : Type 0} (front : List A) (found : List TraceFault) (rest : List A) → (decided found rest >>= λ xs. Ok (front ++ xs)) ≡ decided found (front ++ rest)
decided_more front [] rest = refl
decided_more front (fault ∷ later) rest = refl

-- records after a preamble
abbrev pub IsBehind : Version → List Rec → Type 0
IsBehind version before = (n : ℕ) × (length before ≡ length (preamble_of version) + n)

-- a record after these items
may_after : (items : List PreambleItem) (n m : ℕ) (r : Rec) → m ≡ length items + n → may_be items m r ≡ (names_cpu r || needs_cpu r)
may_after [] n m r is = refl
may_after (item ∷ items) n zero r is = absurd (omega arith)
may_after (item ∷ items) n (suc m) r is = may_after items n m r (omega arith)

-- a record after a preamble
pub may_behind : (version : Version) (before : List Rec) (r : Rec) → IsBehind version before → may_be (preamble_of version) (length before) r ≡ (names_cpu r || needs_cpu r)
may_behind version before r (n, is) = may_after (preamble_of version) n (length before) r is

or_true : (b : Bool) → (b || true) ≡ true
or_true true = refl
or_true false = refl

abbrev Decides : Version → Option Base → List Rec → List Standing → Type 0
Decides version base before said =
    events_on base said ≡ decided (standing_faults version before said) (due base (records_among said) ++ events_after before (records_among said))

one_more : (version : Version) (base : Option Base) (before : List Rec) (at : ℕ) (r : Rec) (following : List Standing) (next : Base) (entry event : Option Event)
    → step_on (is_end following) at r base ≡ Ok (next, entry, event) → record_faults version before at r ≡ []
    → (let later = records_among following in due base (r ∷ later) ++ events_after before (r ∷ later) ≡ (option_to_list entry ++ option_to_list event) ++ (due (Some next) later ++ events_after (r ∷ before) later))
    → Decides version (Some next) (r ∷ before) following → Decides version base before ((at, Ok r) ∷ following)
unfolding events_on
one_more version base before at r following next entry event stepped clean told rest =
    let later = records_among following in
    rw (stepped, rest, clean, told) (decided_more (option_to_list entry ++ option_to_list event) (standing_faults version (r ∷ before) following) (due (Some next) later ++ events_after (r ∷ before) later))

-- the entry before, and nothing else
entry_alone : (entry : Option Event) (events : List Event) → option_to_list entry ++ events ≡ (option_to_list entry ++ []) ++ events
entry_alone entry events = sym (append_assoc (option_to_list entry) [] events)

no_more : (version : Version) (base : Option Base) (before : List Rec) (at : ℕ) (r : Rec) (following : List Standing) (e : TraceFault) (later : List TraceFault) → step_on (is_end following) at r base ≡ Err e → record_faults version before at r ≡ e ∷ later
    → Decides version base before ((at, Ok r) ∷ following)
unfolding events_on
no_more version base before at r following e later stepped wrong = rw (stepped, wrong) refl

pub one_after : (version : Version) (before : List Rec) (r : Rec) → IsBehind version before → IsBehind version (r ∷ before)
one_after version before r (n, is) = (suc n, omega arith)

-- the counter of a function record
counter_more : (tsc whole sum delta : ℕ) → tsc % 2 ^ 64 ≡ (whole + sum) % 2 ^ 64 → (tsc + delta) % 2 ^ 64 ≡ (whole + (delta + sum)) % 2 ^ 64
counter_more tsc whole sum delta e = omega arith

twice : (n : ℕ) → n % 2 ^ 64 % 2 ^ 64 ≡ n % 2 ^ 64
twice n = omega arith

-- the event of a function record, by the records before it
event_made : (kind : Kind) (func cpu tsc c t a arg : ℕ) (events : List Event) → cpu ≡ c → tsc ≡ t → a ≡ arg
    → record { cpu = c; func = func; kind = kind; tsc = t; arg = a } ∷ events ≡ record { cpu = cpu; func = func; kind = kind; tsc = tsc; arg = arg } ∷ events
event_made kind func cpu tsc c t a arg events e f g = rw (sym e, sym f, g) refl

abbrev counter_after : Base → ℕ → ℕ
counter_after base delta = (base.tsc + delta) % 2 ^ 64

counter_is : (base : Base) (kind : Kind) (func delta : ℕ) (before : List Rec) → base.tsc % 2 ^ 64 ≡ counter_at before → counter_after base delta ≡ counter_at (Function kind func delta ∷ before)
counter_is base kind func delta before is =
    counter_more base.tsc (whole_counter before) (sum (deltas_since before)) delta is ∙ ap (λ (s : ℕ). (whole_counter before + s) % 2 ^ 64) (sym (sum_by-cons (λ x. x) delta (deltas_since before)))

-- the same, of the counter that is kept
again : (base : Base) (kind : Kind) (func delta : ℕ) (before : List Rec) → base.tsc % 2 ^ 64 ≡ counter_at before → counter_after base delta % 2 ^ 64 ≡ counter_at (Function kind func delta ∷ before)
again base kind func delta before is = twice (base.tsc + delta) ∙ counter_is base kind func delta before is

-- a function record whose event is told at once
plain_function : (version : Version) (base : Base) (before : List Rec) (at : ℕ) (kind : Kind) (func delta : ℕ) (following : List Standing) → (logs_arg kind && not (is_end following)) ≡ false → arg_of kind (records_among following) ≡ 0
    → IsBehind version before → IsBase (Some base) before
    → Decides version (Some (record { cpu = base.cpu; tsc = counter_after base delta; argument = arguments.Barred })) (Function kind func delta ∷ before) following
    → Decides version (Some base) before ((at, Ok (Function kind func delta)) ∷ following)
plain_function version base before at kind func delta following plain none many is rest =
    let f : Rec = Function kind func delta in
    let tsc = counter_after base delta in
    let later = records_among following in
    let entry = entry_with (Some base) 0 in
    let event : Event = record { cpu = base.cpu; func = func; kind = kind; tsc = tsc; arg = 0 } in
    let told = event_made kind func base.cpu tsc (cpu_of before) (counter_at (f ∷ before)) (arg_of kind later) 0 (events_after (f ∷ before) later) is.1 (counter_is base kind func delta before is.2) none in
    one_more version (Some base) before at f following (record { cpu = base.cpu; tsc = tsc; argument = arguments.Barred }) entry (Some event) (rw plain refl) (rw (may_behind version before f many, is.0) refl)
    (ap (λ (es : List Event). option_to_list entry ++ es) told ∙ sym (append_assoc (option_to_list entry) (event ∷ []) (events_after (f ∷ before) later))) rest

-- a function record whose event waits for its argument
waiting_function : (version : Version) (base : Base) (before : List Rec) (at func delta : ℕ) (first : Standing) (following : List Standing) → IsBehind version before → IsBase (Some base) before
    → Decides version (Some (record { cpu = base.cpu; tsc = counter_after base delta; argument = arguments.Awaited func })) (Function EntryArgs func delta ∷ before) (first ∷ following)
    → Decides version (Some base) before ((at, Ok (Function EntryArgs func delta)) ∷ first ∷ following)
waiting_function version base before at func delta first following many is rest =
    let f : Rec = Function EntryArgs func delta in
    let tsc = counter_after base delta in
    let later = records_among (first ∷ following) in
    let entry = entry_with (Some base) 0 in
    let told = event_made EntryArgs func base.cpu tsc (cpu_of before) (counter_at (f ∷ before)) (arg_said later) (arg_said later) (events_after (f ∷ before) later) is.1 (counter_is base EntryArgs func delta before is.2) refl in
    one_more version (Some base) before at f (first ∷ following) (record { cpu = base.cpu; tsc = tsc; argument = arguments.Awaited func }) entry None refl (rw (may_behind version before f many, is.0) refl)
    (ap (λ (es : List Event). option_to_list entry ++ es) told ∙ entry_alone entry _) rest

-- an argument
argument_decided : (version : Version) (base : Base) (before : List Rec) (at value : ℕ) (following : List Standing) → IsBehind version before → IsBase (Some base) before
    → ((next : Base) → IsBase (Some next) (CallArg value ∷ before) → next.argument ≡ arguments.Known → Decides version (Some next) (CallArg value ∷ before) following)
    → Decides version (Some base) before ((at, Ok (CallArg value)) ∷ following)
argument_decided version base before at value following many is rest = by_argument base.argument refl
  where
    by_argument : (a : Argument) → base.argument ≡ a → Decides version (Some base) before ((at, Ok (CallArg value)) ∷ following)
    by_argument arguments.Barred e =
        let takes : first_takes_arg before ≡ false = sym is.3 ∙ ap may_come e in
        no_more version (Some base) before at (CallArg value) following (faults.Order at) (unless (list_any names_cpu before || false) (faults.NoBase at)) (rw e refl) (rw (may_behind version before (CallArg value) many, takes) refl)
    by_argument (arguments.Awaited func) e =
        let takes : first_takes_arg before ≡ true = sym is.3 ∙ ap may_come e in
        let next : Base = record base { argument = arguments.Known } in
        one_more version (Some base) before at (CallArg value) following next (entry_with (Some base) value) None (rw e refl) (rw (may_behind version before (CallArg value) many, takes, is.0) refl)
        (entry_alone (entry_with (Some base) value) (events_after (CallArg value ∷ before) (records_among following))) (rest next (is.0, is.1, is.2, refl) refl)
    by_argument arguments.Known e =
        let takes : first_takes_arg before ≡ true = sym is.3 ∙ ap may_come e in
        one_more version (Some base) before at (CallArg value) following base None None (rw e refl) (rw (may_behind version before (CallArg value) many, takes, is.0) refl)
        (rw e refl) (rest base (is.0, is.1, is.2, ap may_come e) e)

pub events_decided : (version : Version) (base : Option Base) (before : List Rec) (said : List Standing) → IsBehind version before → IsBase base before → IsSettled base said → Decides version base before said
unfolding events_on
events_decided version base before [] many is settled = rw (settled refl) refl
events_decided version base before ((at, Err fault) ∷ following) many is settled = refl
events_decided version base before ((at, Ok (NewCpu cpu tsc)) ∷ following) many is settled =
    let next : Base = record { cpu = cpu; tsc = tsc; argument = arguments.Barred } in
    one_more version base before at (NewCpu cpu tsc) following next (entry_with base 0) None refl (rw (may_behind version before (NewCpu cpu tsc) many, or_true (list_any names_cpu before)) refl) (entry_alone (entry_with base 0) _)
    (events_decided version (Some next) (NewCpu cpu tsc ∷ before) following (one_after version before (NewCpu cpu tsc) many) (refl, refl, ap (λ (n : ℕ). n % 2 ^ 64) (sym (add-zero tsc)), refl) (λ _. refl))
events_decided version None before ((at, Ok (TscWrap tsc)) ∷ following) many is settled =
    no_more version None before at (TscWrap tsc) following (faults.NoBase at) [] refl (rw (may_behind version before (TscWrap tsc) many, is.0) refl)
events_decided version (Some base) before ((at, Ok (TscWrap tsc)) ∷ following) many is settled =
    let next : Base = record { cpu = base.cpu; tsc = tsc; argument = arguments.Barred } in
    one_more version (Some base) before at (TscWrap tsc) following next (entry_with (Some base) 0) None refl (rw (may_behind version before (TscWrap tsc) many, is.0) refl) (entry_alone (entry_with (Some base) 0) _)
    (events_decided version (Some next) (TscWrap tsc ∷ before) following (one_after version before (TscWrap tsc) many) (is.0, is.1, ap (λ (n : ℕ). n % 2 ^ 64) (sym (add-zero tsc)), refl) (λ _. refl))
events_decided version None before ((at, Ok (Function kind func delta)) ∷ following) many is settled =
    no_more version None before at (Function kind func delta) following (faults.NoBase at) [] refl (rw (may_behind version before (Function kind func delta) many, is.0) refl)
events_decided version (Some base) before ((at, Ok (Function Entry func delta)) ∷ following) many is settled =
    plain_function version base before at Entry func delta following refl refl many is
    (events_decided version (Some _) (Function Entry func delta ∷ before) following (one_after version before (Function Entry func delta) many) (is.0, is.1, again base Entry func delta before is.2, refl) (λ _. refl))
events_decided version (Some base) before ((at, Ok (Function Exit func delta)) ∷ following) many is settled =
    plain_function version base before at Exit func delta following refl refl many is
    (events_decided version (Some _) (Function Exit func delta ∷ before) following (one_after version before (Function Exit func delta) many) (is.0, is.1, again base Exit func delta before is.2, refl) (λ _. refl))
events_decided version (Some base) before ((at, Ok (Function TailExit func delta)) ∷ following) many is settled =
    plain_function version base before at TailExit func delta following refl refl many is
    (events_decided version (Some _) (Function TailExit func delta ∷ before) following (one_after version before (Function TailExit func delta) many) (is.0, is.1, again base TailExit func delta before is.2, refl) (λ _. refl))
events_decided version (Some base) before ((at, Ok (Function EntryArgs func delta)) ∷ []) many is settled =
    plain_function version base before at EntryArgs func delta [] refl refl many is refl
events_decided version (Some base) before ((at, Ok (Function EntryArgs func delta)) ∷ first ∷ following) many is settled =
    waiting_function version base before at func delta first following many is
    (events_decided version (Some _) (Function EntryArgs func delta ∷ before) (first ∷ following) (one_after version before (Function EntryArgs func delta) many) (is.0, is.1, again base EntryArgs func delta before is.2, refl) (λ none. cc))
events_decided version None before ((at, Ok (CallArg value)) ∷ following) many is settled =
    no_more version None before at (CallArg value) following (faults.Order at) (unless (list_any names_cpu before || false) (faults.NoBase at)) refl (rw (may_behind version before (CallArg value) many, is.1) refl)
events_decided version (Some base) before ((at, Ok (CallArg value)) ∷ following) many is settled =
    argument_decided version base before at value following many is
    (λ next is' known. events_decided version (Some next) (CallArg value ∷ before) following (one_after version before (CallArg value) many) is' (λ none. ap (λ (a : Argument). entry_due a next 0) known))
events_decided version base before ((at, Ok (NewBuffer thread)) ∷ following) many is settled = no_more version base before at (NewBuffer thread) following (faults.Order at) (unless (list_any names_cpu before || true) (faults.NoBase at)) refl (rw (may_behind version before (NewBuffer thread) many) refl)
events_decided version base before ((at, Ok (WallTime wall)) ∷ following) many is settled = no_more version base before at (WallTime wall) following (faults.Order at) (unless (list_any names_cpu before || true) (faults.NoBase at)) refl (rw (may_behind version before (WallTime wall) many) refl)
events_decided version base before ((at, Ok (Pid pid)) ∷ following) many is settled = no_more version base before at (Pid pid) following (faults.Order at) (unless (list_any names_cpu before || true) (faults.NoBase at)) refl (rw (may_behind version before (Pid pid) many) refl)
events_decided version base before ((at, Ok (Extents size)) ∷ following) many is settled = no_more version base before at (Extents size) following (faults.Order at) (unless (list_any names_cpu before || true) (faults.NoBase at)) refl (rw (may_behind version before (Extents size) many) refl)

-- ---- a preamble

-- the first record names this, and what is left after it
record Named (r : Rec) (at : ℕ) (bytes : List ℕ) (left : Left) : Type 0 where
  stands : standings at bytes ≡ (at, Ok r) ∷ standings left.0 left.1
  long : length bytes ≤ 16 + length left.1

-- the first record isn't allowed there, or there is none
record Unnamed (version : Version) (before : List Rec) (at : ℕ) (bytes : List ℕ) (e : TraceFault) : Type 0 where
  later : List TraceFault
  wrong : standing_faults version before (standings at bytes) ≡ e ∷ later

-- a record has at most 16 bytes
pub length_most : (bytes : List ℕ) → record_length bytes ≤ 16
length_most bytes = elim (cases_Bool (eqb (slice_index bytes 0 % 2) 0)) [ inl e ↦ rw e (lit≤ tt) | inr e ↦ rw e (lit≤ tt) ]

-- what is left after a record
left_long : (at : ℕ) (bytes : List ℕ) (r : Rec) (left : Left) → record_on (at, bytes) ≡ Ok (r, left) → length bytes ≤ 16 + length left.1
unfolding record_on
left_long at bytes r left e = by_answer (record_in bytes) e
  where
    by_answer : (a : Result Rec RecFault) → read_first (at, bytes) a ≡ Ok (r, left) → length bytes ≤ 16 + length left.1
    by_answer (Ok s) h =
        let following : Left = (at + record_length bytes, drop (record_length bytes) bytes) in
        let first : Rec × Left = (s, following) in
        let wanted : Rec × Left = (r, left) in
        let both : first ≡ wanted = cc in
        let left_is : drop (record_length bytes) bytes ≡ left.1 = ap (λ (x : Rec × Left). x.1.1) both in
        omega (arith, length_most bytes, length-drop (record_length bytes) bytes, ap length left_is)
    by_answer (Err f) h = absurd cc

abbrev Found : {A : Type 0} → Version → (Rec → Option A) → (A → Rec) → List Rec → ℕ → List ℕ → Type 0
Found {A} version named con before at bytes =
    ((x : A) × (left : Left) × (named_on named (at, bytes) ≡ Ok (x, left)) × Named (con x) at bytes left)
    ⊎ ((e : TraceFault) × (named_on named (at, bytes) ≡ Err e) × Unnamed version before at bytes e)

found : {A : Type 0} (version : Version) (named : Rec → Option A) (con : A → Rec) (before : List Rec) (at : ℕ) (bytes : List ℕ) → ((r : Rec) (x : A) → named r ≡ Some x → r ≡ con x)
    → ((r : Rec) → named r ≡ None → record_faults version before at r ≡ faults.Order at ∷ unless (list_any names_cpu before || not (needs_cpu r)) (faults.NoBase at))
    → 0 < length bytes → Found version named con before at bytes
found {A} version named con before at bytes is_con is_wrong some = by_first (record_on (at, bytes)) refl
  where
    by_name : (r : Rec) (left : Left) (o : Option A) → record_on (at, bytes) ≡ Ok (r, left) → named r ≡ o → Found version named con before at bytes
    by_name r left (Some x) taken is =
        let r_is = is_con r x is in
        inl (x, left, rw (taken, is) refl, record { stands = stands_taken at bytes r left some taken ∙ ap (λ (s : Rec). (at, Ok s) ∷ standings left.0 left.1) r_is; long = left_long at bytes r left taken })
    by_name r left None taken is =
        inr (
          faults.Order at,
          rw (taken, is) refl,
          record {
            later = unless (list_any names_cpu before || not (needs_cpu r)) (faults.NoBase at) ++ standing_faults version (r ∷ before) (standings left.0 left.1);
            wrong = rw (stands_taken at bytes r left some taken, is_wrong r is) refl;
          },
        )

    by_first : (a : Result (Rec × Left) TraceFault) → record_on (at, bytes) ≡ a → Found version named con before at bytes
    by_first (Ok (r, left)) taken = by_name r left (named r) taken refl
    by_first (Err e) taken =
        let h = stands_none at bytes e some taken in
        inr (e, rw taken refl, record { later = []; wrong = rw (h.stands, h.fault) refl })

thread_is : (r : Rec) (x : ℕ) → thread_named r ≡ Some x → r ≡ NewBuffer x
thread_is (NewBuffer thread) x e = cc
thread_is r x e = absurd cc

wall_is : (r : Rec) (x : Wall) → wall_named r ≡ Some x → r ≡ WallTime x
wall_is (WallTime wall) x e = cc
wall_is r x e = absurd cc

pid_is : (r : Rec) (x : ℕ) → pid_named r ≡ Some x → r ≡ Pid x
pid_is (Pid pid) x e = cc
pid_is r x e = absurd cc

decided_in : {A B : Type 0} (make : A → B) (found : List TraceFault) (x : A) → (decided found x >>= λ y. Ok (make y)) ≡ decided found (make x)
decided_in make [] x = refl
decided_in make (fault ∷ later) x = refl

decided_same : {A : Type 0} (found : List TraceFault) (x y : A) → (found ≡ [] → x ≡ y) → decided found x ≡ decided found y
decided_same [] x y same = ap (λ z. Ok z) (same refl)
decided_same (fault ∷ later) x y same = refl

rest_empty : {A : Type 0} (xs ys : List A) → xs ++ ys ≡ [] → ys ≡ []
rest_empty [] ys e = e
rest_empty (x ∷ xs) ys e = absurd cc

-- records after a preamble name no process, unless something is wrong with them
no_pid : (version : Version) (before : List Rec) (said : List Standing) → IsBehind version before → standing_faults version before said ≡ [] → filter_map pid_named (records_among said) ≡ []
no_pid version before [] many clean = refl
no_pid version before ((at, Err fault) ∷ following) many clean = absurd cc
no_pid version before ((at, Ok (Pid pid)) ∷ following) many clean =
    let later = unless (list_any names_cpu before || true) (faults.NoBase at) ++ standing_faults version (Pid pid ∷ before) following in
    let wrong : standing_faults version before ((at, Ok (Pid pid)) ∷ following) ≡ faults.Order at ∷ later = rw (may_behind version before (Pid pid) many) refl in
    let none : faults.Order at ∷ later ≡ [] = sym wrong ∙ clean in
    absurd cc
no_pid version before ((at, Ok r) ∷ following) many clean =
    no_pid version (r ∷ before) following (one_after version before r many) (rest_empty (record_faults version before at r) (standing_faults version (r ∷ before) following) clean)

pub body_decided : (version : Version) (at : ℕ) (bytes : List ℕ) → preamble_bytes version ≤ length bytes → body_on version (at, bytes) ≡ decided (standing_faults version [] (standings at bytes)) (block_of (records_among (standings at bytes)))
unfolding body_on preamble_on pid_on
body_decided Two at bytes long =
    elim (found Two thread_named NewBuffer [] at bytes thread_is (λ r none. ap (λ (o : Option ℕ). unless (is_some o && (not (is_arg r) || false)) (faults.Order at) ++ unless (false || not (needs_cpu r)) (faults.NoBase at)) none) (omega arith)) [
      | inr (e, on, wrong) ↦ rw (on, wrong.wrong) refl
      | inl (thread, left, on, first) ↦
          elim (found Two wall_named WallTime (NewBuffer thread ∷ []) left.0 left.1 wall_is (λ r none. ap (λ (o : Option Wall). unless (is_some o && (not (is_arg r) || false)) (faults.Order left.0) ++ unless (false || not (needs_cpu r)) (faults.NoBase left.0)) none) (omega (arith, first.long))) [
            | inr (e, on', wrong) ↦ rw (on, on', first.stands, wrong.wrong) refl
            | inl (wall, left', on', second) ↦
                let before : List Rec = WallTime wall ∷ NewBuffer thread ∷ [] in
                let said = standings left'.0 left'.1 in
                let events = events_after before (records_among said) in
                let make : List Event → Block = λ events. record { thread = thread; wall = wall; pid = 0; events = events } in
                let by_pids : List ℕ → Block = λ pids. record { thread = thread; wall = wall; pid = first_or 0 pids; events = events } in
                rw (on, on', first.stands, second.stands, events_decided Two None before said (0, refl) (refl, refl) (λ none. refl)) (
                decided_in make (standing_faults Two before said) events
                ∙ decided_same (standing_faults Two before said) (make events) (by_pids (filter_map pid_named (records_among said)))
                (λ clean. ap by_pids (sym (no_pid Two before said (0, refl) clean))))
          ]
    ]
body_decided Three at bytes long =
    elim (found Three thread_named NewBuffer [] at bytes thread_is (λ r none. ap (λ (o : Option ℕ). unless (is_some o && (not (is_arg r) || false)) (faults.Order at) ++ unless (false || not (needs_cpu r)) (faults.NoBase at)) none) (omega arith)) [
      | inr (e, on, wrong) ↦ rw (on, wrong.wrong) refl
      | inl (thread, left, on, first) ↦
          elim (found Three wall_named WallTime (NewBuffer thread ∷ []) left.0 left.1 wall_is (λ r none. ap (λ (o : Option Wall). unless (is_some o && (not (is_arg r) || false)) (faults.Order left.0) ++ unless (false || not (needs_cpu r)) (faults.NoBase left.0)) none) (omega (arith, first.long))) [
            | inr (e, on', wrong) ↦ rw (on, on', first.stands, wrong.wrong) refl
            | inl (wall, left', on', second) ↦
                elim (found Three pid_named Pid (WallTime wall ∷ NewBuffer thread ∷ []) left'.0 left'.1 pid_is (λ r none. ap (λ (o : Option ℕ). unless (is_some o && (not (is_arg r) || false)) (faults.Order left'.0) ++ unless (false || not (needs_cpu r)) (faults.NoBase left'.0)) none) (omega (arith, first.long, second.long))) [
                  | inr (e, on'', wrong) ↦ rw (on, on', on'', first.stands, second.stands, wrong.wrong) refl
                  | inl (pid, left'', on'', third) ↦
                      let before : List Rec = Pid pid ∷ WallTime wall ∷ NewBuffer thread ∷ [] in
                      let said = standings left''.0 left''.1 in
                      let make : List Event → Block = λ events. record { thread = thread; wall = wall; pid = pid; events = events } in
                      rw (on, on', on'', first.stands, second.stands, third.stands, events_decided Three None before said (0, refl) (refl, refl) (λ none. refl)) (decided_in make (standing_faults Three before said) (events_after before (records_among said)))
                ]
          ]
    ]

-- ---- a block

-- the block that bytes begin with, by its extents
pub record Ends (version : Version) (at : ℕ) (bytes : List ℕ) (end : ℕ) : Type 0 where
  pub place : end ≡ at + (16 + extents_in bytes)
  pub least : preamble_bytes version ≤ extents_in bytes
  pub whole : 16 + extents_in bytes ≤ length bytes
  pub clean : block_faults version (at, bytes) ≡ standing_faults version [] (block_standings (at, bytes))

pub ends_so : (version : Version) (at : ℕ) (bytes : List ℕ) (end : ℕ) → end_on version (at, bytes) ≡ Ok end → Ends version at bytes end
unfolding end_on
ends_so version at bytes end e = by_length (ltb (length bytes) 16) refl e
  where
    by_whole : (size : ℕ) (b : Bool) → ltb (length bytes) 16 ≡ false → record_in bytes ≡ Ok (Extents size) → ltb size (preamble_bytes version) ≡ false → ltb (length bytes) (16 + size) ≡ b
        → cond b (Err (faults.Short at)) (Ok (at + (16 + size))) ≡ Ok end → Ends version at bytes end
    by_whole size true long is least whole h = absurd cc
    by_whole size false long is least whole h =
        let n = extents_is bytes size is in
        let place : at + (16 + size) ≡ end = cc in
        let many : preamble_bytes version ≤ size = ltb-false size (preamble_bytes version) least in
        let all : 16 + size ≤ length bytes = ltb-false (length bytes) (16 + size) whole in
        record {
          place = omega (arith, n, place);
          least = omega (arith, n, many);
          whole = omega (arith, n, all);
          clean = rw (long, is, le-leb (preamble_bytes version) size many, le-leb (16 + size) (length bytes) all) refl;
        }

    by_least : (size : ℕ) (b : Bool) → ltb (length bytes) 16 ≡ false → record_in bytes ≡ Ok (Extents size) → ltb size (preamble_bytes version) ≡ b
        → cond b (Err (faults.Extents at)) (cond (ltb (length bytes) (16 + size)) (Err (faults.Short at)) (Ok (at + (16 + size)))) ≡ Ok end → Ends version at bytes end
    by_least size true long is least h = absurd cc
    by_least size false long is least h = by_whole size (ltb (length bytes) (16 + size)) long is least refl h

    by_answer : (a : Result Rec RecFault) → ltb (length bytes) 16 ≡ false → record_in bytes ≡ a → end_named version (at, bytes) a ≡ Ok end → Ends version at bytes end
    by_answer (Ok (Extents size)) long is h = by_least size (ltb size (preamble_bytes version)) long is refl h
    by_answer (Ok r) long is h = absurd cc
    by_answer (Err f) long is h = absurd cc

    by_length : (b : Bool) → ltb (length bytes) 16 ≡ b → cond b (Err (faults.Short at)) (end_named version (at, bytes) (record_in bytes)) ≡ Ok end → Ends version at bytes end
    by_length true long h = absurd cc
    by_length false long h = by_answer (record_in bytes) long refl h

pub block_decided : (version : Version) (bytes : List ℕ) (at end : ℕ) → end_on version (left_at bytes at) ≡ Ok end → body_on version (left_at (take end bytes) (at + 16)) ≡ decided (block_faults version (left_at bytes at)) (block_in (left_at bytes at))
block_decided version bytes at end e =
    let rest = drop at bytes in
    let ends = ends_so version at rest end e in
    let n = extents_in rest in
    let place : end ≡ at + 16 + n = omega (arith, ends.place) in
    let part : drop (at + 16) (take end bytes) ≡ take n (drop 16 rest) =
    ap (λ (k : ℕ). drop (at + 16) (take k bytes)) place ∙ drop-take (at + 16) n bytes ∙ ap (take n) (sym (drop-drop 16 at bytes)) in
    let many : preamble_bytes version ≤ length (take n (drop 16 rest)) = omega (arith, ends.least, ends.whole, length-take n (drop 16 rest), length-drop 16 rest) in
    ap (λ (x : List ℕ). body_on version (at + 16, x)) part ∙ body_decided version (at + 16) (take n (drop 16 rest)) many ∙ rw ends.clean refl

pub block_fails : (version : Version) (bytes : List ℕ) (at end : ℕ) (e : TraceFault) → end_on version (left_at bytes at) ≡ Ok end → (e ≡ faults.NoMemory) ⊎ (body_on version (left_at (take end bytes) (at + 16)) ≡ Err e)
    → (e ≡ faults.NoMemory) ⊎ (decided (block_faults version (left_at bytes at)) (block_in (left_at bytes at)) ≡ Err e)
block_fails version bytes at end e ended (inl none) = inl none
block_fails version bytes at end e ended (inr is) = inr (sym (block_decided version bytes at end ended) ∙ is)

-- ---- a file

-- the version of a file and its header
abbrev pub versioned : List ℕ → Version → Result (Version × Header) TraceFault
versioned bytes version = Ok (version, header_in bytes)

some_wrong : {A B : Type 0} (wrong more : List TraceFault) (x : A) (y : B) (e : TraceFault) → decided wrong x ≡ Err e → decided (wrong ++ more) y ≡ Err e
some_wrong [] more x y e is = absurd cc
some_wrong (fault ∷ later) more x y e is = ap (λ (f : TraceFault). Err f) cc

pub none_wrong : {A : Type 0} (wrong : List TraceFault) (x y : A) → decided wrong x ≡ Ok y → (wrong ≡ []) × (x ≡ y)
none_wrong [] x y is = (refl, cc)
none_wrong (fault ∷ later) x y is = absurd cc

blocks_first : (version : Version) (header : Header) (blocks : List Block) (at : ℕ) (bytes : List ℕ) → 0 < length bytes → blocks_read version header blocks (starts block_length 0 at bytes)
    ≡ decided (block_faults version (at, bytes) ++ flat_map (block_faults version) (starts block_length 0 (at + block_length bytes) (drop (block_length bytes) bytes)))
    (record { header = header; blocks = blocks ++ block_in (at, bytes) ∷ map block_in (starts block_length 0 (at + block_length bytes) (drop (block_length bytes) bytes)) })
blocks_first version header blocks at bytes some =
    ap (blocks_read version header blocks) (starts_first block_length at bytes some (omega arith))
    ∙ rw flat_map-cons refl

-- a block that has a fault
pub file_fails : (version : Version) (header : Header) (blocks : List Block) (at : ℕ) (bytes : List ℕ) (e : TraceFault) → 0 < length bytes → decided (block_faults version (at, bytes)) (block_in (at, bytes)) ≡ Err e
    → blocks_read version header blocks (starts block_length 0 at bytes) ≡ Err e
file_fails version header blocks at bytes e some is =
    blocks_first version header blocks at bytes some ∙ some_wrong (block_faults version (at, bytes)) _ (block_in (at, bytes)) _ e is

-- one more block
pub file_goes_on : (version : Version) (header : Header) (blocks : List Block) (at : ℕ) (bytes : List ℕ) (block : Block) → 0 < length bytes → decided (block_faults version (at, bytes)) (block_in (at, bytes)) ≡ Ok block
    → blocks_read version header blocks (starts block_length 0 at bytes) ≡ blocks_read version header (blocks ++ block ∷ []) (starts block_length 0 (at + block_length bytes) (drop (block_length bytes) bytes))
file_goes_on version header blocks at bytes block some is =
    let left = starts block_length 0 (at + block_length bytes) (drop (block_length bytes) bytes) in
    let h = none_wrong (block_faults version (at, bytes)) (block_in (at, bytes)) block is in
    blocks_first version header blocks at bytes some
    ∙ rw (h.0, h.1) (ap (λ (all : List Block). decided (flat_map (block_faults version) left) (let made : Trace = record { header = header; blocks = all } in made)) (sym (append_assoc blocks (block ∷ []) (map block_in left))))

-- no more blocks
pub file_ends : (version : Version) (header : Header) (blocks : List Block) (at : ℕ) → blocks_read version header blocks (starts block_length 0 at []) ≡ Ok (record { header = header; blocks = blocks })
unfolding starts
file_ends version header blocks at = ap (λ (all : List Block). let made : Result Trace TraceFault = Ok (record { header = header; blocks = all }) in made) (append-nil blocks)
