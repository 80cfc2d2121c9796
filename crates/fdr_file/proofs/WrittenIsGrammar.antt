-- What is written is a trace by the grammar.
use Rattle.std.proofs.Common.{◌≡◌, ℕ, ◌+◌, ◌-◌, ◌%◌, ◌/◌, ◌≤◌, ◌<◌, ◌^◌, Bool, true, false, cond, eqb, ltb, List, [], ◌∷◌, ◌++◌, All, length, map, replicate, Option, Some, None, refl, sym, ap, subst, ◌∙◌, arith, inl, inr, lit<}
use Rattle.std.specs.Prelude.{⊤, ◌||◌, sum}
use Rattle.std.specs.List.{flat_map, AllByRecursion}
use Rattle.std.proofs.lemmas.Bool.{cases_Bool, ltb-false}
use Rattle.std.proofs.lemmas.Bool.Decides.{eqb_tells}
use Rattle.std.proofs.lemmas.List.Elements.{recursion_from_All}
use Rattle.std.proofs.lemmas.List.Concat.{flat_map-cons}
use Rattle.std.proofs.lemmas.Grind.{flat_map-append}
use Rattle.std.proofs.lemmas.List.Sums.{sum_by-cons}
use Rattle.fdr_record.specs.declared.event.Event.{Event}
use Rattle.fdr_record.specs.declared.event.Kind.{Kind}
use Rattle.fdr_record.specs.declared.event.Kind.TheVariants.{Entry, Exit, TailExit, EntryArgs}
use Rattle.fdr_record.specs.declared.rec.Rec.{Rec}
use Rattle.fdr_record.specs.declared.rec.Rec.TheVariants.{NewBuffer, NewCpu, TscWrap, WallTime, Pid, CallArg, Extents, Function}
use Rattle.fdr_record.specs.Recordable.{ArgFits}
use Rattle.fdr_record.specs.Records.{length_of, record_bytes, told_by, FieldsFit, Spells}
use Rattle.fdr_buffer.specs.Segments.{arg_records, bytes_of, function_records, is_out_of_reach, records_after, records_of, EventFits}
use Rattle.fdr_buffer.specs.Filled.{Filled, used_bytes}
use Rattle.fdr_file.specs.declared.header.Header.{Header}
use Rattle.fdr_file.specs.declared.trace.Block.{Block}
use Rattle.fdr_file.specs.declared.version.Version.TheVariants.{Three}
use Rattle.fdr_file.specs.Events.{arg_of, counter_at, cpu_of, deltas_since, events_after, whole_counter}
use Rattle.fdr_file.specs.Traces.{logs_arg, version_of}
use Rattle.fdr_file.specs.Grammar.{ArgsFollow, AreBlocks, AreSpelled, BeginWithCpu, IsBlock, IsHeader, IsInner, IsTrace, block_records}
use Rattle.fdr_file.specs.Files.{BlockFits, HeaderFits, block_bytes, block_told, file_bytes, flags_of, header_bytes, trace_told}

-- ---- the bytes of records

spells_own : (r : Rec) → Spells (record_bytes r) r
spells_own r = record { filler = replicate (length_of r - length (told_by r)) 0; told = refl; whole = whole r }
  where
    whole : (r : Rec) → length (record_bytes r) ≡ length_of r
    whole (NewBuffer thread) = refl
    whole (NewCpu cpu tsc) = refl
    whole (TscWrap tsc) = refl
    whole (WallTime wall) = refl
    whole (Pid pid) = refl
    whole (CallArg value) = refl
    whole (Extents size) = refl
    whole (Function kind func delta) = refl

spelled_own : (records : List Rec) → AllByRecursion FieldsFit records → AreSpelled records (bytes_of records)
spelled_own [] fit = refl
spelled_own (r ∷ records) (here, rest) = (record_bytes r, bytes_of records, flat_map-cons record_bytes r records, here, spells_own r, spelled_own records rest)

-- ---- events

-- records before those of an event: they say the CPU and counter of the event before
abbrev Follows : Option Event → List Rec → Type 0
Follows None past = ⊤
Follows (Some before) past = (cpu_of past ≡ before.cpu) × (counter_at past ≡ before.tsc)

-- they may follow any record, as far as arguments go
abbrev ArgsAnywhere : List Rec → Type 0
ArgsAnywhere records = (takes : Bool) → ArgsFollow takes records

-- the function record of an event, and its argument, say it
record TellsLast (kind : Kind) (func delta cpu tsc arg : ℕ) (past rest : List Rec) : Type 0 where
  now : List Rec
  told : events_after past (Function kind func delta ∷ arg_records kind arg ++ rest) ≡ record { cpu = cpu; func = func; kind = kind; tsc = tsc; arg = arg } ∷ events_after now rest
  follows : (cpu_of now ≡ cpu) × (counter_at now ≡ tsc)
  fit : AllByRecursion FieldsFit rest → AllByRecursion FieldsFit (Function kind func delta ∷ arg_records kind arg ++ rest)
  inner : AllByRecursion IsInner rest → AllByRecursion IsInner (Function kind func delta ∷ arg_records kind arg ++ rest)
  args : ArgsAnywhere rest → ArgsAnywhere (Function kind func delta ∷ arg_records kind arg ++ rest)

event_is : (kind : Kind) (func cpu tsc arg c t a : ℕ) (events : List Event) → c ≡ cpu → t ≡ tsc → a ≡ arg
    → record { cpu = c; func = func; kind = kind; tsc = t; arg = a } ∷ events ≡ record { cpu = cpu; func = func; kind = kind; tsc = tsc; arg = arg } ∷ events
event_is kind func cpu tsc arg c t a events e f g = rw (e, f, g) refl

-- if it logs no argument
tells_plain : (kind : Kind) (func delta cpu tsc arg : ℕ) (past rest : List Rec) → func < 2 ^ 28 → delta < 2 ^ 32 → arg ≡ 0 → arg_records kind arg ≡ [] → arg_of kind rest ≡ 0 → logs_arg kind ≡ false
    → cpu_of past ≡ cpu → counter_at (Function kind func delta ∷ past) ≡ tsc → TellsLast kind func delta cpu tsc arg past rest
tells_plain kind func delta cpu tsc arg past rest small few none no_record no_arg logs here there =
    let f : Rec = Function kind func delta in
    let now : List Rec = f ∷ past in
    let following : arg_records kind arg ++ rest ≡ rest = ap (λ (x : List Rec). x ++ rest) no_record in
    record {
      now = now;
      told = ap (λ (x : List Rec). events_after past (f ∷ x)) following ∙ event_is kind func cpu tsc arg (cpu_of past) (counter_at now) (arg_of kind rest) (events_after now rest) here there (no_arg ∙ sym none);
      follows = (here, there);
      fit = λ h. subst (λ (x : List Rec). AllByRecursion FieldsFit (f ∷ x)) (sym following) ((small, few), h);
      inner = λ h. subst (λ (x : List Rec). AllByRecursion IsInner (f ∷ x)) (sym following) (refl, h);
      args = λ h takes. subst (λ (x : List Rec). ArgsFollow takes (f ∷ x)) (sym following) (refl, subst (λ (b : Bool). ArgsFollow b rest) (sym logs) (h false));
    }

tells_last : (kind : Kind) (func delta cpu tsc arg : ℕ) (past rest : List Rec) → func < 2 ^ 28 → delta < 2 ^ 32 → arg < 2 ^ 64 → ArgFits kind arg
    → cpu_of past ≡ cpu → counter_at (Function kind func delta ∷ past) ≡ tsc → TellsLast kind func delta cpu tsc arg past rest
tells_last Entry func delta cpu tsc arg past rest small few fits none here there = tells_plain Entry func delta cpu tsc arg past rest small few none refl refl refl here there
tells_last Exit func delta cpu tsc arg past rest small few fits none here there = tells_plain Exit func delta cpu tsc arg past rest small few none refl refl refl here there
tells_last TailExit func delta cpu tsc arg past rest small few fits none here there = tells_plain TailExit func delta cpu tsc arg past rest small few none refl refl refl here there
tells_last EntryArgs func delta cpu tsc arg past rest small few fits any here there =
    let f : Rec = Function EntryArgs func delta in
    let now : List Rec = CallArg arg ∷ f ∷ past in
    record {
      now = now;
      told = event_is EntryArgs func cpu tsc arg (cpu_of past) (counter_at (f ∷ past)) arg (events_after now rest) here there refl;
      follows = (here, there);
      fit = λ h. ((small, few), (fits, h));
      inner = λ h. (refl, (refl, h));
      args = λ h takes. (refl, (refl, h true));
    }

-- the records of an event say it
record Tells (before : Option Event) (event : Event) (past : List Rec) (rest : List Rec) : Type 0 where
  now : List Rec
  told : events_after past (records_of before event ++ rest) ≡ event ∷ events_after now rest
  follows : Follows (Some event) now
  fit : AllByRecursion FieldsFit rest → AllByRecursion FieldsFit (records_of before event ++ rest)
  inner : AllByRecursion IsInner rest → AllByRecursion IsInner (records_of before event ++ rest)
  args : ArgsAnywhere rest → ArgsAnywhere (records_of before event ++ rest)

-- a whole counter, with no delta after it
whole_is : (tsc : ℕ) → tsc < 2 ^ 64 → (tsc + 0) % 2 ^ 64 ≡ tsc
whole_is tsc fits = omega arith

told_whole : (event : Event) (past rest : List Rec) → EventFits event → counter_at (Function event.kind event.func 0 ∷ NewCpu event.cpu event.tsc ∷ past) ≡ event.tsc
told_whole event past rest fits = whole_is event.tsc fits.tsc

reach : (before tsc : ℕ) → is_out_of_reach before tsc ≡ false → (before ≤ tsc) × (tsc ≤ before + (2 ^ 32 - 1))
reach before tsc is = by_first (ltb tsc before) refl is
  where
    by_first : (b : Bool) → ltb tsc before ≡ b → (b || ltb (before + (2 ^ 32 - 1)) tsc) ≡ false → (before ≤ tsc) × (tsc ≤ before + (2 ^ 32 - 1))
    by_first true e h = absurd cc
    by_first false e h = (ltb-false tsc before e, ltb-false (before + (2 ^ 32 - 1)) tsc h)

counter_on : (whole sum before tsc : ℕ) → (whole + sum) % 2 ^ 64 ≡ before → before ≤ tsc → tsc < 2 ^ 64 → (whole + (tsc - before + sum)) % 2 ^ 64 ≡ tsc
counter_on whole sum before tsc is le fits = omega arith

tells_new : (before : Option Event) (event : Event) (past rest : List Rec) → EventFits event → records_of before event ≡ NewCpu event.cpu event.tsc ∷ function_records event 0 → Tells before event past rest
tells_new before event past rest fits is =
    let one = tells_last event.kind event.func 0 event.cpu event.tsc event.arg (NewCpu event.cpu event.tsc ∷ past) rest fits.func (lit< tt) fits.arg fits.logged refl (told_whole event past rest fits) in
    record {
      now = one.now;
      told = ap (λ (x : List Rec). events_after past (x ++ rest)) is ∙ one.told;
      follows = one.follows;
      fit = λ h. subst (λ (x : List Rec). AllByRecursion FieldsFit (x ++ rest)) (sym is) ((fits.cpu, fits.tsc), one.fit h);
      inner = λ h. subst (λ (x : List Rec). AllByRecursion IsInner (x ++ rest)) (sym is) (refl, one.inner h);
      args = λ h takes. subst (λ (x : List Rec). ArgsFollow takes (x ++ rest)) (sym is) (refl, one.args h false);
    }

tells_wrap : (b : Event) (event : Event) (past rest : List Rec) → EventFits event → Follows (Some b) past → b.cpu ≡ event.cpu → records_of (Some b) event ≡ TscWrap event.tsc ∷ function_records event 0
    → Tells (Some b) event past rest
tells_wrap b event past rest fits follows same is =
    let one = tells_last event.kind event.func 0 event.cpu event.tsc event.arg (TscWrap event.tsc ∷ past) rest fits.func (lit< tt) fits.arg fits.logged (follows.0 ∙ same) (whole_is event.tsc fits.tsc) in
    record {
      now = one.now;
      told = ap (λ (x : List Rec). events_after past (x ++ rest)) is ∙ one.told;
      follows = one.follows;
      fit = λ h. subst (λ (x : List Rec). AllByRecursion FieldsFit (x ++ rest)) (sym is) (fits.tsc, one.fit h);
      inner = λ h. subst (λ (x : List Rec). AllByRecursion IsInner (x ++ rest)) (sym is) (refl, one.inner h);
      args = λ h takes. subst (λ (x : List Rec). ArgsFollow takes (x ++ rest)) (sym is) (refl, one.args h false);
    }

tells_delta : (b : Event) (event : Event) (past rest : List Rec) → EventFits event → Follows (Some b) past → b.cpu ≡ event.cpu → (b.tsc ≤ event.tsc) × (event.tsc ≤ b.tsc + (2 ^ 32 - 1))
    → records_of (Some b) event ≡ function_records event (event.tsc - b.tsc) → Tells (Some b) event past rest
tells_delta b event past rest fits follows same near is =
    let delta = event.tsc - b.tsc in
    let counter : counter_at (Function event.kind event.func delta ∷ past) ≡ event.tsc = ap (λ (s : ℕ). (whole_counter past + s) % 2 ^ 64) (sum_by-cons (λ x. x) delta (deltas_since past)) ∙ counter_on (whole_counter past) (sum (deltas_since past)) b.tsc event.tsc follows.1 near.0 fits.tsc in
    let one = tells_last event.kind event.func delta event.cpu event.tsc event.arg past rest fits.func (omega (arith, near.1)) fits.arg fits.logged (follows.0 ∙ same) counter in
    record {
      now = one.now;
      told = ap (λ (x : List Rec). events_after past (x ++ rest)) is ∙ one.told;
      follows = one.follows;
      fit = λ h. subst (λ (x : List Rec). AllByRecursion FieldsFit (x ++ rest)) (sym is) (one.fit h);
      inner = λ h. subst (λ (x : List Rec). AllByRecursion IsInner (x ++ rest)) (sym is) (one.inner h);
      args = λ h takes. subst (λ (x : List Rec). ArgsFollow takes (x ++ rest)) (sym is) (one.args h takes);
    }

tells : (before : Option Event) (event : Event) (past rest : List Rec) → EventFits event → Follows before past → Tells before event past rest
tells None event past rest fits follows = tells_new None event past rest fits refl
tells (Some b) event past rest fits follows =
    elim (eqb_tells b.cpu event.cpu) [
      | inr other ↦ tells_new (Some b) event past rest fits (rw other.0 refl)
      | inl same ↦ elim (cases_Bool (is_out_of_reach b.tsc event.tsc)) [
        | inl far ↦ tells_wrap b event past rest fits follows same.1 (rw (same.0, far) refl)
        | inr near ↦ tells_delta b event past rest fits follows same.1 (reach b.tsc event.tsc near) (rw (same.0, near) refl)
      ]
    ]

record TellAll (before : Option Event) (events : List Event) (past : List Rec) : Type 0 where
  told : events_after past (records_after before events) ≡ events
  fit : AllByRecursion FieldsFit (records_after before events)
  inner : AllByRecursion IsInner (records_after before events)
  args : ArgsAnywhere (records_after before events)

tell_all : (before : Option Event) (events : List Event) (past : List Rec) → AllByRecursion EventFits events → Follows before past → TellAll before events past
tell_all before [] past fit follows = record { told = refl; fit = tt; inner = tt; args = λ takes. tt }
tell_all before (event ∷ events) past (here, rest) follows =
    let one = tells before event past (records_after (Some event) events) here follows in
    let others = tell_all (Some event) events one.now rest one.follows in
    record {
      told = one.told ∙ ap (λ (x : List Event). event ∷ x) others.told;
      fit = one.fit others.fit;
      inner = one.inner others.inner;
      args = one.args others.args;
    }

-- ---- blocks

based : (events : List Event) → BeginWithCpu (records_after None events)
based [] = tt
based (event ∷ events) = refl

body_spelled : (b : Filled) → b.begun ≡ true → bytes_of (block_records Three (block_told b) (records_after None b.events)) ≡ used_bytes b
body_spelled b begun =
    rw begun (flat_map-append record_bytes (NewBuffer b.thread ∷ WallTime b.wall ∷ Pid b.pid ∷ []) (records_after None b.events))

block_is : (b : Filled) → BlockFits b → IsBlock Three (block_bytes b) (block_told b)
block_is b block =
    let fits = block.fits in
    let records = records_after None b.events in
    let all = tell_all None b.events (Pid b.pid ∷ WallTime b.wall ∷ NewBuffer b.thread ∷ []) (recursion_from_All EventFits b.events fits.events) tt in
    record {
      extents = record_bytes (Extents (length (used_bytes b)));
      body = used_bytes b;
      parts = refl;
      named = spells_own (Extents (length (used_bytes b)));
      few = omega (arith, fits.within, fits.most);
      records = records;
      spelled = subst (AreSpelled (block_records Three (block_told b) records)) (body_spelled b block.begun) (spelled_own (block_records Three (block_told b) records) (fits.preamble.thread, ((fits.preamble.secs, fits.preamble.micros), (fits.preamble.pid, all.fit))));
      inner = all.inner;
      based = based b.events;
      args = all.args false;
      told = ap (λ (events : List Event). let made : Block = record { thread = b.thread; wall = b.wall; pid = b.pid; events = events } in made) (sym all.told);
    }

blocks_are : (buffers : List Filled) → AllByRecursion BlockFits buffers → AreBlocks Three (map block_told buffers) (flat_map block_bytes buffers)
blocks_are [] fit = refl
blocks_are (b ∷ buffers) (here, rest) = (block_bytes b, flat_map block_bytes buffers, flat_map-cons block_bytes b buffers, block_is b here, blocks_are buffers rest)

-- ---- headers

constant_is : (c n : Bool) → c ≡ eqb ((cond c 1 0 + cond n 2 0) % 2) 1
constant_is true true = refl
constant_is true false = refl
constant_is false true = refl
constant_is false false = refl

nonstop_is : (c n : Bool) → n ≡ eqb ((cond c 1 0 + cond n 2 0) / 2 % 2) 1
nonstop_is true true = refl
nonstop_is true false = refl
nonstop_is false true = refl
nonstop_is false false = refl

flags_few : (c n : Bool) → cond c 1 0 + cond n 2 0 < 2 ^ 32
flags_few true true = lit< tt
flags_few true false = lit< tt
flags_few false true = lit< tt
flags_few false false = lit< tt

header_is : (header : Header) → HeaderFits header → IsHeader Three (header_bytes header) header
header_is header fits = record {
  flags = flags_of header;
  reserved = replicate 8 0;
  spelled = refl;
  accepted = ap version_of fits.version;
  constant = constant_is header.constant header.nonstop;
  nonstop = nonstop_is header.constant header.nonstop;
  flags_fit = flags_few header.constant header.nonstop;
  frequency_fits = fits.frequency;
  size_fits = fits.size;
  whole = refl;
}

pub file_is_trace : (header : Header) (buffers : List Filled) → HeaderFits header → All BlockFits buffers → IsTrace (file_bytes header buffers) (trace_told header buffers)
file_is_trace header buffers header_fits fit = record {
  version = Three;
  front = header_bytes header;
  following = flat_map block_bytes buffers;
  parts = refl;
  header = header_is header header_fits;
  blocks = blocks_are buffers (recursion_from_All BlockFits buffers fit);
}
