-- A trace has at most as many events as bytes.
use Rattle.std.proofs.Common.{◌≡◌, ℕ, zero, suc, ◌+◌, ◌-◌, ◌≤◌, ◌∙◌, ◌++◌, Bool, true, false, List, [], ◌∷◌, length, take, drop, refl, arith, ap}
use Rattle.std.specs.Prelude.{◌==◌, not, nat_lt, Option, Some, None, Result, Ok, Err}
use Rattle.std.proofs.lemmas.List.{length-append, length-drop, length-map, length-take}
use Rattle.std.proofs.lemmas.List.Concat.{flat_map-append}
use Rattle.xray_io.specs.Rows.{First, InTurn, NeedsPart, ◌>>=◌}
use Rattle.fdr_record.specs.declared.event.Event.{Event}
use Rattle.fdr_record.specs.declared.rec.Rec.{Rec}
use Rattle.fdr_record.specs.declared.rec.Rec.TheVariants.{NewBuffer, NewCpu, TscWrap, WallTime, Pid, CallArg, Extents, Function}
use Rattle.fdr_record.specs.declared.fault.RecFault.{RecFault}
use Rattle.fdr_file.specs.declared.fault.TraceFault.{TraceFault}
use Rattle.fdr_file.specs.declared.fault.TraceFault.TheVariants as faults
use Rattle.fdr_file.specs.declared.trace.Block.{Block}
use Rattle.fdr_file.specs.declared.trace.Trace.{Trace}
use Rattle.fdr_file.specs.declared.version.Version.{Version}
use Rattle.fdr_file.specs.Events.{events_after}
use Rattle.fdr_file.specs.Places.{starts}
use Rattle.fdr_file.specs.ThreadEvents.{ThreadEvent, block_events, thread_events}
use Rattle.fdr_file.specs.Traces.{Standing, block_in, block_length, block_rows, block_standings, block_starts, extents_in, extents_rows, header_in, preamble_bytes, record_in, record_length, record_rows, records_among, size_named, standing_at, trace_of, type_in, version_in, version_of}

-- ---- the events of a block

-- there is at most one for each record
events_few : (before records : List Rec) → length (events_after before records) ≤ length records
events_few before [] = omega arith
events_few before (NewBuffer thread ∷ records) = omega (arith, events_few (NewBuffer thread ∷ before) records)
events_few before (NewCpu cpu tsc ∷ records) = omega (arith, events_few (NewCpu cpu tsc ∷ before) records)
events_few before (TscWrap tsc ∷ records) = omega (arith, events_few (TscWrap tsc ∷ before) records)
events_few before (WallTime wall ∷ records) = omega (arith, events_few (WallTime wall ∷ before) records)
events_few before (Pid pid ∷ records) = omega (arith, events_few (Pid pid ∷ before) records)
events_few before (CallArg value ∷ records) = omega (arith, events_few (CallArg value ∷ before) records)
events_few before (Extents size ∷ records) = omega (arith, events_few (Extents size ∷ before) records)
events_few before (Function kind func delta ∷ records) = omega (arith, events_few (Function kind func delta ∷ before) records)

records_few : (standings : List Standing) → length (records_among standings) ≤ length standings
records_few [] = omega arith
records_few ((at, Ok r) ∷ following) = omega (arith, records_few following)
records_few ((at, Err fault) ∷ following) = omega (arith, records_few following)

-- each part has a byte of its own
starts_few : (len : List ℕ → ℕ) (left at : ℕ) (bytes : List ℕ) → length (starts len left at bytes) ≤ length bytes
unfolding starts
starts_few len left at [] = omega arith
starts_few len (suc left) at (byte ∷ bytes) = omega (arith, starts_few len left (at + 1) bytes)
starts_few len zero at (byte ∷ bytes) = omega (arith, starts_few len (len (byte ∷ bytes) - 1) (at + 1) bytes)

-- how many bytes of records the block has that bytes begin with
abbrev records_length : List ℕ → ℕ
records_length bytes = length (take (extents_in bytes) (drop 16 bytes))

block_few : (at : ℕ) (bytes : List ℕ) → length (block_in (at, bytes)).events ≤ records_length bytes
block_few at bytes =
    let records = take (extents_in bytes) (drop 16 bytes) in
    let places = starts record_length 0 (at + 16) records in
    omega (
      arith,
      events_few [] (records_among (block_standings (at, bytes))),
      records_few (block_standings (at, bytes)),
      length-map places standing_at,
      starts_few record_length 0 (at + 16) records,
    )

-- ---- the bytes of blocks

abbrev lengths : List (ℕ × List ℕ) → ℕ
lengths [] = 0
lengths ((at, bytes) ∷ later) = records_length bytes + lengths later

lengths_few : (left at : ℕ) (bytes : List ℕ) → lengths (starts block_length left at bytes) ≤ length bytes - left
unfolding starts
lengths_few left at [] = omega arith
lengths_few (suc left) at (byte ∷ bytes) = omega (arith, lengths_few left (at + 1) bytes)
lengths_few zero at (byte ∷ bytes) =
    let all = byte ∷ bytes in
    omega (
      arith,
      lengths_few (block_length all - 1) (at + 1) bytes,
      length-take (extents_in all) (drop 16 all),
      length-drop 16 all,
    )

-- ---- rows that leave it to what follows

first_ok : {A F : Type 0} (b : Bool) (fault : F) (follows : Result A F) (x : A) → First b (Err fault) follows ≡ Ok x → follows ≡ Ok x
first_ok true fault follows x is = absurd cc
first_ok false fault follows x is = is

part_ok : {A P F : Type 0} (o : Option P) (fault : F) (follows : P → Result A F) (x : A) → NeedsPart o (Err fault) follows ≡ Ok x
    → (p : P) × (follows p ≡ Ok x)
part_ok None fault follows x is = absurd cc
part_ok (Some p) fault follows x is = (p, is)

pub then_ok : {A B F : Type 0} (r : Result A F) (f : A → Result B F) (x : B) → (r >>= f) ≡ Ok x → (a : A) × (r ≡ Ok a) × (f a ≡ Ok x)
then_ok (Ok a) f x is = (a, refl, is)
then_ok (Err fault) f x is = absurd cc

pub ok_same : {A F : Type 0} (a x : A) → (let r : Result A F = Ok a in let s : Result A F = Ok x in r ≡ s) → a ≡ x
ok_same a x is = cc

-- ---- the blocks of a trace

-- how many events blocks have
abbrev count : List Block → ℕ
count blocks = length (thread_events blocks)

count_more : (before : List Block) (block : Block) → count (before ++ block ∷ []) ≡ count before + length block.events
count_more before block =
    omega (
      arith,
      ap length (flat_map-append block_events before (block ∷ [])),
      length-append (thread_events before) (thread_events (block ∷ [])),
      length-append (block_events block) [],
      length-map block.events (λ (event : Event). let e : ThreadEvent = record { thread = block.thread; pid = block.pid; event = event } in e),
    )

block_read : (version : Version) (at : ℕ) (bytes : List ℕ) (found : Result Rec RecFault) (block : Block)
    → extents_rows version (at, bytes) found ≡ Ok block → block_in (at, bytes) ≡ block
block_read version at bytes (Ok r) block is =
    let records = InTurn (record_rows version) [] (block_standings (at, bytes)) in
    let made : List Rec → Result Block TraceFault = λ read. Ok (block_in (at, bytes)) in
    let sized : ℕ → Result Block TraceFault =
    λ size. First (nat_lt size (preamble_bytes version)) (Err (faults.Extents at)) (First (nat_lt (length bytes) (16 + size)) (Err (faults.Short at)) (records >>= made)) in
    let named = part_ok (size_named r) (faults.Order at) sized block is in
    let large = first_ok (nat_lt named.0 (preamble_bytes version)) (faults.Extents at) (First (nat_lt (length bytes) (16 + named.0)) (Err (faults.Short at)) (records >>= made)) block named.1 in
    let whole = first_ok (nat_lt (length bytes) (16 + named.0)) (faults.Short at) (records >>= made) block large in
    let read = then_ok records made block whole in
    ok_same {F = TraceFault} (block_in (at, bytes)) block read.2
block_read version at bytes (Err fault) block is = absurd cc

blocks_read : (version : Version) (before : List Block) (at : ℕ) (bytes : List ℕ) (after : List Block)
    → block_rows version before (at, bytes) ≡ Ok after → before ++ block_in (at, bytes) ∷ [] ≡ after
blocks_read version before at bytes after is =
    let found = extents_rows version (at, bytes) (record_in bytes) in
    let longer : Block → Result (List Block) TraceFault = λ block. Ok (before ++ block ∷ []) in
    let read = then_ok found longer after (first_ok (nat_lt (length bytes) 16) (faults.Short at) (found >>= longer) after is) in
    ap (λ (block : Block). before ++ block ∷ []) (block_read version at bytes (record_in bytes) read.0 read.1)
    ∙ ok_same {F = TraceFault} (before ++ read.0 ∷ []) after read.2

rows_few : (version : Version) (before : List Block) (places : List (ℕ × List ℕ)) (blocks : List Block)
    → InTurn (block_rows version) before places ≡ Ok blocks → count blocks ≤ count before + lengths places
rows_few version before [] blocks is =
    let same : before ≡ blocks = ok_same {F = TraceFault} before blocks is in omega (arith, ap count same)
rows_few version before ((at, bytes) ∷ later) blocks is =
    let following : List Block → Result (List Block) TraceFault = λ after. InTurn (block_rows version) after later in
    let read = then_ok (block_rows version before (at, bytes)) following blocks is in
    omega (
      arith,
      rows_few version read.0 later blocks read.2,
      ap count (blocks_read version before at bytes read.0 read.1),
      count_more before (block_in (at, bytes)),
      block_few at bytes,
    )

pub few_events : (bytes : List ℕ) (trace : Trace) → trace_of bytes ≡ Ok trace → length (thread_events trace.blocks) ≤ length bytes
few_events bytes trace is =
    let made : List Block → Result Trace TraceFault = λ blocks. Ok (record { header = header_in bytes; blocks = blocks }) in
    let body : Version → Result Trace TraceFault = λ version. InTurn (block_rows version) [] (block_starts bytes) >>= made in
    let form = not (type_in bytes == 1) in
    let typed : Version → Result Trace TraceFault = λ version. First form (Err (faults.Form (type_in bytes))) (body version) in
    let number = version_in bytes in
    let whole = first_ok (nat_lt (length bytes) 32) (faults.Short 0) (NeedsPart (version_of number) (Err (faults.Version number)) typed) trace is in
    let named = part_ok (version_of number) (faults.Version number) typed trace whole in
    let read = then_ok (InTurn (block_rows named.0) [] (block_starts bytes)) made trace (first_ok form (faults.Form (type_in bytes)) (body named.0) trace named.1) in
    let back : Trace = record { header = header_in bytes; blocks = read.0 } in
    omega (
      arith,
      rows_few named.0 [] (block_starts bytes) read.0 read.1,
      lengths_few 0 32 (drop 32 bytes),
      length-drop 32 bytes,
      ap (λ (t : Trace). count t.blocks) (ok_same {F = TraceFault} back trace read.2),
    )
