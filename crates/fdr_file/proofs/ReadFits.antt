-- The fields of a trace that was read fit the records that say them.
use Rattle.std.proofs.Common.{◌≡◌, ℕ, ◌+◌, ◌<◌, ◌^◌, List, [], ◌∷◌, All, sum, Ok, refl, subst, sym, lit<}
use Rattle.std.specs.List.{filter_map, AllByRecursion}
use Rattle.std.proofs.lemmas.List.Elements.{All-cons, All-nil}
use Rattle.std.proofs.Math.Nat.{mod-lt}
use Rattle.xray_io.specs.declared.wall.Wall.{Wall}
use Rattle.fdr_record.specs.declared.event.Kind.{Kind}
use Rattle.fdr_record.specs.declared.event.Kind.TheVariants.{Entry, Exit, TailExit, EntryArgs}
use Rattle.fdr_record.specs.declared.rec.Rec.{Rec}
use Rattle.fdr_record.specs.declared.rec.Rec.TheVariants.{NewBuffer, NewCpu, TscWrap, WallTime, Pid, CallArg, Extents, Function}
use Rattle.fdr_record.specs.Recordable.{ArgFits}
use Rattle.fdr_record.specs.Records.{FieldsFit}
use Rattle.fdr_buffer.specs.Segments.{EventFits}
use Rattle.fdr_file.specs.declared.trace.Block.{Block}
use Rattle.fdr_file.specs.declared.trace.Trace.{Trace}
use Rattle.fdr_file.specs.declared.version.Version.{Version}
use Rattle.fdr_file.specs.Events.{arg_of, arg_said, counter_at, cpu_of, deltas_since, events_after, whole_counter}
use Rattle.fdr_file.specs.FieldRanges.{BlockFieldsFit, TraceFieldsFit}
use Rattle.fdr_file.specs.Grammar.{AreBlocks, AreSpelled, IsBlock, IsTrace, block_records}
use Rattle.fdr_file.specs.Traces.{block_of, first_or, pid_named, thread_named, trace_of, wall_named}
use Rattle.fdr_file.proofs.GrammarIsRead.{version_fits}
use Rattle.fdr_file.proofs.ReadIsGrammar.{AreBytes, Decodes, trace_described}

abbrev AllFit : List Rec → Type 0
AllFit records = AllByRecursion FieldsFit records

-- records that are spelled fit
spelled_fit : (records : List Rec) (bytes : List ℕ) → AreSpelled records bytes → AllFit records
spelled_fit [] bytes is = tt
spelled_fit (r ∷ records) bytes (front, following, parts, fits, spells, rest) = (fits, spelled_fit records following rest)

-- ---- events

cpu_fits : (before : List Rec) → AllFit before → cpu_of before < 2 ^ 16
cpu_fits [] fit = lit< tt
cpu_fits (NewCpu cpu tsc ∷ before) (fits, fit) = fits.0
cpu_fits (TscWrap tsc ∷ before) (fits, fit) = cpu_fits before fit
cpu_fits (Function kind func delta ∷ before) (fits, fit) = cpu_fits before fit
cpu_fits (NewBuffer thread ∷ before) (fits, fit) = cpu_fits before fit
cpu_fits (WallTime wall ∷ before) (fits, fit) = cpu_fits before fit
cpu_fits (Pid pid ∷ before) (fits, fit) = cpu_fits before fit
cpu_fits (CallArg value ∷ before) (fits, fit) = cpu_fits before fit
cpu_fits (Extents size ∷ before) (fits, fit) = cpu_fits before fit

said_fits : (records : List Rec) → AllFit records → arg_said records < 2 ^ 64
said_fits [] fit = lit< tt
said_fits (CallArg value ∷ records) (fits, fit) = fits
said_fits (NewCpu cpu tsc ∷ records) fit = lit< tt
said_fits (TscWrap tsc ∷ records) fit = lit< tt
said_fits (Function kind func delta ∷ records) fit = lit< tt
said_fits (NewBuffer thread ∷ records) fit = lit< tt
said_fits (WallTime wall ∷ records) fit = lit< tt
said_fits (Pid pid ∷ records) fit = lit< tt
said_fits (Extents size ∷ records) fit = lit< tt

arg_fits : (kind : Kind) (records : List Rec) → AllFit records → arg_of kind records < 2 ^ 64
arg_fits Entry records fit = lit< tt
arg_fits Exit records fit = lit< tt
arg_fits TailExit records fit = lit< tt
arg_fits EntryArgs records fit = said_fits records fit

arg_logged : (kind : Kind) (records : List Rec) → ArgFits kind (arg_of kind records)
arg_logged Entry records = refl
arg_logged Exit records = refl
arg_logged TailExit records = refl
arg_logged EntryArgs records = tt

counter_fits : (before : List Rec) → counter_at before < 2 ^ 64
counter_fits before = mod-lt (whole_counter before + sum (deltas_since before)) (lit< tt)

events_fit : (before records : List Rec) → AllFit before → AllFit records → All EventFits (events_after before records)
events_fit before [] earlier fit = All-nil EventFits
events_fit before (Function kind func delta ∷ records) earlier (fits, fit) =
    let r : Rec = Function kind func delta in
    All-cons EventFits _ _
    (record {
      cpu = cpu_fits before earlier;
      func = fits.0;
      tsc = counter_fits (r ∷ before);
      arg = arg_fits kind records fit;
      logged = arg_logged kind records;
    })
    (events_fit (r ∷ before) records (fits, earlier) fit)
events_fit before (NewCpu cpu tsc ∷ records) earlier (fits, fit) = events_fit (NewCpu cpu tsc ∷ before) records (fits, earlier) fit
events_fit before (TscWrap tsc ∷ records) earlier (fits, fit) = events_fit (TscWrap tsc ∷ before) records (fits, earlier) fit
events_fit before (NewBuffer thread ∷ records) earlier (fits, fit) = events_fit (NewBuffer thread ∷ before) records (fits, earlier) fit
events_fit before (WallTime wall ∷ records) earlier (fits, fit) = events_fit (WallTime wall ∷ before) records (fits, earlier) fit
events_fit before (Pid pid ∷ records) earlier (fits, fit) = events_fit (Pid pid ∷ before) records (fits, earlier) fit
events_fit before (CallArg value ∷ records) earlier (fits, fit) = events_fit (CallArg value ∷ before) records (fits, earlier) fit
events_fit before (Extents size ∷ records) earlier (fits, fit) = events_fit (Extents size ∷ before) records (fits, earlier) fit

-- ---- blocks

thread_fits : (records : List Rec) → AllFit records → first_or 0 (filter_map thread_named records) < 2 ^ 32
thread_fits [] fit = lit< tt
thread_fits (NewBuffer thread ∷ records) (fits, fit) = fits
thread_fits (NewCpu cpu tsc ∷ records) (fits, fit) = thread_fits records fit
thread_fits (TscWrap tsc ∷ records) (fits, fit) = thread_fits records fit
thread_fits (Function kind func delta ∷ records) (fits, fit) = thread_fits records fit
thread_fits (WallTime wall ∷ records) (fits, fit) = thread_fits records fit
thread_fits (Pid pid ∷ records) (fits, fit) = thread_fits records fit
thread_fits (CallArg value ∷ records) (fits, fit) = thread_fits records fit
thread_fits (Extents size ∷ records) (fits, fit) = thread_fits records fit

pid_fits : (records : List Rec) → AllFit records → first_or 0 (filter_map pid_named records) < 2 ^ 32
pid_fits [] fit = lit< tt
pid_fits (Pid pid ∷ records) (fits, fit) = fits
pid_fits (NewCpu cpu tsc ∷ records) (fits, fit) = pid_fits records fit
pid_fits (TscWrap tsc ∷ records) (fits, fit) = pid_fits records fit
pid_fits (Function kind func delta ∷ records) (fits, fit) = pid_fits records fit
pid_fits (NewBuffer thread ∷ records) (fits, fit) = pid_fits records fit
pid_fits (WallTime wall ∷ records) (fits, fit) = pid_fits records fit
pid_fits (CallArg value ∷ records) (fits, fit) = pid_fits records fit
pid_fits (Extents size ∷ records) (fits, fit) = pid_fits records fit

abbrev WallFits : Wall → Type 0
WallFits wall = (wall.secs < 2 ^ 64) × (wall.micros < 2 ^ 32)

wall_fits : (records : List Rec) → AllFit records → WallFits (first_or (record { secs = 0; micros = 0 }) (filter_map wall_named records))
wall_fits [] fit = (lit< tt, lit< tt)
wall_fits (WallTime wall ∷ records) (fits, fit) = fits
wall_fits (NewCpu cpu tsc ∷ records) (fits, fit) = wall_fits records fit
wall_fits (TscWrap tsc ∷ records) (fits, fit) = wall_fits records fit
wall_fits (Function kind func delta ∷ records) (fits, fit) = wall_fits records fit
wall_fits (NewBuffer thread ∷ records) (fits, fit) = wall_fits records fit
wall_fits (Pid pid ∷ records) (fits, fit) = wall_fits records fit
wall_fits (CallArg value ∷ records) (fits, fit) = wall_fits records fit
wall_fits (Extents size ∷ records) (fits, fit) = wall_fits records fit

-- the block that records say
said_block_fits : (records : List Rec) → AllFit records → BlockFieldsFit (block_of records)
said_block_fits records fit = record {
  thread = thread_fits records fit;
  secs = (wall_fits records fit).0;
  micros = (wall_fits records fit).1;
  pid = pid_fits records fit;
  events = events_fit [] records tt fit;
}

block_fits : (version : Version) (bytes : List ℕ) (block : Block) → IsBlock version bytes block → BlockFieldsFit block
block_fits version bytes block is =
    let records = block_records version block is.records in
    subst BlockFieldsFit (sym is.told) (said_block_fits records (spelled_fit records is.body is.spelled))

blocks_fit : (version : Version) (blocks : List Block) (bytes : List ℕ) → AreBlocks version blocks bytes → All BlockFieldsFit blocks
blocks_fit version [] bytes are = All-nil BlockFieldsFit
blocks_fit version (block ∷ blocks) bytes (front, following, parts, is, rest) =
    All-cons BlockFieldsFit block blocks (block_fits version front block is) (blocks_fit version blocks following rest)

-- ---- traces

pub trace_fits : (bytes : List ℕ) (trace : Trace) → IsTrace bytes trace → TraceFieldsFit trace
trace_fits bytes trace is = record {
  version = version_fits trace.header.version is.version is.header.accepted;
  frequency = is.header.frequency_fits;
  size = is.header.size_fits;
  blocks = blocks_fit is.version trace.blocks is.following is.blocks;
}

pub read_fits : Decodes → (bytes : List ℕ) (trace : Trace) → AreBytes bytes → trace_of bytes ≡ Ok trace → TraceFieldsFit trace
read_fits decodes bytes trace all is = trace_fits bytes trace (trace_described decodes bytes trace all is)
