-- A trace that was read fits a basic log if each of its CPUs does.
use Rattle.std.proofs.Common.{◌≡◌, ◌<◌, ◌^◌, List, [], ◌∷◌, None, All, arith}
use Rattle.std.proofs.lemmas.List.Elements.{All-append, All-cons, All-head, All-nil, All-tail}
use Rattle.fdr_record.specs.declared.event.Event.{Event}
use Rattle.fdr_file.specs.FieldRanges.{EventFits as EventFieldsFit}
use Rattle.fdr_file.specs.declared.trace.Block.{Block}
use Rattle.fdr_file.specs.declared.trace.Trace.{Trace}
use Rattle.fdr_file.specs.FieldRanges.{BlockFieldsFit, TraceFieldsFit}
use Rattle.fdr_file.specs.ThreadEvents.{ThreadEvent, block_events, thread_events}
use Rattle.trace_forms.specs.BasicLogs.{EventFits, TraceFits, wide_cpu}
use Rattle.trace_forms.proofs.Wide.{narrow_first, narrow_later}

-- an event whose fields fit those of a trace
record Said (e : ThreadEvent) : Type 0 where
  thread : e.thread < 2 ^ 32
  pid : e.pid < 2 ^ 32
  event : EventFieldsFit e.event

of_block : (block : Block) (events : List Event) → BlockFieldsFit block → All EventFieldsFit events
    → All Said (block_events (record block { events = events }))
of_block block [] fits all = All-nil Said
of_block block (event ∷ events) fits all =
    All-cons Said _ _
    (record { thread = fits.thread; pid = fits.pid; event = All-head EventFieldsFit event events all })
    (of_block block events fits (All-tail EventFieldsFit event events all))

of_blocks : (blocks : List Block) → All BlockFieldsFit blocks → All Said (thread_events blocks)
of_blocks [] fits = All-nil Said
of_blocks (block ∷ blocks) fits =
    let here = All-head BlockFieldsFit block blocks fits in
    All-append Said (block_events block) (thread_events blocks)
    (of_block block block.events here here.events)
    (of_blocks blocks (All-tail BlockFieldsFit block blocks fits))

events_fit : (events : List ThreadEvent) → All Said events → wide_cpu events ≡ None → All EventFits events
events_fit [] said narrow = All-nil EventFits
events_fit (e ∷ events) said narrow =
    let here = All-head Said e events said in
    All-cons EventFits e events
    (record {
      thread = here.thread;
      pid = here.pid;
      cpu = omega (arith, narrow_first e events narrow);
      func = omega (arith, here.event.func);
      tsc = here.event.tsc;
      arg = here.event.arg;
      logged = here.event.logged;
    })
    (events_fit events (All-tail Said e events said) (narrow_later e events narrow))

pub trace_fits : (trace : Trace) → TraceFieldsFit trace → wide_cpu (thread_events trace.blocks) ≡ None → TraceFits trace
trace_fits trace fits narrow = record {
  frequency = fits.frequency;
  events = events_fit (thread_events trace.blocks) (of_blocks trace.blocks fits.blocks) narrow;
}
