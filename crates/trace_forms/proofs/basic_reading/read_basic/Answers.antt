use Rattle.std.proofs.Common.{◌++◌, ◌∙◌, [], ◌∷◌, List, Result, Ok, ap, inr, refl, sym}
use Rattle.std.proofs.lemmas.List.{take_rest}
use Rattle.std.proofs.lemmas.Result.{err_from_is_err_and}
use Rattle.fdr_file.specs.declared.trace.Block.{Block}
use Rattle.fdr_file.specs.declared.trace.Trace.{Trace}
use Rattle.fdr_file.specs.ThreadEvents.{ThreadEvent, thread_events}
use Rattle.trace_forms.specs.declared.basic.BasicFault.{BasicFault}
use Rattle.trace_forms.specs.BasicLogs.{wide_cpu}
use Rattle.trace_forms.proofs.Logs.{log_ends, log_more, log_opened, log_refused, log_stops}
use Rattle.trace_forms.proofs.RunLaws.{runs_are}
use Rattle.trace_forms.proofs.Wide.{narrow_more}
use Rattle.trace_forms.proofs.basic_reading.read_basic.Goals as goal

pub returns-in_err-header-clause-reads : goal.returns-in_err-header-clause-reads
returns-in_err-header-clause-reads c =
    let p = err_from_is_err_and c.from_residual.result c.from_residual.ensures.1 in
    rw (p.1, p.2) (inr (sym (log_refused c.args.bytes.now _ (sym c.in_err-header.ensures))))

pub reading-init : goal.reading-init
reading-init c = ([], c.new-runs.ensures, log_opened c.args.bytes.now c.in_ok-header.header (sym c.in_ok-header.ensures), refl)

pub returns-in_err-thread-clause-reads : goal.returns-in_err-thread-clause-reads
returns-in_err-thread-clause-reads c =
    let p = err_from_is_err_and c.from_residual-in_err-thread.result c.from_residual-in_err-thread.ensures.1 in
    rw (p.1, p.2) (inr (sym (c.reading.invariant.2
    ∙ log_stops c.in_ok-header.header c.reading.invariant.0 c.reading.at c.args.bytes.now _ _ c.reading-test.true (take_rest c.args.bytes.now c.reading.at) (sym c.in_err-thread.ensures.reads))))

pub reading-preserved : goal.reading-preserved
reading-preserved c =
    let events = c.reading.invariant.0 in
    let e : ThreadEvent = record { thread = c.in_ok-thread.thread; pid = c.in_ok-thread.pid; event = c.in_ok-thread.event } in (
      events ++ e ∷ [],
      c.in_ok-add.ensures events c.reading.invariant.1,
      c.reading.invariant.2
          ∙ log_more c.in_ok-header.header events c.reading.at c.args.bytes.now _ (e.thread, e.pid, e.event) c.reading-test.true (take_rest c.args.bytes.now c.reading.at) (sym c.in_ok-thread.ensures.reads),
      narrow_more events e c.reading.invariant.3 c.in_ok-thread.ensures.narrow,
    )

pub returns-clause-reads : goal.returns-clause-reads
returns-clause-reads c =
    inr (sym (c.reading.invariant.2
    ∙ (log_ends c.in_ok-header.header c.reading.invariant.0 c.reading.at c.args.bytes.now c.reading-test.false
    ∙ ap (λ (all : List Block). let made : Result Trace BasicFault = Ok (record { header = c.in_ok-header.header; blocks = all }) in made)
    (sym (c.new-blocks.ensures ∙ c.in_ok-finish.ensures c.reading.invariant.0 c.reading.invariant.1)))))

pub returns-clause-narrow : goal.returns-clause-narrow
returns-clause-narrow c =
    let events = c.reading.invariant.0 in
    ap (λ (all : List Block). wide_cpu (thread_events all)) (c.new-blocks.ensures ∙ c.in_ok-finish.ensures events c.reading.invariant.1)
    ∙ (ap wide_cpu (runs_are events).events ∙ c.reading.invariant.3)
