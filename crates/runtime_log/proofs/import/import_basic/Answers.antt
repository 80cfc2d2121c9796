use Rattle.std.proofs.Common.{List, ap, refl, ◌∙◌}
use Rattle.runtime_log.specs.declared.basic.Passing.{Passing}
use Rattle.runtime_log.specs.BasicLogs.{recorded_events}
use Rattle.runtime_log.specs.Facts.{facts_of}
use Rattle.runtime_log.specs.Imports.{trace_file, trace_taken}
use Rattle.runtime_log.specs.Logs.{log_of_records}
use Rattle.runtime_log.specs.private.Passings.{events_of_passings, runs_of}
use Rattle.runtime_log.proofs.ImportedBlocks.{basic_imported}
use Rattle.runtime_log.proofs.ThreadRuns.{runs_by_thread}
use Rattle.runtime_log.proofs.import.import_basic.Goals as goal

pub returns-clause-imports : goal.returns-clause-imports
returns-clause-imports c =
    let bytes = c.args.bytes.now in
    let version = c.args.version in
    let read = c.in_ok-passings.ensures.reads in
    let passings = c.in_ok-passings.passings.items in
    let threads = runs_of (events_of_passings version bytes passings) in
    let header = c.trace_header-header.result in
    let log = log_of_records header read.0 in
    let packed = c.in_ok-packing.ensures.packs log refl (c.log_facts.ensures.log log (record { custom = refl; typed = refl; lost = read.3; cut = refl; frequency = refl }) (record { doubled = refl; empty = refl })) in
    let made = c.in_ok-pack_runs.ensures log packed in
    let same = c.deref.ensures.value in
    basic_imported version bytes read.0 threads header _ _ c.requires.mode read.1 (runs_by_thread (recorded_events read.0) (events_of_passings version bytes passings) read.2.same read.2.rise) c.trace_header-header.ensures
    (made.0 ∙ ap (λ (ps : List Passing). trace_file (trace_taken header (runs_of (events_of_passings version bytes ps)))) same)
    (made.1 ∙ ap (λ (ps : List Passing). facts_of log (runs_of (events_of_passings version bytes ps))) same)
