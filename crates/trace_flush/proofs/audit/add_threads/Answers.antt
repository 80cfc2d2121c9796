use Rattle.std.proofs.Common.{◌≡◌, ◌+◌, ◌++◌, [], ◌∷◌, List, ℕ, Ok, length, take, drop, subst, ap, sym, ◌∙◌, length-append}
use Rattle.std.specs.List.{flat_map}
use Rattle.std.specs.Slice.Iter.{iter_rest}
use Rattle.std.specs.Iterator.Adapters.{zip_first, zip_second}
use Rattle.std.specs.declared.iter.Zip.{Zip}
use Rattle.std.specs.declared.slice.Iter.{Iter}
use Rattle.machine_step.specs.Traced.{Traced}
use Rattle.trace_flush.specs.declared.line.AuditLine.{AuditLine}
use Rattle.std.proofs.lemmas.Slice.Zip.{zip_end}
use Rattle.xray_io.specs.Text.{AddsText, adds_nothing, adds_more, adds_within, adds_failed}
use Rattle.trace_flush.specs.Audit.{thread_audits}
use Rattle.trace_flush.specs.private.Parts.{said_of}
use Rattle.trace_flush.proofs.AuditText.{accounts_turn, accounts_split, accounts_all}
use Rattle.trace_flush.proofs.audit.add_threads.Goals as goal

-- the loop begins with all lines and all threads
begins : {lines : List AuditLine} {threads : List Traced} {first : Iter AuditLine} {second : Iter Traced} {pairs given : Zip (Iter AuditLine) (Iter Traced)}
    → iter_rest first ≡ lines → iter_rest second ≡ threads → zip_first pairs ≡ first → zip_second pairs ≡ second → given ≡ pairs
    → (iter_rest (zip_first given) ≡ lines) × (iter_rest (zip_second given) ≡ threads)
begins all also_all is also_is gives = (rw (gives, is) all, rw (gives, also_is) also_all)

pub threads-init : goal.threads-init
threads-init g c = adds_nothing g.met.S.Sink.along_none c.args.text.now

pub threads-preserved : goal.threads-preserved
threads-preserved g c =
    let told = thread_audits c.args.lines.now c.args.cpus.now in
    let begun = begins c.iter.ensures.rest c.iter-2.ensures.rest c.zip-line-items.ensures.first c.zip-line-items.ensures.second c.into_iter-line-iterator.ensures.into_iter_gives in
    let more = accounts_turn (said_of c.args.detail) c.args.lines.now c.args.cpus.now c.into_iter-line-iterator.result c.threads.line-iterator c.next.new.self c.threads.yielded c.next.result _ _ begun.0 begun.1 c.threads.yielded_by c.in-Some.is c.next.ensures.steps in
    let next : length c.threads.yielded + 1 ≡ length (c.threads.yielded ++ (c.in-Some.line, c.in-Some.cpu) ∷ []) = sym (length-append c.threads.yielded _) in
    let added = rw c.marks.ensures at c.in_ok-add_thread.ensures in
    subst (λ t. AddsText g.S.Sink.written g.S.Sink.faults g.S.Sink.along c.args.text.now c.add_thread.new.text t (Ok tt))
    (more ∙ ap (λ (n : ℕ). flat_map (said_of c.args.detail) (take n told)) next)
    (adds_more g.met.S.Sink.along_both c.threads.invariant added)

pub returns-in_err-add_thread : goal.returns-in_err-add_thread
returns-in_err-add_thread g c =
    let begun = begins c.iter.ensures.rest c.iter-2.ensures.rest c.zip-line-items.ensures.first c.zip-line-items.ensures.second c.into_iter-line-iterator.ensures.into_iter_gives in
    let more = accounts_turn (said_of c.args.detail) c.args.lines.now c.args.cpus.now c.into_iter-line-iterator.result c.threads.line-iterator c.next.new.self c.threads.yielded c.next.result _ _ begun.0 begun.1 c.threads.yielded_by c.in-Some.is c.next.ensures.steps in
    let told = thread_audits c.args.lines.now c.args.cpus.now in
    let i = length c.threads.yielded + 1 in
    let rest = flat_map (said_of c.args.detail) (drop i told) in
    let broken = rw c.marks.ensures at c.in_err-add_thread.ensures in
    adds_failed (adds_within g.met.S.Sink.along_both rest c.threads.invariant broken
    (ap (λ (t : List ℕ). t ++ rest) more ∙ accounts_split (said_of c.args.detail) told i)) c.from_residual.result c.from_residual.ensures.1

pub returns : goal.returns
returns g c =
    let begun = begins c.iter.ensures.rest c.iter-2.ensures.rest c.zip-line-items.ensures.first c.zip-line-items.ensures.second c.into_iter-line-iterator.ensures.into_iter_gives in
    let count = zip_end c.args.lines.now c.args.cpus.now c.threads.yielded c.into_iter-line-iterator.result c.threads.line-iterator c.next.new.self c.next.result begun.0 begun.1 c.threads.yielded_by c.in-None.is c.next.ensures.steps in
    subst (λ t. AddsText g.S.Sink.written g.S.Sink.faults g.S.Sink.along c.args.text.now c.threads.text t (Ok tt))
    (accounts_all (said_of c.args.detail) c.args.lines.now c.args.cpus.now (length c.threads.yielded) c.requires count) c.threads.invariant
