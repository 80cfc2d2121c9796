use Rattle.std.proofs.Common.{◌≡◌, ◌+◌, ◌∷◌, ◌++◌, [], inl, inr, ℕ, List, Some, Vec, Global, length, map, refl, rules, sym, ap, subst, ◌∙◌, arith}
use Rattle.std.specs.Prelude.{Err, Ok, Result, slice_get}
use Rattle.std.specs.Result.{IsErrAnd}
use Rattle.std.proofs.lemmas.List.{map-append}
use Rattle.xray_image.specs.Program.{Program}
use Rattle.patch_script.specs.declared.command.PatchCommand.{PatchCommand}
use Rattle.patch_script.specs.Refusals.{commands_of}
use Rattle.machine_step.specs.PlainStep.{PlainRun}
use Rattle.traced_run.specs.Runs.{ThreadRun}
use Rattle.trace_flush.specs.Audit.{ThreadAudit}
use Rattle.audit_check.specs.declared.audit.Audit.{Audit}
use Rattle.audit_check.specs.declared.audit.AuditEntry.{AuditEntry}
use Rattle.audit_check.specs.declared.placing.PlacedThread.{PlacedThread}
use Rattle.audit_check.specs.declared.stop.Stop.{Stop}
use Rattle.audit_check.specs.Placings.{all_places}
use Rattle.audit_check.specs.Statements.{AuditStatement, said_by, statement_of}
use Rattle.audit_check.specs.Stops.{places_of}
use Rattle.audit_check.specs.private.Placed.{IsThreadPlaced}
use Rattle.audit_check.specs.private.Walks.{first_of}
use Rattle.audit_check.proofs.SameRows.{same_at}
use Rattle.audit_check.proofs.AllThreads.{entry_count, entry_here, entry_named, entry_number, entry_within, run_at, said_at}
use Rattle.audit_check.proofs.PlacedLoads.{PlacedUpTo, all_placed, faults, placed_next, some_placed}
use Rattle.audit_check.proofs.placing.place_loads.Goals as goal

fault_is : {A E : Type 0} (result : Result A E) (fault : E) → IsErrAnd result (λ f. f ≡ fault) → result ≡ Err fault
fault_is (Ok value) fault is = absurd is
fault_is (Err other) fault is = ap Err is

pub place-requires-clause-number : goal.place-requires-clause-number
place-requires-clause-number c =
    let audit = c.args.audit.now in
    let i = c.loop-entry.entry-index in
    let entry = c.entry-item.result in
    let at = entry_here audit c.deref-entry-items.result.now i entry c.deref-entry-items.ensures.value c.loop-entry-test.true c.entry-item.is in
    entry_named audit c.requires.names i entry at

pub returns-in_err-placed : goal.returns-in_err-placed
returns-in_err-placed c = inl (fault_is _ _ c.from_residual-in_err-placed.ensures.1)

pub returns-in_err-push : goal.returns-in_err-push
returns-in_err-push c = inl (search rules)

pub loop-entry-preserved : goal.loop-entry-preserved
loop-entry-preserved c = λ runs are.
    let program : Program = c.args.image.now in
    let script : List PatchCommand = commands_of c.args.script.now.lines in
    let audit : Audit = c.args.audit.now in
    let statement : AuditStatement = statement_of audit in
    let i : ℕ = c.loop-entry.entry-index in
    let entry : AuditEntry = c.entry-item.result in
    let at = entry_here audit c.deref-entry-items.result.now i entry c.deref-entry-items.ensures.value c.loop-entry-test.true c.entry-item.is in
    let said = said_at audit c.requires.names i entry at in
    let number = entry_number audit c.requires.names i entry at in
    let within = entry_within audit c.requires.names i entry at in
    let run = run_at program script audit c.requires.names [] runs are i (omega (arith, within)) in
    let placed : PlacedThread = c.in_ok-placed.placed in
    let finds = subst (λ (p : Program). (run : ThreadRun) → PlainRun p audit.setup.limits entry.thread run.passed run.end run.last → run.marks ≡ entry.marks.items
    → IsThreadPlaced p audit.setup.threads script entry.thread (said_by entry) run placed) c.in_ok-steps.ensures.program
    (λ run plain marks. c.in_ok-placed.ensures run plain marks) in
    let own_marks : run.0.marks ≡ entry.marks.items =
    same_at (λ (r : ThreadRun). r.marks) (λ (s : ThreadAudit). s.marks) runs statement.threads are.marks i run.0 (said_by entry) run.1 said in
    let plain : PlainRun program audit.setup.limits entry.thread run.0.passed run.0.end run.0.last =
    subst (λ n. PlainRun program audit.setup.limits n run.0.passed run.0.end run.0.last) (sym number) (are.run.plain i run.0 run.1) in
    let found : IsThreadPlaced program audit.setup.threads script (i + 1) (said_by entry) run.0 placed =
    subst (λ n. IsThreadPlaced program audit.setup.threads script n (said_by entry) run.0 placed) number (finds run.0 plain own_marks) in
    let old = c.loop-entry.first in
    let new = c.note.new.self in
    let more : map (λ (stops : Vec Stop Global). places_of stops.items) c.push.new.self.items ≡ map (λ (stops : Vec Stop Global). places_of stops.items) c.loop-entry.threads.items ++ places_of placed.stops.items ∷ [] =
    ap (map (λ (stops : Vec Stop Global). places_of stops.items)) c.in_ok-push.ensures.items ∙ map-append (λ (stops : Vec Stop Global). places_of stops.items) c.loop-entry.threads.items (placed.stops ∷ []) in
    subst (λ (ps : List (List ℕ)). PlacedUpTo program script statement runs (i + 1) new ps) (sym more)
    (placed_next program script statement runs i (said_by entry) run.0 placed old new (map (λ (stops : Vec Stop Global). places_of stops.items) c.loop-entry.threads.items) said run.1 own_marks found
    (c.note.ensures.ends ∙ ap (λ n. first_of old.ends n placed.agreement.ends) number)
    (c.note.ensures.marks ∙ ap (λ n. first_of old.marks n placed.agreement.marks) number) (c.loop-entry.invariant runs are))

pub returns-in-Some : goal.returns-in-Some
returns-in-Some c =
    let program : Program = c.args.image.now in
    let script : List PatchCommand = commands_of c.args.script.now.lines in
    let audit : Audit = c.args.audit.now in
    let first = c.loop-entry.first in
    let places : List (List ℕ) = all_places c.loop-entry.threads in
    let all : c.loop-entry.entry-index ≡ audit.setup.threads = omega (arith, c.loop-entry-test.false, entry_count audit c.requires.names) in
    let some = some_placed program script (statement_of audit) first places c.loop-entry.entry-index c.requires.names.count all
    (λ thread. c.some_end.ensures c.each_was_accepted.ensures.0 program audit.setup.limits thread c.each_was_accepted.ensures.1) c.loop-entry.invariant in
    inr (record {
      runs = some.0;
      are = some.1;
      placing = faults program script (statement_of audit) some.0 first.ends first.marks first places c.in-Some.fault refl refl some.2
          (sym c.fault_of.ensures ∙ c.in-Some.is);
    })

pub returns : goal.returns
returns c =
    let program : Program = c.args.image.now in
    let script : List PatchCommand = commands_of c.args.script.now.lines in
    let statement : AuditStatement = statement_of c.args.audit.now in
    let first = c.loop-entry.first in
    let places : List (List ℕ) = all_places c.loop-entry.threads in
    let accepted = c.each_was_accepted.ensures in
    let all : c.loop-entry.entry-index ≡ statement.setup.threads =
    omega (arith, c.loop-entry-test.false, entry_count c.args.audit.now c.requires.names) in
    let some = some_placed program script statement first places c.loop-entry.entry-index c.requires.names.count all
    (λ thread. c.some_end.ensures accepted.0 program statement.setup.limits thread accepted.1) c.loop-entry.invariant in
    inr (record {
      runs = some.0;
      are = some.1;
      placing = all_placed program script statement some.0 first.ends first.marks first places refl refl some.1.run.count some.2
          (sym c.fault_of.ensures ∙ c.in-None.is);
    })
