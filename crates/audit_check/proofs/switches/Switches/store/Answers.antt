use Rattle.std.proofs.Common.{◌-◌, refl, arith}
use Rattle.std.specs.Vec.{with_item}
use Rattle.std.proofs.lemmas.Result.{on_ok_weaker}
use Rattle.audit_check.specs.declared.switches.Switches.{Switches}
use Rattle.audit_check.proofs.NotedStores.{notes_arg_handler, notes_handler, notes_log, notes_release, release_at}
use Rattle.audit_check.proofs.switches.Switches.store.Goals as goal

pub returns-then-word-self-2-clause-switches : goal.returns-then-word-self-2-clause-switches
returns-then-word-self-2-clause-switches c =
    on_ok_weaker c.note.result (notes_handler c.args.self.now c.note.new.self c.args.word c.args.value c.args.place c.if-word-self-2.true) c.note.ensures

pub returns-then-word-self-3-clause-switches : goal.returns-then-word-self-3-clause-switches
returns-then-word-self-3-clause-switches c =
    let note = c.note-then-word-self-3 in
    on_ok_weaker note.result (notes_log c.args.self.now note.new.self c.args.word c.args.value c.args.place c.if-word-self-3.true) note.ensures

pub returns-then-word-self-4-clause-switches : goal.returns-then-word-self-4-clause-switches
returns-then-word-self-4-clause-switches c =
    let note = c.note-then-word-self-4 in
    on_ok_weaker note.result (notes_arg_handler c.args.self.now note.new.self c.args.word c.args.value c.args.place c.if-word-self-4.true) note.ensures

pub returns-else-word-self-4-clause-switches : goal.returns-else-word-self-4-clause-switches
returns-else-word-self-4-clause-switches c =
    let s = c.args.self.now in
    let note = c.note-else-word-self-4 in
    let at = c.args.word - s.state_word - 1 in
    let new : Switches = record s { releases = with_item s.releases at note.new.self } in
    let there = release_at s c.args.word c.requires c.if-word-self.false c.if-word-self-2.false c.if-word-self-3.false c.if-word-self-4.false in
    on_ok_weaker note.result
    (notes_release s new at c.index_mut.result.now note.new.self c.args.word c.args.value c.args.place refl there.1 (omega (arith, there.0))
    c.index_mut.ensures.value)
    note.ensures
