use Rattle.std.proofs.Common.{◌/◌, refl, arith}
use Rattle.std.proofs.lemmas.Result.{on_ok_weaker}
use Rattle.audit_check.specs.declared.switches.Switches.{Switches}
use Rattle.std.specs.Vec.{with_item}
use Rattle.audit_check.proofs.NotedStores.{head_within, notes_head, notes_no_head}
use Rattle.audit_check.proofs.switches.Switches.store_part.Goals as goal

pub returns-then-word-eq0-clause-switches : goal.returns-then-word-eq0-clause-switches
returns-then-word-eq0-clause-switches c =
    let s = c.args.self.now in
    let at = c.args.word / 4 in
    let new : Switches = record s { heads = with_item s.heads at c.note.new.self } in
    on_ok_weaker c.note.result
    (notes_head s new at c.index_mut.result.now c.note.new.self c.args.word c.args.value c.args.place refl
    (head_within s c.args.word c.requires.words c.requires.part) (omega arith) c.index_mut.ensures.value)
    c.note.ensures

pub returns-else-word-eq0-clause-switches : goal.returns-else-word-eq0-clause-switches
returns-else-word-eq0-clause-switches c =
    notes_no_head c.args.self.now c.args.word c.args.value c.args.place c.requires.part (λ e. absurd (omega arith))
