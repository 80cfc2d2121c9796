use Rattle.std.proofs.Common.{◌+◌, ◌++◌, [], ◌∷◌, refl, sym}
use Rattle.call_rows.specs.declared.order.FirstRows.{FirstRows}
use Rattle.call_rows.proofs.FirstInOrder.{keeps_more, keeps_past}
use Rattle.call_rows.proofs.order.FirstRows.add.Goals as goal

pub returns-then-is_full-clause-added : goal.returns-then-is_full-clause-added
returns-then-is_full-clause-added c = λ events rows keeps low.
    let row = c.args.row.now in
    let more : FirstRows = record { order = c.args.self.now.order; rows = c.push.new.self; last = c.args.self.now.last } in
    c.cut.ensures.kept (row.end + 1) (rows ++ row ∷ []) (keeps_more c.args.self.now more events rows row refl refl c.in_ok-push.ensures.items low keeps)

pub returns-else-is_full-clause-added : goal.returns-else-is_full-clause-added
returns-else-is_full-clause-added c = λ events rows keeps low.
    keeps_more c.args.self.now _ events rows c.args.row.now refl refl c.in_ok-push.ensures.items low keeps

pub returns-then-is_past-clause-added : goal.returns-then-is_past-clause-added
returns-then-is_past-clause-added c = λ events rows keeps low. keeps_past c.args.self.now events rows c.args.row.now (sym c.if-is_past.ensures) low keeps
