use Rattle.std.proofs.Common.{◌∙◌, arith, ap, length, max, sym, ℕ}
use Rattle.stack_rebuild.specs.Stacks.{PathRow}
use Rattle.std.specs.Prelude.{List}
use Rattle.flame_graph.specs.Picture.{longest}
use Rattle.flame_graph.proofs.Measures.{all_rows, longer_step}
use Rattle.flame_graph.proofs.sums.levels_of.Goals as goal

pub rows-preserved : goal.rows-preserved
rows-preserved c =
    c.longer-levels.ensures
    ∙ (ap (λ (n : ℕ). max n (length c.row-item.result.path.items)) c.rows.invariant
    ∙ sym (longer_step c.args.rows.now c.rows.row-index c.row-item.result c.rows-test.true c.row-item.is))

pub returns : goal.returns
returns c =
    let all = ap (λ (rows : List PathRow). longest rows) (all_rows c.args.rows.now c.rows.row-index c.rows-test.false) in
    omega (arith, all, c.rows.invariant, c.min.ensures)
