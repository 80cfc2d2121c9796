use Rattle.std.proofs.Common.{◌∙◌, arith, ap}
use Rattle.stack_rebuild.specs.Stacks.{PathRow}
use Rattle.std.specs.Prelude.{List}
use Rattle.flame_graph.specs.Frames.{capped, own_sum}
use Rattle.flame_graph.proofs.Measures.{all_rows, own_step}
use Rattle.flame_graph.proofs.sums.total_of.Goals as goal

pub rows-preserved : goal.rows-preserved
rows-preserved c =
    let step = own_step c.args.rows.now c.rows.row-index c.row-item.result c.rows-test.true c.row-item.is in
    omega (arith, step, c.rows.invariant)

pub returns : goal.returns
returns c = c.rows.invariant ∙ ap (λ (rows : List PathRow). capped (own_sum rows)) (all_rows c.args.rows.now c.rows.row-index c.rows-test.false)
