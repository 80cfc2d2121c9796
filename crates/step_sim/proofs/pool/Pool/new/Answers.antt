use Rattle.std.proofs.Common.{◌-◌, ◌∙◌, refl, rules}
use Rattle.traced_run.specs.Kept.{stamp_of}
use Rattle.step_sim.proofs.PoolLemmas.{pool_begins}
use Rattle.step_sim.proofs.pool.Pool.new.Goals as goal

pub returns : goal.returns
returns c =
    let setup = c.args.setup.now in
    pool_begins (stamp_of setup) setup.threads (setup.max - setup.threads) _ c.requires.least refl refl
    c.in_ok-fresh_buffers.ensures (c.new.ensures ∙ c.in_ok-fresh_buffers-2.ensures) (search rules) (search rules)
