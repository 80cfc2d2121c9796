use Rattle.std.proofs.Common.{sym, subst}
use Rattle.machine_step.specs.Traced.{Traced}
use Rattle.step_sim.specs.declared.thread.Found.{Found}
use Rattle.step_sim.specs.declared.thread.Found.TheVariants.{More}
use Rattle.step_sim.specs.private.Recording.{LeadsBy, Records, come_to}
use Rattle.step_sim.proofs.PassingTurns.{found_then}
use Rattle.step_sim.proofs.thread.load_to_last.Goals as goal

pub load_next-head-requires : goal.load_next-head-requires
load_next-head-requires c = record {
  found = record {
    of = c.requires.of;
    records = subst (λ (t : Traced). Records c.args.patcher.now t c.args.pool.now) (sym c.requires.at) c.requires.records;
  };
}

pub returns-clause-leads : goal.returns-clause-leads
returns-clause-leads c =
    let p = c.args.patcher.now in
    let t = c.args.cpu.now in
    let first : Found = More c.args.head in
    let all = found_then p t first c.load_next-handler.result c.load_next-last.result _ _ _
    (found_then p t first c.load_next-offset.result c.load_next-handler.result _ _ _
    (found_then p t first c.load_next-opcode.result c.load_next-offset.result _ _ _
    (found_then p t first c.load_next-id.result c.load_next-opcode.result _ _ _
    (found_then p t first c.load_next-head.result c.load_next-id.result _ _ _ c.load_next-head.ensures.leads c.load_next-id.ensures.leads)
    c.load_next-opcode.ensures.leads)
    c.load_next-offset.ensures.leads)
    c.load_next-handler.ensures.leads)
    c.load_next-last.ensures.leads in
    subst (λ (new : Traced). LeadsBy p t c.args.pool.now new c.load_next-last.new.pool) (sym c.come_to.ensures)
    (subst (λ (old : Traced). LeadsBy p old c.args.pool.now (come_to t c.load_next-last.result) c.load_next-last.new.pool) c.requires.at all)
