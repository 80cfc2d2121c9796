use Rattle.audit_check.specs.declared.setup.Buffers.{Buffers}
use Rattle.audit_check.proofs.ReadRows.{buffers_by}
use Rattle.audit_check.proofs.setup.take_buffers.Goals as goal

pub returns : goal.returns
returns c =
    let buffers : Buffers = record { threads = c.in_ok-threads.threads; size = c.in_ok-size.size; max = c.in_ok-max.max } in
    buffers_by c.args.row.now c.in_ok-threads.row.now c.in_ok-size.row.now c.in_ok-max.row.now buffers c.in_ok-threads.ensures c.in_ok-size.ensures
    c.in_ok-max.ensures
