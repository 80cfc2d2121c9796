use Rattle.std.proofs.Common.{length, drop, ap, ◌∙◌, arith}
use Rattle.std.proofs.lemmas.List.{length-drop, length-take, take_rest}
use Rattle.std.proofs.lemmas.Result.{on_ok_weaker}
use Rattle.runtime_log.specs.BasicLogs.{tagged_rows}
use Rattle.runtime_log.proofs.basic.record_at.Goals as goal

pub returns-clause-reads : goal.returns-clause-reads
returns-clause-reads c =
    let bytes = simp take_rest at c.record_bytes.ensures in
    c.record_in.ensures.reads ∙ ap (tagged_rows c.args.version c.args.at) bytes

pub returns-clause-whole : goal.returns-clause-whole
returns-clause-whole c =
    let bytes = simp take_rest at c.record_bytes.ensures in
    on_ok_weaker c.record_in.result
    (λ whole. omega (arith, whole, ap length bytes, length-take 32 (drop c.args.at c.args.bytes.now), length-drop c.args.at c.args.bytes.now)) c.record_in.ensures.whole
