use Rattle.std.proofs.Common.{◌∙◌, sym}
use Rattle.audit_check.proofs.RecordedSegments.{compared_empty, compared_last, count_none, count_open}
use Rattle.audit_check.proofs.blocks.Recording.finish.Goals as goal

pub returns-then-begun-clause-segments : goal.returns-then-begun-clause-segments
returns-then-begun-clause-segments c = λ setup thread lost events has.
    count_open setup thread lost events c.args.self has (sym c.begun.ensures ∙ c.if-begun.true)

pub returns-then-begun-clause-compared : goal.returns-then-begun-clause-compared
returns-then-begun-clause-compared c = λ setup thread lost events all before has compared.
    compared_last setup thread lost events c.args.self has (sym c.begun.ensures ∙ c.if-begun.true) all before c.args.trace.now c.compare.new.trace
    c.compare.ensures compared

pub returns-clause-segments : goal.returns-clause-segments
returns-clause-segments c = λ setup thread lost events has.
    count_none setup thread lost events c.args.self has (sym c.begun.ensures ∙ c.if-begun.false)

pub returns-clause-compared : goal.returns-clause-compared
returns-clause-compared c = λ setup thread lost events all before has compared.
    compared_empty setup thread lost events c.args.self has (sym c.begun.ensures ∙ c.if-begun.false) all before c.args.trace.now compared
