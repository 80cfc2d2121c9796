use Rattle.std.proofs.Common.{◌∙◌}
use Rattle.fdr_file.proofs.CursorSteps.{left_none, pass_header, pass_none, pass_some, pass_bytes}
use Rattle.fdr_file.proofs.cursor.EventCursor.read_on.Goals as goal

pub returns-in-Some-clause-next : goal.returns-in-Some-clause-next
returns-in-Some-clause-next c =
    c.going.invariant.left ∙ pass_some c.going.self c.pass.new.self c.in-Some.event c.going-test.true c.going.invariant.pending c.in-Some.ensures.passes

pub returns-in-Some-clause-header : goal.returns-in-Some-clause-header
returns-in-Some-clause-header c = pass_header c.going.self c.pass.new.self c.in-Some.ensures.passes.0 ∙ c.going.invariant.header

pub going-preserved : goal.going-preserved
going-preserved c =
    let on = pass_none c.going.self c.pass.new.self c.pass.result c.going-test.true c.going.invariant.pending c.pass.ensures.passes c.in_default.is in record {
      left = c.going.invariant.left ∙ on.0;
      pending = on.1;
      header = pass_header c.going.self c.pass.new.self c.pass.ensures.passes.0 ∙ c.going.invariant.header;
      bytes = pass_bytes c.going.self c.pass.new.self c.pass.ensures.passes.0 ∙ c.going.invariant.bytes;
    }

pub returns-clause-next : goal.returns-clause-next
returns-clause-next c = c.going.invariant.left ∙ left_none c.going.self c.going-test.false c.going.invariant.pending
