use Rattle.std.proofs.Common.{◌-◌, drop, length, take, sym, ◌∙◌, arith}
use Rattle.std.proofs.lemmas.List.{length-drop, take_rest}
use Rattle.runtime_log.proofs.CutRecords.{cut_found, cut_none, cut_on}
use Rattle.runtime_log.proofs.walk.cut_len.Goals as goal

pub returns-then-is_cut-clause-is : goal.returns-then-is_cut-clause-is
returns-then-is_cut-clause-is c =
    let content = c.args.content.now in
    sym (c.records.invariant.is
    ∙ cut_found c.args.version (length content) c.records.typed c.one_typed-typed.result c.records.at content (take (length content - c.records.at) (drop c.records.at content)) (take_rest content c.records.at)
    c.records-test.true c.one_typed-typed.ensures.is (sym c.is_cut.ensures ∙ c.if-is_cut.true))

pub records-preserved : goal.records-preserved
records-preserved c =
    let content = c.args.content.now in
    let i = c.records.invariant in record {
      is =
          i.is
          ∙ cut_on c.args.version (length content) c.records.typed c.one_typed-typed.result c.records.at c.log_record_len-at.result content (take (length content - c.records.at) (drop c.records.at content))
          (take_rest content c.records.at) c.records-test.true c.one_typed-typed.ensures.is (sym c.is_cut.ensures ∙ c.if-is_cut.false) c.log_record_len-at.ensures.is;
      typed = omega (arith, i.typed, c.one_typed-typed.ensures.few, c.log_record_len-at.ensures.some);
      few = omega (arith, c.records-test.true, c.log_record_len-at.ensures.few);
    }

pub returns-clause-is : goal.returns-clause-is
returns-clause-is c =
    let content = c.args.content.now in
    sym (c.records.invariant.is ∙ cut_none c.args.version (length content) c.records.typed c.records.at (drop c.records.at content) (omega (arith, length-drop c.records.at content, c.records-test.false)))
