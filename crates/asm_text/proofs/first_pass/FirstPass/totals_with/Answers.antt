use Rattle.std.proofs.Common.{sym, ◌∙◌, rules, ◌≡◌, true, false}
use Rattle.asm_text.specs.Refusals.{repeats}
use Rattle.asm_text.specs.private.Views.{statement_said}
use Rattle.asm_text.specs.private.FirstPass.{lines_in, totals_exceed}
use Rattle.asm_text.proofs.TotalsLemmas.{totals_more}
use Rattle.asm_text.proofs.FirstPassLemmas.{taken_limit, taken_ok, within_limits}
use Rattle.asm_text.proofs.first_pass.FirstPass.totals_with.Goals as goal

pub returns-then-exceed_limits : goal.returns-then-exceed_limits
returns-then-exceed_limits c =
    let lines = lines_in c.args.self.now.entries.items in
    let statement = statement_said c.args.statement.now in
    let free : repeats lines statement ≡ false = sym (c.repeats.ensures lines c.requires.names) ∙ c.if-repeats.false in
    let much : totals_exceed c.with-totals.result ≡ true = search rules in
    taken_limit lines c.args.line statement c.with-totals.result free
    (totals_more lines c.args.line statement c.args.self.now.totals c.with-totals.result c.requires.totals c.with-totals.ensures) much

pub returns : goal.returns
returns c =
    let lines = lines_in c.args.self.now.entries.items in
    let statement = statement_said c.args.statement.now in
    let free : repeats lines statement ≡ false = sym (c.repeats.ensures lines c.requires.names) ∙ c.if-repeats.false in
    let few : totals_exceed c.with-totals.result ≡ false = search rules in
    let more = totals_more lines c.args.line statement c.args.self.now.totals c.with-totals.result c.requires.totals c.with-totals.ensures in
    (taken_ok lines c.args.line statement c.with-totals.result free more few, free, more, within_limits c.with-totals.result few)
