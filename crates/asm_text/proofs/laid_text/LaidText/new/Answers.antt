use Rattle.std.proofs.Common.{◌≡◌, sym, ap, subst, ◌∙◌, ◌≤◌, List}
use Rattle.asm_text.specs.declared.first_pass.NumberedStatement.{NumberedStatement}
use Rattle.asm_text.specs.Layout.{by_threshold, lines_placed, widths, all_parts}
use Rattle.asm_text.specs.private.FirstPass.{lines_in}
use Rattle.asm_text.specs.private.Laying.{placed_in, next_places}
use Rattle.asm_text.proofs.Writable.{code_fits, writable}
use Rattle.asm_text.proofs.laid_text.LaidText.new.Goals as goal

pub lay_out-requires : goal.lay_out-requires
lay_out-requires c =
    subst (λ (entries : List NumberedStatement). widths (all_parts (by_threshold c.args.threshold) (lines_in entries)) ≤ 1048576) (sym c.deref.ensures.value)
    (code_fits c.args.threshold (lines_in c.args.pass.entries.items) c.args.pass.totals c.requires.pass.totals c.requires.pass.within)

pub returns-clause-writable : goal.returns-clause-writable
returns-clause-writable c =
    let said = lines_in c.args.pass.entries.items in
    let is : placed_in c.in_ok-lines.lines.items ≡ lines_placed (by_threshold c.args.threshold) said =
    c.in_ok-lines.ensures ∙ ap (λ (entries : List NumberedStatement). lines_placed (by_threshold c.args.threshold) (lines_in entries)) c.deref.ensures.value in
    let targets : c.in_ok-targets.targets.items ≡ next_places (placed_in c.in_ok-lines.lines.items) =
    c.in_ok-targets.ensures ∙ ap (λ lines. next_places (placed_in lines)) c.deref-2.ensures.value in
    writable c.args.threshold said c.args.pass.totals (record { lines = c.in_ok-lines.lines; names = c.args.pass.names; targets = c.in_ok-targets.targets })
    c.requires.pass.totals c.requires.pass.within c.requires.fit c.requires.pass.names is targets
