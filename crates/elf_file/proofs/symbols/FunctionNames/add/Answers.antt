use Rattle.std.proofs.Common.{◌∙◌, ◌==◌, ap, sym, option_copied, nat_eq, Some, cond}
use Rattle.std.specs.HashMap.{get}
use Rattle.elf_file.specs.declared.symbols.FunctionNames.{FunctionNames}
use Rattle.elf_file.proofs.BestSymbols.{best_kept, best_put, put_better, put_first}
use Rattle.elf_file.proofs.symbols.FunctionNames.add.Goals as goal
use Rattle.elf_file.proofs.symbols.FunctionNames.add.Goals.{in-Some+else-not-is_better, in_default}

pub returns-then-not-is_better-clause-took : goal.returns-then-not-is_better-clause-took
returns-then-not-is_better-clause-took c symbols holds = record {
  each = λ address.
      holds.each address
      ∙ best_kept symbols c.args.symbol c.in-Some.known.now address
      (sym (holds.each c.args.symbol.address) ∙ sym c.get.ensures.value ∙ ap option_copied c.in-Some.is)
      (sym c.is_better.ensures ∙ c.if-not-is_better.true);
}

pub returns-clause-took : goal.returns-clause-took
returns-clause-took c symbols holds = record {
  each = λ address.
      elim c.match-get.branch [
        | in-Some+else-not-is_better w ↦
            c.in_ok-insert.ensures.updates.0 address
            ∙ ap (cond (c.args.symbol.address == address) (Some c.args.symbol))
            (ap (λ (s : FunctionNames). get nat_eq s.best address) w.self-is ∙ holds.each address)
            ∙ best_put symbols c.args.symbol address
            (put_better c.args.symbol w.in-Some.known.now _
            (sym (holds.each c.args.symbol.address) ∙ sym c.get.ensures.value ∙ ap option_copied w.in-Some.is)
            (sym w.is_better.ensures ∙ w.if-not-is_better.false))
        | in_default w ↦
            c.in_ok-insert.ensures.updates.0 address
            ∙ ap (cond (c.args.symbol.address == address) (Some c.args.symbol))
            (ap (λ (s : FunctionNames). get nat_eq s.best address) w.self-is ∙ holds.each address)
            ∙ best_put symbols c.args.symbol address
            (put_first c.args.symbol _
            (sym (holds.each c.args.symbol.address) ∙ sym c.get.ensures.value ∙ ap option_copied w.in_default.is))
      ];
}
