use Rattle.std.proofs.Common.{◌∙◌, sym}
use Rattle.elf_file.specs.Views.{names_held}
use Rattle.program_map.proofs.NamedFunctions.{known_function, next_function, unnamed_sled}
use Rattle.program_map.proofs.facts.Named.take_sled.Goals as goal
use Rattle.program_map.proofs.facts.Named.take_sled.Goals.{then-is_last-via-then-is_last, then-is_last-via-else-is_last+then-not-has_name}

pub returns-then-is_last-clause-took : goal.returns-then-is_last-clause-took
returns-then-is_last-clause-took c sleds is =
    elim c.then-is_last.branch [
      | then-is_last-via-then-is_last w ↦
          known_function (names_held c.args.names.now) sleds c.args.sled.now c.args.self (sym c.is_last.ensures ∙ w.if-is_last.true) is
      | then-is_last-via-else-is_last+then-not-has_name w ↦
          unnamed_sled (names_held c.args.names.now) sleds c.args.sled.now c.args.self (sym w.has_name.ensures ∙ w.if-not-has_name.true) is
    ]

pub returns-clause-took : goal.returns-clause-took
returns-clause-took c sleds is =
    next_function (names_held c.args.names.now) sleds c.args.sled.now c.args.self (sym c.has_name.ensures ∙ c.if-not-has_name.false)
    (sym c.is_last.ensures ∙ c.if-is_last.false) is
