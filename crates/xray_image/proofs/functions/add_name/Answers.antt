use Rattle.std.proofs.Common.{Bor, List, ℕ, map, ap, ◌∙◌}
use Rattle.std.specs.Prelude.{not}
use Rattle.xray_image.specs.private.Judging.{is_among}
use Rattle.xray_image.proofs.FunctionRows.{among_keys, among_insert}
use Rattle.xray_image.proofs.functions.add_name.Goals as goal

pub returns-clause-own : goal.returns-clause-own
returns-clause-own c = c.in_ok-insert.ensures.added ∙ ap not (among_keys c.args.names.now.keys c.args.name.now)

pub returns-clause-names : goal.returns-clause-names
returns-clause-names c = λ other.
    ap (λ (keys : List (Bor (List ℕ))). is_among (map (λ k. k.now) keys) other) c.in_ok-insert.ensures.keys ∙ among_insert c.args.names.now.keys c.args.name other
