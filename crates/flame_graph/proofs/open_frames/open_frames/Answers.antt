use Rattle.std.proofs.Common.{◌∙◌, arith, inl, inr}
use Rattle.std.proofs.lemmas.Bool.{cases_order}
use Rattle.std.proofs.lemmas.List.{length-set}
use Rattle.flame_graph.proofs.Openings.{set_others, set_there}
use Rattle.flame_graph.proofs.open_frames.open_frames.Goals as goal

pub opening-preserved : goal.opening-preserved
opening-preserved c =
    let all = c.opening.openings in
    let outer = c.opening.outer in
    let lefts = length-set all.lefts outer c.args.left in
    let firsts = length-set all.firsts outer c.args.first in
    record {
      lefts = lefts ∙ c.opening.invariant.lefts;
      firsts = firsts ∙ c.opening.invariant.firsts;
      stay = λ n few. set_others all outer n c.args.left c.args.first (omega (arith, few)) ∙ c.opening.invariant.stay n few;
      opened = λ n low up. elim (cases_order n outer) [
        | inl same ↦ set_there all outer n c.args.left c.args.first same (omega (arith, c.opening.invariant.lefts)) (omega (arith, c.opening.invariant.firsts))
        | inr apart ↦ elim apart [
          | inl below ↦ set_others all outer n c.args.left c.args.first (omega (arith, below)) ∙ c.opening.invariant.opened n low below
          | inr above ↦ absurd (omega (arith, up, above))
        ]
      ];
    }
