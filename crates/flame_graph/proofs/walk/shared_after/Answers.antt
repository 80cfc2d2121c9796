use Rattle.std.proofs.Common.{◌≡◌, ◌∙◌, ◌<◌, ◌≤◌, List, ℕ, add-one, ap, arith, get_or, length, map, suc, sym}
use Rattle.stack_rebuild.specs.declared.stack_row.StackRow.{StackRow}
use Rattle.stack_rebuild.specs.Stacks.{told}
use Rattle.flame_graph.specs.private.Walking.{path_at, shared}
use Rattle.flame_graph.proofs.OpenFrames.{shared_none}
use Rattle.flame_graph.proofs.Measures.{path_after, path_told}
use Rattle.flame_graph.proofs.walk.shared_after.Goals as goal

pub returns-in-Some : goal.returns-in-Some
returns-in-Some c =
    let all = c.args.rows.now in
    let at = c.args.at in
    let found = c.in-Some.ensures.lookup in
    let next = c.in-Some.next.now in
    let within : suc at < length all = omega (arith, found.3.0) in
    let is : next ≡ get_or all (suc at) next = found.1 ∙ ap (λ (n : ℕ). get_or all n next) (add-one at) in
    let one : c.deref.result.now ≡ path_at (map told all) at =
    c.deref.ensures.value
    ∙ (ap (λ (r : StackRow). r.path.items) (sym c.index-rows-at.is) ∙ sym (path_told all at c.index-rows-at.result c.requires c.index-rows-at.is)) in
    let other : c.deref-in-Some.result.now ≡ path_at (map told all) (suc at) = c.deref-in-Some.ensures.value ∙ sym (path_told all (suc at) next within is) in
    c.shared.ensures ∙ (ap (λ (p : List ℕ). shared p c.deref-in-Some.result.now) one ∙ ap (λ (p : List ℕ). shared (path_at (map told all) at) p) other)

pub returns-in-None : goal.returns-in-None
returns-in-None c =
    let all = c.args.rows.now in
    let at = c.args.at in
    let after : length all ≤ suc at = omega (arith, c.in-None.ensures.lookup.3) in
    sym (ap (λ (p : List ℕ). shared (path_at (map told all) at) p) (path_after all (suc at) after) ∙ shared_none (path_at (map told all) at))
