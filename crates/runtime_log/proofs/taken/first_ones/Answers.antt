use Rattle.std.proofs.Common.{Bor, Global, List, ◌+◌, ℕ, Vec, [], ◌++◌, ◌||◌, append-nil, ap, arith, length, map, refl, subst, sym, ◌∙◌}
use Rattle.std.specs.Prelude.{not}
use Rattle.std.specs.Str.{bytes_eq}
use Rattle.std.proofs.lemmas.Bool.{not-true, not-false}
use Rattle.std.proofs.lemmas.List.{drop_all, length_push}
use Rattle.runtime_log.specs.declared.blocks.LogBlock.{LogBlock as Placed}
use Rattle.runtime_log.specs.Logs.{LogBlock}
use Rattle.runtime_log.specs.Taken.{first_ones, is_among_contents, is_doubled}
use Rattle.runtime_log.specs.private.Choices.{AreAt, KeepsFirst}
use Rattle.runtime_log.proofs.TakenBlocks.{at_index, at_length, keeps_doubled, keeps_own}
use Rattle.runtime_log.proofs.taken.first_ones.Goals.{then-branch+in_ok-push, else-branch}
use Rattle.runtime_log.proofs.taken.first_ones.Goals as goal

pub keeping-init : goal.keeping-init
keeping-init c = record {
  few = omega (arith, ap length c.new-kept.ensures.items);
  keeps = λ version said are. record {
    done = [];
    before = [];
    at = subst (λ (ps : List Placed). AreAt c.args.bytes.now version ps []) (sym c.new-kept.ensures.items) tt;
    parts = refl;
    among = λ q. ap (λ (keys : List (Bor (List ℕ))). is_among_contents (map (λ k. k.now) keys) q) c.new-seen.ensures.empty;
  };
}

pub keeping-preserved : goal.keeping-preserved
keeping-preserved c =
    let i = c.keeping.invariant in
    let bytes = c.args.bytes.now in
    let at = c.keeping.block-index in
    let seen = map (λ (k : Bor (List ℕ)). k.now) c.keeping.seen.keys in
    let kept = c.keeping.kept.items in
    let same = c.content.ensures in
    let own = c.in_ok-add_content.ensures.own ∙ ap (λ (xs : List ℕ). not (is_doubled seen xs)) same in
    let adds = λ (q : List ℕ). c.in_ok-add_content.ensures.seen q ∙ ap (λ (xs : List ℕ). bytes_eq q xs || is_among_contents seen q) same in
    record {
      few = elim c.if-branch.branch [
        | then-branch+in_ok-push w ↦ omega (arith, i.few, ap (λ (v : Vec Placed Global). length v.items) w.kept-is, ap length w.in_ok-push.ensures.items, length_push {X = Placed})
        | else-branch w ↦ omega (arith, i.few, ap (λ (v : Vec Placed Global). length v.items) w.kept-is)
      ];
      keeps = λ version said are.
          let k = i.keeps version said are in
          let there = at_index bytes version c.args.blocks.now said at _ are c.keeping-test.true in
          elim c.if-branch.branch [
            | then-branch+in_ok-push w ↦ subst (λ (v : Vec Placed Global). KeepsFirst bytes version said (at + 1) v.items (map (λ (x : Bor (List ℕ)). x.now) c.add_content.new.seen.keys)) (sym w.kept-is)
                (subst (λ (ps : List Placed). KeepsFirst bytes version said (at + 1) ps (map (λ (x : Bor (List ℕ)). x.now) c.add_content.new.seen.keys)) (sym w.in_ok-push.ensures.items)
                (keeps_own bytes version said at kept seen _ _ k there (not-true _ (sym own ∙ w.if-branch.true)) adds))
            | else-branch w ↦ subst (λ (v : Vec Placed Global). KeepsFirst bytes version said (at + 1) v.items (map (λ (x : Bor (List ℕ)). x.now) c.add_content.new.seen.keys)) (sym w.kept-is)
                (keeps_doubled bytes version said at kept seen _ _ k there (not-false _ (sym own ∙ w.if-branch.false)) adds)
          ];
    }

pub returns-clause-keeps : goal.returns-clause-keeps
returns-clause-keeps c = λ version said are.
    let k = c.keeping.invariant.keeps version said are in
    let all = drop_all c.keeping.block-index said (omega (arith, c.keeping-test.false, at_length c.args.bytes.now version c.args.blocks.now said are)) in
    subst (λ (bs : List LogBlock). AreAt c.args.bytes.now version c.keeping.kept.items bs)
    (sym (k.parts ∙ ap (λ (bs : List LogBlock). k.done ++ first_ones k.before bs) all ∙ append-nil k.done)) k.at
