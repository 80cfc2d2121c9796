use Rattle.std.proofs.Common.{◌≡◌, ◌+◌, ◌++◌, ◌∙◌, List, [], ◌∷◌, ap, arith, subst, sym, take}
use Rattle.std.specs.List.{flat_map}
use Rattle.std.proofs.lemmas.List.{take_all, take_more}
use Rattle.std.proofs.lemmas.List.Elements.{All-get_or}
use Rattle.std.proofs.lemmas.Result.{IfOk-weaker}
use Rattle.call_trie.specs.declared.state.TrieState.TheVariants.{Live}
use Rattle.stack_rebuild.specs.Stacks.{timed_pairs}
use Rattle.call_trie.specs.Merging.{AllStandFor}
use Rattle.call_trie.specs.Tries.{Trie}
use Rattle.call_trie.proofs.JoinedRecorders.{sums_joined, sums_none}
use Rattle.call_trie.proofs.merging.merged.Goals as goal

pub merging-init : goal.merging-init
merging-init c = record {
  root = record { some = c.new-sums.ensures.some; root = c.new-sums.ensures.root };
  sums = λ threads all. sums_none c.new-sums.result.paths c.new-sums.result.tallies threads all c.new-sums.ensures;
}

pub add_to-requires-clause-live : goal.add_to-requires-clause-live
add_to-requires-clause-live c =
    let one = c.trie-item.result in
    ap (λ (t : Trie). t.state) c.trie-item.is
    ∙ All-get_or (λ (t : Trie). t.state ≡ Live) c.args.tries.now c.merging.trie-index one (omega (arith, c.merging-test.true)) c.requires

pub add_to-requires-clause-root : goal.add_to-requires-clause-root
add_to-requires-clause-root c = c.merging.invariant.root

pub merging-preserved : goal.merging-preserved
merging-preserved c =
    let tries = c.args.tries.now in
    let one = c.trie-item.result in
    let longer : take (c.merging.trie-index + 1) tries ≡ take c.merging.trie-index tries ++ one ∷ [] =
    take_more tries c.merging.trie-index one (omega (arith, c.merging-test.true)) ∙ ap (λ (t : Trie). take c.merging.trie-index tries ++ t ∷ []) (sym c.trie-item.is) in record {
      root = c.in_ok-add_to.ensures.root;
      sums = λ threads all. sums_joined (take c.merging.trie-index tries) one threads (subst (λ (ts : List Trie). AllStandFor ts threads) longer all)
          c.merging.sums.paths c.merging.sums.tallies c.add_to.new.sums.paths c.add_to.new.sums.tallies c.merging.invariant.sums c.in_ok-add_to.ensures.sums;
    }

pub returns : goal.returns
returns c =
    IfOk-weaker c.rows_of.result _ _
    (λ rows sums threads all. sums (flat_map timed_pairs threads)
    (c.merging.invariant.sums threads (subst (λ (ts : List Trie). AllStandFor ts threads) (sym (take_all c.merging.trie-index c.args.tries.now (omega (arith, c.merging-test.false)))) all))) c.rows_of.ensures
