use Rattle.std.proofs.Common.{◌≡◌, ◌++◌, ◌∙◌, ℕ, List, [], ◌∷◌, ap, arith, get_or, length, subst, sym}
use Rattle.stack_rebuild.specs.declared.tally.Tally.{Tally}
use Rattle.stack_rebuild.specs.PathSums.{AreOfPath, path_at}
use Rattle.call_trie.specs.private.Paths.{Climb, Numbered}
use Rattle.call_trie.proofs.AddedTallies.{adds_all, adds_more, adds_none, parent_low, parent_number}
use Rattle.call_trie.proofs.TableLemmas.{any_default}
use Rattle.call_trie.proofs.nodes.Nodes.add_to.Goals as goal

pub adding-init : goal.adding-init
adding-init c =
    let paths = c.args.self.now.paths in
    let climb : Climb c.self.inside.table.steps paths = subst (Climb c.self.inside.table.steps) (ap (λ (n : Numbered). n.paths) c.self.view_is) c.self.invariant.climb in
    adds_none c.args.sums.now paths c.args.self.now.tallies c.push.new.self.items c.requires climb.root
    (c.in_ok-push.ensures.items ∙ ap (λ (ns : List ℕ). ns ++ 0 ∷ []) c.in_ok-numbers.ensures.items)

pub index-requires : goal.index-requires
index-requires c =
    let steps = c.self.inside.table.steps in
    let climb : Climb steps c.args.self.now.paths = subst (Climb steps) (ap (λ (n : Numbered). n.paths) c.self.view_is) c.self.invariant.climb in
    omega (arith, parent_low steps c.args.self.now.paths c.adding.place c.step-step.result climb c.step-step.ensures, c.adding.invariant.count)

pub number_of-requires : goal.number_of-requires
number_of-requires c =
    let steps = c.self.inside.table.steps in
    let paths = c.args.self.now.paths in
    let numbers = c.adding.numbers.items in
    let step = c.step-step.result in
    let climb : Climb steps paths = subst (Climb steps) (ap (λ (n : Numbered). n.paths) c.self.view_is) c.self.invariant.climb in
    let low = parent_low steps paths c.adding.place step climb c.step-step.ensures in
    let read : c.index.result.now ≡ get_or numbers step.parent 0 =
    c.index.ensures ∙ any_default numbers step.parent c.index.result.now 0 (omega (arith, low, c.adding.invariant.count)) in
    let at = parent_number c.args.sums.now c.adding.sums steps paths c.args.self.now.tallies numbers c.adding.place step climb c.adding.invariant c.step-step.ensures in
    omega (arith, at.within, read)

pub add_tally-requires : goal.add_tally-requires
add_tally-requires c = c.in_ok-number.ensures.number.within

pub adding-preserved : goal.adding-preserved
adding-preserved c =
    let steps = c.self.inside.table.steps in
    let paths = c.args.self.now.paths in
    let tallies = c.args.self.now.tallies in
    let numbers = c.adding.numbers.items in
    let step = c.step-step.result in
    let n = c.in_ok-number.number in
    let tally = c.index-in-adding.result.now in
    let mid = c.number_of.new.self in
    let new = c.add_tally.new.self in
    let climb : Climb steps paths = subst (Climb steps) (ap (λ (n : Numbered). n.paths) c.self.view_is) c.self.invariant.climb in
    let same : c.self.inside.tallies.items ≡ tallies = ap (λ (n : Numbered). n.tallies) c.self.view_is in
    let level : length tallies ≡ length steps = omega (arith, ap {B = ℕ} length same, c.self.invariant.level) in
    let low = parent_low steps paths c.adding.place step climb c.step-step.ensures in
    let read : c.index.result.now ≡ get_or numbers step.parent 0 =
    c.index.ensures ∙ any_default numbers step.parent c.index.result.now 0 (omega (arith, low, c.adding.invariant.count)) in
    let told : tally ≡ get_or tallies c.adding.place tally = c.index-in-adding.ensures ∙ ap (λ (ts : List Tally). get_or ts c.adding.place tally) same in
    adds_more c.args.sums.now c.adding.sums mid new steps paths tallies numbers c.push-in-adding.new.self.items c.adding.place n c.index.result.now step tally
    climb level c.adding.invariant c.step-step.ensures read c.in_ok-number.ensures.number c.in_ok-number.ensures.sums c.add_tally.ensures.paths
    (λ pairs more so own. c.in_ok-add_tally.ensures.sums pairs more so (subst (λ (t : Tally). AreOfPath (path_at mid.paths n) t more) (sym told) own))
    c.in_ok-push-2.ensures.items

pub returns-clause-sums : goal.returns-clause-sums
returns-clause-sums c = λ before pairs so mine.
    let steps = c.self.inside.table.steps in
    let paths = c.args.self.now.paths in
    let tallies = c.args.self.now.tallies in
    let climb : Climb steps paths = subst (Climb steps) (ap (λ (n : Numbered). n.paths) c.self.view_is) c.self.invariant.climb in
    let same : c.self.inside.tallies.items ≡ tallies = ap (λ (n : Numbered). n.tallies) c.self.view_is in
    let level : length tallies ≡ length steps = omega (arith, ap {B = ℕ} length same, c.self.invariant.level) in
    adds_all c.args.sums.now c.adding.sums steps paths tallies c.adding.numbers.items c.adding.place climb level (omega arith) c.adding.invariant before pairs so mine
