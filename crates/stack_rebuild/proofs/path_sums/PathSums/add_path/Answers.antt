use Rattle.std.proofs.Common.{◌≡◌, ◌<◌, ◌+◌, ◌++◌, ◌∙◌, ℕ, List, [], ◌∷◌, ap, arith, cond, drop, length, length-append, map, nat_eq, refl, reverse, set, subst, sym}
use Rattle.std.proofs.lemmas.List.{length-map}
use Rattle.stack_rebuild.specs.declared.links.Link.{Link}
use Rattle.stack_rebuild.specs.declared.links.Links.{Links}
use Rattle.stack_rebuild.specs.declared.node.Node.{Node}
use Rattle.stack_rebuild.specs.declared.node.Step.{Step}
use Rattle.stack_rebuild.specs.declared.tally.Tally.{Tally}
use Rattle.stack_rebuild.specs.private.Links.{ArePastLinks, entered_link, links_by, told_by, with_link}
use Rattle.stack_rebuild.specs.private.PathNumbers.{AreNumbered, number_in, path_by, paths_after}
use Rattle.stack_rebuild.specs.private.PathTree.{all_links, links_in, paths_in, step_of, steps_in, tallies_in, tally_in}
use Rattle.stack_rebuild.specs.PathSums.{AreSums, Summed, no_tally}
use Rattle.stack_rebuild.proofs.PathLinks.{links_are, links_linked, past_entered, past_more, past_same, told_entered, told_more, told_same}
use Rattle.stack_rebuild.proofs.Nodes.{length_steps, paths_pushed, steps_more, tallies_pushed, tallies_some}
use Rattle.stack_rebuild.proofs.Sums.{sums_fresh}
use Rattle.stack_rebuild.proofs.Trees.{none_told, tree_more, tree_same}
use Rattle.stack_rebuild.proofs.path_sums.PathSums.add_path.Goals as goal

pub invariant_of-self-in_err-enter : goal.invariant_of-self-in_err-enter
invariant_of-self-in_err-enter c =
    let old = c.self.inside.nodes.items in
    let nodes = c.plant.new.nodes.items in
    let links : all_links nodes ≡ all_links old = c.in_ok-plant.ensures.links in
    let still : (q : Step) → number_in c.enter.new.numbers q ≡ number_in c.self.inside.numbers q = λ q. c.in_err-enter.ensures.same q in record {
      numbered = subst (λ (steps : List Step). AreNumbered (paths_after (reverse steps)) steps (told_by (all_links nodes) c.enter.new.numbers)) (sym c.in_ok-plant.ensures.steps)
          (tree_same (paths_in old) (steps_in old) (told_by (all_links old) c.self.inside.numbers) (told_by (all_links nodes) c.enter.new.numbers) c.self.invariant.numbered
          (told_same (all_links old) (all_links nodes) c.self.inside.numbers c.enter.new.numbers (λ p. ap (λ (ls : List Links). links_by ls p) links) still));
      past = subst (λ (ls : List Links). ArePastLinks ls c.enter.new.numbers) (sym links)
          (past_same (all_links old) c.self.inside.numbers c.enter.new.numbers c.self.invariant.past still);
    }

pub invariant_of-self-in_err-push : goal.invariant_of-self-in_err-push
invariant_of-self-in_err-push c =
    let old = c.self.inside.nodes.items in
    let numbers = c.self.inside.numbers in
    let nodes = c.push.new.self.items in
    let parent = c.args.step.parent in
    let back : nodes ≡ c.plant.new.nodes.items = c.in_err-push.ensures.items in
    let links : all_links nodes ≡ all_links old = ap all_links back ∙ c.in_ok-plant.ensures.links in
    let put : (q : Step) → number_in c.enter.new.numbers q ≡ entered_link parent (links_by (all_links old) parent).before numbers q =
    λ q. c.in_ok-enter.ensures.entered q
    ∙ ap (λ (l : Links). entered_link parent l.before numbers q)
    (c.links_of.ensures ∙ ap (λ (ns : List Node). links_by (map links_in ns) parent) c.deref.ensures.value ∙ links_are c.plant.new.nodes.items parent
    ∙ ap (λ (ls : List Links). links_by ls parent) c.in_ok-plant.ensures.links) in record {
      numbered = subst (λ (steps : List Step). AreNumbered (paths_after (reverse steps)) steps (told_by (all_links nodes) c.enter.new.numbers))
          (sym (ap steps_in back ∙ c.in_ok-plant.ensures.steps))
          (tree_same (paths_in old) (steps_in old) (told_by (all_links old) numbers) (told_by (all_links nodes) c.enter.new.numbers) c.self.invariant.numbered
          (told_entered (all_links old) (all_links nodes) numbers c.enter.new.numbers parent (λ p. ap (λ (ls : List Links). links_by ls p) links) put));
      past = subst (λ (ls : List Links). ArePastLinks ls c.enter.new.numbers) (sym links)
          (past_entered (all_links old) numbers c.enter.new.numbers parent c.self.invariant.past put);
    }

pub invariant_of-self-2 : goal.invariant_of-self-2
invariant_of-self-2 c =
    let old = c.self.inside.nodes.items in
    let numbers = c.self.inside.numbers in
    let nodes = c.plant.new.nodes.items in
    let nodes' = c.link.new.nodes.items in
    let node = c.after-node.result in
    let pushed = c.in_ok-push.ensures.items in
    let s = c.args.step in
    let n = c.in-Ok.number in
    let links = all_links old in
    let made : Link = record { number = n; func = s.func } in
    let view : paths_in old ≡ c.args.self.now.paths = ap (λ (s : Summed). s.paths) c.self.view_is in
    let some : 0 < length nodes = c.in_ok-plant.ensures.some in
    let planted : steps_in nodes ≡ steps_in old = c.in_ok-plant.ensures.steps in
    let more : steps_in nodes' ≡ steps_in old ++ s ∷ [] =
    ap (drop 1) c.link.ensures.steps
    ∙ (ap steps_in pushed ∙ (steps_more nodes node some ∙ ap (λ (q : Step). steps_in nodes ++ q ∷ []) c.after-node.ensures.step))
    ∙ ap (λ (steps : List Step). steps ++ s ∷ []) planted in
    let long : length (steps_in nodes') ≡ length (steps_in old) + 1 =
    omega (arith, ap {B = ℕ} length more, length-append (steps_in old) (s ∷ [])) in
    let number : n ≡ length (steps_in nodes') =
    omega (arith, c.in-Ok.ensures, c.len.ensures, c.plant.new.nodes.ok.0, length_steps nodes some, ap {B = ℕ} length planted, long) in
    let above : 0 < n = omega (arith, number, long) in
    let numbered = c.self.invariant.numbered in
    let low : s.parent < length (paths_in old) = subst (λ (ps : List (List ℕ)). s.parent < length ps) (sym view) c.requires.parent in
    let size : s.parent < length (nodes ++ node ∷ []) =
    omega (arith, low, numbered.count, length-append nodes (node ∷ []), length_steps nodes some, ap {B = ℕ} length planted) in
    let latest : c.links_of.result ≡ links_by links s.parent =
    c.links_of.ensures ∙ ap (λ (ns : List Node). links_by (map links_in ns) s.parent) c.deref.ensures.value ∙ links_are nodes s.parent
    ∙ ap (λ (ls : List Links). links_by ls s.parent) c.in_ok-plant.ensures.links in
    let put : (q : Step) → number_in c.enter.new.numbers q ≡ entered_link s.parent (links_by links s.parent).before numbers q =
    λ q. c.in_ok-enter.ensures.entered q ∙ ap (λ (l : Links). entered_link s.parent l.before numbers q) latest in
    let linked : (p : ℕ) → links_by (all_links nodes') p ≡ cond (nat_eq s.parent p) (with_link made (links_by links p)) (links_by links p) =
    links_linked links nodes nodes' node s.parent made c.in_ok-plant.ensures.links c.after-node.ensures.links size
    (subst (λ (ns : List Node). map links_in nodes' ≡ set (map links_in ns) s.parent (with_link made (links_by (map links_in ns) s.parent))) pushed
    (c.link.ensures.links (subst (λ (ns : List Node). s.parent < length ns) (sym pushed) size))) in record {
      numbered = tree_more c.args.self.now.paths (steps_in old) (steps_in nodes') (told_by links numbers) (told_by (all_links nodes') c.enter.new.numbers) s n
          view numbered c.requires.parent c.requires.absent more number
          (told_more links (all_links nodes') numbers c.enter.new.numbers s made above refl
          (none_told c.args.self.now.paths (steps_in old) (told_by links numbers) s view numbered c.requires.absent) linked put);
      past = past_more links (all_links nodes') numbers c.enter.new.numbers s.parent made above c.self.invariant.past linked put;
    }

pub returns-clause-sums : goal.returns-clause-sums
returns-clause-sums c = λ pairs sums.
    let old = c.self.inside.nodes.items in
    let nodes = c.plant.new.nodes.items in
    let nodes' = c.link.new.nodes.items in
    let paths = c.args.self.now.paths in
    let tallies = c.args.self.now.tallies in
    let node = c.after-node.result in
    let pushed = c.in_ok-push.ensures.items in
    let some : 0 < length nodes = c.in_ok-plant.ensures.some in
    let planted : paths_in nodes ≡ paths =
    ap (λ (steps : List Step). paths_after (reverse steps)) c.in_ok-plant.ensures.steps ∙ ap (λ (s : Summed). s.paths) c.self.view_is in
    let grown : paths_in nodes' ≡ paths ++ path_by paths c.args.step ∷ [] =
    paths_pushed nodes nodes' node some (c.link.ensures.steps ∙ ap (map step_of) pushed)
    ∙ (ap (λ (s : Step). paths_in nodes ++ path_by (paths_in nodes) s ∷ []) c.after-node.ensures.step
    ∙ ap (λ (ps : List (List ℕ)). ps ++ path_by ps c.args.step ∷ []) planted) in
    let long : 0 < length nodes' =
    omega (arith, some, ap {B = ℕ} length c.link.ensures.steps, ap {B = ℕ} length pushed, length-map nodes' step_of, length-map c.push.new.self.items step_of, length-append nodes (node ∷ [])) in
    let told : tallies_in nodes' ≡ tallies ++ no_tally ∷ [] =
    tallies_some nodes' long
    ∙ tallies_pushed nodes nodes' node c.after-node.ensures.tally (c.link.ensures.tallies ∙ ap (map tally_in) pushed)
    ∙ ap (λ (ts : List Tally). ts ++ no_tally ∷ [])
    (sym (tallies_some nodes some) ∙ c.in_ok-plant.ensures.tallies ∙ ap (λ (s : Summed). s.tallies) c.self.view_is) in
    subst (λ (ps : List (List ℕ)). AreSums ps (tallies_in nodes') pairs) (sym grown)
    (subst (λ (ts : List Tally). AreSums (paths ++ path_by paths c.args.step ∷ []) ts pairs) (sym told)
    (sums_fresh paths tallies pairs (path_by paths c.args.step) sums c.requires.absent))
