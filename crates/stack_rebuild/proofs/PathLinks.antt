-- The numbers that links and a table have for steps, after one more path goes on.
use Rattle.std.proofs.Common.{◌≡◌, ◌<◌, ◌++◌, ◌∙◌, ◌&&◌, ℕ, zero, suc, Bool, true, false, cond, List, [], ◌∷◌, length, map, refl, ap, sym, arith, nat_eq, get_or, set, Option, Some, None}
use Rattle.std.specs.Option.{option_or}
use Rattle.std.proofs.lemmas.Bool.{eqb-false, eqb-true, eq-eqb, ne_eqb}
use Rattle.std.proofs.lemmas.List.{get_or-set_other, get_or-set_same, length-map, map-append}
use Rattle.std.proofs.Math.Seq.{map-set_same}
use Rattle.stack_rebuild.specs.declared.links.Link.{Link}
use Rattle.stack_rebuild.specs.declared.links.Links.{Links}
use Rattle.stack_rebuild.specs.declared.node.Node.{Node}
use Rattle.stack_rebuild.specs.declared.node.Step.{Step}
use Rattle.stack_rebuild.specs.private.Links.{ArePastLinks, entered_link, link_to, linked_to, links_by, no_links, step_by, told_by, with_link}
use Rattle.stack_rebuild.specs.private.PathNumbers.{Numbers, is_step, number_in}
use Rattle.stack_rebuild.specs.private.PathTree.{all_links, links_in}

-- what a table has for a step of a link that was entered, and for other steps
entered_here : (link : Link) (numbers : Numbers) (q : Step) → entered_link q.parent link numbers q ≡ option_or (link_to link q.func) (number_in numbers q)
entered_here link numbers q =
    ap (λ b. cond (nat_eq link.number 0) (number_in numbers q) (cond (b && nat_eq link.func q.func) (Some link.number) (number_in numbers q))) (eq-eqb q.parent q.parent refl)
    ∙ by_tests (nat_eq link.number 0) (nat_eq link.func q.func) link.number (number_in numbers q)
  where
    by_tests : (b e : Bool) (n : ℕ) (o : Option ℕ) → cond b o (cond e (Some n) o) ≡ option_or (cond b None (cond e (Some n) None)) o
    by_tests true e n o = refl
    by_tests false true n o = refl
    by_tests false false n o = refl

entered_other : (parent : ℕ) (link : Link) (numbers : Numbers) (q : Step) → nat_eq parent q.parent ≡ false → entered_link parent link numbers q ≡ number_in numbers q
entered_other parent link numbers q other =
    ap (λ b. cond (nat_eq link.number 0) (number_in numbers q) (cond (b && nat_eq link.func q.func) (Some link.number) (number_in numbers q))) other
    ∙ by_test (nat_eq link.number 0)
  where
    by_test : (b : Bool) → cond b (number_in numbers q) (number_in numbers q) ≡ number_in numbers q
    by_test true = refl
    by_test false = refl

-- which paths are linked after one more
linked_with : (link : Link) (links : Links) (func : ℕ) → linked_to (with_link link links) func
    ≡ cond (nat_eq links.first.number 0) (option_or (link_to link func) (option_or (link_to links.latest func) (link_to links.before func)))
    (option_or (link_to links.first func) (option_or (link_to link func) (link_to links.latest func)))
linked_with link links func = by_first (nat_eq links.first.number 0)
  where
    by_first : (b : Bool)
        → linked_to (let made : Links = cond b (record { first = link; latest = links.latest; before = links.before }) (record { first = links.first; latest = link; before = links.latest }) in made) func
        ≡ cond b (option_or (link_to link func) (option_or (link_to links.latest func) (link_to links.before func)))
        (option_or (link_to links.first func) (option_or (link_to link func) (link_to links.latest func)))
    by_first true = refl
    by_first false = refl

-- no path is linked by a link that is none
none_linked : (link : Link) (func : ℕ) → nat_eq link.number 0 ≡ true → link_to link func ≡ None
none_linked link func none = ap (λ b. cond b None (cond (nat_eq link.func func) (Some link.number) None)) none

-- The number that links and the table have for a step after one more link: that of the link, or else the one before. If
-- the step is that of the link, it had none.
linked_more : (a : Bool) (x y w z o : Option ℕ) → (a ≡ true → x ≡ None) → ((m : ℕ) → z ≡ Some m → option_or (option_or x (option_or y w)) o ≡ None)
    → option_or (cond a (option_or z (option_or y w)) (option_or x (option_or z y))) (option_or w o) ≡ option_or z (option_or (option_or x (option_or y w)) o)
linked_more true None None None None o none absent = refl
linked_more true None None (Some l) None o none absent = refl
linked_more true None (Some k) w None o none absent = refl
linked_more true (Some j) y w None o none absent = let never : Some j ≡ None = none refl in cc
linked_more true x y w (Some m) o none absent = refl
linked_more false None None None None o none absent = refl
linked_more false None None (Some l) None o none absent = refl
linked_more false None (Some k) w None o none absent = refl
linked_more false (Some j) y w None o none absent = refl
linked_more false None y w (Some m) o none absent = refl
linked_more false (Some j) y w (Some m) o none absent = let never : Some j ≡ None = absent m refl in cc

-- the number of a step after one more path was linked, and the one that it displaces was entered
pub told_more : (links links' : List Links) (numbers numbers' : Numbers) (s : Step) (link : Link) → 0 < link.number → link.func ≡ s.func → told_by links numbers s ≡ None
    → ((p : ℕ) → links_by links' p ≡ cond (nat_eq s.parent p) (with_link link (links_by links p)) (links_by links p))
    → ((q : Step) → number_in numbers' q ≡ entered_link s.parent (links_by links s.parent).before numbers q)
    → (q : Step) → told_by links' numbers' q ≡ cond (is_step s q) (Some link.number) (told_by links numbers q)
told_more links links' numbers numbers' s link some own absent linked put q = by_parent (nat_eq s.parent q.parent) refl
  where
    made : link_to link q.func ≡ cond (nat_eq s.func q.func) (Some link.number) None
    made = ap (λ b. cond b None (cond (nat_eq link.func q.func) (Some link.number) None)) (ne_eqb link.number 0 (λ is. absurd (omega (arith, some, is))))
        ∙ ap (λ (f : ℕ). cond (nat_eq f q.func) (Some link.number) None) own

    by_parent : (b : Bool) → nat_eq s.parent q.parent ≡ b → told_by links' numbers' q ≡ cond (is_step s q) (Some link.number) (told_by links numbers q)
    by_parent false other =
        ap (λ (ls : Links). option_or (linked_to ls q.func) (number_in numbers' q)) (linked q.parent ∙ ap (λ b. cond b (with_link link (links_by links q.parent)) (links_by links q.parent)) other)
        ∙ ap (option_or (linked_to (links_by links q.parent) q.func)) (put q ∙ entered_other s.parent (links_by links s.parent).before numbers q other)
        ∙ sym (ap (λ b. cond (b && nat_eq s.func q.func) (Some link.number) (told_by links numbers q)) other)
    by_parent true same =
        let parent : s.parent ≡ q.parent = eqb-true s.parent q.parent same in
        let ls = links_by links q.parent in
        let x = link_to ls.first q.func in
        let y = link_to ls.latest q.func in
        let w = link_to ls.before q.func in
        let o = number_in numbers q in
        ap (λ (l : Links). option_or (linked_to l q.func) (number_in numbers' q)) (linked q.parent ∙ ap (λ b. cond b (with_link link ls) ls) same)
        ∙ ap (λ (l : Option ℕ). option_or l (number_in numbers' q)) (linked_with link ls q.func)
        ∙ ap (option_or (cond (nat_eq ls.first.number 0) (option_or (link_to link q.func) (option_or y w)) (option_or x (option_or (link_to link q.func) y))))
        (put q ∙ (ap (λ (p : ℕ). entered_link p (links_by links p).before numbers q) parent ∙ entered_here ls.before numbers q))
        ∙ linked_more (nat_eq ls.first.number 0) x y w (link_to link q.func) o (none_linked ls.first q.func)
        (λ m is. by_func parent m (nat_eq s.func q.func) refl (sym made ∙ is))
        ∙ ap (λ (z : Option ℕ). option_or z (told_by links numbers q)) made
        ∙ by_test (nat_eq s.func q.func)
        ∙ sym (ap (λ b. cond (b && nat_eq s.func q.func) (Some link.number) (told_by links numbers q)) same)
      where
        by_func : s.parent ≡ q.parent → (m : ℕ) (e : Bool) → nat_eq s.func q.func ≡ e → cond (nat_eq s.func q.func) (Some link.number) None ≡ Some m → told_by links numbers q ≡ None
        by_func parent m true func is =
            ap (λ (p : ℕ). option_or (linked_to (links_by links p) q.func) (number_in numbers (record { parent = p; func = q.func }))) (sym parent)
            ∙ (ap (λ (f : ℕ). option_or (linked_to (links_by links s.parent) f) (number_in numbers (record { parent = s.parent; func = f }))) (sym (eqb-true s.func q.func func)) ∙ absent)
        by_func parent m false func is =
            let none : None ≡ Some m = sym (ap (λ b. cond b (Some link.number) None) func) ∙ is in cc

        by_test : (b : Bool) → option_or (cond b (Some link.number) None) (told_by links numbers q) ≡ cond b (Some link.number) (told_by links numbers q)
        by_test true = refl
        by_test false = refl

-- the same numbers if the links are the same, and the table has the same
pub told_same : (links links' : List Links) (numbers numbers' : Numbers) → ((p : ℕ) → links_by links' p ≡ links_by links p) → ((q : Step) → number_in numbers' q ≡ number_in numbers q)
    → (q : Step) → told_by links' numbers' q ≡ told_by links numbers q
told_same links links' numbers numbers' linked put q =
    ap (λ (l : Links). option_or (linked_to l q.func) (number_in numbers' q)) (linked q.parent) ∙ ap (option_or (linked_to (links_by links q.parent) q.func)) (put q)

-- the same numbers after a link that still leads to its path was entered
pub told_entered : (links links' : List Links) (numbers numbers' : Numbers) (parent : ℕ) → ((p : ℕ) → links_by links' p ≡ links_by links p)
    → ((q : Step) → number_in numbers' q ≡ entered_link parent (links_by links parent).before numbers q)
    → (q : Step) → told_by links' numbers' q ≡ told_by links numbers q
told_entered links links' numbers numbers' parent linked put q =
    ap (λ (l : Links). option_or (linked_to l q.func) (number_in numbers' q)) (linked q.parent) ∙ by_parent (nat_eq parent q.parent) refl
  where
    once : (x y w o : Option ℕ) → option_or (option_or x (option_or y w)) (option_or w o) ≡ option_or (option_or x (option_or y w)) o
    once None None None o = refl
    once None None (Some l) o = refl
    once None (Some k) w o = refl
    once (Some j) y w o = refl

    by_parent : (b : Bool) → nat_eq parent q.parent ≡ b → option_or (linked_to (links_by links q.parent) q.func) (number_in numbers' q) ≡ told_by links numbers q
    by_parent false other = ap (option_or (linked_to (links_by links q.parent) q.func)) (put q ∙ entered_other parent (links_by links parent).before numbers q other)
    by_parent true same =
        ap (option_or (linked_to (links_by links q.parent) q.func))
        (put q ∙ (ap (λ (p : ℕ). entered_link p (links_by links p).before numbers q) (eqb-true parent q.parent same) ∙ entered_here (links_by links q.parent).before numbers q))
        ∙ once (link_to (links_by links q.parent).first q.func) (link_to (links_by links q.parent).latest q.func) (link_to (links_by links q.parent).before q.func) (number_in numbers q)

-- ---- which steps a table has

-- a link that is none enters nothing
entered_none : (parent : ℕ) (link : Link) (numbers : Numbers) (q : Step) → link.number ≡ 0 → entered_link parent link numbers q ≡ number_in numbers q
entered_none parent link numbers q none =
    ap (λ b. cond b (number_in numbers q) (cond (is_step (step_by parent link) q) (Some link.number) (number_in numbers q))) (eq-eqb link.number 0 none)

pub past_same : (links : List Links) (numbers numbers' : Numbers) → ArePastLinks links numbers → ((q : Step) → number_in numbers' q ≡ number_in numbers q) → ArePastLinks links numbers'
past_same links numbers numbers' own put = record { past = λ q none. put q ∙ own.past q none; filled = own.filled }

-- after a link was entered
pub past_entered : (links : List Links) (numbers numbers' : Numbers) (parent : ℕ) → ArePastLinks links numbers
    → ((q : Step) → number_in numbers' q ≡ entered_link parent (links_by links parent).before numbers q) → ArePastLinks links numbers'
past_entered links numbers numbers' parent own put = record { past = λ q none. put q ∙ (by_parent q none (nat_eq parent q.parent) refl ∙ own.past q none); filled = own.filled }
  where
    by_parent : (q : Step) → (links_by links q.parent).before.number ≡ 0 → (b : Bool) → nat_eq parent q.parent ≡ b
        → entered_link parent (links_by links parent).before numbers q ≡ number_in numbers q
    by_parent q none true same =
        entered_none parent (links_by links parent).before numbers q (ap (λ (p : ℕ). (links_by links p).before.number) (eqb-true parent q.parent same) ∙ none)
    by_parent q none false other = entered_other parent (links_by links parent).before numbers q other

-- after one more path was linked, and the one that it displaces was entered
pub past_more : (links links' : List Links) (numbers numbers' : Numbers) (parent : ℕ) (link : Link) → 0 < link.number → ArePastLinks links numbers
    → ((p : ℕ) → links_by links' p ≡ cond (nat_eq parent p) (with_link link (links_by links p)) (links_by links p))
    → ((q : Step) → number_in numbers' q ≡ entered_link parent (links_by links parent).before numbers q) → ArePastLinks links' numbers'
past_more links links' numbers numbers' parent link some own linked put = record {
  past = λ q none.
      (past_entered links numbers numbers' parent own put).past q
      (before_in q.parent (nat_eq parent q.parent) (sym (ap (λ (l : Links). l.before.number) (linked q.parent)) ∙ none));
  filled = λ p none.
      ap (λ (l : Links). l.before.number) (linked p) ∙ filled_in p (nat_eq parent p) (sym (ap (λ (l : Links). l.latest.number) (linked p)) ∙ none);
}
  where
    made : Links → Bool → Links
    made ls b = cond b (record { first = link; latest = ls.latest; before = ls.before }) (record { first = ls.first; latest = link; before = ls.latest })

    before_made : (p : ℕ) (b : Bool) → (made (links_by links p) b).before.number ≡ 0 → (links_by links p).before.number ≡ 0
    before_made p true none = none
    before_made p false none = own.filled p none

    before_in : (p : ℕ) (b : Bool) → (cond b (with_link link (links_by links p)) (links_by links p)).before.number ≡ 0 → (links_by links p).before.number ≡ 0
    before_in p true none = before_made p (nat_eq (links_by links p).first.number 0) none
    before_in p false none = none

    filled_made : (p : ℕ) (b : Bool) → (made (links_by links p) b).latest.number ≡ 0 → (made (links_by links p) b).before.number ≡ 0
    filled_made p true none = own.filled p none
    filled_made p false none = absurd (omega (arith, some, none))

    filled_in : (p : ℕ) (b : Bool) → (cond b (with_link link (links_by links p)) (links_by links p)).latest.number ≡ 0
        → (cond b (with_link link (links_by links p)) (links_by links p)).before.number ≡ 0
    filled_in p true none = filled_made p (nat_eq (links_by links p).first.number 0) none
    filled_in p false none = own.filled p none

-- ---- the number of a step

-- the number that links have, or else the table
pub told_linked : (links : List Links) (numbers : Numbers) (q : Step) (n : ℕ) → linked_to (links_by links q.parent) q.func ≡ Some n → told_by links numbers q ≡ Some n
told_linked links numbers q n is = ap (λ (o : Option ℕ). option_or o (number_in numbers q)) is

pub told_else : (links : List Links) (numbers : Numbers) (q : Step) → linked_to (links_by links q.parent) q.func ≡ None → told_by links numbers q ≡ number_in numbers q
told_else links numbers q none = ap (λ (o : Option ℕ). option_or o (number_in numbers q)) none

-- ---- the links of nodes

-- a node in place of another that has the same links
pub links_set : (nodes : List Node) (i : ℕ) (node d : Node) → links_in node ≡ links_in (get_or nodes i d) → all_links (set nodes i node) ≡ all_links nodes
links_set [] i node d same = refl
links_set (first ∷ nodes) zero node d same = map-set_same links_in (first ∷ nodes) zero node d same
links_set (first ∷ nodes) (suc i) node d same = map-set_same links_in (first ∷ nodes) (suc i) node d same

pub links_are : (nodes : List Node) (n : ℕ) → links_by (map links_in nodes) n ≡ links_by (all_links nodes) n
links_are [] zero = refl
links_are [] (suc n) = refl
links_are (node ∷ nodes) n = refl

-- an item that stands for those that aren't there changes nothing at the end
get_or-more : {X : Type 0} (xs : List X) (d : X) (i : ℕ) → get_or (xs ++ d ∷ []) i d ≡ get_or xs i d
get_or-more [] d zero = refl
get_or-more [] d (suc i) = refl
get_or-more (x ∷ xs) d zero = refl
get_or-more (x ∷ xs) d (suc i) = get_or-more xs d i

-- the links at each number after one more path was linked with its parent
pub links_linked : (links : List Links) (nodes nodes' : List Node) (node : Node) (parent : ℕ) (link : Link) → all_links nodes ≡ links
    → node.links ≡ no_links → parent < length (nodes ++ node ∷ [])
    → map links_in nodes' ≡ set (map links_in (nodes ++ node ∷ [])) parent (with_link link (links_by (map links_in (nodes ++ node ∷ [])) parent))
    → (p : ℕ) → links_by (all_links nodes') p ≡ cond (nat_eq parent p) (with_link link (links_by links p)) (links_by links p)
links_linked links nodes nodes' node parent link same none within put p =
    sym (links_are nodes' p) ∙ ap (λ (ls : List Links). links_by ls p) put ∙ by_parent (nat_eq parent p) refl
  where
    all : List Links
    all = map links_in (nodes ++ node ∷ [])

    more : Links
    more = with_link link (links_by all parent)

    was : (k : ℕ) → links_by all k ≡ links_by links k
    was k =
        ap (λ (ls : List Links). links_by ls k) (map-append links_in nodes (node ∷ []) ∙ ap (λ (l : Links). map links_in nodes ++ l ∷ []) none)
        ∙ get_or-more (map links_in nodes) no_links k ∙ links_are nodes k ∙ ap (λ (ls : List Links). links_by ls k) same

    by_parent : (b : Bool) → nat_eq parent p ≡ b → links_by (set all parent more) p ≡ cond (nat_eq parent p) (with_link link (links_by links p)) (links_by links p)
    by_parent true is =
        let here : parent ≡ p = eqb-true parent p is in
        ap (links_by (set all parent more)) (sym here)
        ∙ get_or-set_same all parent more no_links (omega (arith, within, length-map (nodes ++ node ∷ []) links_in))
        ∙ ap (with_link link) (was parent ∙ ap (links_by links) here)
        ∙ sym (ap (λ b. cond b (with_link link (links_by links p)) (links_by links p)) is)
    by_parent false is =
        get_or-set_other all parent p more no_links (λ e. eqb-false parent p is (sym e))
        ∙ was p
        ∙ sym (ap (λ b. cond b (with_link link (links_by links p)) (links_by links p)) is)
