-- Marks that follow a script are those of a way through its places.
use Rattle.std.proofs.Common.{◌≡◌, ◌≢◌, ℕ, ◌+◌, ◌≤◌, Bool, true, false, List, [], ◌∷◌, ◌++◌, length, Option, Some, refl, sym, ap, subst, ◌∙◌, arith, append_assoc, length-append}
use Rattle.std.specs.Prelude.{All, if◌then◌else◌}
use Rattle.std.proofs.lemmas.Bool.{ne_eqb}
use Rattle.std.proofs.lemmas.List.{append-nil}
use Rattle.std.proofs.lemmas.List.Elements.{All-cons, All-head, All-nil, All-tail}
use Rattle.xray_image.specs.Program.{Program}
use Rattle.handler_word.specs.declared.mark.Mark.{Mark}
use Rattle.sled_words.specs.Words.{release_word}
use Rattle.machine_step.specs.Follows.{MarksFollow}
use Rattle.machine_step.specs.Loads.{Load, Reading}
use Rattle.machine_step.proofs.LoadByLoad.{ByLoads, by_later, by_loaded, by_loads, by_none}
use Rattle.audit_check.specs.private.Ways.{AreOwn, IsOwn, Tree, Leaf, Node, Held, Passes, Reaches, marked, marks_in, next_in, read, trees_of, wanted}
use Rattle.audit_check.proofs.TreeLoads.{as_many, marks_are, next_is}
use Rattle.audit_check.proofs.WayParts.{passes_earlier}

All-left : {X : Type 0} (P : X → Type 0) (xs ys : List X) → All P (xs ++ ys) → All P xs
All-left P [] ys all = All-nil P
All-left P (x ∷ xs) ys all = All-cons P x xs (All-head P x (xs ++ ys) all) (All-left P xs ys (All-tail P x (xs ++ ys) all))

All-right : {X : Type 0} (P : X → Type 0) (xs ys : List X) → All P (xs ++ ys) → All P ys
All-right P [] ys all = all
All-right P (x ∷ xs) ys all = All-right P xs ys (All-tail P x (xs ++ ys) all)

reject : (b : Bool) (x y : Reading) → b ≡ false → (if b then x else y) ≡ y
reject true x y e = absurd cc
reject false x y e = refl

module _ (code : ℕ → ℕ → ℕ) (bound : ℕ → ℕ) (release start : ℕ) (trees : List Tree) where
  -- Loads stand at a place. Some marks are done, and some trees are left, the first of them perhaps begun. Whatever comes
  -- of these is what comes of all.
  record Stands (place : ℕ) (loads : List Load) (done : List Mark) (left : List Tree) : Type 0 where
    marks : (more : List Load) → marks_in trees (loads ++ more) ≡ done ++ marks_in left more
    next : (more : List Load) → next_in trees (loads ++ more) ≡ next_in left more
    way : (later : List Mark) (end : ℕ) → Passes code bound (length done) left later place end → Passes code bound 0 trees (done ++ later) start end
    count : length done + length left ≡ length trees
    own : AreOwn release left

  record Standing (place : ℕ) (loads : List Load) : Type 0 where
    done : List Mark
    left : List Tree
    stands : Stands place loads done left

  marks_so_far : (place : ℕ) (loads : List Load) (done : List Mark) (left : List Tree) → Stands place loads done left
      → marks_in trees loads ≡ done ++ marks_in left []
  marks_so_far place loads done left s = ap (marks_in trees) (sym (append-nil loads)) ∙ s.marks []

  -- the same loads at a later place
  rise : (early place : ℕ) (loads : List Load) (done : List Mark) (left : List Tree) → early ≤ place
      → Stands early loads done left → Stands place loads done left
  rise early place loads done left before s = record {
    marks = s.marks;
    next = s.next;
    way = λ later end way. s.way later end (passes_earlier code bound (length done) left later early place end before way);
    count = s.count;
    own = s.own;
  }

  -- the first tree is at its mark
  closed : (place : ℕ) (loads : List Load) (done : List Mark) (mark : Mark) (left : List Tree)
      → Stands place loads done (Leaf mark ∷ left) → Stands place loads (done ++ mark ∷ []) left
  closed place loads done mark left s =
      let counted : length (done ++ mark ∷ []) ≡ length done + 1 = omega (arith, length-append done (mark ∷ [])) in
      record {
        marks = λ more. s.marks more ∙ sym (append_assoc done (mark ∷ []) (marks_in left more));
        next = s.next;
        way = λ later end way.
            let here : Passes code bound (length done + 1) left later place end = subst (λ n. Passes code bound n left later place end) counted way in
            let low : place ≤ place = omega arith in
            subst (λ (ms : List Mark). Passes code bound 0 trees ms start end) (sym (append_assoc done (mark ∷ []) later))
            (s.way (mark ∷ later) end (place, (refl, low), here));
        count = omega (arith, s.count, counted);
        own = s.own.1;
      }

  -- a load leads from the first tree to another
  opened : (place : ℕ) (loads : List Load) (done : List Mark) (tree next : Tree) (left : List Tree) (load : Load)
      → ((more : List Load) → read (load ∷ more) tree ≡ read more next)
      → ((mark : Mark) (end : ℕ) → Reaches code (bound (length done)) mark next place end → Reaches code (bound (length done)) mark tree place end)
      → IsOwn release next
      → Stands place loads done (tree ∷ left) → Stands place (loads ++ load ∷ []) done (next ∷ left)
  opened place loads done tree next left load reads reaches owns s = record {
    marks = λ more. ap (marks_in trees) (append_assoc loads (load ∷ []) more) ∙ (s.marks (load ∷ more)
        ∙ ap (λ (r : Reading). done ++ marked r (marks_in left)) (reads more));
    next = λ more. ap (next_in trees) (append_assoc loads (load ∷ []) more) ∙ (s.next (load ∷ more)
        ∙ ap (λ (r : Reading). wanted r (next_in left)) (reads more));
    way = λ later end. through later end;
    count = s.count;
    own = (owns, s.own.1);
  }
    where
      through : (later : List Mark) (end : ℕ) → Passes code bound (length done) (next ∷ left) later place end
          → Passes code bound 0 trees (done ++ later) start end
      through [] end way = absurd way
      through (mark ∷ later) end (at, way, rest) = s.way (mark ∷ later) end (at, reaches mark at way, rest)

  same_word : (word other : ℕ) → Some word ≡ Some other → word ≡ other
  same_word word other is = cc

  abbrev load_at : ℕ → ℕ → Load
  load_at place word = record { word = word; value = code place word }

  -- one more load, of the word that is wanted
  longer : (left : List Tree) (place : ℕ) (loads : List Load) (done : List Mark) (word : ℕ) → Stands place loads done left
      → next_in left [] ≡ Some word → place ≤ bound (length (marks_in trees loads)) → (word ≡ release → code place word ≢ 0)
      → Standing place (loads ++ load_at place word ∷ [])
  longer [] place loads done word s is high free = absurd cc
  longer (Leaf mark ∷ left) place loads done word s is high free =
      longer left place loads (done ++ mark ∷ []) word (closed place loads done mark left s) is high free
  longer (Node w recording next ∷ left) place loads done word s is high free =
      let within : place ≤ bound (length done) =
      subst (λ (ms : List Mark). place ≤ bound (length ms)) (marks_so_far place loads done (Node w recording next ∷ left) s ∙ append-nil done) high in
      let low : place ≤ place = omega arith in
      let same : code place w ≡ code place word = ap (code place) (same_word w word is) in
      record {
        done = done;
        left = next (code place word) ∷ left;
        stands = opened place loads done (Node w recording next) (next (code place word)) left (load_at place word) (λ more. refl)
            (λ mark end way. (place, low, within, subst (λ v. Reaches code (bound (length done)) mark (next v) place end) (sym same) way))
            (s.own.0.1 (code place word)) s;
      }
  longer (Held w next ∷ left) place loads done word s is high free =
      let within : place ≤ bound (length done) =
      subst (λ (ms : List Mark). place ≤ bound (length ms)) (marks_so_far place loads done (Held w next ∷ left) s ∙ append-nil done) high in
      let low : place ≤ place = omega arith in
      let at_word : w ≡ word = same_word w word is in
      let owned : w ≡ release = s.own.0.0 in
      let set : code place word ≢ 0 = free (sym at_word ∙ owned) in
      let set_there : code place w ≢ 0 = λ (q : code place w ≡ 0). set (sym (ap (code place) at_word) ∙ q) in
      record {
        done = done;
        left = next ∷ left;
        stands = opened place loads done (Held w next) next left (load_at place word) (λ more. reject _ _ _ (ne_eqb (code place word) 0 set))
            (λ mark end way. (place, low, within, set_there, way)) s.own.0.1 s;
      }

  -- all passings have their marks
  finish : (left : List Tree) (number place : ℕ) → length (marks_in left []) ≡ length left → Passes code bound number left (marks_in left []) place place
  finish [] number place all = omega arith
  finish (Leaf mark ∷ left) number place all =
      let low : place ≤ place = omega arith in
      let rest : length (marks_in left []) ≡ length left = omega (arith, all) in
      (place, (refl, low), finish left (number + 1) place rest)
  finish (Node word recording next ∷ left) number place all = absurd (omega (arith, all))
  finish (Held word next ∷ left) number place all = absurd (omega (arith, all))

module _ (program : Program) (threads : ℕ) (code : ℕ → ℕ → ℕ) (start : ℕ) (bound : ℕ → ℕ) (thread : ℕ) (hold : Option ℕ) (sleds : List ℕ) where
  abbrev trees : List Tree
  trees = trees_of program threads thread hold 0 sleds

  abbrev IsFree : Load → Type 0
  IsFree load = load.word ≡ release_word program thread → load.value ≢ 0

  stand : AreOwn (release_word program thread) trees → (loads : List Load) (place : ℕ)
      → ByLoads program threads code start bound thread hold sleds loads place → All IsFree loads
      → Standing code bound (release_word program thread) start trees place loads
  stand owns loads place by_none free = record {
    done = [];
    left = trees;
    stands = record { marks = λ more. refl; next = λ more. refl; way = λ later end way. way; count = omega arith; own = owns };
  }
  stand owns loads place (by_later before early next low follow) free =
      let s = stand owns before early follow free in
      record { done = s.done; left = s.left; stands = rise code bound (release_word program thread) start trees early next before s.done s.left low s.stands }
  stand owns loads place (by_loaded before at word follow wants high) free =
      let load : Load = record { word = word; value = code at word } in
      let s = stand owns before at follow (All-left IsFree before (load ∷ []) free) in
      let wants_next : next_in s.left [] ≡ Some word =
      sym (s.stands.next []) ∙ (ap (next_in trees) (append-nil before) ∙ (next_is program threads thread hold 0 sleds before ∙ wants)) in
      let within : at ≤ bound (length (marks_in trees before)) =
      subst (λ (ms : List Mark). at ≤ bound (length ms)) (sym (marks_are program threads thread hold 0 sleds before)) high in
      let own_free : IsFree load = All-head IsFree load [] (All-right IsFree before (load ∷ []) free) in
      longer code bound (release_word program thread) start trees s.left at before s.done word s.stands wants_next within own_free

  pub marks_pass : AreOwn (release_word program thread) trees → (marks : List Mark) (place : ℕ)
      → MarksFollow program threads code start bound thread hold sleds marks place → Passes code bound 0 trees marks start place
  marks_pass owns marks place f =
      let s = stand owns f.loads place (by_loads f.follow) f.released in
      let is : marks ≡ s.done ++ marks_in s.left [] =
      f.leave ∙ (sym (marks_are program threads thread hold 0 sleds f.loads)
      ∙ marks_so_far code bound (release_word program thread) start trees place f.loads s.done s.left s.stands) in
      let all : length (marks_in s.left []) ≡ length s.left =
      omega (arith, f.each, ap length is, length-append s.done (marks_in s.left []), s.stands.count, as_many program threads thread hold 0 sleds) in
      subst (λ (ms : List Mark). Passes code bound 0 trees ms start place) (sym is)
      (s.stands.way (marks_in s.left []) place (finish code bound (release_word program thread) start trees s.left (length s.done) place all))
