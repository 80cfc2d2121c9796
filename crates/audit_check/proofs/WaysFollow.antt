-- The marks of a way through the places of a script follow it.
use Rattle.std.proofs.Common.{◌≡◌, ◌≢◌, ℕ, ◌+◌, ◌==◌, ◌≤◌, Bool, true, false, List, [], ◌∷◌, ◌++◌, length, Option, Some, refl, sym, ap, subst, ◌∙◌, arith, append_assoc, length-append}
use Rattle.std.specs.Prelude.{All, if◌then◌else◌}
use Rattle.std.proofs.lemmas.Bool.{ne_eqb}
use Rattle.std.proofs.lemmas.List.{append-nil}
use Rattle.std.proofs.lemmas.List.Elements.{All-append, All-cons, All-nil}
use Rattle.xray_image.specs.Program.{Program}
use Rattle.handler_word.specs.declared.mark.Mark.{Mark}
use Rattle.handler_word.specs.declared.mark.Mark.TheVariants.{Recorded}
use Rattle.sled_words.specs.Words.{release_word}
use Rattle.machine_step.specs.Follows.{Follows, MarksFollow}
use Rattle.machine_step.specs.Loads.{Load, Reading, Wants, marks_of, next_load}
use Rattle.machine_step.proofs.LoadByLoad.{none as no_loads, later as up_to, loaded as one_more}
use Rattle.audit_check.specs.private.Ways.{AreOwn, IsOwn, Tree, Leaf, Node, Held, Passes, Reaches, marked, marks_in, next_in, read, trees_of, wanted}
use Rattle.audit_check.proofs.TreeLoads.{as_many, marks_are, next_is}
use Rattle.audit_check.proofs.WayParts.{as_long}

reject : (b : Bool) (x y : Reading) → b ≡ false → (if b then x else y) ≡ y
reject true x y e = absurd cc
reject false x y e = refl

module _ (program : Program) (threads : ℕ) (code : ℕ → ℕ → ℕ) (start : ℕ) (bound : ℕ → ℕ) (thread : ℕ) (hold : Option ℕ) (sleds : List ℕ) where
  abbrev trees : List Tree
  trees = trees_of program threads thread hold 0 sleds

  abbrev release : ℕ
  release = release_word program thread

  abbrev IsFree : Load → Type 0
  IsFree load = load.word ≡ release → load.value ≢ 0

  -- loads that follow the script to a place: these marks are done, and these trees are left
  record Made (place : ℕ) (done : List Mark) (left : List Tree) : Type 0 where
    loads : List Load
    follow : Follows program threads code start bound thread hold sleds loads place
    marks : (more : List Load) → marks_in trees (loads ++ more) ≡ done ++ marks_in left more
    next : (more : List Load) → next_in trees (loads ++ more) ≡ next_in left more
    free : All IsFree loads

  -- one load more, at a later place
  make_load : (place at : ℕ) (done : List Mark) (tree next : Tree) (left : List Tree) (word : ℕ) (recording : Mark) → place ≤ at → at ≤ bound (length done)
      → read [] tree ≡ Wants word recording → ((more : List Load) → read (record { word = word; value = code at word } ∷ more) tree ≡ read more next)
      → (word ≡ release → code at word ≢ 0) → Made place done (tree ∷ left) → Made at done (next ∷ left)
  make_load place at done tree next left word recording low high empty reads free m = record {
    loads = m.loads ++ load ∷ [];
    follow = one_more m.loads at word (up_to m.loads place at low m.follow) wants within;
    marks = λ more. ap (marks_in trees) (append_assoc m.loads (load ∷ []) more) ∙ (m.marks (load ∷ more)
        ∙ ap (λ (r : Reading). done ++ marked r (marks_in left)) (reads more));
    next = λ more. ap (next_in trees) (append_assoc m.loads (load ∷ []) more) ∙ (m.next (load ∷ more)
        ∙ ap (λ (r : Reading). wanted r (next_in left)) (reads more));
    free = All-append IsFree m.loads (load ∷ []) m.free (All-cons IsFree load [] free (All-nil IsFree));
  }
    where
      load : Load
      load = record { word = word; value = code at word }

      wants : next_load program threads thread hold sleds m.loads ≡ Some word
      wants = sym (next_is program threads thread hold 0 sleds m.loads) ∙ (ap (next_in trees) (sym (append-nil m.loads)) ∙ (m.next []
          ∙ ap (λ (r : Reading). wanted r (next_in left)) empty))

      marks_now : marks_of program threads thread hold sleds m.loads ≡ done
      marks_now = sym (marks_are program threads thread hold 0 sleds m.loads) ∙ (ap (marks_in trees) (sym (append-nil m.loads)) ∙ (m.marks []
          ∙ (ap (λ (r : Reading). done ++ marked r (marks_in left)) empty ∙ append-nil done)))

      within : at ≤ bound (length (marks_of program threads thread hold sleds m.loads))
      within = subst (λ (ms : List Mark). at ≤ bound (length ms)) (sym marks_now) high

  -- the loads of a passing
  make_passing : (tree : Tree) (place end : ℕ) (done : List Mark) (mark : Mark) (left : List Tree) → IsOwn release tree
      → Reaches code (bound (length done)) mark tree place end → Made place done (tree ∷ left) → Made end (done ++ mark ∷ []) left
  make_passing (Leaf m) place end done mark left own (is, low) made = record {
    loads = made.loads;
    follow = up_to made.loads place end low made.follow;
    marks = λ more. made.marks more ∙ (ap (λ (k : Mark). done ++ k ∷ marks_in left more) is ∙ sym (append_assoc done (mark ∷ []) (marks_in left more)));
    next = made.next;
    free = made.free;
  }
  make_passing (Node word recording next) place end done mark left own (at, low, high, way) made =
      make_passing (next (code at word)) at end done mark left (own.1 (code at word)) way
      (make_load place at done (Node word recording next) (next (code at word)) left word recording low high refl (λ more. refl)
      (λ is. absurd (own.0 is)) made)
  make_passing (Held word next) place end done mark left own (at, low, high, set, way) made =
      make_passing next at end done mark left own.1 way
      (make_load place at done (Held word next) next left word Recorded low high refl
      (λ more. reject (code at word == 0) _ _ (ne_eqb (code at word) 0 set)) (λ e. set) made)

  -- the loads of all passings
  make_all : (left : List Tree) (marks : List Mark) (number place end : ℕ) (done : List Mark) → number ≡ length done → AreOwn release left
      → Passes code bound number left marks place end → Made place done left → Made end (done ++ marks) []
  make_all [] [] number place end done count own way made = record {
    loads = made.loads;
    follow = up_to made.loads place end way made.follow;
    marks = λ more. made.marks more ∙ ap (λ (ms : List Mark). ms ++ []) (sym (append-nil done));
    next = made.next;
    free = made.free;
  }
  make_all [] (mark ∷ marks) number place end done count own way made = absurd way
  make_all (tree ∷ left) [] number place end done count own way made = absurd way
  make_all (tree ∷ left) (mark ∷ marks) number place end done count own (at, way, rest) made =
      let here : Reaches code (bound (length done)) mark tree place at =
      subst (λ n. Reaches code (bound n) mark tree place at) count way in
      let counted : number + 1 ≡ length (done ++ mark ∷ []) = omega (arith, count, length-append done (mark ∷ [])) in
      subst (λ (ms : List Mark). Made end ms []) (append_assoc done (mark ∷ []) marks)
      (make_all left marks (number + 1) at end (done ++ mark ∷ []) counted own.1 rest (make_passing tree place at done mark left own.0 here made))

  pub passed_marks : AreOwn release trees → (marks : List Mark) (place : ℕ)
      → Passes code bound 0 trees marks start place → MarksFollow program threads code start bound thread hold sleds marks place
  passed_marks own marks place way =
      let made = make_all trees marks 0 start place [] refl own way
      (record { loads = []; follow = no_loads; marks = λ more. refl; next = λ more. refl; free = All-nil IsFree }) in
      record {
        loads = made.loads;
        follow = made.follow;
        leave = sym (append-nil marks) ∙ (sym (made.marks []) ∙ (ap (marks_in trees) (append-nil made.loads) ∙ marks_are program threads thread hold 0 sleds made.loads));
        released = made.free;
        each = as_long code bound 0 trees marks start place way ∙ as_many program threads thread hold 0 sleds;
      }
