-- A thread whose marks are judged, before its first passing and after one more.
use Rattle.std.proofs.Common.{◌≡◌, Bor, ℕ, ◌+◌, ◌<◌, ◌≤◌, List, [], ◌∷◌, ◌++◌, length, Option, Some, None, refl, sym, ap, subst, ◌∙◌, arith, length-append}
use Rattle.std.specs.Prelude.{IfSome, MatchOption}
use Rattle.std.proofs.lemmas.List.Elements.{All-append, All-cons, All-nil}
use Rattle.xray_image.specs.Program.{Program}
use Rattle.handler_word.specs.declared.mark.Mark.{Mark}
use Rattle.patch_script.specs.declared.command.PatchCommand.{PatchCommand}
use Rattle.patch_script.specs.Bounds.{bound_of}
use Rattle.patch_script.specs.CodeAt.{code_at}
use Rattle.patch_script.specs.Micros.{hold_of, micros, start_of, total_of}
use Rattle.machine_step.specs.Follows.{MarksFollow}
use Rattle.machine_step.specs.Loads.{is_held_at}
use Rattle.audit_check.specs.declared.follower.Follower.{Follower}
use Rattle.audit_check.specs.declared.switches.Course.{Course}
use Rattle.audit_check.specs.private.Judging.{ArePassed, FindsBound, HasJudged, IsReady, Judges}
use Rattle.audit_check.specs.private.Switches.{IsCourseOf}
use Rattle.audit_check.specs.private.Turns.{IsLeast}
use Rattle.audit_check.specs.private.Ways.{Tree, Leaf, Node, Held, Reaches, passing_tree}
use Rattle.audit_check.proofs.PassingBounds.{bound_within, bounds_later}
use Rattle.audit_check.proofs.LeastMarks as least

-- ways end within what their places are within
reaches_within : (code : ℕ → ℕ → ℕ) (bound last : ℕ) (mark : Mark) (tree : Tree) (from end : ℕ) → from ≤ last → bound ≤ last
    → Reaches code bound mark tree from end → (e : ℕ) × Reaches code bound mark tree from e × (e ≤ last)
reaches_within code bound last mark (Leaf m) from end low high (is, up) = (from, (is, omega arith), low)
reaches_within code bound last mark (Node word recording next) from end low high (at, after, within, way) =
    let rest = reaches_within code bound last mark (next (code at word)) at end (omega arith) high way in
    (rest.0, (at, after, within, rest.1), rest.2)
reaches_within code bound last mark (Held word next) from end low high (at, after, within, set, way) =
    let rest = reaches_within code bound last mark next at end (omega arith) high way in
    (rest.0, (at, after, within, set, rest.1), rest.2)

least_within : (code : ℕ → ℕ → ℕ) (bound last : ℕ) (mark : Mark) (tree : Tree) (from : ℕ) (end : Option ℕ) → from ≤ last → bound ≤ last
    → IsLeast (Reaches code bound mark tree from) end → IfSome end (λ place. place ≤ last)
least_within code bound last mark tree from None low high never = tt
least_within code bound last mark tree from (Some end) low high (way, least) =
    let some = reaches_within code bound last mark tree from end low high way in
    let early = least some.0 some.1 in
    let within = some.2 in omega arith

-- another follower of the same thread
pub record Same (old new : Follower) : Type 0 where
  pub image : new.image ≡ old.image
  pub course : new.course ≡ old.course
  pub thread : new.thread ≡ old.thread
  pub hold : new.hold ≡ old.hold
  pub heads : length new.passed.heads.items ≡ length old.passed.heads.items

pub same_ready : (old new : Follower) → Same old new → IsReady old → IsReady new
same_ready old new same ready = record {
  passed = same.heads ∙ (ready.passed ∙ ap (λ (i : Bor Program). length i.now.sleds) (sym same.image));
  heads = ap (λ (c : Bor Course). length c.now.switches.heads.items) same.course ∙ (ready.heads ∙ ap (λ (i : Bor Program). length i.now.sleds) (sym same.image));
  some = subst (λ n. 0 < n) (sym same.thread) ready.some;
  within = let low = ready.within in let count = ap (λ (c : Bor Course). length c.now.switches.releases.items) same.course in omega (arith, low, count, same.thread);
}

module _ (program : Program) (threads : ℕ) (script : List PatchCommand) where
  abbrev code : ℕ → ℕ → ℕ
  code = code_at program threads script

  -- the marks of a thread of this number follow the script up to a place
  abbrev pub Follow : ℕ → List ℕ → List Mark → ℕ → Type 0
  Follow thread sleds marks place =
      MarksFollow program threads code (start_of program threads script) (bound_of program threads script thread) thread (hold_of thread script) sleds marks place

  pub judged_first : (f : Follower) → Judges program threads script f → f.thread ≤ threads → f.passing ≡ 0 → f.awaits ≡ 0
      → f.place ≡ Some (start_of program threads script) → start_of program threads script ≤ total_of program threads script
      → HasJudged program threads script f [] []
  judged_first f judges within none no_awaits place low = record {
    judges = judges;
    count = none;
    same = refl;
    exist = All-nil (λ k. k < length program.sleds);
    within = within;
    place = subst (λ (p : Option ℕ). IsLeast (Follow f.thread [] []) p) (sym place)
        (least.least_at_first program threads code (start_of program threads script) (bound_of program threads script f.thread) f.thread (hold_of f.thread script)
        judges.ready.some within);
    low = subst (λ (p : Option ℕ). IfSome p (λ n. n ≤ total_of program threads script)) (sym place) low;
    passed = λ i awaited early is. absurd (omega (arith, early, no_awaits));
  }

  -- the least end of one more passing, if the marks before it follow the script
  abbrev EndsAt : Follower → ℕ → ℕ → Mark → Option ℕ → Option ℕ → Type 0
  EndsAt f bound sled mark place end =
      MatchOption place (end ≡ None) (λ from. IsLeast (Reaches code bound mark (passing_tree program threads f.thread (is_held_at f.hold f.passing) sled) from) end)

  pub same_judges : (old new : Follower) → Same old new → Judges program threads script old → Judges program threads script new
  same_judges old new same judges = record {
    ready = same_ready old new same judges.ready;
    image = ap (λ (i : Bor Program). i.now) same.image ∙ judges.image;
    course = subst (λ (c : Bor Course). IsCourseOf program threads script c.now) (sym same.course) judges.course;
    hold = same.hold ∙ (judges.hold ∙ ap (λ t. hold_of t script) (sym same.thread));
  }

  least_next : (old : Follower) (sleds : List ℕ) (marks : List Mark) (bound sled : ℕ) (mark : Mark) (place end : Option ℕ)
      → HasJudged program threads script old sleds marks → bound ≡ bound_of program threads script old.thread old.passing → sled < length program.sleds
      → IsLeast (Follow old.thread sleds marks) place → EndsAt old bound sled mark place end → IsLeast (Follow old.thread (sleds ++ sled ∷ []) (marks ++ mark ∷ [])) end
  least_next old sleds marks bound sled mark None end has is low never none =
      subst (λ (e : Option ℕ). IsLeast (Follow old.thread (sleds ++ sled ∷ []) (marks ++ mark ∷ [])) e) (sym none)
      (least.never_after program threads code (start_of program threads script) (bound_of program threads script old.thread) old.thread (hold_of old.thread script)
      has.judges.ready.some has.within sleds marks sled mark has.exist low never)
  least_next old sleds marks bound sled mark (Some from) end has is low found next =
      least.least_after program threads code (start_of program threads script) (bound_of program threads script old.thread) old.thread (hold_of old.thread script)
      has.judges.ready.some has.within sleds marks sled mark from end has.exist low found at_count
    where
      At : ℕ → Option ℕ → ℕ → Type 0
      At b hold n = IsLeast (Reaches code b mark (passing_tree program threads old.thread (is_held_at hold n) sled) from) end

      at_bound : At (bound_of program threads script old.thread old.passing) old.hold old.passing
      at_bound = subst (λ b. At b old.hold old.passing) is next

      at_hold : At (bound_of program threads script old.thread old.passing) (hold_of old.thread script) old.passing
      at_hold = subst (λ (h : Option ℕ). At (bound_of program threads script old.thread old.passing) h old.passing) has.judges.hold at_bound

      at_count : At (bound_of program threads script old.thread (length sleds)) (hold_of old.thread script) (length sleds)
      at_count = subst (λ n. At (bound_of program threads script old.thread n) (hold_of old.thread script) n) has.count at_hold

  low_next : (old : Follower) (sleds : List ℕ) (marks : List Mark) (bound sled : ℕ) (mark : Mark) (place end : Option ℕ)
      → bound ≤ total_of program threads script → IfSome place (λ n. n ≤ total_of program threads script) → EndsAt old bound sled mark place end
      → IfSome end (λ n. n ≤ total_of program threads script)
  low_next old sleds marks bound sled mark None end within low none =
      subst (λ (e : Option ℕ). IfSome e (λ n. n ≤ total_of program threads script)) (sym none) tt
  low_next old sleds marks bound sled mark (Some from) end within low next =
      least_within code bound (total_of program threads script) mark (passing_tree program threads old.thread (is_held_at old.hold old.passing) sled)
      from end low within next

  passed_more : (new : Follower) (passing count : ℕ) → ArePassed new passing count → ArePassed new (passing + 1) count
  passed_more new passing count passed = λ i awaited low is. bounds_later new.thread passing awaited (passed i awaited low is)

  pub judged_more : (old new : Follower) (sleds : List ℕ) (marks : List Mark) (bound sled : ℕ) (mark : Mark) → Same old new
      → new.passing ≡ old.passing + 1 → FindsBound old old.passing bound → ArePassed new old.passing new.awaits → sled < length old.image.now.sleds
      → EndsAt old bound sled mark old.place new.place → HasJudged program threads script old sleds marks
      → HasJudged program threads script new (sleds ++ sled ∷ []) (marks ++ mark ∷ [])
  judged_more old new sleds marks bound sled mark same one_more finds passed low next has =
      let is : bound ≡ bound_of program threads script old.thread old.passing = finds program threads script has.judges in
      let exists : sled < length program.sleds = subst (λ (p : Program). sled < length p.sleds) has.judges.image low in
      let within : bound ≤ total_of program threads script =
      subst (λ b. b ≤ total_of program threads script) (sym is) (bound_within old.thread old.passing (micros program threads script)) in
      record {
        judges = same_judges old new same has.judges;
        count = let count = has.count in omega (arith, one_more, count, length-append sleds (sled ∷ []));
        same = let equal = has.same in omega (arith, equal, length-append sleds (sled ∷ []), length-append marks (mark ∷ []));
        exist = All-append (λ k. k < length program.sleds) sleds (sled ∷ []) has.exist
            (All-cons (λ k. k < length program.sleds) sled [] exists (All-nil (λ k. k < length program.sleds)));
        within = subst (λ n. n ≤ threads) (sym same.thread) has.within;
        place = subst (λ n. IsLeast (Follow n (sleds ++ sled ∷ []) (marks ++ mark ∷ [])) new.place) (sym same.thread)
            (least_next old sleds marks bound sled mark old.place new.place has is exists has.place next);
        low = low_next old sleds marks bound sled mark old.place new.place within has.low next;
        passed = subst (λ n. ArePassed new n new.awaits) (sym one_more) (passed_more new old.passing new.awaits passed);
      }
