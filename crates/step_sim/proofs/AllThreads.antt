-- All threads of a replay and its patcher, from moment to moment.
use Rattle.std.proofs.Common.{◌≡◌, ◌≢◌, ℕ, ◌+◌, ◌<◌, ◌≤◌, min, List, [], Some, None, refl, sym, subst, ap, ◌∙◌, inl, inr, arith, length, vec_len, fold, take, get_or}
use Rattle.std.specs.Prelude.{slice_get, slice_set, ◌⊎◌}
use Rattle.std.specs.List.{All}
use Rattle.std.proofs.lemmas.Bool.{cases_eq}
use Rattle.std.proofs.lemmas.List.{get_or-set_other, get_or-set_same, length-set, take_all}
use Rattle.std.proofs.lemmas.List.Sums.{fold_more}
use Rattle.std.proofs.lemmas.Option.{get_or_from_slice_get, slice_get-get_or, slice_get_within}
use Rattle.patch_script.specs.Micros.{total_of}
use Rattle.machine_step.specs.declared.limits.Limits.{Limits}
use Rattle.machine_step.specs.Traced.{HasLoaded, IsSameThread, IsThreadOf, Traced}
use Rattle.sled_words.specs.Words.{word_count}
use Rattle.step_sim.specs.declared.patcher.Patcher.{Patcher}
use Rattle.step_sim.specs.declared.turns.Turns.{Turns}
use Rattle.step_sim.specs.declared.turns.Turns.TheVariants as turns_of
use Rattle.step_sim.specs.Along.{IsAlong}
use Rattle.step_sim.specs.Plays.{turns}
use Rattle.step_sim.specs.Replay.{Cast, Moment, moment_rules, of_thread, patcher_turn, thread_turn, thread_count}
use Rattle.step_sim.specs.private.Turns.{AllRunOut, RunsOut, line_turns}
use Rattle.step_sim.specs.private.Standing.{AllPlay, AllStandAt, IsPatcherAt, IsThreadAt, Rests, StandAt}
use Rattle.step_sim.proofs.PlayLemmas.{one_more_out}
use Rattle.step_sim.proofs.ReplayAlong.{patcher_keeps, turns_keep}
use Rattle.step_sim.proofs.TurnLemmas.{patcher_turns, turns_length, turns_other}
use Rattle.step_sim.proofs.OneThread.{same_again, thread_moved}

-- ---- lists

-- an item of a list in which one item was set
pub set_cases : {X : Type 0} (ts : List X) (i j : ℕ) (new t : X) → slice_get (slice_set ts i new) j ≡ Some t
    → ((j ≡ i) × (t ≡ new)) ⊎ ((j ≢ i) × (slice_get ts j ≡ Some t))
set_cases ts i j new t found =
    let within : j < length ts = omega (arith, slice_get_within (slice_set ts i new) j t found, length-set ts i new) in
    let is : get_or (slice_set ts i new) j t ≡ t = get_or_from_slice_get (slice_set ts i new) j t t found in
    elim (cases_eq j i) [
      | inl same ↦
          let there : get_or (slice_set ts i new) i t ≡ new = get_or-set_same ts i new t (omega (arith, within, same)) in
          inl (same, sym is ∙ ap (λ (k : ℕ). get_or (slice_set ts i new) k t) same ∙ there)
      | inr apart ↦
          let there : get_or ts j t ≡ t = sym (get_or-set_other ts i j new t apart) ∙ is in
          inr (apart, slice_get-get_or ts j t within ∙ ap Some there)
    ]

-- ---- each of them

pub stand_of : (cast : Cast) (threads : ℕ) (limits : Limits) (m : Moment) (p : Patcher) (ts : List Traced) (i : ℕ) (t : Traced)
    → AllStandAt cast threads limits m p ts → slice_get ts i ≡ Some t → StandAt cast m p t
stand_of cast threads limits m p ts i t at found = record {
  along = at.along;
  patcher = at.patcher;
  words = subst (λ (n : ℕ). word_count cast.program n ≤ vec_len p.words) (sym (at.thread i t found).threads_are) at.words;
  thread = at.each i t found;
}

thread_again : (cast : Cast) (threads number : ℕ) (limits : Limits) (old new : Traced) → IsThreadOf cast.program number threads None limits old
    → IsSameThread old new → IsThreadOf cast.program number threads None limits new
thread_again cast threads number limits old new is same = record {
  program_is = same.program ∙ is.program_is;
  thread_is = same.thread ∙ is.thread_is;
  threads_are = same.threads ∙ is.threads_are;
  hold_is = same.hold ∙ is.hold_is;
  limits_are = same.limits ∙ is.limits_are;
}

-- one thread is led on, and the others stay
one_moved : (cast : Cast) (threads : ℕ) (limits : Limits) (m m' : Moment) (p : Patcher) (ts : List Traced) (i : ℕ) (old new : Traced)
    → AllStandAt cast threads limits m p ts → slice_get ts i ≡ Some old → IsSameThread old new → StandAt cast m' p new
    → length m'.loads ≡ length m.loads
    → ((other : ℕ) → 0 < other → other ≢ i + 1 → of_thread m'.loads other ≡ of_thread m.loads other)
    → AllStandAt cast threads limits m' p (slice_set ts i new)
one_moved cast threads limits m m' p ts i old new at found same there room others = record {
  count = length-set ts i new ∙ at.count;
  passings = at.passings;
  loads = room ∙ at.loads;
  along = there.along;
  patcher = there.patcher;
  words = at.words;
  thread = λ j t is. thread_case j t (set_cases ts i j new t is);
  no_hold = at.no_hold;
  each = λ j t is. each_case j t (set_cases ts i j new t is);
}
  where
    thread_case : (j : ℕ) (t : Traced) → ((j ≡ i) × (t ≡ new)) ⊎ ((j ≢ i) × (slice_get ts j ≡ Some t))
        → IsThreadOf cast.program (j + 1) threads None limits t
    thread_case j t (inl (place, e)) =
        subst (λ (k : ℕ). IsThreadOf cast.program (k + 1) threads None limits t) (sym place)
        (subst (IsThreadOf cast.program (i + 1) threads None limits) (sym e) (thread_again cast threads (i + 1) limits old new (at.thread i old found) same))
    thread_case j t (inr (apart, is)) = at.thread j t is

    each_case : (j : ℕ) (t : Traced) → ((j ≡ i) × (t ≡ new)) ⊎ ((j ≢ i) × (slice_get ts j ≡ Some t)) → IsThreadAt cast m' t
    each_case j t (inl (place, e)) = subst (IsThreadAt cast m') (sym e) there.thread
    each_case j t (inr (apart, is)) =
        let its = at.each j t is in
        let number : t.thread ≡ j + 1 = (at.thread j t is).thread_is in
        let other : t.thread ≢ i + 1 = λ e. apart (omega (arith, number, e)) in
        let own = others t.thread its.first other in
        thread_moved cast m m' t t its (same_again t) room (subst (HasLoaded t its.passed) (sym own) its.loaded)

-- n turns of one thread
pub turns_moved : (cast : Cast) (threads : ℕ) (limits : Limits) (m : Moment) (p : Patcher) (ts : List Traced) (i n : ℕ) (old new : Traced)
    → AllStandAt cast threads limits m p ts → slice_get ts i ≡ Some old → IsSameThread old new
    → StandAt cast (turns n (thread_turn cast old.thread) m) p new
    → AllStandAt cast threads limits (turns n (thread_turn cast (i + 1)) m) p (slice_set ts i new)
turns_moved cast threads limits m p ts i n old new at found same there =
    let number : old.thread ≡ i + 1 = (at.thread i old found).thread_is in
    let here = subst (λ (k : ℕ). StandAt cast (turns n (thread_turn cast k) m) p new) number there in
    one_moved cast threads limits m (turns n (thread_turn cast (i + 1)) m) p ts i old new at found same here
    (turns_length cast (i + 1) n m) (λ other some apart. turns_other cast (i + 1) other n m (omega arith) some apart)

-- the turns of a line of a thread
pub thread_line : (cast : Cast) (threads : ℕ) (limits : Limits) (m : Moment) (p : Patcher) (ts : List Traced) (line : Turns) (number count i : ℕ)
    (old new : Traced) → line ≡ turns_of.Thread number count → i + 1 ≡ number → AllStandAt cast threads limits m p ts → slice_get ts i ≡ Some old
    → IsSameThread old new → StandAt cast (turns count (thread_turn cast old.thread) m) p new
    → AllStandAt cast threads limits (line_turns cast m line) p (slice_set ts i new)
thread_line cast threads limits m p ts line number count i old new is place at found same there =
    let moved = turns_moved cast threads limits m p ts i count old new at found same there in
    let numbered = subst (λ (k : ℕ). AllStandAt cast threads limits (turns count (thread_turn cast k) m) p (slice_set ts i new)) place moved in
    subst (λ (l : Turns). AllStandAt cast threads limits (line_turns cast m l) p (slice_set ts i new)) (sym is) numbered

-- the turns of a line of the patcher
pub patcher_line : (cast : Cast) (threads : ℕ) (limits : Limits) (m : Moment) (old new : Patcher) (ts : List Traced) (line : Turns) (count : ℕ)
    → line ≡ turns_of.Patcher count → AllStandAt cast threads limits m old ts
    → IsPatcherAt cast.program (thread_count cast) cast.script (min (m.place + count) (total_of cast.program (thread_count cast) cast.script)) new → vec_len new.words ≡ vec_len old.words
    → AllStandAt cast threads limits (line_turns cast m line) new ts
patcher_line cast threads limits m old new ts line count is at patcher words =
    let there : Moment = record m { place = min (m.place + count) (total_of cast.program (thread_count cast) cast.script) } in
    let e : turns count (patcher_turn cast) m ≡ there = patcher_turns cast count m at.patcher.within in
    let moved : AllStandAt cast threads limits there new ts = record {
      count = at.count;
      passings = at.passings;
      loads = at.loads;
      along = subst (IsAlong cast) e (turns_keep cast (patcher_turn cast) (patcher_keeps cast) count m at.along);
      patcher = patcher;
      words = omega (arith, at.words, words);
      thread = at.thread;
      no_hold = at.no_hold;
      each = λ i t found. thread_moved cast m there t t (at.each i t found) (same_again t) refl (at.each i t found).loaded;
    } in
    subst (λ (l : Turns). AllStandAt cast threads limits (line_turns cast m l) new ts) (sym is)
    (subst (λ (x : Moment). AllStandAt cast threads limits x new ts) (sym e) moved)

-- ---- lines

-- lines lead all threads on
abbrev pub LeadAll : List Turns → Patcher → List Traced → Patcher → List Traced → Type 0
LeadAll lines p ts p' ts' =
    (cast : Cast) (threads : ℕ) (limits : Limits) (m : Moment) → AllStandAt cast threads limits m p ts
    → AllStandAt cast threads limits (fold (line_turns cast) m lines) p' ts'

pub line_more : (lines : List Turns) (i : ℕ) (line : Turns) (p q r : Patcher) (ts us vs : List Traced) → i < length lines
    → LeadAll (take i lines) p ts q us
    → ((cast : Cast) (threads : ℕ) (limits : Limits) (m : Moment) → AllStandAt cast threads limits m q us
    → AllStandAt cast threads limits (line_turns cast m (get_or lines i line)) r vs)
    → LeadAll (take (i + 1) lines) p ts r vs
line_more lines i line p q r ts us vs h leads turn cast threads limits m at =
    subst (λ (x : Moment). AllStandAt cast threads limits x r vs) (sym (fold_more (line_turns cast) m lines i line h))
    (turn cast threads limits _ (leads cast threads limits m at))

pub lines_all : (lines : List Turns) (i : ℕ) (p q : Patcher) (ts us : List Traced) → length lines ≤ i → LeadAll (take i lines) p ts q us
    → LeadAll lines p ts q us
lines_all lines i p q ts us h leads = subst (λ (ls : List Turns). LeadAll ls p ts q us) (take_all i lines h) leads

-- there are as many as before
pub same_count : (lines : List Turns) (p q : Patcher) (ts us : List Traced) → LeadAll lines p ts q us → AllPlay p ts → length us ≡ length ts
same_count lines p q ts us leads (cast, threads, limits, m, at) = (leads cast threads limits m at).count ∙ sym at.count

-- ---- running out

-- the first threads have run out
abbrev pub RunOut : ℕ → Patcher → List Traced → List Traced → Type 0
RunOut n p ts us =
    (cast : Cast) (threads : ℕ) (limits : Limits) (m : Moment) → AllStandAt cast threads limits m p ts
    → (last : Moment) × AllRunOut cast n 1 m last × AllStandAt cast threads limits last p us

pub none_run_out : (p : Patcher) (ts : List Traced) → RunOut 0 p ts ts
none_run_out p ts cast threads limits m at = (m, refl, at)

pub one_runs_out : (n : ℕ) (p : Patcher) (ts us : List Traced) (old new : Traced) → RunOut n p ts us → slice_get us n ≡ Some old → IsSameThread old new
    → ((cast : Cast) (m : Moment) → StandAt cast m p old → (last : Moment) × RunsOut cast old.thread m last × StandAt cast last p new)
    → RunOut (n + 1) p ts (slice_set us n new)
one_runs_out n p ts us old new runs found same run cast threads limits m at =
    let here = runs cast threads limits m at in
    let stands = here.2 in
    let out = run cast here.0 (stand_of cast threads limits here.0 p us n old stands found) in
    let number : old.thread ≡ n + 1 = (stands.thread n old found).thread_is in
    let flipped : n + 1 ≡ 1 + n = omega arith in
    let count : ℕ = out.1.0 in
    let own : RunsOut cast (1 + n) here.0 out.0 = subst (λ (k : ℕ). RunsOut cast k here.0 out.0) (number ∙ flipped) out.1 in
    let there : StandAt cast (turns count (thread_turn cast old.thread) here.0) p new =
    subst (λ (x : Moment). StandAt cast x p new) out.1.1 out.2 in
    let all = turns_moved cast threads limits here.0 p us n count old new stands found same there in
    let e : out.0 ≡ turns count (thread_turn cast (n + 1)) here.0 =
    out.1.1 ∙ ap (λ (k : ℕ). turns count (thread_turn cast k) here.0) number in
    (out.0, one_more_out (moment_rules cast) n 1 m here.0 out.0 here.1 own, subst (λ (x : Moment). AllStandAt cast threads limits x p (slice_set us n new)) (sym e) all)

pub run_count : (n : ℕ) (p : Patcher) (ts us : List Traced) → RunOut n p ts us → AllPlay p ts → length us ≡ length ts
run_count n p ts us runs (cast, threads, limits, m, at) =
    let here = runs cast threads limits m at in
    here.2.count ∙ sym at.count

-- the first threads rest, and so does one more
abbrev pub FirstRest : ℕ → List Traced → Type 0
FirstRest n ts = (i : ℕ) (t : Traced) → i < n → slice_get ts i ≡ Some t → Rests t

pub one_rests : (n : ℕ) (ts : List Traced) (new : Traced) → FirstRest n ts → Rests new → FirstRest (n + 1) (slice_set ts n new)
one_rests n ts new first rests i t below found = by_place (set_cases ts n i new t found)
  where
    by_place : ((i ≡ n) × (t ≡ new)) ⊎ ((i ≢ n) × (slice_get ts i ≡ Some t)) → Rests t
    by_place (inl (place, e)) = subst Rests (sym e) rests
    by_place (inr (apart, is)) = first i t (lower i n below apart) is
      where
        lower : (a b : ℕ) → a < b + 1 → a ≢ b → a < b
        lower a b h away = elim (cases_eq a b) [ inl e ↦ absurd (away e) | inr other ↦ omega (arith, h, other) ]

pub none_rests : (ts : List Traced) → FirstRest 0 ts
none_rests ts i t below found = absurd (omega (arith, below))

pub all_rest : (n : ℕ) (ts : List Traced) → n ≡ length ts → FirstRest n ts → All Rests ts
all_rest n ts e first k d below = first k (get_or ts k d) (omega (arith, below, e)) (slice_get-get_or ts k d below)

-- the item that was read at a place is there
pub found_at : (ts : List Traced) (i : ℕ) (t : Traced) → i < length ts → t ≡ get_or ts i t → slice_get ts i ≡ Some t
found_at ts i t within e = slice_get-get_or ts i t within ∙ ap Some (sym e)

pub leads_nowhere : (p : Patcher) (ts : List Traced) → LeadAll [] p ts p ts
leads_nowhere p ts cast threads limits m at = at

-- the lines, and then all threads that run out
pub lines_then_out : (lines : List Turns) (p q : Patcher) (ts us vs : List Traced) → length us ≡ length ts → LeadAll lines p ts q us
    → RunOut (length us) q us vs
    → (cast : Cast) (threads : ℕ) (limits : Limits) (m : Moment) → AllStandAt cast threads limits m p ts
    → (last : Moment) × AllRunOut cast (length ts) 1 (fold (line_turns cast) m lines) last × AllStandAt cast threads limits last q vs
lines_then_out lines p q ts us vs count leads out cast threads limits m at =
    let run = out cast threads limits (fold (line_turns cast) m lines) (leads cast threads limits m at) in
    (run.0, subst (λ (n : ℕ). AllRunOut cast n 1 (fold (line_turns cast) m lines) run.0) count run.1, run.2)
