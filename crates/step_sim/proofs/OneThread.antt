-- One thread of a replay and its patcher, from moment to moment.
use Rattle.std.proofs.Common.{◌≡◌, ℕ, ◌+◌, ◌<◌, ◌≤◌, List, [], ◌∷◌, ◌++◌, Option, Some, None, refl, sym, subst, ap, ◌∙◌, arith, length, vec_len}
use Rattle.xray_image.specs.Program.{Program}
use Rattle.sled_words.specs.Allowed.{IsAllowed}
use Rattle.sled_words.specs.Words.{word_count}
use Rattle.patch_script.specs.CodeAt.{code_at}
use Rattle.patch_script.specs.Micros.{hold_of}
use Rattle.machine_step.specs.declared.want.Want.{Want}
use Rattle.machine_step.specs.declared.want.Want.TheVariants.{Load as Loads}
use Rattle.machine_step.specs.Loads.{Load, next_load}
use Rattle.machine_step.specs.PlainStep.{Passing}
use Rattle.machine_step.specs.Traced.{HasLoaded, IsSameThread, IsWant, Traced, load_of, sleds_passed, wanted_after}
use Rattle.machine_step.proofs.WantedWords.{wanted_within}
use Rattle.step_sim.specs.declared.patcher.Patcher.{Patcher}
use Rattle.step_sim.specs.Along.{IsAlong}
use Rattle.step_sim.specs.Plays.{turns}
use Rattle.step_sim.specs.Replay.{Cast, Moment, of_thread, thread_turn, wanted_by, thread_count}
use Rattle.step_sim.specs.private.Turns.{RunsOut}
use Rattle.step_sim.specs.private.Standing.{IsPatcherAt, IsThreadAt, Play, Rests, StandAt}
use Rattle.step_sim.proofs.ReplayAlong.{thread_keeps, thread_stays, turn_without}
use Rattle.step_sim.proofs.TurnLemmas.{turn_length, turn_own, turns_more, turns_up_to}

-- ---- the same thread

pub same_again : (t : Traced) → IsSameThread t t
same_again t = record { program = refl; thread = refl; threads = refl; hold = refl; limits = refl }

pub same_then : (a b c : Traced) → IsSameThread a b → IsSameThread b c → IsSameThread a c
same_then a b c one other = record {
  program = other.program ∙ one.program;
  thread = other.thread ∙ one.thread;
  threads = other.threads ∙ one.threads;
  hold = other.hold ∙ one.hold;
  limits = other.limits ∙ one.limits;
}

-- ---- where it is

-- the same thread, with its loads at another moment, is there
pub thread_moved : (cast : Cast) (m m' : Moment) (old new : Traced) (at : IsThreadAt cast m old) → IsSameThread old new
    → length m'.loads ≡ length m.loads → HasLoaded new at.passed (of_thread m'.loads old.thread) → IsThreadAt cast m' new
thread_moved cast m m' old new at same room loaded = record {
  program_is = same.program ∙ at.program_is;
  threads_are = same.threads ∙ at.threads_are;
  first = omega (arith, at.first, same.thread);
  last = omega (arith, at.last, same.thread, same.threads);
  room = omega (arith, at.room, same.thread, room);
  no_hold = subst (λ (n : ℕ). hold_of n cast.script ≡ None) (sym same.thread) at.no_hold;
  free = same.hold ∙ at.free;
  passed = at.passed;
  sleds = subst (λ (n : ℕ). of_thread cast.passings n ≡ sleds_passed at.passed) (sym same.thread) at.sleds;
  loaded = subst (λ (n : ℕ). HasLoaded new at.passed (of_thread m'.loads n)) (sym same.thread) loaded;
}

-- a patcher is at each moment of its place
pub patcher_stays : (cast : Cast) (m m' : Moment) (p : Patcher) → m'.place ≡ m.place → IsPatcherAt cast.program (thread_count cast) cast.script m.place p
    → IsPatcherAt cast.program (thread_count cast) cast.script m'.place p
patcher_stays cast m m' p e at = subst (λ (q : ℕ). IsPatcherAt cast.program (thread_count cast) cast.script q p) (sym e) at

pub stand_moved : (cast : Cast) (m m' : Moment) (p : Patcher) (old new : Traced) → StandAt cast m p old → IsSameThread old new
    → m'.place ≡ m.place → IsAlong cast m' → IsThreadAt cast m' new → StandAt cast m' p new
stand_moved cast m m' p old new at same e along there = record {
  along = along;
  patcher = patcher_stays cast m m' p e at.patcher;
  words = subst (λ (n : ℕ). word_count cast.program n ≤ vec_len p.words) (sym same.threads) at.words;
  thread = there;
}

-- ---- what it wants

pub next_alike : (program program' : Program) (threads threads' thread thread' : ℕ) (hold hold' : Option ℕ) (sleds sleds' : List ℕ) (loads : List Load)
    → program ≡ program' → threads ≡ threads' → thread ≡ thread' → hold ≡ hold' → sleds ≡ sleds'
    → next_load program threads thread hold sleds loads ≡ next_load program' threads' thread' hold' sleds' loads
next_alike program program' threads threads' thread thread' hold hold' sleds sleds' loads a n b c d =
    ap (λ (x : Program). next_load x threads thread hold sleds loads) a
    ∙ ap (λ (x : ℕ). next_load program' x thread hold sleds loads) n
    ∙ ap (λ (x : ℕ). next_load program' threads' x hold sleds loads) b
    ∙ ap (λ (x : Option ℕ). next_load program' threads' thread' x sleds loads) c
    ∙ ap (λ (x : List ℕ). next_load program' threads' thread' hold' x loads) d

-- what it wants in the replay is what it wants after its loads
wanted_is : (cast : Cast) (m : Moment) (old mid : Traced) (at : IsThreadAt cast m old) → IsSameThread old mid
    → wanted_by cast old.thread m ≡ wanted_after mid at.passed (of_thread m.loads old.thread)
wanted_is cast m old mid at same =
    next_alike cast.program mid.program (thread_count cast) mid.threads old.thread mid.thread (hold_of old.thread cast.script) mid.hold
    (of_thread cast.passings old.thread) (sleds_passed at.passed) (of_thread m.loads old.thread)
    (sym (same.program ∙ at.program_is)) (sym (same.threads ∙ at.threads_are)) (sym same.thread) (at.no_hold ∙ sym (same.hold ∙ at.free)) at.sleds

-- what a thread says about its loads, after the gate of its passing
abbrev pub KeepsLoads : Traced → Traced → Type 0
KeepsLoads old mid = (passed : List Passing) (loads : List Load) → HasLoaded old passed loads → HasLoaded mid passed loads

pub word_wanted : (cast : Cast) (m : Moment) (p : Patcher) (old mid : Traced) (word : ℕ) → StandAt cast m p old → IsSameThread old mid
    → KeepsLoads old mid → mid.want ≡ Loads word → wanted_by cast old.thread m ≡ Some word
word_wanted cast m p old mid word at same keeps wants =
    let loaded = keeps at.thread.passed _ at.thread.loaded in
    let next : wanted_after mid at.thread.passed (of_thread m.loads old.thread) ≡ Some word =
    subst (IsWant mid at.thread.passed (wanted_after mid at.thread.passed (of_thread m.loads old.thread)) loaded.end) wants loaded.wants in
    wanted_is cast m old mid at.thread same ∙ next

pub none_wanted : (cast : Cast) (m : Moment) (p : Patcher) (old mid : Traced) → StandAt cast m p old → IsSameThread old mid
    → KeepsLoads old mid → Rests mid → wanted_by cast old.thread m ≡ None
none_wanted cast m p old mid at same keeps rests =
    let end = rests.end in
    let wants = rests.wants in
    let loaded = keeps at.thread.passed _ at.thread.loaded in
    let next : (wanted_after mid at.thread.passed (of_thread m.loads old.thread) ≡ None) × (end ≡ loaded.end) =
    subst (IsWant mid at.thread.passed (wanted_after mid at.thread.passed (of_thread m.loads old.thread)) loaded.end) wants loaded.wants in
    wanted_is cast m old mid at.thread same ∙ next.0

-- the word exists
pub word_there : (p : Patcher) (old mid : Traced) (word : ℕ) → Play p old → IsSameThread old mid → KeepsLoads old mid
    → mid.want ≡ Loads word → word < vec_len p.words
word_there p old mid word (cast, m, at) same keeps wants =
    let loaded = keeps at.thread.passed _ at.thread.loaded in
    let next : wanted_after mid at.thread.passed (of_thread m.loads old.thread) ≡ Some word =
    subst (IsWant mid at.thread.passed (wanted_after mid at.thread.passed (of_thread m.loads old.thread)) loaded.end) wants loaded.wants in
    let known : mid.thread ≤ mid.threads = omega (arith, same.thread, same.threads, at.thread.last) in
    let within = wanted_within mid.program mid.limits mid.thread mid.hold at.thread.passed _ loaded.end loaded.last loaded.run mid.threads word known next in
    let same_program : mid.program ≡ cast.program = same.program ∙ at.thread.program_is in
    let room : word_count mid.program mid.threads ≤ vec_len p.words =
    subst (λ (q : Program). word_count q mid.threads ≤ vec_len p.words) (sym same_program)
    (subst (λ (n : ℕ). word_count cast.program n ≤ vec_len p.words) (sym same.threads) at.words) in
    omega (arith, within, room)

-- the value of the word may be given
pub value_allowed : (p : Patcher) (old mid : Traced) (word value : ℕ) → Play p old → IsSameThread old mid → KeepsLoads old mid
    → mid.want ≡ Loads word
    → ((cast : Cast) (m : Moment) (thread w : ℕ) → 0 < thread → IsAlong cast m → wanted_by cast thread m ≡ Some w
    → IsAllowed cast.program (thread_count cast) thread w (code_at cast.program (thread_count cast) cast.script m.place w))
    → ((cast : Cast) (m : Moment) → StandAt cast m p old → value ≡ code_at cast.program (thread_count cast) cast.script m.place word)
    → IsAllowed mid.program mid.threads mid.thread word value
value_allowed p old mid word value (cast, m, at) same keeps wants allowed is =
    let here = allowed cast m old.thread word at.thread.first at.along (word_wanted cast m p old mid word at same keeps wants) in
    let value_there : ℕ = code_at cast.program (thread_count cast) cast.script m.place word in
    subst (λ (v : ℕ). IsAllowed mid.program mid.threads mid.thread word v) (sym (is cast m at))
    (subst (λ (q : Program). IsAllowed q mid.threads mid.thread word value_there) (sym (same.program ∙ at.thread.program_is))
    (subst (λ (n : ℕ). IsAllowed cast.program n mid.thread word value_there) (sym (same.threads ∙ at.thread.threads_are))
    (subst (λ (t : ℕ). IsAllowed cast.program (thread_count cast) t word value_there) (sym same.thread) here)))

-- ---- a turn

-- a turn with a load
pub load_made : (cast : Cast) (m : Moment) (p : Patcher) (old mid new : Traced) (word value : ℕ) → StandAt cast m p old
    → IsSameThread old mid → KeepsLoads old mid → mid.want ≡ Loads word → value ≡ code_at cast.program (thread_count cast) cast.script m.place word
    → IsSameThread mid new
    → ((passed : List Passing) (loads : List Load) → HasLoaded mid passed loads → HasLoaded new passed (loads ++ load_of mid.want value))
    → StandAt cast (thread_turn cast old.thread m) p new
load_made cast m p old mid new word value at same keeps wants is same' gives =
    let turned : Moment = thread_turn cast old.thread m in
    let wanted = word_wanted cast m p old mid word at same keeps wants in
    let made : List Load = of_thread m.loads old.thread ++ record { word = word; value = code_at cast.program (thread_count cast) cast.script m.place word } ∷ [] in
    let own : of_thread turned.loads old.thread ≡ made = turn_own cast old.thread m word (omega (arith, at.thread.first, at.thread.room)) wanted in
    let given : load_of mid.want value ≡ record { word = word; value = code_at cast.program (thread_count cast) cast.script m.place word } ∷ [] =
    ap (λ (w : Want). load_of w value) wants ∙ ap (λ (v : ℕ). load_of (Loads word) v) is in
    let loaded = gives at.thread.passed _ (keeps at.thread.passed _ at.thread.loaded) in
    let there : HasLoaded new at.thread.passed (of_thread turned.loads old.thread) =
    subst (HasLoaded new at.thread.passed) (ap (λ (ls : List Load). of_thread m.loads old.thread ++ ls) given ∙ sym own) loaded in
    let whole = same_then old mid new same same' in
    stand_moved cast m turned p old new at whole (thread_stays cast old.thread m) (thread_keeps cast old.thread m at.thread.first at.along)
    (thread_moved cast m turned old new at.thread whole (turn_length cast old.thread m) there)

-- a turn of a thread that has ended does nothing
pub ended_turn : (cast : Cast) (m : Moment) (p : Patcher) (old mid : Traced) → StandAt cast m p old → IsSameThread old mid
    → KeepsLoads old mid → Rests mid → StandAt cast (thread_turn cast old.thread m) p mid
ended_turn cast m p old mid at same keeps rests =
    let still = turn_without cast old.thread m (none_wanted cast m p old mid at same keeps rests) in
    subst (λ (x : Moment). StandAt cast x p mid) (sym still)
    (stand_moved cast m m p old mid at same refl at.along
    (thread_moved cast m m old mid at.thread same refl (keeps at.thread.passed _ at.thread.loaded)))

-- ---- many turns

-- n turns of a thread lead one on that is at a moment
abbrev pub LeadsOn : ℕ → Patcher → Traced → Traced → Type 0
LeadsOn n p old new =
    (cast : Cast) (m : Moment) → StandAt cast m p old → StandAt cast (turns n (thread_turn cast old.thread) m) p new

pub one_more : (n : ℕ) (p : Patcher) (old mid new : Traced) → IsSameThread old mid → LeadsOn n p old mid
    → ((cast : Cast) (m : Moment) → StandAt cast m p mid → StandAt cast (thread_turn cast mid.thread m) p new)
    → LeadsOn (n + 1) p old new
one_more n p old mid new same leads turn cast m at =
    let here : Moment = turns n (thread_turn cast old.thread) m in
    let next = subst (λ (k : ℕ). StandAt cast (thread_turn cast k here) p new) same.thread (turn cast here (leads cast m at)) in
    subst (λ (x : Moment). StandAt cast x p new) (sym (turns_more n (thread_turn cast old.thread) m)) next

-- a thread that rests wants nothing
pub rest_wants_none : (cast : Cast) (m : Moment) (p : Patcher) (t : Traced) → StandAt cast m p t → Rests t → wanted_by cast t.thread m ≡ None
rest_wants_none cast m p t at rests = none_wanted cast m p t t at (same_again t) (λ passed loads is. is) rests

-- after turns of which the last found an end, all later turns do nothing
pub ends_early : (made count : ℕ) (p : Patcher) (old new : Traced) → made ≤ count → IsSameThread old new → LeadsOn made p old new → Rests new
    → LeadsOn count p old new
ends_early made count p old new few same leads rests cast m at =
    let here : Moment = turns made (thread_turn cast old.thread) m in
    let none : wanted_by cast old.thread here ≡ None =
    subst (λ (k : ℕ). wanted_by cast k here ≡ None) same.thread (rest_wants_none cast here p new (leads cast m at) rests) in
    subst (λ (x : Moment). StandAt cast x p new)
    (sym (turns_up_to made count (thread_turn cast old.thread) m few (turn_without cast old.thread here none))) (leads cast m at)

-- turns that lead to an end are all of them
pub has_run_out : (n : ℕ) (p : Patcher) (old new : Traced) → IsSameThread old new → LeadsOn n p old new → Rests new
    → (cast : Cast) (m : Moment) → StandAt cast m p old → (last : Moment) × RunsOut cast old.thread m last × StandAt cast last p new
has_run_out n p old new same leads rests cast m at =
    let here : Moment = turns n (thread_turn cast old.thread) m in
    let none : wanted_by cast old.thread here ≡ None =
    subst (λ (k : ℕ). wanted_by cast k here ≡ None) same.thread (rest_wants_none cast here p new (leads cast m at) rests) in
    (here, (n, refl, none), leads cast m at)

-- no turns lead nowhere
pub leads_none : (p : Patcher) (t : Traced) → LeadsOn 0 p t t
leads_none p t cast m at = at
