-- Turns in general, and what the turns of a thread and of the patcher change.
use Rattle.std.proofs.Common.{◌≡◌, ◌≢◌, ℕ, zero, suc, ◌+◌, ◌-◌, ◌<◌, ◌≤◌, min, [], ◌∷◌, ◌++◌, Option, Some, None, refl, ap, ◌∙◌, arith, length}
use Rattle.std.proofs.lemmas.List.{length-set}
use Rattle.patch_script.specs.CodeAt.{code_at}
use Rattle.patch_script.specs.Micros.{total_of}
use Rattle.step_sim.specs.Plays.{turns}
use Rattle.step_sim.specs.Replay.{Cast, Moment, of_thread, patcher_turn, thread_turn, wanted_by, thread_count}
use Rattle.step_sim.proofs.PlayLemmas.{turns_add, turns_still}
use Rattle.step_sim.proofs.ReplayAlong.{set_other, set_same, thread_stays, turn_with, turn_without}

abbrev pub Turn : Type 0
Turn = Moment → Moment

pub turns_more : (n : ℕ) (turn : Turn) (m : Moment) → turns (n + 1) turn m ≡ turn (turns n turn m)
turns_more n turn m = turns_add n 1 turn m

-- turns are those up to one that does nothing
pub turns_up_to : (made count : ℕ) (turn : Turn) (m : Moment) → made ≤ count → turn (turns made turn m) ≡ turns made turn m
    → turns count turn m ≡ turns made turn m
turns_up_to made count turn m few e =
    let whole : count ≡ made + (count - made) = omega arith in
    ap (λ n. turns n turn m) whole ∙ turns_add made (count - made) turn m ∙ turns_still (count - made) turn (turns made turn m) e

-- what each turn keeps, all turns keep
pub turns_hold : (P : Moment → Type 0) (turn : Turn) → ((m : Moment) → P m → P (turn m)) → (n : ℕ) (m : Moment) → P m → P (turns n turn m)
turns_hold P turn keeps zero m is = is
turns_hold P turn keeps (suc n) m is = turns_hold P turn keeps n (turn m) (keeps m is)

-- ---- a thread's turns

pub turn_other : (cast : Cast) (thread other : ℕ) (m : Moment) → 0 < thread → 0 < other → other ≢ thread
    → of_thread (thread_turn cast thread m).loads other ≡ of_thread m.loads other
turn_other cast thread other m some some_other apart = by_wanted (wanted_by cast thread m) refl
  where
    by_wanted : (w : Option ℕ) → wanted_by cast thread m ≡ w → of_thread (thread_turn cast thread m).loads other ≡ of_thread m.loads other
    by_wanted None e = ap (λ (n : Moment). of_thread n.loads other) (turn_without cast thread m e)
    by_wanted (Some word) e =
        ap (λ (n : Moment). of_thread n.loads other) (turn_with cast thread m word e)
        ∙ set_other m.loads thread other (of_thread m.loads thread ++ record { word = word; value = code_at cast.program (thread_count cast) cast.script m.place word } ∷ [])
        some some_other apart

pub turn_own : (cast : Cast) (thread : ℕ) (m : Moment) (word : ℕ) → thread - 1 < length m.loads → wanted_by cast thread m ≡ Some word
    → of_thread (thread_turn cast thread m).loads thread
    ≡ of_thread m.loads thread ++ record { word = word; value = code_at cast.program (thread_count cast) cast.script m.place word } ∷ []
turn_own cast thread m word within e =
    ap (λ (n : Moment). of_thread n.loads thread) (turn_with cast thread m word e)
    ∙ set_same m.loads thread (of_thread m.loads thread ++ record { word = word; value = code_at cast.program (thread_count cast) cast.script m.place word } ∷ []) within

pub turn_length : (cast : Cast) (thread : ℕ) (m : Moment) → length (thread_turn cast thread m).loads ≡ length m.loads
turn_length cast thread m = by_wanted (wanted_by cast thread m) refl
  where
    by_wanted : (w : Option ℕ) → wanted_by cast thread m ≡ w → length (thread_turn cast thread m).loads ≡ length m.loads
    by_wanted None e = ap (λ (n : Moment). length n.loads) (turn_without cast thread m e)
    by_wanted (Some word) e =
        ap (λ (n : Moment). length n.loads) (turn_with cast thread m word e)
        ∙ length-set m.loads (thread - 1) (of_thread m.loads thread ++ record { word = word; value = code_at cast.program (thread_count cast) cast.script m.place word } ∷ [])

pub turns_place : (cast : Cast) (thread n : ℕ) (m : Moment) → (turns n (thread_turn cast thread) m).place ≡ m.place
turns_place cast thread n m =
    turns_hold (λ (x : Moment). x.place ≡ m.place) (thread_turn cast thread) (λ x e. thread_stays cast thread x ∙ e) n m refl

pub turns_length : (cast : Cast) (thread n : ℕ) (m : Moment) → length (turns n (thread_turn cast thread) m).loads ≡ length m.loads
turns_length cast thread n m =
    turns_hold (λ (x : Moment). length x.loads ≡ length m.loads) (thread_turn cast thread) (λ x e. turn_length cast thread x ∙ e) n m refl

pub turns_other : (cast : Cast) (thread other n : ℕ) (m : Moment) → 0 < thread → 0 < other → other ≢ thread
    → of_thread (turns n (thread_turn cast thread) m).loads other ≡ of_thread m.loads other
turns_other cast thread other n m some some_other apart =
    turns_hold (λ (x : Moment). of_thread x.loads other ≡ of_thread m.loads other) (thread_turn cast thread)
    (λ x e. turn_other cast thread other x some some_other apart ∙ e) n m refl

-- ---- the patcher's turns

pub patcher_turns : (cast : Cast) (n : ℕ) (m : Moment) → m.place ≤ total_of cast.program (thread_count cast) cast.script
    → turns n (patcher_turn cast) m ≡ record m { place = min (m.place + n) (total_of cast.program (thread_count cast) cast.script) }
patcher_turns cast zero m within =
    let e : m.place ≡ min (m.place + zero) (total_of cast.program (thread_count cast) cast.script) = omega arith in
    ap (λ (q : ℕ). let x : Moment = record { place = q; loads = m.loads } in x) e
patcher_turns cast (suc n) m within =
    let next : Moment = patcher_turn cast m in
    let total : ℕ = total_of cast.program (thread_count cast) cast.script in
    let e : min (min (m.place + 1) total + n) total ≡ min (m.place + suc n) total = omega arith in
    patcher_turns cast n next (omega arith) ∙ ap (λ (q : ℕ). let x : Moment = record { place = q; loads = m.loads } in x) e
