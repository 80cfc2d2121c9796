-- At each moment of a replay, the loads of each thread follow the script.
use Rattle.std.proofs.Common.{◌≡◌, ◌≢◌, ℕ, zero, suc, ◌+◌, ◌-◌, ◌<◌, ◌≤◌, min, List, [], ◌∷◌, ◌++◌, Option, Some, None, refl, sym, subst, ◌∙◌, inl, inr, arith, length, length-append, get_or, fold, map}
use Rattle.std.specs.Prelude.{slice_set, take}
use Rattle.std.specs.List.{All}
use Rattle.std.proofs.lemmas.Bool.{cases_eq, cases_lt}
use Rattle.std.proofs.lemmas.List.{get_or-set_same, get_or-set_other, set_past}
use Rattle.std.proofs.lemmas.List.Elements.{All-head, All-tail}
use Rattle.std.proofs.lemmas.Option.{unwrap_or-slice_get}
use Rattle.xray_image.specs.Program.{Program}
use Rattle.patch_script.specs.declared.command.PatchCommand.{PatchCommand}
use Rattle.patch_script.specs.declared.micro.Micro.{Micro}
use Rattle.patch_script.specs.Micros.{hold_of, micros_after, numbers, patches, start_of, steps_of, total_of}
use Rattle.patch_script.specs.CodeAt.{code_at}
use Rattle.machine_step.specs.Loads.{Load}
use Rattle.machine_step.specs.Follows.{Follows}
use Rattle.machine_step.proofs.LoadByLoad.{none, later, loaded}
use Rattle.step_sim.specs.declared.turns.Turns.{Turns}
use Rattle.step_sim.specs.declared.turns.Turns.TheVariants.{Thread, Patcher}
use Rattle.step_sim.specs.Plays.{turns}
use Rattle.step_sim.specs.Replay.{Cast, Moment, first_moment, of_thread, patcher_turn, thread_turn, wanted_by, thread_count}
use Rattle.step_sim.specs.private.Turns.{AllRunOut, line_turns, scheduled}
use Rattle.step_sim.specs.Along.{AllFollow, IsAlong, NamesThread}

-- ---- lists of one item per thread

pub of_thread_is : (lists : List (List Load)) (thread : ℕ) → of_thread lists thread ≡ get_or lists (thread - 1) []
of_thread_is lists thread = unwrap_or-slice_get lists (thread - 1) []

pub set_same : (lists : List (List Load)) (thread : ℕ) (item : List Load) → thread - 1 < length lists
    → of_thread (slice_set lists (thread - 1) item) thread ≡ item
set_same lists thread item within =
    of_thread_is (slice_set lists (thread - 1) item) thread ∙ get_or-set_same lists (thread - 1) item [] within

pub set_other : (lists : List (List Load)) (thread other : ℕ) (item : List Load) → 0 < thread → 0 < other → other ≢ thread
    → of_thread (slice_set lists (thread - 1) item) other ≡ of_thread lists other
set_other lists thread other item some some_other apart =
    of_thread_is (slice_set lists (thread - 1) item) other ∙ get_or-set_other lists (thread - 1) (other - 1) item [] (omega arith)
    ∙ sym (of_thread_is lists other)

-- ---- turns

pub turn_with : (cast : Cast) (thread : ℕ) (m : Moment) (word : ℕ) → wanted_by cast thread m ≡ Some word
    → thread_turn cast thread m ≡ record m {
      loads = slice_set m.loads (thread - 1)
          (of_thread m.loads thread ++ record { word = word; value = code_at cast.program (thread_count cast) cast.script m.place word } ∷ []);
    }
turn_with cast thread m word e = rw e refl

pub turn_without : (cast : Cast) (thread : ℕ) (m : Moment) → wanted_by cast thread m ≡ None → thread_turn cast thread m ≡ m
turn_without cast thread m e = rw e refl

-- a thread that loads follows the script
loads_along : (cast : Cast) (thread : ℕ) (m : Moment) (word : ℕ) → 0 < thread → m.place ≤ total_of cast.program (thread_count cast) cast.script
    → wanted_by cast thread m ≡ Some word → AllFollow cast m
    → AllFollow cast (record m {
      loads = slice_set m.loads (thread - 1)
          (of_thread m.loads thread ++ record { word = word; value = code_at cast.program (thread_count cast) cast.script m.place word } ∷ []);
    })
loads_along cast thread m word some within wanted along other some_other =
    let load : Load = record { word = word; value = code_at cast.program (thread_count cast) cast.script m.place word } in
    let item : List Load = of_thread m.loads thread ++ load ∷ [] in
    let Reads : ℕ → List Load → Type 0 = λ t loads.
    Follows cast.program (thread_count cast) (code_at cast.program (thread_count cast) cast.script) (start_of cast.program (thread_count cast) cast.script) (λ _. total_of cast.program (thread_count cast) cast.script)
    t (hold_of t cast.script) (of_thread cast.passings t) loads m.place in
    elim (cases_eq other thread) [
      | inl same ↦ elim (cases_lt (thread - 1) (length m.loads)) [
        | inl there ↦
            let its : Reads thread item = loaded (of_thread m.loads thread) m.place word (along thread some) wanted within in
            subst (λ (t : ℕ). Reads t (of_thread (slice_set m.loads (thread - 1) item) t)) (sym same)
            (subst (Reads thread) (sym (set_same m.loads thread item there)) its)
        | inr past ↦
            subst (λ (ls : List (List Load)). Reads other (of_thread ls other)) (sym (set_past m.loads (thread - 1) item past)) (along other some_other)
      ]
      | inr apart ↦ subst (Reads other) (sym (set_other m.loads thread other item some some_other apart)) (along other some_other)
    ]

pub thread_along : (cast : Cast) (thread : ℕ) (m : Moment) → 0 < thread → m.place ≤ total_of cast.program (thread_count cast) cast.script → AllFollow cast m
    → AllFollow cast (thread_turn cast thread m)
thread_along cast thread m some within along =
    by_wanted (wanted_by cast thread m) refl
  where
    by_wanted : (w : Option ℕ) → wanted_by cast thread m ≡ w → AllFollow cast (thread_turn cast thread m)
    by_wanted None e = subst (AllFollow cast) (sym (turn_without cast thread m e)) along
    by_wanted (Some word) e = subst (AllFollow cast) (sym (turn_with cast thread m word e)) (loads_along cast thread m word some within e along)

-- the patcher goes on
pub patcher_along : (cast : Cast) (m : Moment) → m.place ≤ total_of cast.program (thread_count cast) cast.script → AllFollow cast m
    → AllFollow cast (patcher_turn cast m)
patcher_along cast m within along thread some =
    later (of_thread m.loads thread) m.place (min (m.place + 1) (total_of cast.program (thread_count cast) cast.script)) (omega arith) (along thread some)

-- ---- moments

-- the first commands have at most as many micro steps as all commands
pub front_steps : (program : Program) (threads : ℕ) (earlier : List ℕ) (n : ℕ) (script : List PatchCommand)
    → length (micros_after program threads earlier (take n script)) ≤ length (micros_after program threads earlier script)
front_steps program threads earlier zero script = omega arith
front_steps program threads earlier (suc n) [] = omega arith
front_steps program threads earlier (suc n) (command ∷ rest) =
    let following : List ℕ = earlier ++ numbers (patches program command) in
    let steps : List Micro = steps_of program threads earlier command in
    let front = front_steps program threads following n rest in
    omega (arith, length-append steps (micros_after program threads following (take n rest)), length-append steps (micros_after program threads following rest))

pub no_loads : (lists : List (List ℕ)) (i : ℕ) → ◌≡◌ {A = List Load} (get_or (map (λ _. []) lists) i []) []
no_loads [] i = refl
no_loads (x ∷ lists) zero = refl
no_loads (x ∷ lists) (suc i) = no_loads lists i

pub first_along : (cast : Cast) → IsAlong cast (first_moment cast)
first_along cast = record {
  along = λ thread some.
      let start : ℕ = start_of cast.program (thread_count cast) cast.script in
      subst (λ (loads : List Load). Follows cast.program (thread_count cast) (code_at cast.program (thread_count cast) cast.script) start (λ _. total_of cast.program (thread_count cast) cast.script)
      thread (hold_of thread cast.script) (of_thread cast.passings thread) loads start)
      (sym (of_thread_is (first_moment cast).loads thread ∙ no_loads cast.passings (thread - 1)))
      none;
  within = front_steps cast.program (thread_count cast) [] _ cast.script;
}

pub thread_stays : (cast : Cast) (thread : ℕ) (m : Moment) → (thread_turn cast thread m).place ≡ m.place
thread_stays cast thread m = by_wanted (wanted_by cast thread m) refl
  where
    by_wanted : (w : Option ℕ) → wanted_by cast thread m ≡ w → (thread_turn cast thread m).place ≡ m.place
    by_wanted None e = rw e refl
    by_wanted (Some word) e = rw e refl

pub thread_keeps : (cast : Cast) (thread : ℕ) (m : Moment) → 0 < thread → IsAlong cast m → IsAlong cast (thread_turn cast thread m)
thread_keeps cast thread m some is = record {
  along = thread_along cast thread m some is.within is.along;
  within = subst (λ (n : ℕ). n ≤ total_of cast.program (thread_count cast) cast.script) (sym (thread_stays cast thread m)) is.within;
}

pub patcher_keeps : (cast : Cast) (m : Moment) → IsAlong cast m → IsAlong cast (patcher_turn cast m)
patcher_keeps cast m is = record { along = patcher_along cast m is.within is.along; within = omega arith }

pub turns_keep : (cast : Cast) (turn : Moment → Moment) → ((m : Moment) → IsAlong cast m → IsAlong cast (turn m)) → (n : ℕ) (m : Moment)
    → IsAlong cast m → IsAlong cast (turns n turn m)
turns_keep cast turn keeps zero m is = is
turns_keep cast turn keeps (suc n) m is = turns_keep cast turn keeps n (turn m) (keeps m is)

line_keeps : (cast : Cast) (line : Turns) (m : Moment) → NamesThread line → IsAlong cast m → IsAlong cast (line_turns cast m line)
line_keeps cast (Thread thread count) m names is = turns_keep cast (thread_turn cast thread) (λ n. thread_keeps cast thread n names) count m is
line_keeps cast (Patcher count) m names is = turns_keep cast (patcher_turn cast) (patcher_keeps cast) count m is

lines_keep : (cast : Cast) (lines : List Turns) (m : Moment) → All NamesThread lines → IsAlong cast m → IsAlong cast (fold (line_turns cast) m lines)
lines_keep cast [] m names is = is
lines_keep cast (line ∷ lines) m names is =
    lines_keep cast lines (line_turns cast m line) (All-tail NamesThread line lines names)
    (line_keeps cast line m (All-head NamesThread line lines names) is)

run_out_keeps : (cast : Cast) (n thread : ℕ) (before after : Moment) → 0 < thread → AllRunOut cast n thread before after → IsAlong cast before
    → IsAlong cast after
run_out_keeps cast zero thread before after some out is = subst (IsAlong cast) (sym out) is
run_out_keeps cast (suc n) thread before after some (mid, (count, made, ends), rest) is =
    run_out_keeps cast n (thread + 1) mid after (omega arith) rest
    (subst (IsAlong cast) (sym made) (turns_keep cast (thread_turn cast thread) (λ m. thread_keeps cast thread m some) count before is))

pub replay_along : (cast : Cast) (lines : List Turns) (last : Moment) → All NamesThread lines
    → AllRunOut cast (length cast.passings) 1 (scheduled cast lines) last → IsAlong cast last
replay_along cast lines last names out =
    run_out_keeps cast (length cast.passings) 1 (scheduled cast lines) last (omega arith) out
    (lines_keep cast lines (first_moment cast) names (first_along cast))
