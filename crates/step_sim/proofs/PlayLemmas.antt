-- Plays of any state: a schedule brings it to at most one end; it brings it to an end if each thread ends; and a play of
-- one state is a play of what another state shows of it.
use Rattle.std.proofs.Common.{◌≡◌, ℕ, zero, suc, ◌+◌, ◌<◌, ◌≤◌, List, [], ◌∷◌, None, refl, sym, ap, ◌∙◌, subst, arith}
use Rattle.step_sim.specs.declared.turns.Turns.{Turns}
use Rattle.step_sim.specs.declared.turns.Turns.TheVariants.{Thread, Patcher}
use Rattle.step_sim.specs.Plays.{Plays, Rules, ThreadRunsOut, ThreadsRunOut, line_played, lines_played, turns}

-- ---- one end

-- the turn of a thread that has ended does nothing
abbrev pub EndsStill : {X : Type 0} → Rules X → Type 0
EndsStill {X = X} rules = (thread : ℕ) (x : X) → rules.wanted thread x ≡ None → rules.thread thread x ≡ x

-- a turn that does nothing does nothing when it is repeated
pub turns_still : {X : Type 0} (n : ℕ) (turn : X → X) (x : X) → turn x ≡ x → turns n turn x ≡ x
turns_still zero turn x e = refl
turns_still (suc n) turn x e = ap (turns n turn) e ∙ turns_still n turn x e

-- turns one after the other
pub turns_add : {X : Type 0} (a b : ℕ) (turn : X → X) (x : X) → turns (a + b) turn x ≡ turns b turn (turns a turn x)
turns_add zero b turn x =
    let e : zero + b ≡ b = omega arith in
    ap (λ n. turns n turn x) e
turns_add (suc a) b turn x =
    let e : suc a + b ≡ suc (a + b) = omega arith in
    ap (λ n. turns n turn x) e ∙ turns_add a b turn (turn x)

-- a thread ends at the same state, however many turns are counted
same_end : {X : Type 0} (rules : Rules X) → EndsStill rules → (thread a b : ℕ) (x : X)
    → rules.wanted thread (turns a (rules.thread thread) x) ≡ None → rules.wanted thread (turns b (rules.thread thread) x) ≡ None
    → turns a (rules.thread thread) x ≡ turns b (rules.thread thread) x
same_end rules still thread zero b x at_a at_b = sym (turns_still b (rules.thread thread) x (still thread x at_a))
same_end rules still thread (suc a) zero x at_a at_b = turns_still (suc a) (rules.thread thread) x (still thread x at_b)
same_end rules still thread (suc a) (suc b) x at_a at_b = same_end rules still thread a b (rules.thread thread x) at_a at_b

same_run : {X : Type 0} (rules : Rules X) → EndsStill rules → (thread : ℕ) (x y z : X) → ThreadRunsOut rules thread x y
    → ThreadRunsOut rules thread x z → y ≡ z
same_run {X = X} rules still thread x y z (a, to_y, none) (b, to_z, none') =
    to_y ∙ same_end rules still thread a b x
    (subst (λ (s : X). rules.wanted thread s ≡ None) to_y none)
    (subst (λ (s : X). rules.wanted thread s ≡ None) to_z none') ∙ sym to_z

same_runs : {X : Type 0} (rules : Rules X) → EndsStill rules → (n thread : ℕ) (x y z : X) → ThreadsRunOut rules n thread x y
    → ThreadsRunOut rules n thread x z → y ≡ z
same_runs rules still zero thread x y z is is' = is ∙ sym is'
same_runs {X = X} rules still (suc n) thread x y z (mid, run, rest) (mid', run', rest') =
    same_runs rules still n (thread + 1) mid' y z
    (subst (λ (s : X). ThreadsRunOut rules n (thread + 1) s y) (same_run rules still thread x mid mid' run run') rest) rest'

pub one_end : {X : Type 0} (rules : Rules X) → EndsStill rules → (threads : ℕ) (first : X) (schedule : List Turns) (last other : X)
    → Plays rules threads first schedule last → Plays rules threads first schedule other → last ≡ other
one_end rules still threads first schedule last other ran again =
    same_runs rules still threads 1 (lines_played rules first schedule) last other ran again

-- ---- some end

-- some turns of a thread bring it to its end
abbrev pub Ends : {X : Type 0} → Rules X → ℕ → X → Type 0
Ends rules thread x = (n : ℕ) × (rules.wanted thread (turns n (rules.thread thread) x) ≡ None)

-- if each thread ends from any state of a kind, and its turns keep the kind, all threads run out from it
pub all_run_out : {X : Type 0} (rules : Rules X) (threads : ℕ) (Inside : X → Type 0)
    → ((thread : ℕ) (x : X) → 0 < thread → thread ≤ threads → Inside x → Ends rules thread x)
    → ((thread n : ℕ) (x : X) → Inside x → Inside (turns n (rules.thread thread) x))
    → (n thread : ℕ) (before : X) → 0 < thread → thread + n ≤ threads + 1 → Inside before
    → (after : X) × ThreadsRunOut rules n thread before after
all_run_out rules threads Inside ends keeps zero thread before first last inside = (before, refl)
all_run_out {X = X} rules threads Inside ends keeps (suc n) thread before first last inside =
    let out = ends thread before first (omega (arith, last)) inside in
    let mid : X = turns out.0 (rules.thread thread) before in
    let rest = all_run_out rules threads Inside ends keeps n (thread + 1) mid (omega arith) (omega (arith, last)) (keeps thread out.0 before inside) in
    (rest.0, (mid, (out.0, refl, out.1), rest.1))

-- ---- one more thread

pub one_more_out : {X : Type 0} (rules : Rules X) (n thread : ℕ) (before mid after : X) → ThreadsRunOut rules n thread before mid
    → ThreadRunsOut rules (thread + n) mid after → ThreadsRunOut rules (n + 1) thread before after
one_more_out {X = X} rules zero thread before mid after e run =
    let here : thread + zero ≡ thread = omega arith in
    (after, subst (λ (k : ℕ). ThreadRunsOut rules k before after) here (subst (λ (x : X). ThreadRunsOut rules (thread + zero) x after) e run), refl)
one_more_out rules (suc n) thread before mid after (first, runs, rest) run =
    let here : thread + suc n ≡ thread + 1 + n = omega arith in
    let count : suc n + 1 ≡ suc (n + 1) = omega arith in
    subst (λ (k : ℕ). ThreadsRunOut rules k thread before after) (sym count)
    (first, runs, one_more_out rules n (thread + 1) first mid after rest (subst (λ (k : ℕ). ThreadRunsOut rules k mid after) here run))

-- ---- what a state shows

-- The states of one kind of play show states of another. Turns go alike, and a thread wants the same word.
pub record Shows {X Y : Type 0} (show : X → Y) (rules : Rules X) (shown : Rules Y) : Type 0 where
  pub thread : (thread : ℕ) (x : X) → show (rules.thread thread x) ≡ shown.thread thread (show x)
  pub patcher : (x : X) → show (rules.patcher x) ≡ shown.patcher (show x)
  pub wanted : (thread : ℕ) (x : X) → rules.wanted thread x ≡ shown.wanted thread (show x)

pub turns_shown : {X Y : Type 0} (show : X → Y) (turn : X → X) (own : Y → Y) → ((x : X) → show (turn x) ≡ own (show x)) → (n : ℕ) (x : X)
    → show (turns n turn x) ≡ turns n own (show x)
turns_shown show turn own each zero x = refl
turns_shown show turn own each (suc n) x = turns_shown show turn own each n (turn x) ∙ ap (turns n own) (each x)

pub line_shown : {X Y : Type 0} (show : X → Y) (rules : Rules X) (shown : Rules Y) → Shows show rules shown → (x : X) (line : Turns)
    → show (line_played rules x line) ≡ line_played shown (show x) line
line_shown show rules shown shows x (Thread thread count) =
    turns_shown show (rules.thread thread) (shown.thread thread) (shows.thread thread) count x
line_shown show rules shown shows x (Patcher count) = turns_shown show rules.patcher shown.patcher shows.patcher count x

lines_shown : {X Y : Type 0} (show : X → Y) (rules : Rules X) (shown : Rules Y) → Shows show rules shown → (lines : List Turns) (x : X)
    → show (lines_played rules x lines) ≡ lines_played shown (show x) lines
lines_shown show rules shown shows [] x = refl
lines_shown {Y = Y} show rules shown shows (line ∷ lines) x =
    lines_shown show rules shown shows lines (line_played rules x line)
    ∙ ap (λ (y : Y). lines_played shown y lines) (line_shown show rules shown shows x line)

run_shown : {X Y : Type 0} (show : X → Y) (rules : Rules X) (shown : Rules Y) → Shows show rules shown → (thread : ℕ) (before after : X)
    → ThreadRunsOut rules thread before after → ThreadRunsOut shown thread (show before) (show after)
run_shown show rules shown shows thread before after (n, made, ends) = (
  n,
  ap show made ∙ turns_shown show (rules.thread thread) (shown.thread thread) (shows.thread thread) n before,
  sym (shows.wanted thread after) ∙ ends,
)

runs_shown : {X Y : Type 0} (show : X → Y) (rules : Rules X) (shown : Rules Y) → Shows show rules shown → (n thread : ℕ) (before after : X)
    → ThreadsRunOut rules n thread before after → ThreadsRunOut shown n thread (show before) (show after)
runs_shown show rules shown shows zero thread before after e = ap show e
runs_shown show rules shown shows (suc n) thread before after (mid, run, rest) =
    (show mid, run_shown show rules shown shows thread before mid run, runs_shown show rules shown shows n (thread + 1) mid after rest)

-- a play of states is one of what they show
pub play_shown : {X Y : Type 0} (show : X → Y) (rules : Rules X) (shown : Rules Y) → Shows show rules shown → (threads : ℕ) (first : X)
    (schedule : List Turns) (last : X) → Plays rules threads first schedule last → Plays shown threads (show first) schedule (show last)
play_shown {Y = Y} show rules shown shows threads first schedule last out =
    subst (λ (y : Y). ThreadsRunOut shown threads 1 y (show last)) (lines_shown show rules shown shows schedule first)
    (runs_shown show rules shown shows threads 1 (lines_played rules first schedule) last out)

-- a thread that runs out by what is shown does so
run_after : {X Y : Type 0} (show : X → Y) (rules : Rules X) (shown : Rules Y) → Shows show rules shown → (thread : ℕ) (before : X) (y after : Y)
    → show before ≡ y → ThreadRunsOut shown thread y after → (last : X) × ThreadRunsOut rules thread before last × (show last ≡ after)
run_after {X = X} {Y = Y} show rules shown shows thread before y after here (n, made, ends) =
    let last : X = turns n (rules.thread thread) before in
    let there : show last ≡ after =
    turns_shown show (rules.thread thread) (shown.thread thread) (shows.thread thread) n before
    ∙ ap (turns n (shown.thread thread)) here ∙ sym made in
    (last, (n, refl, shows.wanted thread last ∙ subst (λ (z : Y). shown.wanted thread z ≡ None) (sym there) ends), there)

runs_after : {X Y : Type 0} (show : X → Y) (rules : Rules X) (shown : Rules Y) → Shows show rules shown → (n thread : ℕ) (before : X) (y after : Y)
    → show before ≡ y → ThreadsRunOut shown n thread y after → (last : X) × ThreadsRunOut rules n thread before last × (show last ≡ after)
runs_after show rules shown shows zero thread before y after here e = (before, refl, here ∙ sym e)
runs_after show rules shown shows (suc n) thread before y after here (mid, run, rest) =
    let one = run_after show rules shown shows thread before y mid here run in
    let all = runs_after show rules shown shows n (thread + 1) one.0 mid after one.2 rest in
    (all.0, (one.0, one.1, all.1), all.2)

-- each play of what is shown is one of states
pub play_after : {X Y : Type 0} (show : X → Y) (rules : Rules X) (shown : Rules Y) → Shows show rules shown → (threads : ℕ) (first : X)
    (schedule : List Turns) (end : Y) → Plays shown threads (show first) schedule end
    → (last : X) × Plays rules threads first schedule last × (show last ≡ end)
play_after show rules shown shows threads first schedule end out =
    runs_after show rules shown shows threads 1 (lines_played rules first schedule) (lines_played shown (show first) schedule) end
    (lines_shown show rules shown shows schedule first) out
