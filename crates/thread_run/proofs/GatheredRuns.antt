-- What is gathered of workers that have ended, and drained of their pool, is what a run leaves.
use Rattle.std.proofs.Common.{◌≡◌, ℕ, ◌+◌, ◌<◌, List, [], ◌∷◌, ◌++◌, Some, sym, subst, ap, ◌∙◌, arith, append_assoc, get_or, length, length-append, map}
use Rattle.std.specs.Prelude.{Vec, option_map, slice_get}
use Rattle.std.specs.declared.alloc.Global.{Global}
use Rattle.std.proofs.Math.Seq.{get_or-append_seam}
use Rattle.std.proofs.lemmas.List.{length-map}
use Rattle.std.proofs.lemmas.Option.{get_or_from_slice_get, slice_get-map, slice_get_within}
use mathlib.Core.List.{map-map}
use Rattle.patch_script.specs.declared.command.PatchCommand.{PatchCommand}
use Rattle.patch_script.specs.Plans.{Plan}
use Rattle.patch_script.specs.Refusals.{commands_of}
use Rattle.fdr_buffer.specs.Filled.{Filled}
use Rattle.buffer_queue.specs.Left.{IsLeft}
use Rattle.buffer_queue.specs.Passes.{AreNew, AreOf, IsOf, PassIs, PoolIs, new_hand, sealed_of}
use Rattle.machine_step.specs.declared.limits.Limits.{Limits}
use Rattle.machine_step.specs.declared.setup.Setup.{Setup}
use Rattle.machine_step.specs.Traced.{Traced}
use Rattle.xray_image.specs.Program.{Program}
use Rattle.sled_rule.specs.declared.seats.WorkSeat.{WorkSeat}
use Rattle.sled_rule.specs.declared.views.WorkView.{WorkView}
use Rattle.sled_rule.specs.Seats.{work_view}
use Rattle.thread_run.specs.declared.recorded.RecordedEnd.{RecordedEnd}
use Rattle.thread_run.specs.declared.whole.Gathered.{Gathered}
use Rattle.thread_run.specs.declared.worker.Worker.{Worker}
use Rattle.thread_run.specs.Each.{HaveChanged}
use Rattle.thread_run.specs.Recordings.{HasSameOwner, Recording, StandsFor, segments_begun}
use Rattle.thread_run.specs.private.Rooms.{AreParts, HaveRunPooled}
use Rattle.thread_run.specs.Runs.{HaveRunBeside}
use Rattle.thread_run.specs.private.Starting.{AreWorkersAt, HaveWorked}
use Rattle.thread_run.specs.private.Pooled.{AreNewRecorders, AreWorkersOfRun, lost_beside}
use Rattle.thread_run.specs.Workers.{HasEnded, cpu_of, recorder_of, seat_of}
use Rattle.thread_run.proofs.EachItem.{there_is}
use Rattle.thread_run.proofs.PoolAndHands.{hands_of}
use Rattle.thread_run.proofs.BufferOrder.{HoldEvents}
use Rattle.thread_run.proofs.RunLemmas.{left_so}

-- what the next thread begins with
pub new_at : (pool : PoolIs) (n number : ℕ) (hands yielded rest : List (PassIs × Filled)) (x : PassIs × Filled) → AreNew pool 1 n hands
    → (yielded ++ x ∷ []) ++ rest ≡ hands → number ≡ length yielded → x ≡ new_hand pool (number + 1)
new_at pool n number hands yielded rest x new order at =
    let placed : yielded ++ x ∷ rest ≡ hands = sym (append_assoc yielded (x ∷ []) rest) ∙ order in
    let within : length yielded < length hands = omega (arith, ap length placed, length-append yielded (x ∷ rest)) in
    let found : get_or hands (length yielded) x ≡ x =
    ap (λ (l : List (PassIs × Filled)). get_or l (length yielded) x) (sym placed) ∙ get_or-append_seam yielded x rest x in
    let place : 1 + length yielded ≡ number + 1 = omega (arith, at) in
    sym found ∙ new.1 (length yielded) x within ∙ ap (new_hand pool) place

-- the passes of workers of a pool are its passes, in order
pub passes_are : (plan : Plan) (pool : PoolIs) (Is : Worker Recording → Type 0) (workers : List (Worker Recording)) → AreWorkersOfRun plan pool Is workers
    → AreOf pool 1 (map (λ (w : Worker Recording). (recorder_of w).pass) workers)
passes_are plan pool Is workers are k other within =
    let inside : k < length workers = omega (arith, within, length-map workers (λ (w : Worker Recording). (recorder_of w).pass)) in
    let one = there_is workers k inside in
    let is = (are k one.0 one.1).0 in
    let at : slice_get (map (λ (w : Worker Recording). (recorder_of w).pass) workers) k ≡ Some (recorder_of one.0).pass =
    slice_get-map (λ (w : Worker Recording). (recorder_of w).pass) workers k ∙ ap (option_map (λ (w : Worker Recording). (recorder_of w).pass)) one.1 in
    let found = get_or_from_slice_get (map (λ (w : Worker Recording). (recorder_of w).pass) workers) k (recorder_of one.0).pass other at in
    let place : k + 1 ≡ 1 + k = omega arith in
    (subst (IsOf pool) (sym found) is.pass, ap (λ (p : PassIs). p.thread) found ∙ is.owner ∙ place)

-- workers that have run with recorders of a pool
pub run_with_pool : (plan : Plan) (pool : PoolIs) (recorders : List Recording) (workers : List (Worker Recording)) → AreNewRecorders pool recorders
    → length workers ≡ length recorders → AreWorkersAt plan pool.setup.limits (HasEnded StandsFor) workers
    → HaveChanged HasSameOwner recorders (map (λ (w : Worker Recording). recorder_of w) workers) → AreWorkersOfRun plan pool (HasEnded StandsFor) workers
run_with_pool plan pool recorders workers new count ended followed i worker found =
    let is = ended i worker found in
    let was = there_is recorders i (omega (arith, slice_get_within workers i worker found, count)) in
    let first = new i was.0 was.1 in
    let at : slice_get (map (λ (w : Worker Recording). recorder_of w) workers) i ≡ Some (recorder_of worker) =
    slice_get-map (λ (w : Worker Recording). recorder_of w) workers i ∙ ap (option_map (λ (w : Worker Recording). recorder_of w)) found in
    let same = followed.each i was.0 (recorder_of worker) was.1 at in (
      record {
        table = is.0.table;
        thread = is.0.thread;
        limits = is.0.limits_are;
        pass = record { same_pool = same.pool ∙ first.pass.same_pool; same_setup = same.setup ∙ first.pass.same_setup };
        owner = same.thread ∙ first.owner;
      },
      is.1,
    )

-- what such workers leave, gathered
pub gathered_with_pool : (plan : Plan) (pool : PoolIs) (limits : Limits) (old : List Recording) (end : RecordedEnd Recording) (gathered : Gathered)
    → AreNewRecorders pool old → HaveWorked StandsFor HasSameOwner plan limits old end.cpus.items end.seats.items end.recorders.items
    → limits ≡ pool.setup.limits → length old ≡ pool.setup.threads → gathered.cpus ≡ end.cpus → gathered.seats ≡ end.seats
    → AreParts end.recorders.items gathered.parts → HaveRunPooled plan pool gathered
gathered_with_pool plan pool limits old end gathered new has same count cpus seats parts = record {
  workers = has.workers;
  count = has.count ∙ count;
  ended = run_with_pool plan pool old has.workers new has.count
      (subst (λ (l : Limits). AreWorkersAt plan l (HasEnded StandsFor) has.workers) same has.ended)
      (subst (HaveChanged HasSameOwner old) has.recorders_are has.followed);
  cpus = ap (λ (v : Vec Traced Global). v.items) cpus ∙ has.cpus_are;
  seats = ap (λ (v : Vec WorkSeat Global). v.items) seats ∙ has.seats_are;
  parts = subst (λ rs. AreParts rs gathered.parts) has.recorders_are parts;
}

-- the passes that were gathered
pub pooled_passes : (plan : Plan) (pool : PoolIs) (gathered : Gathered) → HaveRunPooled plan pool gathered → AreOf pool 1 gathered.parts.passes.items
pooled_passes plan pool gathered have =
    subst (AreOf pool 1)
    (sym (have.parts.passes ∙ map-map (λ (r : Recording). r.pass) (λ (w : Worker Recording). recorder_of w) have.workers))
    (passes_are plan pool (HasEnded StandsFor) have.workers have.ended)

-- what is gathered, and what is left of the pool
pub run_leaves : HoldEvents → (plan : Plan) (pool : PoolIs) (setup : Setup) (program : Program) (gathered : Gathered) (cpus : List Traced)
    (seats : List WorkSeat) (segments first : List ℕ) (buffers left : List Filled) → pool.setup ≡ setup → plan.program ≡ program
    → plan.threads ≡ setup.threads → HaveRunPooled plan pool gathered → cpus ≡ gathered.cpus.items → seats ≡ gathered.seats.items → segments ≡ gathered.parts.segments.items
    → first ≡ lost_beside buffers 1 gathered.parts.segments.items
    → IsLeft setup (sealed_of gathered.parts.passes.items) left → buffers ≡ left ++ gathered.parts.hands.items
    → HaveRunBeside program (commands_of plan.lines) setup cpus (map (λ s. work_view s) seats) segments first buffers
run_leaves hold plan pool setup program gathered cpus seats segments first buffers left same_setup same_program same_threads have a e b c is d =
    let Script : List PatchCommand = commands_of plan.lines in
    let workers : List (Worker Recording) = have.workers in
    let rs : List Recording = map (λ w. recorder_of w) workers in
    let rows : List (List Filled) = map (λ (r : Recording). r.pass.sealed) rs in
    let rows_are : sealed_of gathered.parts.passes.items ≡ rows =
    ap sealed_of have.parts.passes ∙ map-map (λ (p : PassIs). p.sealed) (λ (r : Recording). r.pass) rs in
    let left_is : IsLeft pool.setup rows left =
    subst (λ (s : Setup). IsLeft s rows left) (sym same_setup) (subst (λ (l : List (List Filled)). IsLeft setup l left) rows_are is) in
    let Segs : List ℕ = map (λ w. segments_begun (recorder_of w)) workers in
    let Buffers : List Filled = left ++ hands_of rs in
    let buffers_are : buffers ≡ Buffers = d ∙ ap (λ (hs : List Filled). left ++ hs) have.parts.hands in
    let Seats : List WorkView = map (λ s. work_view s) (map (λ w. seat_of w) workers) in
    let threads : plan.threads ≡ pool.setup.threads = same_threads ∙ ap (λ (s : Setup). s.threads) (sym same_setup) in
    let so = left_so hold plan pool workers left threads have.ended have.count left_is in
    let of_setup = subst (λ (s : Setup). HaveRunBeside plan.program Script s (map (λ w. cpu_of w) workers) Seats Segs (lost_beside Buffers 1 Segs) Buffers) same_setup so in
    let of_program = subst (λ (q : Program). HaveRunBeside q Script setup (map (λ w. cpu_of w) workers) Seats Segs (lost_beside Buffers 1 Segs) Buffers) same_program of_setup in
    let of_buffers = subst (λ (bs : List Filled). HaveRunBeside program Script setup (map (λ w. cpu_of w) workers) Seats Segs (lost_beside bs 1 Segs) bs) (sym buffers_are) of_program in
    let segments_are : gathered.parts.segments.items ≡ Segs =
    have.parts.segments ∙ map-map (λ (r : Recording). segments_begun r) (λ (w : Worker Recording). recorder_of w) workers in
    let first_is : first ≡ lost_beside buffers 1 Segs = c ∙ ap (lost_beside buffers 1) segments_are in
    subst (λ (ts : List Traced). HaveRunBeside program Script setup ts (map (λ s. work_view s) seats) segments first buffers) (sym (a ∙ have.cpus))
    (subst (λ (ss : List WorkSeat). HaveRunBeside program Script setup (map (λ w. cpu_of w) workers) (map (λ s. work_view s) ss) segments first buffers)
    (sym (e ∙ have.seats))
    (subst (λ (ns : List ℕ). HaveRunBeside program Script setup (map (λ w. cpu_of w) workers) Seats ns first buffers) (sym (b ∙ segments_are))
    (subst (λ (ns : List ℕ). HaveRunBeside program Script setup (map (λ w. cpu_of w) workers) Seats Segs ns buffers) (sym first_is) of_buffers)))
