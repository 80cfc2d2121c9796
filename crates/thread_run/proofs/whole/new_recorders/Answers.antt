use Rattle.std.proofs.Common.{◌≡◌, ◌+◌, ◌++◌, List, arith, ap, ◌∙◌, length, length-append, ◌∷◌, []}
use Rattle.fdr_buffer.specs.Filled.{Filled}
use Rattle.buffer_queue.specs.Passes.{PassIs, new_hand, new_pass}
use Rattle.thread_run.specs.private.Pooled.{IsNewRecorder}
use Rattle.thread_run.proofs.EachItem.{one_more, one_taken}
use Rattle.thread_run.proofs.GatheredRuns.{new_at}
use Rattle.thread_run.proofs.whole.new_recorders.Goals as goal

-- how many threads come after those so far
few : (yielded rest all : List (PassIs × Filled)) (one : PassIs × Filled) → (yielded ++ one ∷ []) ++ rest ≡ all
    → length yielded + 1 + length rest ≡ length all
few yielded rest all one order =
    omega (arith, ap length order, length-append (yielded ++ one ∷ []) rest, length-append yielded (one ∷ []))

pub overflow_add-number : goal.overflow_add-number
overflow_add-number g c =
    let kept = c.loop-pass.invariant in let yielded = c.loop-pass.yielded in let rest = c.next.new.self.rest.items in
    let one : PassIs × Filled = (c.in-Some.pass, c.in-Some.hand) in
    let order = one_taken yielded rest one _ c.args.hands.items c.in-Some.ensures.steps.0 kept.order in
    omega (arith, kept.number, few yielded rest c.args.hands.items one order, c.requires.hands.0, c.requires.setup.few_threads)

pub push_reserved-requires : goal.push_reserved-requires
push_reserved-requires g c =
    let kept = c.loop-pass.invariant in let yielded = c.loop-pass.yielded in let rest = c.next.new.self.rest.items in
    let one : PassIs × Filled = (c.in-Some.pass, c.in-Some.hand) in
    let order = one_taken yielded rest one _ c.args.hands.items c.in-Some.ensures.steps.0 kept.order in
    omega (arith, kept.number, kept.count, kept.room, few yielded rest c.args.hands.items one order, c.requires.room, c.loop-pass.recorders.ok.0)

pub new-requires-clause-hand : goal.new-requires-clause-hand
new-requires-clause-hand g c =
    let kept = c.loop-pass.invariant in let yielded = c.loop-pass.yielded in let rest = c.next.new.self.rest.items in
    let one : PassIs × Filled = (c.in-Some.pass, c.in-Some.hand) in
    let order = one_taken yielded rest one _ c.args.hands.items c.in-Some.ensures.steps.0 kept.order in
    new_at c.args.pool.now c.args.setup.now.threads c.loop-pass.number c.args.hands.items yielded rest one c.requires.hands order kept.number

pub loop-pass-preserved : goal.loop-pass-preserved
loop-pass-preserved g c =
    let kept = c.loop-pass.invariant in let yielded = c.loop-pass.yielded in let rest = c.next.new.self.rest.items in
    let one : PassIs × Filled = (c.in-Some.pass, c.in-Some.hand) in
    let order = one_taken yielded rest one _ c.args.hands.items c.in-Some.ensures.steps.0 kept.order in
    let begins : one ≡ new_hand c.args.pool.now (c.loop-pass.number + 1) =
    new_at c.args.pool.now c.args.setup.now.threads c.loop-pass.number c.args.hands.items yielded rest one c.requires.hands order kept.number in
    let old = c.loop-pass.recorders.items in
    let recorder = c.new.result in
    let more = c.push_reserved.ensures.items in
    let pass : recorder.pass ≡ new_pass c.args.pool.now (c.loop-pass.number + 1) =
    c.new.ensures.pass ∙ ap (λ (h : PassIs × Filled). h.0) begins in
    record {
      order = order;
      number = omega (arith, kept.number, length-append yielded (one ∷ []));
      count = omega (arith, ap length more, length-append old (recorder ∷ []), kept.count);
      room = c.push_reserved.ensures.capacity ∙ kept.room;
      recorders = one_more (λ i r. IsNewRecorder c.args.pool.now (i + 1) r) old c.push_reserved.new.self.items recorder c.loop-pass.number kept.count kept.recorders
          (record {
            pass = record { same_pool = ap (λ (p : PassIs). p.pool) pass; same_setup = ap (λ (p : PassIs). p.setup) pass };
            owner = ap (λ (p : PassIs). p.thread) pass;
            no_events = c.new.ensures.no_events;
          })
          more;
    }
