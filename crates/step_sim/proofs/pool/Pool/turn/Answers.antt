use Rattle.std.proofs.Common.{◌≡◌, ◌+◌, ◌∙◌, arith, refl}
use Rattle.step_sim.proofs.PoolLemmas.{put_begun, read_back, turn_has_room, turn_loses, turn_notes, turn_seals}
use Rattle.step_sim.proofs.pool.Pool.turn.Goals as goal

pub overflow_add-index_mut : goal.overflow_add-index_mut
overflow_add-index_mut c =
    omega (
      arith,
      turn_seals c.args.self.now c.args.thread c.index_mut.result.now c.args.event.now c.requires.can c.requires.full
          c.segments_hold_all.ensures.all c.segments_hold_all.ensures.some c.index_mut.ensures.value,
    )

pub count_lost-requires : goal.count_lost-requires
count_lost-requires c = λ begun.
    turn_loses c.args.self.now c.args.thread c.index_mut.result.now c.args.event.now c.index_mut-hand.result.now c.exchange.new.item c.deref.result.now
    c.requires.can c.requires.full c.segments_hold_all.ensures.all c.segments_hold_all.ensures.some c.index_mut.ensures.value
    c.index_mut-hand.ensures.value c.exchange.ensures.front c.deref.ensures.value begun

pub put-requires-clause-room : goal.put-requires-clause-room
put-requires-clause-room c =
    rw c.begin.ensures.begun (turn_has_room c.args.self.now c.args.thread c.args.event.now c.index_mut-hand.result.now c.exchange.new.item
    c.requires.can c.requires.full c.segments_hold_all.ensures.room c.index_mut-hand.ensures.value c.exchange.ensures.front)

pub returns : goal.returns
returns c =
    let old = c.args.self.now in
    let n = c.index_mut.result.now in
    let serial : c.index.result.now ≡ n + 1 =
    read_back old c.args.thread (n + 1) c.index.result.now c.requires.can c.index.ensures in
    let put = put_begun c.begin.new.self c.put.new.self c.exchange.new.item.size c.args.thread c.index.result.now old.wall old.pid c.args.event.now
    c.begin.ensures.begun c.put.ensures in
    turn_notes old _ c.args.thread n c.args.event.now c.index_mut-hand.result.now c.exchange.new.item c.put.new.self
    c.requires.can c.requires.full c.segments_hold_all.ensures.all c.segments_hold_all.ensures.some c.a_segment_grows.ensures.cut
    c.index_mut.ensures.value c.index_mut-hand.ensures.value c.exchange.ensures.front (put ∙ rw serial refl)
    refl c.exchange.ensures.queue refl c.count_lost.ensures refl refl
