use Rattle.std.proofs.Common.{arith}
use Rattle.step_sim.specs.Replay.{thread_count}
use Rattle.step_sim.proofs.OneRecorded.{can_note, ended_recorded, load_recorded, not_kept, plays}
use Rattle.step_sim.proofs.OneThread.{ended_turn, load_made, value_allowed, word_there}
use Rattle.step_sim.proofs.thread.make_load.Goals as goal

pub load-requires : goal.load-requires
load-requires c =
    let said = c.in-Some.ensures in
    word_there c.args.patcher.now c.args.cpu.now c.next_word.new.cpu c.in-Some.word (plays _ _ _ c.requires.records) said.thread said.loads said.word

pub give-event-requires : goal.give-event-requires
give-event-requires c =
    let said = c.in-Some.ensures in
    let old = c.args.cpu.now in
    let mid = c.next_word.new.cpu in
    let allowed = value_allowed c.args.patcher.now old mid c.in-Some.word c.load.result (plays _ _ _ c.requires.records) said.thread said.loads said.word
    c.a_replay_reads_along.ensures.allowed
    (λ cast moment at. c.load.ensures cast.program (thread_count cast) cast.script moment.place at.patcher) in
    rw said.word allowed

pub returns-in-Some-clause-at : goal.returns-in-Some-clause-at
returns-in-Some-clause-at c = λ cast moment at.
    let said = c.in-Some.ensures in
    load_made cast moment c.args.patcher.now c.args.cpu.now c.next_word.new.cpu _ c.in-Some.word c.load.result at
    said.thread said.loads said.word (c.load.ensures cast.program (thread_count cast) cast.script moment.place at.patcher)
    c.give-event.ensures.thread c.give-event.ensures.loads

pub returns-in-None-clause-at : goal.returns-in-None-clause-at
returns-in-None-clause-at c = λ cast moment at.
    let said = c.in-None.ensures in
    ended_turn cast moment c.args.patcher.now c.args.cpu.now c.next_word.new.cpu at said.thread said.loads said.ended

pub note_any-requires : goal.note_any-requires
note_any-requires c =
    let said = c.in-Some.ensures in
    can_note c.args.patcher.now c.args.cpu.now c.next_word.new.cpu c.give-event.new.self c.args.pool.now c.give-event.result c.thread-thread.result
    c.requires.records said.thread said.loads c.give-event.ensures.event c.thread-thread.ensures (omega (arith, c.passings_are_few.ensures))

pub returns-in-Some-clause-records : goal.returns-in-Some-clause-records
returns-in-Some-clause-records c = λ r pooled at.
    let said = c.in-Some.ensures in
    let stands = load_made r.cast pooled.moment c.args.patcher.now c.args.cpu.now c.next_word.new.cpu _ c.in-Some.word c.load.result at.stands
    said.thread said.loads said.word (c.load.ensures r.cast.program (thread_count r.cast) r.cast.script pooled.moment.place at.stands.patcher)
    c.give-event.ensures.thread c.give-event.ensures.loads in
    load_recorded r pooled c.args.patcher.now c.args.cpu.now c.next_word.new.cpu c.give-event.new.self c.args.pool.now c.note_any.new.self
    c.give-event.result c.thread-thread.result at said.thread said.loads c.give-event.ensures.thread c.give-event.ensures.event
    c.thread-thread.ensures c.note_any.ensures stands

pub returns-in-None-clause-records : goal.returns-in-None-clause-records
returns-in-None-clause-records c = λ r pooled at.
    let said = c.in-None.ensures in
    ended_recorded r pooled c.args.patcher.now c.args.cpu.now c.next_word.new.cpu c.args.pool.now at said.thread said.loads said.ended

pub returns-in-Some-clause-nearer : goal.returns-in-Some-clause-nearer
returns-in-Some-clause-nearer c =
    let said = c.in-Some.ensures in
    omega (
      arith,
      said.nearer,
      c.give-event.ensures.nearer (not_kept c.args.patcher.now c.args.cpu.now c.next_word.new.cpu c.load.result (plays _ _ _ c.requires.records) said.thread),
    )
