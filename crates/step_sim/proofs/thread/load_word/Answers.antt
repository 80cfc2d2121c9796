use Rattle.std.proofs.Common.{refl, subst, sym}
use Rattle.machine_step.specs.declared.want.Want.{Want}
use Rattle.machine_step.specs.Traced.{Allows}
use Rattle.machine_step.specs.Underway.{in_passing}
use Rattle.step_sim.specs.Replay.{thread_count}
use Rattle.step_sim.proofs.OneRecorded.{plays}
use Rattle.step_sim.proofs.OneThread.{same_again, value_allowed, word_there}
use Rattle.step_sim.proofs.PassingTurns.{leads_load, leads_nowhere, on_same, records_by}
use Rattle.step_sim.proofs.thread.load_word.Goals as goal

pub load-value-requires : goal.load-value-requires
load-value-requires c =
    let t = in_passing c.args.cpu.now c.args.underway in
    word_there c.args.patcher.now t t c.word-word.result (plays _ _ _ c.requires.records) (same_again t) (λ passed loads has. has) c.word-word.ensures.word

pub after-requires-clause-allowed : goal.after-requires-clause-allowed
after-requires-clause-allowed c =
    let t = in_passing c.args.cpu.now c.args.underway in
    subst (λ (w : Want). Allows t w c.load-value.result) (sym c.word-word.ensures.word)
    (value_allowed c.args.patcher.now t t c.word-word.result c.load-value.result (plays _ _ _ c.requires.records) (same_again t) (λ passed loads has. has)
    c.word-word.ensures.word c.a_replay_reads_along.ensures.allowed
    (λ cast moment at. c.load-value.ensures cast.program (thread_count cast) cast.script moment.place at.patcher))

pub returns-in-Some-clause-leads : goal.returns-in-Some-clause-leads
returns-in-Some-clause-leads c =
    let t = in_passing c.args.cpu.now c.args.underway in
    leads_load c.args.patcher.now t (in_passing c.args.cpu.now c.in-Some.next) c.args.pool.now c.note_any.new.self c.word-word.result c.load-value.result _
    (on_same c.args.cpu.now c.args.underway c.in-Some.next) refl c.word-word.ensures.word
    (λ cast moment at. c.load-value.ensures cast.program (thread_count cast) cast.script moment.place at.patcher)
    c.in-Some.ensures.loads c.thread.ensures c.note_any.ensures

pub returns-in-None-clause-leads : goal.returns-in-None-clause-leads
returns-in-None-clause-leads c = leads_nowhere c.args.patcher.now (in_passing c.args.cpu.now c.args.underway) c.args.pool.now

pub returns-in-Some-clause-found : goal.returns-in-Some-clause-found
returns-in-Some-clause-found c =
    let t = in_passing c.args.cpu.now c.args.underway in
    let t' = in_passing c.args.cpu.now c.in-Some.next in
    let leads = leads_load c.args.patcher.now t t' c.args.pool.now c.note_any.new.self c.word-word.result c.load-value.result _
    (on_same c.args.cpu.now c.args.underway c.in-Some.next) refl c.word-word.ensures.word
    (λ cast moment at. c.load-value.ensures cast.program (thread_count cast) cast.script moment.place at.patcher)
    c.in-Some.ensures.loads c.thread.ensures c.note_any.ensures in
    record { of = c.in-Some.ensures.of; records = records_by c.args.patcher.now t t' c.args.pool.now c.note_any.new.self leads c.requires.records }
