use Rattle.std.proofs.Common.{◌≤◌, ap, refl, subst, sym, ◌∙◌, arith}
use Rattle.patch_script.specs.Micros.{total_of}
use Rattle.patch_script.specs.Refusals.{commands_of}
use Rattle.machine_step.specs.declared.want.Want.{Want}
use Rattle.machine_step.specs.Traced.{Allows, IsLoadable}
use Rattle.machine_step.specs.Underway.{in_passing}
use Rattle.sled_rule.specs.declared.views.WorkView.{WorkView}
use Rattle.sled_rule.specs.Seats.{work_view, script_of}
use Rattle.thread_run.specs.Following.{given}
use Rattle.thread_run.proofs.LoadAndSeat.{along_more, found_within, is_found, is_kept, the_load, value_allowed, word_there}
use Rattle.thread_run.proofs.PassingLoads.{less_is, never_held}
use Rattle.thread_run.proofs.WorkerLoads.{made_one}
use Rattle.thread_run.proofs.worker.Worker.load_word.Goals as goal

pub fetch-value-requires-clause-word : goal.fetch-value-requires-clause-word
fetch-value-requires-clause-word g c =
    let worker = c.args.self.now in
    let t = in_passing worker.cpu c.args.underway in
    word_there (script_of worker.table.now) t c.word-word.result c.requires.going.at.thread
    (subst (IsLoadable t) c.word-word.ensures.word c.word-word.ensures.there)

pub after-requires-clause-allowed : goal.after-requires-clause-allowed
after-requires-clause-allowed g c =
    let worker = c.args.self.now in
    let plan = script_of worker.table.now in
    let t = in_passing worker.cpu c.args.underway in
    let v = work_view worker.seat in
    let at = c.requires.going.at in
    let fetched = c.fetch-value.ensures.fetched in
    let value = c.fetch-value.result in
    let found = is_found plan t v _ c.word-word.result value at.own.1 at.seat c.requires.going.count fetched in
    subst (λ (w : Want). Allows t w value) (sym c.word-word.ensures.word)
    (value_allowed plan t at.passed v.seen fetched.place (given v.loads) c.word-word.result value at.thread at.along.all c.word-word.ensures.word found)

pub returns-in-Some-clause-found : goal.returns-in-Some-clause-found
returns-in-Some-clause-found g c =
    let worker = c.args.self.now in
    let plan = script_of worker.table.now in
    let t = in_passing worker.cpu c.args.underway in
    let v = work_view worker.seat in
    let going = c.requires.going in
    let at = going.at in
    let said = c.in-Some.ensures in
    let fetched = c.fetch-value.ensures.fetched in
    let value = c.fetch-value.result in
    let found = is_found plan t v _ c.word-word.result value at.own.1 at.seat going.count fetched in (
      said.of,
      record {
        at = record {
          own = c.fetch-value.ensures.own;
          thread = record { program = at.thread.program; threads = at.thread.threads; hold = at.thread.hold; first = at.thread.first; last = at.thread.last; accepted = at.thread.accepted };
          seat = ap (λ (x : WorkView). x.thread) fetched.view ∙ at.seat;
          within = subst (λ (x : WorkView). x.seen ≤ total_of plan.program plan.threads (commands_of plan.lines)) (sym fetched.view)
              (found_within plan t v.seen c.word-word.result value fetched.place found);
          passed = at.passed;
          along = along_more plan t (in_passing worker.cpu c.in-Some.next) v _ at.passed c.word-word.result value fetched.place at.thread at.along c.word-word.ensures.word found
              refl said.loads (λ kept. absurd (said.free kept)) fetched.view;
          recorded_are = at.recorded_are;
        };
        count = ap (λ (x : WorkView). x.count) fetched.view ∙ going.count;
      },
    )

pub returns-in-Some-clause-read : goal.returns-in-Some-clause-read
returns-in-Some-clause-read g c =
    let worker = c.args.self.now in
    let plan = script_of worker.table.now in
    let t = in_passing worker.cpu c.args.underway in
    let v = work_view worker.seat in
    let at = c.requires.going.at in
    let fetched = c.fetch-value.ensures.fetched in
    let load = the_load v c.word-word.result c.fetch-value.result fetched.place in
    record {
      same = refl;
      made = made_one worker _ load (ap (λ (x : WorkView). x.loads) fetched.view)
          (never_held worker.cpu.program worker.cpu.thread load
          (λ held. c.in-Some.ensures.free (is_kept plan t at.passed (given v.loads) load at.thread at.along.all.loaded c.word-word.ensures.word held)));
      left = less_is _ _ c.in-Some.ensures.nearer;
    }

pub returns-in-None-clause-found : goal.returns-in-None-clause-found
returns-in-None-clause-found g c = (
  c.requires.of,
  record {
    before = c.args.self.now.seat;
    word = c.word-word.result;
    going = c.requires.going;
    wants = c.word-word.ensures.word;
    own = c.fetch-value.ensures.own;
    fetched = c.fetch-value.ensures.fetched;
  },
  c.in-None.ensures.free,
)

pub returns-in-None-clause-read : goal.returns-in-None-clause-read
returns-in-None-clause-read g c =
    let worker = c.args.self.now in
    let plan = script_of worker.table.now in
    let t = in_passing worker.cpu c.args.underway in
    let v = work_view worker.seat in
    let at = c.requires.going.at in
    let fetched = c.fetch-value.ensures.fetched in
    let load = the_load v c.word-word.result c.fetch-value.result fetched.place in
    record {
      same = refl;
      made = made_one worker _ load (ap (λ (x : WorkView). x.loads) fetched.view)
          (never_held worker.cpu.program worker.cpu.thread load
          (λ held. c.in-None.ensures.free (is_kept plan t at.passed (given v.loads) load at.thread at.along.all.loaded c.word-word.ensures.word held)));
      left = omega arith;
    }
