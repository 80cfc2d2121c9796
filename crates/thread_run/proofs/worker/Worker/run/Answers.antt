use Rattle.std.proofs.Common.{◌≡◌, ◌<◌, ◌++◌, List, append-nil, ap, subst, refl, sym, ◌∙◌}
use Rattle.std.proofs.lemmas.Bool.{false≢true}
use Rattle.machine_step.specs.declared.want.Want.TheVariants.{Load as Loads}
use Rattle.machine_step.specs.Traced.{Traced, loads_left}
use Rattle.sled_rule.specs.declared.views.Load.{Load as SeatLoad}
use Rattle.thread_run.specs.Workers.{cpu_of, loads_of}
use Rattle.thread_run.proofs.WorkerLoads.{after_taken, goes_on, made_free, made_held, made_none, worker_again, worker_then}
use Rattle.thread_run.proofs.worker.Worker.run.Goals as goal

pub loads-init : goal.loads-init
loads-init g c =
    let worker = c.args.self.now in
    record {
      going = c.requires.going;
      same = worker_again g.R.Recorder.follows g.met.R.Recorder.follows_itself worker;
      made = made_none worker worker refl;
      want = c.want-want.ensures.want;
      there = c.want-want.ensures.word;
    }

pub loads-preserved-in-Gate : goal.loads-preserved-in-Gate
loads-preserved-in-Gate g c =
    let mid = c.loads.self in
    let new = c.open-want.new.self in
    let said = c.open-want.ensures in
    goes_on g.R.Recorder.stands g.R.Recorder.follows g.met.R.Recorder.follows_along c.args.self.now mid new _ _ c.loads.invariant said.same
    (made_none mid new said.loads) said.going said.want said.there

pub note-want-requires-clause-following : goal.note-want-requires-clause-following
note-want-requires-clause-following g c = after_taken c.in-Load.word c.loads.self c.take.new.self c.in-Some.ensures.taken

pub go_on-want-requires-clause-at : goal.go_on-want-requires-clause-at
go_on-want-requires-clause-at g c =
    let mid = c.take.new.self in
    c.in-None.ensures.lacks.once mid.recorder (λ events stands. subst (g.R.Recorder.stands mid.recorder) (sym (append-nil events)) stands)

pub go_on-want-requires-clause-following : goal.go_on-want-requires-clause-following
go_on-want-requires-clause-following g c = after_taken c.in-Load.word c.loads.self c.take.new.self c.in-None.ensures.taken

pub returns-in-Done-clause-same : goal.returns-in-Done-clause-same
returns-in-Done-clause-same g c =
    worker_then g.R.Recorder.follows g.met.R.Recorder.follows_along c.args.self.now c.loads.self c.finish.new.self c.loads.invariant.same c.finish.ensures.same

pub loads-smaller-in-Some : goal.loads-smaller-in-Some
loads-smaller-in-Some g c =
    let old = c.loads.self in
    subst (λ (t : Traced). loads_left t < loads_left (cpu_of old)) (sym c.note-want.ensures.cpu)
    (c.in-Some.ensures.taken.nearer (c.in-Some.ensures.ends refl c.in-Load.word))

pub loads-preserved-in-Some : goal.loads-preserved-in-Some
loads-preserved-in-Some g c =
    let old = c.loads.self in
    let mid = c.take.new.self in
    let new = c.note-want.new.self in
    let took = c.in-Some.ensures in
    let said = c.note-want.ensures in
    goes_on g.R.Recorder.stands g.R.Recorder.follows g.met.R.Recorder.follows_along c.args.self.now old new _ _ c.loads.invariant
    (worker_then g.R.Recorder.follows g.met.R.Recorder.follows_along old mid new took.same said.same)
    (made_free c.in-Load.word old mid new took.taken (took.ends refl c.in-Load.word) said.loads) said.going said.want said.there

pub returns-then-is_load-clause-same : goal.returns-then-is_load-clause-same
returns-then-is_load-clause-same g c =
    let old = c.loads.self in
    let new = c.go_on-want.new.self in
    worker_then g.R.Recorder.follows g.met.R.Recorder.follows_along c.args.self.now old new c.loads.invariant.same
    (worker_then g.R.Recorder.follows g.met.R.Recorder.follows_along old c.take.new.self new c.in-None.ensures.same c.go_on-want.ensures.same)

pub returns-then-is_load-clause-held : goal.returns-then-is_load-clause-held
returns-then-is_load-clause-held g c = λ is.
    let old = c.loads.self in
    let mid = c.take.new.self in
    let new = c.go_on-want.new.self in
    let kept = c.loads.invariant in
    let taken = c.in-None.ensures.taken in
    let again : mid.cpu.want ≡ Loads c.in-Load.word =
    ap (λ (t : Traced). t.want) (sym c.go_on-want.ensures.cpu) ∙ sym c.go_on-want.ensures.want ∙ c.is_load.ensures.0 c.if-is_load.true in
    let one = taken.again again in (
      c.go_on-want.ensures.going,
      made_held c.args.self.now old new one.load kept.same.thread kept.made
          (c.go_on-want.ensures.loads ∙ taken.loads ∙ ap (λ (made : List SeatLoad). loads_of old ++ made) one.only) one.held,
    )

pub loads-smaller : goal.loads-smaller
loads-smaller g c =
    let old = c.loads.self in
    subst (λ (t : Traced). loads_left t < loads_left (cpu_of old)) (sym c.go_on-want.ensures.cpu)
    (c.in-None.ensures.taken.nearer
    (λ again. false≢true (sym c.if-is_load.false ∙ c.is_load.ensures.1 (c.go_on-want.ensures.want ∙ ap (λ (t : Traced). t.want) c.go_on-want.ensures.cpu ∙ again))))

pub loads-preserved : goal.loads-preserved
loads-preserved g c =
    let old = c.loads.self in
    let mid = c.take.new.self in
    let new = c.go_on-want.new.self in
    let took = c.in-None.ensures in
    let said = c.go_on-want.ensures in
    goes_on g.R.Recorder.stands g.R.Recorder.follows g.met.R.Recorder.follows_along c.args.self.now old new _ _ c.loads.invariant
    (worker_then g.R.Recorder.follows g.met.R.Recorder.follows_along old mid new took.same said.same)
    (made_free c.in-Load.word old mid new took.taken
    (λ again. false≢true (sym c.if-is_load.false ∙ c.is_load.ensures.1 (said.want ∙ ap (λ (t : Traced). t.want) said.cpu ∙ again)))
    said.loads) said.going said.want said.there
