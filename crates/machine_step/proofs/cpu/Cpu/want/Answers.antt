use Rattle.std.proofs.Common.{◌≡◌, ◌<◌, ◌∙◌, ap, length, subst, sym}
use Rattle.xray_image.specs.Program.{Program}
use Rattle.machine_step.specs.declared.stand.Stand.{Stand}
use Rattle.machine_step.specs.declared.want.Want.TheVariants.{Load}
use Rattle.machine_step.specs.private.Inside.{want_at}
use Rattle.machine_step.specs.private.Stages.{word_at}
use Rattle.machine_step.specs.Traced.{Traced}
use Rattle.machine_step.proofs.OpenedPassing.{loadable_seen, loading_at, sled_within, stands_seen}
use Rattle.machine_step.proofs.cpu.Cpu.want.Goals as goal

pub word_at-requires-clause-exists : goal.word_at-requires-clause-exists
word_at-requires-clause-exists c =
    subst (λ (program : Program). c.in-Loading.sled < length program.sleds) (sym c.image.ensures.program)
    (sled_within c.self.inside c.self.invariant c.in-Loading.place c.in-Loading.sled
    (loading_at c.self.inside c.self.invariant c.in-Loading.place c.in-Loading.sled c.in-Loading.stage c.in-Loading.is))

pub returns-in-Gate-clause-stands : goal.returns-in-Gate-clause-stands
returns-in-Gate-clause-stands c = stands_seen c.self.inside _ c.self.view_is c.self.invariant

pub returns-in-Loading-clause-want : goal.returns-in-Loading-clause-want
returns-in-Loading-clause-want c =
    let a = c.self.inside in
    subst (λ (t : Traced). Load c.word_at.result ≡ t.want) c.self.view_is
    (subst (λ (s : Stand). Load c.word_at.result ≡ want_at a.steps.now a.threads a.thread a.machine.passings s) (sym c.in-Loading.is)
    (ap Load (c.word_at.ensures ∙ ap (λ (program : Program). word_at program a.threads a.thread c.in-Loading.sled c.in-Loading.stage) c.image.ensures.program)))

pub returns-in-Loading-clause-stands : goal.returns-in-Loading-clause-stands
returns-in-Loading-clause-stands c = stands_seen c.self.inside _ c.self.view_is c.self.invariant

pub returns-in-Loading-clause-word : goal.returns-in-Loading-clause-word
returns-in-Loading-clause-word c = loadable_seen c.self.inside _ c.self.view_is c.self.invariant

pub returns-in-Ended-clause-stands : goal.returns-in-Ended-clause-stands
returns-in-Ended-clause-stands c = stands_seen c.self.inside _ c.self.view_is c.self.invariant
