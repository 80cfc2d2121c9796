use Rattle.std.proofs.Common.{◌≡◌, ◌+◌, ◌<◌, Option, length, refl, ap, ◌∙◌, arith}
use Rattle.std.proofs.lemmas.List.{length-drop}
use Rattle.std.proofs.lemmas.Result.{err_from_is_err_and}
use Rattle.runtime_log.specs.declared.own_event.OwnKind.{OwnKind}
use Rattle.runtime_log.specs.Logs.{one_custom, one_typed}
use Rattle.runtime_log.specs.OwnEvents.{log_record_length}
use Rattle.runtime_log.proofs.BlockReading.{custom_few, passed, reads_all, reads_more, reads_past, reads_stop, typed_few}
use Rattle.runtime_log.proofs.blocks.LogBlocks.read_records.Goals as goal

pub records-init : goal.records-init
records-init c = record {
  end = refl;
  version = refl;
  counts = c.requires.counts;
  reads = λ so stage. record { now = so; on = refl; stage = stage; shows = λ s. s; custom = refl; typed = refl };
  begin = refl;
  others = refl;
  cut = refl;
}

pub records-preserved : goal.records-preserved
records-preserved c =
    let i = c.records.invariant in
    let some : 0 < length c.records.walk.rest.now = omega (arith, c.records-test.true, c.left.ensures) in
    let said = c.in_ok-told.ensures in
    let past = said.2 in
    let own = c.in_ok-told.own in
    let custom = c.count.ensures.custom ∙ ap (λ (o : Option OwnKind). c.records.self.custom + one_custom o) said.1 in
    let typed = c.count.ensures.typed ∙ ap (λ (o : Option OwnKind). c.records.self.typed + one_typed o) said.1 in
    let onward = passed c.step.new.self c.past_stretch-walk.result c.hear.new.self.first c.past_stretch-walk.ensures in
    record {
      end = omega (arith, onward.1, past.at_is, past.fits, ap length past.rest, length-drop (log_record_length c.records.walk.version c.records.walk.rest.now) c.records.walk.rest.now, i.end);
      version = onward.0 ∙ past.version ∙ i.version;
      counts = (omega (arith, onward.2, c.count.ensures.custom, custom_few own, past.at_is, past.some, i.counts.0), omega (arith, onward.2, c.count.ensures.typed, typed_few own, past.at_is, past.some, i.counts.1));
      reads = λ so stage.
          reads_past so c.args.self.now c.args.block.now c.args.walk c.count.new.self c.hear.new.self c.step.new.self c.past_stretch-walk.result
          (reads_more so c.args.self.now c.args.block.now c.args.walk c.records.self c.records.block c.records.walk c.count.new.self c.hear.new.self c.step.new.self c.in_ok-told.told (i.reads so stage)
          c.hear.ensures.shows i.version some said.0 past custom typed)
          (past.version ∙ i.version) c.past_stretch-walk.ensures;
      begin = c.hear.ensures.places.0 ∙ i.begin;
      others = c.count.ensures.others.0 ∙ i.others;
      cut = c.count.ensures.others.1 ∙ i.cut;
    }

pub returns-in_err-told-clause-refuses : goal.returns-in_err-told-clause-refuses
returns-in_err-told-clause-refuses c = λ so stage.
    let i = c.records.invariant in
    let some : 0 < length c.records.walk.rest.now = omega (arith, c.records-test.true, c.left.ensures) in
    let p = err_from_is_err_and c.from_residual.result c.from_residual.ensures.1 in
    rw (p.1, p.2) (reads_stop so c.args.self.now c.args.block.now c.args.walk c.records.self c.records.block c.records.walk _ (i.reads so stage) i.version some c.in_err-told.ensures.0)

pub returns-clause-reads : goal.returns-clause-reads
returns-clause-reads c = λ so stage shows.
    let i = c.records.invariant in
    let r = i.reads so stage in
    let s = r.shows shows in
    let none : length c.records.walk.rest.now ≡ 0 = omega (arith, c.records-test.false, c.left.ensures) in
    record {
      all = r.now;
      reads = reads_all so c.args.self.now c.args.block.now c.args.walk c.records.self c.records.block c.records.walk r none;
      shows = record { thread = s.thread; pid = s.pid; wall = s.wall; first = s.first };
      custom = r.custom;
      typed = r.typed;
    }
