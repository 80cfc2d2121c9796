use Rattle.std.proofs.Common.{List, ◌++◌, take, subst, sym, arith}
use Rattle.fdr_file.specs.declared.trace.Block.{Block}
use Rattle.fdr_file.specs.Scanning.{blocks_given}
use Rattle.fdr_file.proofs.EventRuns.{runs_more}
use Rattle.fdr_file.proofs.scan.TraceScan.pass_events.Goals as goal

pub tell-requires : goal.tell-requires
tell-requires g c =
    let s = c.requires.stands in
    let now = c.events.invariant.stands s.0 s.1 s.2 in
    let r = runs_more c.args.self.now c.args.span c.args.start c.events.base c.in-Some.known c.in-Some.entry c.in-Some.event s.0 c.args.bytes.now c.events.from c.in-Some.next c.end_among-end.result c.requires.next c.requires.block c.in-Some.ensures.next c.end_among-end.ensures c.in-Some.ensures.says now.0 in
    (blocks_given (s.0 ++ take c.events.from c.args.bytes.now), now.1, r.can)

pub events-preserved : goal.events-preserved
events-preserved g c = record {
  within = c.in-Some.ensures.next.2;
  stands = λ stream scans took.
      let now = c.events.invariant.stands stream scans took in
      let blocks = blocks_given (stream ++ take c.events.from c.args.bytes.now) in
      let r = runs_more c.args.self.now c.args.span c.args.start c.events.base c.in-Some.known c.in-Some.entry c.in-Some.event stream c.args.bytes.now c.events.from c.in-Some.next c.end_among-end.result c.requires.next c.requires.block c.in-Some.ensures.next c.end_among-end.ensures c.in-Some.ensures.says now.0 in (
        r.scans,
        subst (λ (x : List Block). g.K.Taker.took c.tell.new.taker x) (sym r.grows) (c.in_ok-tell.ensures.took blocks now.1 r.can),
      );
  later = omega (arith, c.events.invariant.later, c.tell.ensures.later);
}
