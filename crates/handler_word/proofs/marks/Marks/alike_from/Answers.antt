use Rattle.std.proofs.Common.{◌≡◌, ◌+◌, ◌-◌, arith}
use Rattle.std.proofs.lemmas.Option.{slice_get_within}
use Rattle.handler_word.proofs.MarkRuns.{mark_in_front}
use Rattle.handler_word.proofs.marks.Marks.alike_from.Goals as goal

pub end_of_bytes-end-requires : goal.end_of_bytes-end-requires
end_of_bytes-end-requires c = omega (arith, slice_get_within c.args.self.now.items c.args.first c.args.mark c.requires)

pub returns-then-end-first-clause-within : goal.returns-then-end-first-clause-within
returns-then-end-first-clause-within c = omega (arith, slice_get_within c.args.self.now.items c.args.first c.args.mark c.requires)

pub returns-then-end-first-clause-same : goal.returns-then-end-first-clause-same
returns-then-end-first-clause-same c = mark_in_front c.args.self.now.items c.args.first c.args.mark c.requires

pub returns-else-end-first-clause-same : goal.returns-else-end-first-clause-same
returns-else-end-first-clause-same c =
    let end : c.args.first + (c.end_of_bytes-end.result - c.args.first) ≡ c.end_of_bytes-end.result = omega (arith, c.end_of_bytes-end.ensures.from) in
    rw end c.end_of_bytes-end.ensures.same
