use Rattle.std.proofs.Common.{◌≡◌, ◌++◌, map}
use Rattle.std.specs.Prelude.{vec_capacity}
use Rattle.thread_run.specs.Recordings.{Recording, segments_begun}
use Rattle.thread_run.proofs.whole.take_apart.Given as goal

abbrev pub invariant-loop-recorder : goal.invariant-loop-recorder
invariant-loop-recorder g l = record {
  order : l.yielded ++ l.recorder-iterator.rest.items ≡ l.fn.recorders.items;
  segments : l.room.segments.items ≡ map (λ (r : Recording). segments_begun r) l.yielded;
  passes : l.room.passes.items ≡ map (λ (r : Recording). r.pass) l.yielded;
  hands : l.room.hands.items ≡ map (λ (r : Recording). r.hand) l.yielded;
  segments_room : vec_capacity l.room.segments ≡ vec_capacity l.fn.room.segments;
  passes_room : vec_capacity l.room.passes ≡ vec_capacity l.fn.room.passes;
  hands_room : vec_capacity l.room.hands ≡ vec_capacity l.fn.room.hands;
}
