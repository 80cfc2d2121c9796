-- Threads that share a queue can lose as many segments as they have to.
use Rattle.std.proofs.Common.{◌≡◌, ℕ, ◌+◌, ◌-◌, ◌≤◌, List, [], ◌∷◌, refl, ap, ◌∙◌, sym, arith}
use Rattle.std.specs.Prelude.{All, min, sum_by}
use Rattle.std.proofs.lemmas.List.Elements.{All-cons, All-nil}
use Rattle.std.proofs.lemmas.List.Sums.{sum_by-cons}
use Rattle.traced_run.specs.Kept.{segment_count}
use Rattle.traced_run.specs.Losses.{AreLost, recycled_of, without_loss, without_losses}
use Rattle.traced_run.specs.Runs.{ThreadRun}

-- how many segments a thread may lose
abbrev room_of : ℕ → ThreadRun → ℕ
room_of size run = segment_count size run - 1

abbrev IsWithin : ℕ → ThreadRun → Type 0
IsWithin size run = run.lost ≤ room_of size run

-- the same runs, with losses of this many segments in all, each within its room
record Losing (size total : ℕ) (runs : List ThreadRun) : Type 0 where
  others : List ThreadRun
  same : without_losses others ≡ without_losses runs
  recycled : recycled_of others ≡ total
  room : sum_by (room_of size) others ≡ sum_by (room_of size) runs
  within : All (IsWithin size) others

-- the first thread loses as much as it may, and the others lose the rest
first_loses : (size total lost : ℕ) (run : ThreadRun) (runs : List ThreadRun) → lost ≤ total → lost ≤ room_of size run
    → Losing size (total - lost) runs → Losing size total (run ∷ runs)
first_loses size total lost run runs low room rest =
    let first : ThreadRun = record run { lost = lost } in
    let all : recycled_of (first ∷ rest.others) ≡ lost + recycled_of rest.others = sum_by-cons (λ (r : ThreadRun). r.lost) first rest.others in
    record {
      others = first ∷ rest.others;
      same = ap (λ (others : List ThreadRun). without_loss run ∷ others) rest.same;
      recycled = omega (arith, all, rest.recycled, low);
      room = sum_by-cons (room_of size) first rest.others ∙ (ap (λ n. room_of size run + n) rest.room ∙ sym (sum_by-cons (room_of size) run runs));
      within = All-cons (IsWithin size) first rest.others room rest.within;
    }

losing : (size total : ℕ) (runs : List ThreadRun) → total ≤ sum_by (room_of size) runs → Losing size total runs
losing size total [] few = record {
  others = [];
  same = refl;
  recycled = let none : total ≡ 0 = omega (arith, few) in sym none;
  room = refl;
  within = All-nil (IsWithin size);
}
losing size total (run ∷ runs) few =
    let all : sum_by (room_of size) (run ∷ runs) ≡ room_of size run + sum_by (room_of size) runs = sum_by-cons (room_of size) run runs in
    let lost : ℕ = min total (room_of size run) in
    first_loses size total lost run runs (omega arith) (omega arith) (losing size (total - lost) runs (omega (arith, few, all)))

pub some_losses : (size spare : ℕ) (runs : List ThreadRun)
    → (others : List ThreadRun) × (without_losses others ≡ without_losses runs) × AreLost size spare others
some_losses size spare runs =
    let made = losing size (sum_by (room_of size) runs - spare) runs (omega arith) in (
      made.others,
      made.same,
      record {
        few = record {
          below = λ k d at has. let room = made.within k d at in omega (arith, room, has);
          none = λ k d at none. let room = made.within k d at in omega (arith, room, none);
        };
        recycled = made.recycled ∙ ap (λ n. n - spare) (sym made.room);
      },
    )
