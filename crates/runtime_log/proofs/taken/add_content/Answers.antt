use Rattle.std.proofs.Common.{Bor, List, ℕ, Bool, true, false, eqb, ◌≡◌, length, map, refl, ap, ◌∙◌}
use Rattle.std.specs.Prelude.{◌&&◌, ◌||◌, not}
use Rattle.runtime_log.specs.Taken.{is_among_contents}
use Rattle.runtime_log.proofs.ByteSets.{among_keys, among_insert}
use Rattle.runtime_log.proofs.taken.add_content.Goals as goal

pub returns-clause-own : goal.returns-clause-own
returns-clause-own c =
    let seen = map (λ (k : Bor (List ℕ)). k.now) c.args.seen.now.keys in
    let none : Bool = eqb (length c.args.content.now) 0 in
    c.is_own.ensures ∙ (ap (λ (b : Bool). b || none) (c.in_ok-fresh.ensures.added ∙ ap not (among_keys c.args.seen.now.keys c.args.content.now))
    ∙ either none (is_among_contents seen c.args.content.now))
  where
    either : (a b : Bool) → (not b || a) ≡ not (not a && b)
    either true true = refl
    either true false = refl
    either false true = refl
    either false false = refl

pub returns-clause-seen : goal.returns-clause-seen
returns-clause-seen c = λ other.
    ap (λ (keys : List (Bor (List ℕ))). is_among_contents (map (λ k. k.now) keys) other) c.in_ok-fresh.ensures.keys ∙ among_insert c.args.seen.now.keys c.args.content other
