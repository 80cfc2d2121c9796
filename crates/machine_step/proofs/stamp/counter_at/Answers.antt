use Rattle.std.proofs.Common.{◌≡◌, ℕ, ◌+◌, ◌*◌, ◌/◌, ◌%◌, ◌^◌, sym, ap, ◌∙◌, arith}
use Rattle.std.proofs.Math.Nat.{add-mul-mod_self_left, mod-add-div}
use Rattle.machine_step.proofs.stamp.counter_at.Goals as goal

-- a sum may be reduced in parts
mod_part : (start product n : ℕ) → (start + product % n) % n ≡ (start + product) % n
mod_part start product n =
    let whole = mod-add-div product n in
    let sum : start + product % n + n * (product / n) ≡ start + product = omega arith in
    sym (add-mul-mod_self_left (start + product % n) n (product / n)) ∙ ap (λ x. x % n) sum

pub returns : goal.returns
returns c = mod_part c.args.limits.tsc (c.args.limits.tick * c.args.instructions) (2 ^ 64)
