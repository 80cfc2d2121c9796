use Rattle.std.proofs.Common.{◌-◌, ◌*◌, ◌/◌, ◌≤◌, ◌∙◌, ℕ, length, sym, arith}
use Rattle.account_report.proofs.SelectedItem.{before, found, ranks_alike}
use Rattle.account_report.proofs.ranks.selected.Goals as goal

pub returns : goal.returns
returns c =
    let n : ℕ = length c.args.durations.now in
    let many : 128 ≤ n = c.requires in
    let a = c.select_nth_unstable-others in
    let b = c.select_nth_unstable-most in
    let d = c.select_nth_unstable-lower in
    let e = c.select_nth_unstable-lowest in
    let f = c.select_nth_unstable-min in
    let among_others = before _ _ _ _ (n - 1) a.ensures.front_len a.ensures.permutation a.ensures.partitioned in
    let among_most = before _ _ _ _ (99 * n / 100) (b.ensures.front_len ∙ c.place_99.ensures) b.ensures.permutation b.ensures.partitioned in
    let among_lower = before _ _ _ _ (9 * n / 10) (d.ensures.front_len ∙ c.place_90.ensures) d.ensures.permutation d.ensures.partitioned in
    let among_lowest = before _ _ _ _ (n / 2) e.ensures.front_len e.ensures.permutation e.ensures.partitioned in
    ranks_alike c.args.durations.now _ _ _ _ _
    (sym (among_others 0 (omega (arith, many)) ∙ (among_most 0 (omega (arith, many)) ∙ (among_lower 0 (omega (arith, many)) ∙ (among_lowest 0 (omega (arith, many))
    ∙ found _ _ _ _ 0 f.ensures.front_len f.ensures.permutation f.ensures.partitioned)))))
    (sym (among_others (n / 2) (omega (arith, many)) ∙ (among_most (n / 2) (omega (arith, many)) ∙ (among_lower (n / 2) (omega (arith, many))
    ∙ found _ _ _ _ (n / 2) e.ensures.front_len e.ensures.permutation e.ensures.partitioned))))
    (sym (among_others (9 * n / 10) (omega (arith, many)) ∙ (among_most (9 * n / 10) (omega (arith, many))
    ∙ found _ _ _ _ (9 * n / 10) (d.ensures.front_len ∙ c.place_90.ensures) d.ensures.permutation d.ensures.partitioned)))
    (sym (among_others (99 * n / 100) (omega (arith, many))
    ∙ found _ _ _ _ (99 * n / 100) (b.ensures.front_len ∙ c.place_99.ensures) b.ensures.permutation b.ensures.partitioned))
    (sym (found _ _ _ _ (n - 1) a.ensures.front_len a.ensures.permutation a.ensures.partitioned))
