-- Groups of equal numbers, and numbered sleds, with one more behind them.
use Rattle.std.proofs.Common.{◌≡◌, ◌+◌, ◌==◌, ◌++◌, ◌∷◌, [], ℕ, true, false, List, map, Option, Some, None, refl, sym, ap, ◌∙◌, arith, append_assoc, if◌then◌else◌}
use Rattle.std.specs.List.{last_or}
use Rattle.std.proofs.lemmas.List.{append-nil}
use Rattle.std.proofs.lemmas.Grind.{common_steps}
use Rattle.program_map.specs.declared.sled.MapSled.{MapSled}
use Rattle.program_map.specs.declared.numbering.NumberedSled.{NumberedSled}
use Rattle.program_map.specs.private.Counts.{is_last}
use Rattle.program_map.specs.Numbering.{functions_among, groups_in, numbered_after, with_id}

pub groups_more : (ns : List ℕ) (n : ℕ) → groups_in (ns ++ n ∷ []) ≡ groups_in ns + (if is_last (last_or None ns) n then 0 else 1)
groups_more [] n = refl
groups_more (m ∷ []) n = let e : (if m == n then 0 else 1) + 1 ≡ 1 + (if m == n then 0 else 1) = omega arith in e
groups_more (m ∷ k ∷ ns) n =
    let rest = groups_more (k ∷ ns) n in
    let e : (if m == k then 0 else 1) + (groups_in (k ∷ ns) + (if is_last (last_or (Some k) ns) n then 0 else 1))
    ≡ ((if m == k then 0 else 1) + groups_in (k ∷ ns)) + (if is_last (last_or (Some k) ns) n then 0 else 1) = omega arith in
    ap (λ g. (if m == k then 0 else 1) + g) rest ∙ e

pub last_more : (o : Option ℕ) (ns : List ℕ) (n : ℕ) → last_or o (ns ++ n ∷ []) ≡ Some n
last_more o [] n = refl
last_more o (m ∷ ns) n = last_more (Some m) ns n

pub functions_more : (sleds : List MapSled) (sled : MapSled)
    → map (λ (s : MapSled). s.function) (sleds ++ sled ∷ []) ≡ map (λ (s : MapSled). s.function) sleds ++ sled.function ∷ []
functions_more [] sled = refl
functions_more (s ∷ sleds) sled = ap (λ fs. s.function ∷ fs) (functions_more sleds sled)

pub numbered_more : (before sleds : List MapSled) (sled : MapSled)
    → numbered_after before (sleds ++ sled ∷ []) ≡ numbered_after before sleds ++ with_id (functions_among ((before ++ sleds) ++ sled ∷ [])) sled ∷ []
numbered_more before [] sled =
    ap (λ (b : List MapSled). with_id (functions_among (b ++ sled ∷ [])) sled ∷ []) (sym (append-nil before))
numbered_more before (s ∷ sleds) sled =
    ap (λ (ns : List NumberedSled). with_id (functions_among (before ++ s ∷ [])) s ∷ ns)
    (numbered_more (before ++ s ∷ []) sleds sled
    ∙ ap (λ (b : List MapSled). numbered_after (before ++ s ∷ []) sleds ++ with_id (functions_among (b ++ sled ∷ [])) sled ∷ []) (append_assoc before (s ∷ []) sleds))

-- how many functions sleds have, with one more
pub functions_count : (sleds : List MapSled) (sled : MapSled)
    → functions_among (sleds ++ sled ∷ []) ≡ functions_among sleds + (if is_last (last_or None (map (λ (s : MapSled). s.function) sleds)) sled.function then 0 else 1)
functions_count sleds sled =
    ap groups_in (functions_more sleds sled) ∙ groups_more (map (λ (s : MapSled). s.function) sleds) sled.function

-- a sled of another function begins one
pub count_new : (sleds : List MapSled) (sled : MapSled) (functions : ℕ) (last : Option ℕ) → functions ≡ functions_among sleds
    → last ≡ last_or None (map (λ (s : MapSled). s.function) sleds) → is_last last sled.function ≡ false → functions + 1 ≡ functions_among (sleds ++ sled ∷ [])
count_new sleds sled functions last is same isnt =
    ap (λ n. n + 1) is ∙ sym (functions_count sleds sled ∙ ap (λ b. functions_among sleds + (if b then 0 else 1)) (ap (λ o. is_last o sled.function) (sym same) ∙ isnt))

-- a sled of the same function doesn't
pub count_same : (sleds : List MapSled) (sled : MapSled) (functions : ℕ) (last : Option ℕ) → functions ≡ functions_among sleds
    → last ≡ last_or None (map (λ (s : MapSled). s.function) sleds) → is_last last sled.function ≡ true → functions ≡ functions_among (sleds ++ sled ∷ [])
count_same sleds sled functions last is same isit =
    let e : functions_among sleds + 0 ≡ functions_among sleds = omega arith in
    is ∙ sym (functions_count sleds sled ∙ ap (λ b. functions_among sleds + (if b then 0 else 1)) (ap (λ o. is_last o sled.function) (sym same) ∙ isit) ∙ e)

-- the last sled is of this function
pub last_same : (last : Option ℕ) (n : ℕ) → is_last last n ≡ true → last ≡ Some n
last_same None n is = absurd cc
last_same (Some m) n is = let e : m ≡ n = grind (arith, common_steps) in ap Some e

-- the last function of sleds
pub last_of_more : (sleds : List MapSled) (sled : MapSled) → last_or None (map (λ (s : MapSled). s.function) (sleds ++ sled ∷ [])) ≡ Some sled.function
last_of_more sleds sled = ap (last_or None) (functions_more sleds sled) ∙ last_more None (map (λ (s : MapSled). s.function) sleds) sled.function

-- sleds with their ids, with one more
pub all_numbered_more : (sleds : List MapSled) (sled : MapSled) (id : ℕ) → id ≡ functions_among (sleds ++ sled ∷ [])
    → numbered_after [] sleds ++ with_id id sled ∷ [] ≡ numbered_after [] (sleds ++ sled ∷ [])
all_numbered_more sleds sled id is = ap (λ n. numbered_after [] sleds ++ with_id n sled ∷ []) is ∙ sym (numbered_more [] sleds sled)
