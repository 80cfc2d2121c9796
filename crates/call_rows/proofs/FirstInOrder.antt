-- The first rows in order, of which more come.
use Rattle.std.proofs.Common.{Bool, List, None, Option, Some, [], ap, arith, false, inl, inr, length, map, nat_eq, refl, subst, sym, take, true, ℕ, ◌++◌, ◌+◌, ◌∙◌, ◌∷◌, ◌≡◌, ◌≤◌, ◌⊎◌}
use Rattle.std.specs.List.{AllByRecursion, IsDistinct}
use Rattle.std.specs.Cmp.{IsStrictWeakOrder}
use Rattle.std.proofs.lemmas.Bool.{ne_eqb}
use Rattle.std.proofs.lemmas.Map.Keys.{IsDistinct-cons}
use Rattle.account_report.specs.Ascending.{ordered_by, put_in}
use Rattle.call_rows.specs.declared.row.CallRow.{CallRow}
use Rattle.call_rows.specs.declared.row.CallKey.{CallKey}
use Rattle.call_rows.specs.declared.order.CallOrder.{CallOrder}
use Rattle.call_rows.specs.declared.order.FirstRows.{FirstRows}
use Rattle.call_rows.specs.CallOrders.{arranged_calls, call_before, first_calls}
use Rattle.call_rows.specs.private.FirstRows.{AllApart, AllEnded, ApartFrom, FirstUpTo, IsBoundOf, IsBounded, IsLastOf, KeepsFirst, comes_past, comes_past_last}
use Rattle.call_rows.proofs.CallOrdering.{call_order, calls_decide}
use Rattle.call_rows.proofs.PutInOrder.{IsLine, all_apart-more, all_apart-ordered, all_apart-take, ended-later, ended-more, ended-ordered, ended-take, in_order-ordered, in_order-take, ordered-more, ordered_already, take-put, take_twice, up_to-past, up_to-put, up_to-take, up_to_last}

-- ---- the order by a column

call_line : (key : CallKey) (descending : Bool) → IsLine (call_before key descending)
call_line key descending = record {
  one_way = laws.one_way;
  further = λ x y z first second. further x y z first second (call_before key descending x z) refl;
  decides = calls_decide key descending;
}
  where
    laws : IsStrictWeakOrder (call_before key descending)
    laws = call_order key descending

    further : (x y z : CallRow) → call_before key descending x y ≡ true → call_before key descending y z ≡ true → (b : Bool) → call_before key descending x z ≡ b
        → b ≡ true
    further x y z first second true is = refl
    further x y z first second false is =
        let never : call_before key descending x y ≡ false = (call_order key descending).chain x z y is ((call_order key descending).one_way y z second) in cc

-- rows that are apart have distinct exits
distinct_ends : (rows : List CallRow) → AllApart rows → IsDistinct nat_eq (map (λ (row : CallRow). row.end) rows)
unfolding IsDistinct
distinct_ends [] all = tt
distinct_ends (row ∷ rows) all = IsDistinct-cons nat_eq row.end (map (λ (r : CallRow). r.end) rows) (others rows all.0) (distinct_ends rows all.1)
  where
    others : (rs : List CallRow) → ApartFrom row rs → AllByRecursion (λ y. nat_eq row.end y ≡ false) (map (λ (r : CallRow). r.end) rs)
    others [] apart = tt
    others (r ∷ rs) apart = (ne_eqb row.end r.end apart.0, others rs apart.1)

-- ---- one more row

first_more : (before : CallRow → CallRow → Bool) → IsLine before → (top : Option ℕ) (n : ℕ) (kept rows : List CallRow) (row : CallRow) → n ≤ row.end
    → AllEnded n kept → AllEnded n rows → first_calls top (ordered_by before kept) ≡ first_calls top (ordered_by before rows)
    → first_calls top (ordered_by before (kept ++ row ∷ [])) ≡ first_calls top (ordered_by before (rows ++ row ∷ []))
first_more before line None n kept rows row low ended all_ended same =
    ordered-more before line n kept row low ended ∙ (ap (put_in before row) same ∙ sym (ordered-more before line n rows row low all_ended))
first_more before line (Some top) n kept rows row low ended all_ended same =
    ap (take top) (ordered-more before line n kept row low ended)
    ∙ (take-put before top row (ordered_by before kept)
    ∙ (ap (λ (l : List CallRow). take top (put_in before row l)) same
    ∙ (sym (take-put before top row (ordered_by before rows)) ∙ ap (take top) (sym (ordered-more before line n rows row low all_ended)))))

-- ---- the last row that may be listed

bounded_more : (order : CallOrder) (top : Option ℕ) (last : Option CallRow) (n : ℕ) (kept : List CallRow) (row : CallRow) → n ≤ row.end → AllEnded n kept
    → IsBounded order top last kept → IsBounded order top last (kept ++ row ∷ [])
bounded_more order None None n kept row low ended up = tt
bounded_more order None (Some last) n kept row low ended up = absurd up
bounded_more order (Some top) None n kept row low ended up = tt
bounded_more order (Some top) (Some last) n kept row low ended up =
    let before = call_before order.key order.descending in
    let line = call_line order.key order.descending in
    subst (FirstUpTo before top last) (sym (ordered-more before line n kept row low ended)) (up_to-put before line top last row (ordered_by before kept) up)

-- a row after it changes nothing
first_past : (order : CallOrder) (top : Option ℕ) (last : Option CallRow) (n : ℕ) (kept rows : List CallRow) (row : CallRow) → n ≤ row.end → AllEnded n rows
    → comes_past_last order last row ≡ true → IsBounded order top last kept
    → first_calls top (ordered_by (call_before order.key order.descending) kept) ≡ first_calls top (ordered_by (call_before order.key order.descending) rows)
    → first_calls top (ordered_by (call_before order.key order.descending) kept) ≡ first_calls top (ordered_by (call_before order.key order.descending) (rows ++ row ∷ []))
first_past order top None n kept rows row low ended past up same = absurd (let never : false ≡ true = past in let e : ⊥ = cc in e)
first_past order None (Some last) n kept rows row low ended past up same = absurd up
first_past order (Some top) (Some last) n kept rows row low ended past up same =
    let before = call_before order.key order.descending in
    let line = call_line order.key order.descending in
    sym (ap (take top) (ordered-more before line n rows row low ended)
    ∙ (take-put before top row (ordered_by before rows)
    ∙ (ap (λ (l : List CallRow). take top (put_in before row l)) (sym same)
    ∙ (sym (take-put before top row (ordered_by before kept)) ∙ up_to-past before line top last row (ordered_by before kept) past up))))

pub keeps_past : (first : FirstRows) (events : ℕ) (rows : List CallRow) (row : CallRow) → comes_past first row ≡ true → events ≤ row.end → KeepsFirst first events rows
    → KeepsFirst first (row.end + 1) (rows ++ row ∷ [])
keeps_past first events rows row past low keeps = record {
  same = first_past first.order first.order.top first.last events first.rows.items rows row low keeps.all_ended past keeps.bounded keeps.same;
  bounded = keeps.bounded;
  apart = keeps.apart;
  ended = ended-later events (row.end + 1) first.rows.items (omega (arith, low)) keeps.ended;
  all_apart = all_apart-more events rows row low keeps.all_ended keeps.all_apart;
  all_ended = ended-more events rows row low keeps.all_ended;
}

pub keeps_more : (first new : FirstRows) (events : ℕ) (rows : List CallRow) (row : CallRow) → new.order ≡ first.order → new.last ≡ first.last → new.rows.items ≡ first.rows.items ++ row ∷ []
    → events ≤ row.end → KeepsFirst first events rows → KeepsFirst new (row.end + 1) (rows ++ row ∷ [])
keeps_more first new events rows row order last items low keeps =
    let before = call_before first.order.key first.order.descending in
    record {
      same =
          ap (λ (o : CallOrder). arranged_calls o new.rows.items) order
          ∙ (ap (arranged_calls first.order) items
          ∙ (first_more before (call_line first.order.key first.order.descending) first.order.top events first.rows.items rows row low keeps.ended keeps.all_ended keeps.same
          ∙ ap (λ (o : CallOrder). arranged_calls o (rows ++ row ∷ [])) (sym order)));
      bounded =
          subst (λ (o : CallOrder). IsBounded o o.top new.last new.rows.items) (sym order)
          (subst (λ (l : Option CallRow). IsBounded first.order first.order.top l new.rows.items) (sym last)
          (subst (IsBounded first.order first.order.top first.last) (sym items)
          (bounded_more first.order first.order.top first.last events first.rows.items row low keeps.ended keeps.bounded)));
      apart = subst AllApart (sym items) (all_apart-more events first.rows.items row low keeps.ended keeps.apart);
      ended = subst (AllEnded (row.end + 1)) (sym items) (ended-more events first.rows.items row low keeps.ended);
      all_apart = all_apart-more events rows row low keeps.all_ended keeps.all_apart;
      all_ended = ended-more events rows row low keeps.all_ended;
    }

-- ---- the first rows alone

first_again : (before : CallRow → CallRow → Bool) → IsLine before → (top : Option ℕ) (rows : List CallRow) → AllApart rows
    → first_calls top (ordered_by before (first_calls top (ordered_by before rows))) ≡ first_calls top (ordered_by before rows)
first_again before line None rows apart = ordered_already before (ordered_by before rows) (in_order-ordered before line rows apart)
first_again before line (Some top) rows apart =
    ap (take top) (ordered_already before (take top (ordered_by before rows)) (in_order-take before top (ordered_by before rows) (in_order-ordered before line rows apart)))
    ∙ take_twice top (ordered_by before rows)

apart_first : (before : CallRow → CallRow → Bool) (top : Option ℕ) (rows : List CallRow) → AllApart rows → AllApart (first_calls top (ordered_by before rows))
apart_first before None rows apart = all_apart-ordered before rows apart
apart_first before (Some top) rows apart = all_apart-take top (ordered_by before rows) (all_apart-ordered before rows apart)

ended_first : (before : CallRow → CallRow → Bool) (top : Option ℕ) (n : ℕ) (rows : List CallRow) → AllEnded n rows → AllEnded n (first_calls top (ordered_by before rows))
ended_first before None n rows ended = ended-ordered before n rows ended
ended_first before (Some top) n rows ended = ended-take n top (ordered_by before rows) (ended-ordered before n rows ended)

bounded_again : (order : CallOrder) (top : Option ℕ) (last : Option CallRow) (rows : List CallRow) → AllApart rows → IsBounded order top last rows
    → IsBounded order top last (first_calls top (ordered_by (call_before order.key order.descending) rows))
bounded_again order None None rows apart up = tt
bounded_again order None (Some last) rows apart up = absurd up
bounded_again order (Some top) None rows apart up = tt
bounded_again order (Some top) (Some last) rows apart up =
    let before = call_before order.key order.descending in
    let line = call_line order.key order.descending in
    subst (FirstUpTo before top last)
    (sym (ordered_already before (take top (ordered_by before rows)) (in_order-take before top (ordered_by before rows) (in_order-ordered before line rows apart))))
    (up_to-take before top last (ordered_by before rows) up)

bounded_by_last : (order : CallOrder) (top : ℕ) (last : Option CallRow) (rows : List CallRow) → AllApart rows
    → top ≤ length (take top (ordered_by (call_before order.key order.descending) rows))
    → IsLastOf (take top (ordered_by (call_before order.key order.descending) rows)) last
    → IsBounded order (Some top) last (take top (ordered_by (call_before order.key order.descending) rows))
bounded_by_last order top None rows apart many is = tt
bounded_by_last order top (Some last) rows apart many is =
    let before = call_before order.key order.descending in
    let line = call_line order.key order.descending in
    let ordered = in_order-take before top (ordered_by before rows) (in_order-ordered before line rows apart) in
    subst (FirstUpTo before top last) (sym (ordered_already before (take top (ordered_by before rows)) ordered))
    (up_to_last before line top (take top (ordered_by before rows)) last many ordered is.0 is.1)

bounded_cut : (order : CallOrder) (top : Option ℕ) (old last : Option CallRow) (rows cut : List CallRow) → AllApart rows → IsBounded order top old rows
    → cut ≡ first_calls top (ordered_by (call_before order.key order.descending) rows) → IsBoundOf cut top old last → IsBounded order top last cut
bounded_cut order top old last rows cut apart up is (inl same) =
    subst (λ (l : Option CallRow). IsBounded order top l cut) (sym same) (subst (IsBounded order top old) (sym is) (bounded_again order top old rows apart up))
bounded_cut order None old last rows cut apart up is (inr found) = absurd (let none : None ≡ Some found.0 = found.1 in let e : ⊥ = cc in e)
bounded_cut order (Some top) old last rows cut apart up is (inr found) =
    let at : top ≡ found.0 = let same : Some top ≡ Some found.0 = found.1 in cc in
    subst (IsBounded order (Some top) last) (sym is)
    (bounded_by_last order top last rows apart (subst (λ (l : List CallRow). top ≤ length l) is (omega (arith, at, found.2)))
    (subst (λ (l : List CallRow). IsLastOf l last) is found.3))

pub keeps_cut : (first new : FirstRows) (events : ℕ) (rows : List CallRow) → new.order ≡ first.order
    → (IsDistinct nat_eq (map (λ (row : CallRow). row.end) first.rows.items) → new.rows.items ≡ arranged_calls first.order first.rows.items)
    → IsBoundOf new.rows.items first.order.top first.last new.last → KeepsFirst first events rows → KeepsFirst new events rows
keeps_cut first new events rows order cut bound keeps =
    let before = call_before first.order.key first.order.descending in
    let items = cut (distinct_ends first.rows.items keeps.apart) in
    record {
      same =
          ap (λ (o : CallOrder). arranged_calls o new.rows.items) order
          ∙ (ap (arranged_calls first.order) items
          ∙ (first_again before (call_line first.order.key first.order.descending) first.order.top first.rows.items keeps.apart
          ∙ (keeps.same ∙ ap (λ (o : CallOrder). arranged_calls o rows) (sym order))));
      bounded =
          subst (λ (o : CallOrder). IsBounded o o.top new.last new.rows.items) (sym order)
          (bounded_cut first.order first.order.top first.last new.last first.rows.items new.rows.items keeps.apart keeps.bounded items bound);
      apart = subst AllApart (sym items) (apart_first before first.order.top first.rows.items keeps.apart);
      ended = subst (AllEnded events) (sym items) (ended_first before first.order.top events first.rows.items keeps.ended);
      all_apart = keeps.all_apart;
      all_ended = keeps.all_ended;
    }

pub first_in_order : (first : FirstRows) (events : ℕ) (rows result : List CallRow)
    → (IsDistinct nat_eq (map (λ (row : CallRow). row.end) first.rows.items) → result ≡ arranged_calls first.order first.rows.items)
    → KeepsFirst first events rows → result ≡ arranged_calls first.order rows
first_in_order first events rows result cut keeps = cut (distinct_ends first.rows.items keeps.apart) ∙ keeps.same
