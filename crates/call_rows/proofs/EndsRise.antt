-- Rows stand in the order of their exits.
use Rattle.std.proofs.Common.{◌≡◌, ◌<◌, ◌++◌, ◌||◌, ℕ, suc, Bool, true, false, cond, List, [], ◌∷◌, length, ap, sym, subst, arith, ◌&&◌, nat_eq, nat_lt, Option, None, Some}
use Rattle.std.specs.Prelude.{filter}
use Rattle.std.specs.Option.{option_to_list}
use Rattle.std.proofs.lemmas.Bool.Decides.{nat_tests}
use Rattle.std.proofs.lemmas.List.{append-nil}
use Rattle.fdr_file.specs.declared.trace.Block.{Block}
use Rattle.fdr_file.specs.ThreadEvents.{ThreadEvent}
use Rattle.stack_rebuild.specs.Histories.{history_of}
use Rattle.call_rows.specs.declared.row.CallRow.{CallRow}
use Rattle.call_rows.specs.declared.row.CallKey.TheVariants.{End}
use Rattle.call_rows.specs.declared.filter.CallFilter.{CallFilter}
use Rattle.call_rows.specs.CallOrders.{arranged_calls, by_end, call_before}
use Rattle.call_rows.specs.CallRows.{EndsAt, call_rows_of, passes, rows_after, wanted_rows}
use Rattle.call_rows.specs.private.FirstRows.{AllEnded}
use Rattle.call_rows.specs.private.Frames.{depth_on, framed_after, pair_on, row_on}
use Rattle.call_rows.proofs.Collecting.{row_ends}
use Rattle.call_rows.proofs.FoldSteps.{rows_more}
use Rattle.call_rows.proofs.PutInOrder.{AllAfter, InOrder, ended-later, ordered_already}
use Rattle.call_rows.proofs.RowsStay.{AllWhole}
use Rattle.call_rows.proofs.SpentInCalls.{GoesOn}

abbrev earlier : CallRow → CallRow → Bool
earlier = call_before End false

earlier_by : (x y : CallRow) → x.end < y.end → earlier x y ≡ true
earlier_by x y low = let first : nat_lt x.end y.end ≡ true = grind (arith, nat_tests) in ap (λ (b : Bool). b || (nat_eq x.end y.end && nat_lt x.end y.end)) first

after-more : (x : CallRow) (xs : List CallRow) (y : CallRow) → x.end < y.end → AllAfter earlier x xs → AllAfter earlier x (xs ++ y ∷ [])
after-more x [] y low all = (earlier_by x y low, tt)
after-more x (z ∷ xs) y low all = (all.0, after-more x xs y low all.1)

in_order-more : (n : ℕ) (xs : List CallRow) (y : CallRow) → y.end ≡ n → AllEnded n xs → InOrder earlier xs → InOrder earlier (xs ++ y ∷ [])
in_order-more n [] y is ended all = (tt, tt)
in_order-more n (x ∷ xs) y is ended all = (after-more x xs y (omega (arith, ended.0, is)) all.0, in_order-more n xs y is ended.1 all.1)

all_ended-more : (n : ℕ) (xs : List CallRow) (y : CallRow) → y.end ≡ n → AllEnded n xs → AllEnded (suc n) (xs ++ y ∷ [])
all_ended-more n [] y is ended = (omega (arith, is), tt)
all_ended-more n (x ∷ xs) y is ended = (omega (arith, ended.0), all_ended-more n xs y is ended.1)

-- rows in order, whose exits are among so many events
record RiseTo (n : ℕ) (rows : List CallRow) : Type 0 where
  pub ended : AllEnded n rows
  pub ordered : InOrder earlier rows

rise_more : (n : ℕ) (rows : List CallRow) (row : Option CallRow) → EndsAt n row → RiseTo n rows → RiseTo (suc n) (rows ++ option_to_list row)
rise_more n rows None ends rise =
    subst (RiseTo (suc n)) (sym (append-nil rows)) (record { ended = ended-later n (suc n) rows (omega arith) rise.ended; ordered = rise.ordered })
rise_more n rows (Some row) ends rise = record { ended = all_ended-more n rows row ends rise.ended; ordered = in_order-more n rows row ends rise.ended rise.ordered }

rows_rise : GoesOn → AllWhole → (h : List ThreadEvent) → RiseTo (length h) (rows_after h)
rows_rise law whole [] = record { ended = tt; ordered = tt }
rows_rise law whole (e ∷ h) =
    let before = framed_after h e.thread in
    subst (RiseTo (suc (length h))) (sym (rows_more law whole e.thread e.pid e.event h))
    (rise_more (length h) (rows_after h) (row_on e.thread (length h) e.event before)
    (row_ends e.thread (length h) (pair_on e.event before) (depth_on e.event before) before.frames) (rows_rise law whole h))

after-filter : (test : CallRow → Bool) (x : CallRow) (xs : List CallRow) → AllAfter earlier x xs → AllAfter earlier x (filter test xs)
after-filter test x [] all = tt
after-filter test x (y ∷ ys) all = by_test (test y) (after-filter test x ys all.1)
  where
    by_test : (b : Bool) → AllAfter earlier x (filter test ys) → AllAfter earlier x (cond b (y ∷ filter test ys) (filter test ys))
    by_test true later = (all.0, later)
    by_test false later = later

in_order-filter : (test : CallRow → Bool) (xs : List CallRow) → InOrder earlier xs → InOrder earlier (filter test xs)
in_order-filter test [] all = tt
in_order-filter test (x ∷ xs) all = by_test (test x) (in_order-filter test xs all.1)
  where
    by_test : (b : Bool) → InOrder earlier (filter test xs) → InOrder earlier (cond b (x ∷ filter test xs) (filter test xs))
    by_test true later = (after-filter test x xs all.0, later)
    by_test false later = later

pub in_order_of_ends : GoesOn → AllWhole → (blocks : List Block) (wanted : CallFilter)
    → arranged_calls by_end (wanted_rows wanted (call_rows_of blocks)) ≡ wanted_rows wanted (call_rows_of blocks)
in_order_of_ends law whole blocks wanted =
    ordered_already earlier (wanted_rows wanted (call_rows_of blocks))
    (in_order-filter (passes wanted) (call_rows_of blocks) (rows_rise law whole (history_of blocks)).ordered)
