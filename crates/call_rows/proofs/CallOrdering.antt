-- The order of calls by a column.
use Rattle.std.proofs.Common.{◌≡◌, ℕ, Bool, true, false, ◌&&◌, ◌||◌, arith, nat_eq, nat_lt}
use Rattle.std.specs.Cmp.{IsStrictWeakOrder}
use Rattle.std.proofs.lemmas.Bool.Decides.{nat_tests}
use Rattle.call_rows.specs.declared.row.CallRow.{CallRow}
use Rattle.call_rows.specs.declared.row.CallKey.{CallKey}
use Rattle.call_rows.specs.CallOrders.{call_before, call_column}
use Rattle.account_report.proofs.OneOrder.{Decides}

-- whether one number and exit precede another number and exit
abbrev pair_before : ℕ → ℕ → ℕ → ℕ → Bool
pair_before n f m g = nat_lt n m || (nat_eq n m && nat_lt f g)

abbrev pair_down : ℕ → ℕ → ℕ → ℕ → Bool
pair_down n f m g = nat_lt m n || (nat_eq n m && nat_lt f g)

one_way_up : (n f m g : ℕ) → pair_before n f m g ≡ true → pair_before m g n f ≡ false
one_way_up n f m g is = grind (arith, nat_tests)

one_way_down : (n f m g : ℕ) → pair_down n f m g ≡ true → pair_down m g n f ≡ false
one_way_down n f m g is = grind (arith, nat_tests)

chain_up : (n f m g o h : ℕ) → pair_before n f m g ≡ false → pair_before m g o h ≡ false → pair_before n f o h ≡ false
chain_up n f m g o h first second = grind (arith, nat_tests)

chain_down : (n f m g o h : ℕ) → pair_down n f m g ≡ false → pair_down m g o h ≡ false → pair_down n f o h ≡ false
chain_down n f m g o h first second = grind (arith, nat_tests)

decides_up : (n f m g : ℕ) → (f ≡ g → ⊥) → pair_before n f m g ≡ false → pair_before m g n f ≡ true
decides_up n f m g apart is = grind (arith, nat_tests)

decides_down : (n f m g : ℕ) → (f ≡ g → ⊥) → pair_down n f m g ≡ false → pair_down m g n f ≡ true
decides_down n f m g apart is = grind (arith, nat_tests)

pub call_order : (key : CallKey) (descending : Bool) → IsStrictWeakOrder (call_before key descending)
call_order key false = record {
  one_way = λ x y. one_way_up (call_column key x) x.end (call_column key y) y.end;
  chain = λ x y z. chain_up (call_column key x) x.end (call_column key y) y.end (call_column key z) z.end;
}
call_order key true = record {
  one_way = λ x y. one_way_down (call_column key x) x.end (call_column key y) y.end;
  chain = λ x y z. chain_down (call_column key x) x.end (call_column key y) y.end (call_column key z) z.end;
}

pub calls_decide : (key : CallKey) (descending : Bool) → Decides (λ (r : CallRow). r.end) (call_before key descending)
calls_decide key false x y = decides_up (call_column key x) x.end (call_column key y) y.end
calls_decide key true x y = decides_down (call_column key x) x.end (call_column key y) y.end
