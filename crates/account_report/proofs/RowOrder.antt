-- The order of rows by a column.
use Rattle.std.proofs.Common.{◌≡◌, ℕ, Bool, true, false, ◌&&◌, ◌||◌, arith, nat_eq, nat_lt}
use Rattle.std.specs.Cmp.{IsStrictWeakOrder}
use Rattle.std.proofs.lemmas.Bool.Decides.{nat_tests}
use Rattle.account_report.specs.declared.row.AccountRow.{AccountRow}
use Rattle.account_report.specs.declared.row.SortKey.{SortKey}
use Rattle.account_report.specs.Ordered.{column, row_before}
use Rattle.account_report.proofs.OneOrder.{Decides}

-- whether one number and function precede another number and function
abbrev pair_before : ℕ → ℕ → ℕ → ℕ → Bool
pair_before n f m g = nat_lt n m || (nat_eq n m && nat_lt f g)

abbrev pair_down : ℕ → ℕ → ℕ → ℕ → Bool
pair_down n f m g = nat_lt m n || (nat_eq n m && nat_lt f g)

one_way_up : (n f m g : ℕ) → pair_before n f m g ≡ true → pair_before m g n f ≡ false
one_way_up n f m g is = grind (arith, nat_tests)

one_way_down : (n f m g : ℕ) → pair_down n f m g ≡ true → pair_down m g n f ≡ false
one_way_down n f m g is = grind (arith, nat_tests)

chain_up : (n f m g o h : ℕ) → pair_before n f m g ≡ false → pair_before m g o h ≡ false → pair_before n f o h ≡ false
chain_up n f m g o h first second = grind (arith, nat_tests)

chain_down : (n f m g o h : ℕ) → pair_down n f m g ≡ false → pair_down m g o h ≡ false → pair_down n f o h ≡ false
chain_down n f m g o h first second = grind (arith, nat_tests)

decides_up : (n f m g : ℕ) → (f ≡ g → ⊥) → pair_before n f m g ≡ false → pair_before m g n f ≡ true
decides_up n f m g apart is = grind (arith, nat_tests)

decides_down : (n f m g : ℕ) → (f ≡ g → ⊥) → pair_down n f m g ≡ false → pair_down m g n f ≡ true
decides_down n f m g apart is = grind (arith, nat_tests)

pub row_order : (key : SortKey) (descending : Bool) → IsStrictWeakOrder (row_before key descending)
row_order key false = record {
  one_way = λ x y. one_way_up (column key x) x.func (column key y) y.func;
  chain = λ x y z. chain_up (column key x) x.func (column key y) y.func (column key z) z.func;
}
row_order key true = record {
  one_way = λ x y. one_way_down (column key x) x.func (column key y) y.func;
  chain = λ x y z. chain_down (column key x) x.func (column key y) y.func (column key z) z.func;
}

pub rows_decide : (key : SortKey) (descending : Bool) → Decides (λ (r : AccountRow). r.func) (row_before key descending)
rows_decide key false x y = decides_up (column key x) x.func (column key y) y.func
rows_decide key true x y = decides_down (column key x) x.func (column key y) y.func
