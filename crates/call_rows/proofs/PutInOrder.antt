-- Rows that are put in order one after the other.
use Rattle.std.proofs.Common.{Bool, List, [], ap, arith, cond, false, get_or, length, refl, subst, suc, sym, take, true, zero, ℕ, ◌++◌, ◌+◌, ◌-◌, ◌<◌, ◌∙◌, ◌∷◌, ◌≡◌, ◌≤◌}
use Rattle.account_report.specs.Ascending.{ordered_by, put_in}
use Rattle.call_rows.specs.declared.row.CallRow.{CallRow}
use Rattle.call_rows.specs.private.FirstRows.{AllApart, AllEnded, ApartFrom, FirstUpTo}

-- an order in which of two rows with different exits one comes first
pub record IsLine (before : CallRow → CallRow → Bool) : Type 0 where
  pub one_way : (x y : CallRow) → before x y ≡ true → before y x ≡ false
  pub further : (x y z : CallRow) → before x y ≡ true → before y z ≡ true → before x z ≡ true
  pub decides : (x y : CallRow) → (x.end ≡ y.end → ⊥) → before x y ≡ false → before y x ≡ true

-- ---- rows that are apart

apart-put : (before : CallRow → CallRow → Bool) (z x : CallRow) (ys : List CallRow) → (z.end ≡ x.end → ⊥) → ApartFrom z ys → ApartFrom z (put_in before x ys)
apart-put before z x [] other apart = (other, tt)
apart-put before z x (y ∷ ys) other apart = by_first (before x y) (apart-put before z x ys other apart.1)
  where
    by_first : (b : Bool) → ApartFrom z (put_in before x ys) → ApartFrom z (cond b (x ∷ y ∷ ys) (y ∷ put_in before x ys))
    by_first true later = (other, apart)
    by_first false later = (apart.0, later)

all_apart-put : (before : CallRow → CallRow → Bool) (x : CallRow) (ys : List CallRow) → ApartFrom x ys → AllApart ys → AllApart (put_in before x ys)
all_apart-put before x [] own all = (tt, tt)
all_apart-put before x (y ∷ ys) own all = by_first (before x y) (all_apart-put before x ys own.1 all.1)
  where
    by_first : (b : Bool) → AllApart (put_in before x ys) → AllApart (cond b (x ∷ y ∷ ys) (y ∷ put_in before x ys))
    by_first true later = (own, all)
    by_first false later = (apart-put before y x ys (λ same. own.0 (sym same)) all.0, later)

apart-ordered : (before : CallRow → CallRow → Bool) (z : CallRow) (xs : List CallRow) → ApartFrom z xs → ApartFrom z (ordered_by before xs)
apart-ordered before z [] apart = tt
apart-ordered before z (x ∷ xs) apart = apart-put before z x (ordered_by before xs) apart.0 (apart-ordered before z xs apart.1)

pub all_apart-ordered : (before : CallRow → CallRow → Bool) (xs : List CallRow) → AllApart xs → AllApart (ordered_by before xs)
all_apart-ordered before [] all = tt
all_apart-ordered before (x ∷ xs) all = all_apart-put before x (ordered_by before xs) (apart-ordered before x xs all.0) (all_apart-ordered before xs all.1)

apart-take : (n : ℕ) (z : CallRow) (xs : List CallRow) → ApartFrom z xs → ApartFrom z (take n xs)
apart-take zero z xs apart = tt
apart-take (suc n) z [] apart = tt
apart-take (suc n) z (x ∷ xs) apart = (apart.0, apart-take n z xs apart.1)

pub all_apart-take : (n : ℕ) (xs : List CallRow) → AllApart xs → AllApart (take n xs)
all_apart-take zero xs all = tt
all_apart-take (suc n) [] all = tt
all_apart-take (suc n) (x ∷ xs) all = (apart-take n x xs all.0, all_apart-take n xs all.1)

-- ---- rows that have ended

ended-put : (before : CallRow → CallRow → Bool) (n : ℕ) (x : CallRow) (ys : List CallRow) → x.end < n → AllEnded n ys → AllEnded n (put_in before x ys)
ended-put before n x [] own all = (own, tt)
ended-put before n x (y ∷ ys) own all = by_first (before x y) (ended-put before n x ys own all.1)
  where
    by_first : (b : Bool) → AllEnded n (put_in before x ys) → AllEnded n (cond b (x ∷ y ∷ ys) (y ∷ put_in before x ys))
    by_first true later = (own, all)
    by_first false later = (all.0, later)

pub ended-ordered : (before : CallRow → CallRow → Bool) (n : ℕ) (xs : List CallRow) → AllEnded n xs → AllEnded n (ordered_by before xs)
ended-ordered before n [] all = tt
ended-ordered before n (x ∷ xs) all = ended-put before n x (ordered_by before xs) all.0 (ended-ordered before n xs all.1)

pub ended-take : (n : ℕ) (k : ℕ) (xs : List CallRow) → AllEnded n xs → AllEnded n (take k xs)
ended-take n zero xs all = tt
ended-take n (suc k) [] all = tt
ended-take n (suc k) (x ∷ xs) all = (all.0, ended-take n k xs all.1)

pub ended-later : (n m : ℕ) (xs : List CallRow) → n ≤ m → AllEnded n xs → AllEnded m xs
ended-later n m [] low all = tt
ended-later n m (x ∷ xs) low all = (omega (arith, all.0), ended-later n m xs low all.1)

-- one more row, which ends after the others
pub ended-more : (n : ℕ) (xs : List CallRow) (y : CallRow) → n ≤ y.end → AllEnded n xs → AllEnded (y.end + 1) (xs ++ y ∷ [])
ended-more n [] y low all = (omega arith, tt)
ended-more n (x ∷ xs) y low all = (omega (arith, all.0), ended-more n xs y low all.1)

apart-more : (x : CallRow) (xs : List CallRow) (y : CallRow) → x.end < y.end → ApartFrom x xs → ApartFrom x (xs ++ y ∷ [])
apart-more x [] y low apart = (λ same. absurd (omega (arith, same)), tt)
apart-more x (z ∷ xs) y low apart = (apart.0, apart-more x xs y low apart.1)

pub all_apart-more : (n : ℕ) (xs : List CallRow) (y : CallRow) → n ≤ y.end → AllEnded n xs → AllApart xs → AllApart (xs ++ y ∷ [])
all_apart-more n [] y low ended all = (tt, tt)
all_apart-more n (x ∷ xs) y low ended all = (apart-more x xs y (omega (arith, ended.0)) all.0, all_apart-more n xs y low ended.1 all.1)

-- ---- one more row at the end

put-first : (before : CallRow → CallRow → Bool) (x y : CallRow) (ys : List CallRow) → before x y ≡ true → put_in before x (y ∷ ys) ≡ x ∷ y ∷ ys
put-first before x y ys is = ap (λ (b : Bool). cond b (x ∷ y ∷ ys) (y ∷ put_in before x ys)) is

put-later : (before : CallRow → CallRow → Bool) (x y : CallRow) (ys : List CallRow) → before x y ≡ false → put_in before x (y ∷ ys) ≡ y ∷ put_in before x ys
put-later before x y ys is = ap (λ (b : Bool). cond b (x ∷ y ∷ ys) (y ∷ put_in before x ys)) is

commute : (before : CallRow → CallRow → Bool) → IsLine before → (x y : CallRow) (zs : List CallRow) → (x.end ≡ y.end → ⊥)
    → put_in before x (put_in before y zs) ≡ put_in before y (put_in before x zs)
commute before line x y [] apart = by_first (before x y) refl
  where
    flipped : before x y ≡ false → before y x ≡ true
    flipped is = line.decides x y apart is

    by_first : (b : Bool) → before x y ≡ b → cond b (x ∷ y ∷ []) (y ∷ x ∷ []) ≡ cond (before y x) (y ∷ x ∷ []) (x ∷ y ∷ [])
    by_first true is = ap (λ (c : Bool). cond c (y ∷ x ∷ []) (x ∷ y ∷ [])) (sym (line.one_way x y is))
    by_first false is = ap (λ (c : Bool). cond c (y ∷ x ∷ []) (x ∷ y ∷ [])) (sym (flipped is))
commute before line x y (z ∷ zs) apart = by_both (before y z) refl (before x z) refl (commute before line x y zs apart)
  where
    by_order : before y z ≡ true → before x z ≡ true → (a : Bool) → before x y ≡ a → put_in before x (y ∷ z ∷ zs) ≡ put_in before y (x ∷ z ∷ zs)
    by_order yz xz true is =
        put-first before x y (z ∷ zs) is
        ∙ (ap (λ (l : List CallRow). x ∷ l) (sym (put-first before y z zs yz)) ∙ sym (put-later before y x (z ∷ zs) (line.one_way x y is)))
    by_order yz xz false is =
        put-later before x y (z ∷ zs) is
        ∙ (ap (λ (l : List CallRow). y ∷ l) (put-first before x z zs xz) ∙ sym (put-first before y x (z ∷ zs) (line.decides x y apart is)))

    between : before y z ≡ true → before x z ≡ false → (a : Bool) → before x y ≡ a → put_in before x (y ∷ z ∷ zs) ≡ put_in before y (z ∷ put_in before x zs)
    between yz xz true is = let never : before x z ≡ true = line.further x y z is yz in absurd (let n : ⊥ = cc in n)
    between yz xz false is =
        put-later before x y (z ∷ zs) is
        ∙ (ap (λ (l : List CallRow). y ∷ l) (put-later before x z zs xz) ∙ sym (put-first before y z (put_in before x zs) yz))

    between_others : before y z ≡ false → before x z ≡ true → (a : Bool) → before y x ≡ a → put_in before x (z ∷ put_in before y zs) ≡ put_in before y (x ∷ z ∷ zs)
    between_others yz xz true is = let never : before y z ≡ true = line.further y x z is xz in absurd (let n : ⊥ = cc in n)
    between_others yz xz false is =
        put-first before x z (put_in before y zs) xz
        ∙ (ap (λ (l : List CallRow). x ∷ l) (sym (put-later before y z zs yz)) ∙ sym (put-later before y x (z ∷ zs) is))

    by_both : (b : Bool) → before y z ≡ b → (d : Bool) → before x z ≡ d → put_in before x (put_in before y zs) ≡ put_in before y (put_in before x zs)
        → put_in before x (put_in before y (z ∷ zs)) ≡ put_in before y (put_in before x (z ∷ zs))
    by_both true yz true xz again =
        ap (put_in before x) (put-first before y z zs yz) ∙ (by_order yz xz (before x y) refl ∙ ap (put_in before y) (sym (put-first before x z zs xz)))
    by_both true yz false xz again =
        ap (put_in before x) (put-first before y z zs yz) ∙ (between yz xz (before x y) refl ∙ ap (put_in before y) (sym (put-later before x z zs xz)))
    by_both false yz true xz again =
        ap (put_in before x) (put-later before y z zs yz) ∙ (between_others yz xz (before y x) refl ∙ ap (put_in before y) (sym (put-first before x z zs xz)))
    by_both false yz false xz again =
        ap (put_in before x) (put-later before y z zs yz)
        ∙ (put-later before x z (put_in before y zs) xz
        ∙ (ap (λ (l : List CallRow). z ∷ l) again
        ∙ (sym (put-later before y z (put_in before x zs) yz) ∙ ap (put_in before y) (sym (put-later before x z zs xz)))))

-- one more row at the end of the list is put in last
pub ordered-more : (before : CallRow → CallRow → Bool) → IsLine before → (n : ℕ) (xs : List CallRow) (y : CallRow) → n ≤ y.end → AllEnded n xs
    → ordered_by before (xs ++ y ∷ []) ≡ put_in before y (ordered_by before xs)
ordered-more before line n [] y low ended = refl
ordered-more before line n (x ∷ xs) y low ended =
    ap (put_in before x) (ordered-more before line n xs y low ended.1)
    ∙ commute before line x y (ordered_by before xs) (λ same. absurd (omega (arith, same, ended.0)))

-- ---- the first rows

take_less : (n : ℕ) (xs : List CallRow) → take n (take (suc n) xs) ≡ take n xs
take_less zero xs = refl
take_less (suc n) [] = refl
take_less (suc n) (x ∷ xs) = ap (λ (l : List CallRow). x ∷ l) (take_less n xs)

pub take_twice : (n : ℕ) (xs : List CallRow) → take n (take n xs) ≡ take n xs
take_twice zero xs = refl
take_twice (suc n) [] = refl
take_twice (suc n) (x ∷ xs) = ap (λ (l : List CallRow). x ∷ l) (take_twice n xs)

take_second : (n : ℕ) (y : CallRow) (ys : List CallRow) → take n (y ∷ ys) ≡ take n (y ∷ take n ys)
take_second zero y ys = refl
take_second (suc n) y ys = ap (λ (l : List CallRow). y ∷ l) (sym (take_less n ys))

-- only the first rows matter for the first rows after one more
pub take-put : (before : CallRow → CallRow → Bool) (n : ℕ) (x : CallRow) (ys : List CallRow) → take n (put_in before x ys) ≡ take n (put_in before x (take n ys))
take-put before zero x ys = refl
take-put before (suc n) x [] = refl
take-put before (suc n) x (y ∷ ys) = by_first (before x y) (take-put before n x ys)
  where
    by_first : (b : Bool) → take n (put_in before x ys) ≡ take n (put_in before x (take n ys))
        → take (suc n) (cond b (x ∷ y ∷ ys) (y ∷ put_in before x ys)) ≡ take (suc n) (cond b (x ∷ y ∷ take n ys) (y ∷ put_in before x (take n ys)))
    by_first true later = ap (λ (l : List CallRow). x ∷ l) (take_second n y ys)
    by_first false later = ap (λ (l : List CallRow). y ∷ l) later

-- ---- rows up to a last one

-- one more row leaves as many that don't come after the last one
pub up_to-put : (before : CallRow → CallRow → Bool) → IsLine before → (n : ℕ) (last x : CallRow) (ys : List CallRow) → FirstUpTo before n last ys
    → FirstUpTo before n last (put_in before x ys)
up_to-put before line zero last x ys up = tt
up_to-put before line (suc n) last x [] up = absurd up
up_to-put before line (suc n) last x (y ∷ ys) up = by_first (before x y) refl (up_to-put before line n last x ys up.1)
  where
    earlier : before x y ≡ true → (b : Bool) → before last x ≡ b → b ≡ false
    earlier is true later = let never : before last y ≡ true = line.further last x y later is in let other : before last y ≡ false = up.0 in cc
    earlier is false later = refl

    shorter : (m : ℕ) (row : CallRow) (rows : List CallRow) → FirstUpTo before (suc m) last (row ∷ rows) → FirstUpTo before m last (row ∷ rows)
    shorter zero row rows first = tt
    shorter (suc m) row [] first = absurd first.1
    shorter (suc m) row (r ∷ rows) first = (first.0, shorter m r rows first.1)

    by_first : (b : Bool) → before x y ≡ b → FirstUpTo before n last (put_in before x ys) → FirstUpTo before (suc n) last (cond b (x ∷ y ∷ ys) (y ∷ put_in before x ys))
    by_first true is later = (let e = earlier is (before last x) refl in e, shorter n y ys up)
    by_first false is later = (up.0, later)

-- a row after the last one isn't among the first
pub up_to-past : (before : CallRow → CallRow → Bool) → IsLine before → (n : ℕ) (last x : CallRow) (ys : List CallRow) → before last x ≡ true
    → FirstUpTo before n last ys → take n (put_in before x ys) ≡ take n ys
up_to-past before line zero last x ys past up = refl
up_to-past before line (suc n) last x [] past up = absurd up
up_to-past before line (suc n) last x (y ∷ ys) past up =
    ap (take (suc n)) (put-later before x y ys (not_first (before x y) refl)) ∙ ap (λ (l : List CallRow). y ∷ l) (up_to-past before line n last x ys past up.1)
  where
    not_first : (b : Bool) → before x y ≡ b → b ≡ false
    not_first true is = let never : before last y ≡ true = line.further last x y past is in let other : before last y ≡ false = up.0 in cc
    not_first false is = refl

-- ---- rows in order

abbrev pub AllAfter : (CallRow → CallRow → Bool) → CallRow → List CallRow → Type 0
AllAfter before x [] = Unit {0}
AllAfter before x (y ∷ ys) = (before x y ≡ true) × AllAfter before x ys

abbrev pub InOrder : (CallRow → CallRow → Bool) → List CallRow → Type 0
InOrder before [] = Unit {0}
InOrder before (x ∷ xs) = AllAfter before x xs × InOrder before xs

after-put : (before : CallRow → CallRow → Bool) (z x : CallRow) (ys : List CallRow) → before z x ≡ true → AllAfter before z ys → AllAfter before z (put_in before x ys)
after-put before z x [] is all = (is, tt)
after-put before z x (y ∷ ys) is all = by_first (before x y) (after-put before z x ys is all.1)
  where
    by_first : (b : Bool) → AllAfter before z (put_in before x ys) → AllAfter before z (cond b (x ∷ y ∷ ys) (y ∷ put_in before x ys))
    by_first true later = (is, all)
    by_first false later = (all.0, later)

after_further : (before : CallRow → CallRow → Bool) → IsLine before → (x y : CallRow) (zs : List CallRow) → before x y ≡ true → AllAfter before y zs → AllAfter before x zs
after_further before line x y [] is all = tt
after_further before line x y (z ∷ zs) is all = (line.further x y z is all.0, after_further before line x y zs is all.1)

in_order-put : (before : CallRow → CallRow → Bool) → IsLine before → (x : CallRow) (ys : List CallRow) → ApartFrom x ys → InOrder before ys → InOrder before (put_in before x ys)
in_order-put before line x [] apart all = (tt, tt)
in_order-put before line x (y ∷ ys) apart all = by_first (before x y) refl (in_order-put before line x ys apart.1 all.1)
  where
    by_first : (b : Bool) → before x y ≡ b → InOrder before (put_in before x ys) → InOrder before (cond b (x ∷ y ∷ ys) (y ∷ put_in before x ys))
    by_first true is later = ((is, after_further before line x y ys is all.0), all)
    by_first false is later = (after-put before y x ys (line.decides x y apart.0 is) all.0, later)

pub in_order-ordered : (before : CallRow → CallRow → Bool) → IsLine before → (xs : List CallRow) → AllApart xs → InOrder before (ordered_by before xs)
in_order-ordered before line [] all = tt
in_order-ordered before line (x ∷ xs) all =
    in_order-put before line x (ordered_by before xs) (apart-ordered before x xs all.0) (in_order-ordered before line xs all.1)

after-take : (before : CallRow → CallRow → Bool) (n : ℕ) (z : CallRow) (xs : List CallRow) → AllAfter before z xs → AllAfter before z (take n xs)
after-take before zero z xs all = tt
after-take before (suc n) z [] all = tt
after-take before (suc n) z (x ∷ xs) all = (all.0, after-take before n z xs all.1)

pub in_order-take : (before : CallRow → CallRow → Bool) (n : ℕ) (xs : List CallRow) → InOrder before xs → InOrder before (take n xs)
in_order-take before zero xs all = tt
in_order-take before (suc n) [] all = tt
in_order-take before (suc n) (x ∷ xs) all = (after-take before n x xs all.0, in_order-take before n xs all.1)

-- rows that are in order stay as they are
pub ordered_already : (before : CallRow → CallRow → Bool) (xs : List CallRow) → InOrder before xs → ordered_by before xs ≡ xs
ordered_already before [] all = refl
ordered_already before (x ∷ xs) all = ap (put_in before x) (ordered_already before xs all.1) ∙ first xs all.0
  where
    first : (ys : List CallRow) → AllAfter before x ys → put_in before x ys ≡ x ∷ ys
    first [] after = refl
    first (y ∷ ys) after = put-first before x y ys after.0

-- ---- the last of rows in order

abbrev IsLast : CallRow → List CallRow → Type 0
IsLast last [] = ⊥
IsLast last (row ∷ []) = last ≡ row
IsLast last (row ∷ r ∷ rows) = IsLast last (r ∷ rows)

last_from : (rows : List CallRow) (last : CallRow) → 0 < length rows → last ≡ get_or rows (length rows - 1) last → IsLast last rows
last_from [] last some is = absurd (omega (arith, some))
last_from (row ∷ []) last some is = is
last_from (row ∷ r ∷ rows) last some is =
    let place : length (row ∷ r ∷ rows) - 1 ≡ suc (length (r ∷ rows) - 1) = omega arith in
    last_from (r ∷ rows) last (omega arith) (is ∙ ap (λ (k : ℕ). get_or (row ∷ r ∷ rows) k last) place)

last_after : (before : CallRow → CallRow → Bool) (x : CallRow) (rows : List CallRow) (last : CallRow) → AllAfter before x rows → IsLast last rows → before x last ≡ true
last_after before x [] last all is = absurd is
last_after before x (row ∷ []) last all is = subst (λ (w : CallRow). before x w ≡ true) (sym is) all.0
last_after before x (row ∷ r ∷ rows) last all is = last_after before x (r ∷ rows) last all.1 is

never_itself : (before : CallRow → CallRow → Bool) → IsLine before → (x : CallRow) (b : Bool) → before x x ≡ b → b ≡ false
never_itself before line x true is = let other : before x x ≡ false = line.one_way x x is in cc
never_itself before line x false is = refl

-- none of so many rows in order comes after the last of them
up_to_is_last : (before : CallRow → CallRow → Bool) → IsLine before → (n : ℕ) (rows : List CallRow) (last : CallRow) → n ≤ length rows → InOrder before rows
    → IsLast last rows → FirstUpTo before n last rows
up_to_is_last before line zero rows last many ordered is = tt
up_to_is_last before line (suc n) [] last many ordered is = absurd (omega (arith, many))
up_to_is_last before line (suc zero) (row ∷ []) last many ordered is =
    (ap (λ (r : CallRow). before r row) is ∙ never_itself before line row (before row row) refl, tt)
up_to_is_last before line (suc (suc n)) (row ∷ []) last many ordered is = absurd (omega (arith, many))
up_to_is_last before line (suc n) (row ∷ r ∷ rows) last many ordered is = (
  line.one_way row last (last_after before row (r ∷ rows) last ordered.0 is),
  up_to_is_last before line n (r ∷ rows) last (omega (arith, many)) ordered.1 is,
)

pub up_to_last : (before : CallRow → CallRow → Bool) → IsLine before → (n : ℕ) (rows : List CallRow) (last : CallRow) → n ≤ length rows → InOrder before rows
    → 0 < length rows → last ≡ get_or rows (length rows - 1) last → FirstUpTo before n last rows
up_to_last before line n rows last many ordered some is = up_to_is_last before line n rows last many ordered (last_from rows last some is)

pub up_to-take : (before : CallRow → CallRow → Bool) (n : ℕ) (last : CallRow) (rows : List CallRow) → FirstUpTo before n last rows → FirstUpTo before n last (take n rows)
up_to-take before zero last rows up = tt
up_to-take before (suc n) last [] up = up
up_to-take before (suc n) last (row ∷ rows) up = (up.0, up_to-take before n last rows up.1)
