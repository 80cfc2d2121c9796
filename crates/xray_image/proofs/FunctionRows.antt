-- Functions one by one.
use Rattle.std.proofs.Common.{◌≡◌, ◌≢◌, ℕ, suc, ◌+◌, ◌<◌, ◌≤◌, List, [], ◌∷◌, ◌++◌, Bool, true, false, ◌||◌, length, get_or, take, map, All, Option, Some, None, Bor, refl, sym, ap, subst, ◌∙◌, arith}
use Rattle.std.specs.Prelude.{◌↔◌, slice_get, Contains, MatchOption, IsTrue, is_some, not}
use Rattle.std.specs.declared.cmp.Ordering.{Ordering}
use Rattle.std.specs.declared.cmp.Ordering.TheVariants.{Less, Equal, Greater}
use Rattle.std.specs.Ordering.{match_ordering, nat_cmp}
use Rattle.std.specs.Cmp.Lexicographic.{slice_cmp}
use Rattle.std.specs.BTreeSet.{insert_key}
use Rattle.std.specs.BTreeMap.{is_at}
use Rattle.std.specs.List.{last_or, list_any}
use Rattle.std.specs.Option.{option_map}
use Rattle.std.specs.Str.{bytes_eq}
use Rattle.std.proofs.lemmas.Bool.{false≢true}
use Rattle.std.proofs.lemmas.Slice.Eq.{bytes_eq-Decides}
use Rattle.std.proofs.lemmas.Map.Text.{is_eq-slice_cmp}
use Rattle.std.proofs.lemmas.Map.Lookups.{exact_bytes}
use Rattle.std.proofs.lemmas.Option.{same_Some, slice_get_within, get_or_from_slice_get}
use Rattle.std.proofs.lemmas.List.{length-map, take_more, get_or_default}
use Rattle.std.proofs.lemmas.List.Folds.{list_any-append}
use Rattle.std.proofs.lemmas.List.Elements.{All-nil, All-cons, All-head, All-tail}
use Rattle.xray_image.specs.declared.parts.FunctionEntry.{FunctionEntry}
use Rattle.xray_image.specs.declared.unit.Unit.{Unit}
use Rattle.xray_image.specs.Container.{Function}
use Rattle.xray_image.specs.private.Judging.{IsAbove, StandsAfter, is_among}
use Rattle.xray_image.specs.Program.{BeginsAfter, IsFunction, addresses}
use Rattle.xray_image.specs.Table.{FunctionIsFit}
use Rattle.xray_image.specs.private.Views.{function_of}
use Rattle.xray_image.proofs.Scans.{item_at}
use Rattle.xray_image.proofs.FunctionNames.{last_taken}

-- ---- a look-up

contains_at : (all : List ℕ) (i a : ℕ) → slice_get all i ≡ Some a → Contains all a
contains_at all i a e = (i, slice_get_within all i a e, get_or_from_slice_get all i a a e)

pub found_is : (all : List ℕ) (a : ℕ) (found : Option ℕ) (told : Bool) → told ≡ is_some found → MatchOption found (Contains all a → ⊥) (λ i. slice_get all i ≡ Some a) → IsTrue told ↔ Contains all a
found_is all a None told e none = (λ t. absurd (false≢true (sym e ∙ t)), λ there. absurd (none there))
found_is all a (Some i) told e at = (λ t. contains_at all i a at, λ there. e)

-- ---- the names before

abbrev by_bytes : Bor (List ℕ) → Bor (List ℕ) → Ordering
by_bytes a b = slice_cmp nat_cmp a.now b.now

pub among_keys : (keys : List (Bor (List ℕ))) (q : List ℕ) → list_any (is_at (λ k. slice_cmp nat_cmp q k.now)) keys ≡ is_among (map (λ k. k.now) keys) q
among_keys [] q = refl
among_keys (x ∷ xs) q =
    ap (λ (b : Bool). b || list_any (is_at (λ k. slice_cmp nat_cmp q k.now)) xs) (is_eq-slice_cmp q x.now)
    ∙ ap (λ (b : Bool). bytes_eq q x.now || b) (among_keys xs q)

twice : (b c : Bool) → (b || c) ≡ (b || (b || c))
twice true c = refl
twice false c = refl

exchanged : (a b c : Bool) → (a || (b || c)) ≡ (b || (a || c))
exchanged true true c = refl
exchanged true false c = refl
exchanged false true c = refl
exchanged false false c = refl

pub among_insert : (keys : List (Bor (List ℕ))) (key : Bor (List ℕ)) (q : List ℕ) → is_among (map (λ k. k.now) (insert_key by_bytes keys key)) q ≡ (bytes_eq q key.now || is_among (map (λ k. k.now) keys) q)
among_insert [] key q = refl
among_insert (x ∷ xs) key q = by_order (by_bytes key x) refl (among_insert xs key q)
  where
    by_order : (o : Ordering) → by_bytes key x ≡ o → is_among (map (λ k. k.now) (insert_key by_bytes xs key)) q ≡ (bytes_eq q key.now || is_among (map (λ k. k.now) xs) q)
        → is_among (map (λ k. k.now) (match_ordering o (key ∷ x ∷ xs) (x ∷ xs) (x ∷ insert_key by_bytes xs key))) q ≡ (bytes_eq q key.now || is_among (map (λ k. k.now) (x ∷ xs)) q)
    by_order Less e rest = refl
    by_order Equal e rest =
        let same : key.now ≡ x.now = exact_bytes key.now x.now e in
        twice (bytes_eq q x.now) (is_among (map (λ k. k.now) xs) q)
        ∙ ap (λ (n : List ℕ). bytes_eq q n || (bytes_eq q x.now || is_among (map (λ k. k.now) xs) q)) (sym same)
    by_order Greater e rest =
        ap (λ (b : Bool). bytes_eq q x.now || b) rest
        ∙ exchanged (bytes_eq q x.now) (bytes_eq q key.now) (is_among (map (λ k. k.now) xs) q)

-- ---- a name of its own

bytes_same : (xs ys : List ℕ) → bytes_eq xs ys ≡ true → xs ≡ ys
bytes_same xs ys e = (bytes_eq-Decides xs ys).0 e

same_bytes : (xs ys : List ℕ) → xs ≡ ys → bytes_eq xs ys ≡ true
same_bytes xs ys e = (bytes_eq-Decides xs ys).1 e

abbrev pub is_before : List Function → List ℕ → Bool
is_before before name = list_any (λ g. bytes_eq name g.name) before

or_left : (a b : Bool) → (a || b) ≡ false → a ≡ false
or_left true b e = e
or_left false b e = refl

or_right : (a b : Bool) → (a || b) ≡ false → b ≡ false
or_right true b e = absurd (false≢true (sym e))
or_right false b e = e

pub own : (before : List Function) (name : List ℕ) → is_before before name ≡ false → All (λ g. g.name ≢ name) before
own [] name e = All-nil (λ g. g.name ≢ name)
own (g ∷ gs) name e =
    All-cons (λ g. g.name ≢ name) g gs (λ same. false≢true (sym (or_left (bytes_eq name g.name) (is_before gs name) e) ∙ same_bytes name g.name (sym same)))
    (own gs name (or_right (bytes_eq name g.name) (is_before gs name) e))

pub taken : (before : List Function) (name : List ℕ) → is_before before name ≡ true → All (λ g. g.name ≢ name) before → ⊥
taken [] name e all = false≢true e
taken (g ∷ gs) name e all = by_first (bytes_eq name g.name) refl (λ rest. taken gs name rest (All-tail (λ g. g.name ≢ name) g gs all)) e
  where
    by_first : (b : Bool) → bytes_eq name g.name ≡ b → (is_before gs name ≡ true → ⊥) → (b || is_before gs name) ≡ true → ⊥
    by_first true same later e = All-head (λ g. g.name ≢ name) g gs all (sym (bytes_same name g.name same))
    by_first false other later e = later e

-- ---- the rows

above_begins : (base start : ℕ) (o : Option Function) → IsAbove base (option_map (λ f. f.start) o) start → BeginsAfter base o start
above_begins base start None h = h
above_begins base start (Some f) h = h

begins_above : (base start : ℕ) (o : Option Function) → BeginsAfter base o start → IsAbove base (option_map (λ f. f.start) o) start
begins_above base start None h = h
begins_above base start (Some f) h = h

abbrev pub zero_function : FunctionEntry
zero_function = record { start = 0; name = record { ref_ptr = (0, 0); now = [] } }

-- what is kept of the functions before a number: where the last of them begins, and their names
pub record IsPast (functions : List Function) (n : ℕ) (last : Option ℕ) (names : List (List ℕ)) : Type 0 where
  pub last_is : last ≡ option_map (λ f. f.start) (last_or None (take n functions))
  pub names_are : (q : List ℕ) → is_among names q ≡ is_before (take n functions) q

module _ (base : ℕ) (functions : List FunctionEntry) (i : ℕ) (within : i < length functions) (last : Option ℕ) (names : List (List ℕ)) (past : IsPast (map function_of functions) i last names) where
  there : slice_get (map function_of functions) i ≡ Some (function_of (get_or functions i zero_function))
  there = item_at function_of functions i (get_or functions i zero_function) within (get_or_default functions i zero_function (get_or functions i zero_function) within)

  module _ (units : List Unit) where
    pub fit : StandsAfter base (addresses units) last (function_of (get_or functions i zero_function)) → is_among names (get_or functions i zero_function).name.now ≡ false
        → FunctionIsFit base units (map function_of functions) i
    fit stands none g e =
        subst (IsFunction base units (take i (map function_of functions))) (same_Some _ _ (sym there ∙ e)) (record {
          at_unit = stands.at_unit;
          in_order = above_begins base (get_or functions i zero_function).start (last_or None (take i (map function_of functions))) (subst (λ (o : Option ℕ). IsAbove base o (get_or functions i zero_function).start) past.last_is stands.above);
          has_name = stands.named.has_bytes;
          name_bytes = stands.named.name_bytes;
          own_name = own (take i (map function_of functions)) (get_or functions i zero_function).name.now (sym (past.names_are (get_or functions i zero_function).name.now) ∙ none);
        })

    pub unfit : (StandsAfter base (addresses units) last (function_of (get_or functions i zero_function)) → ⊥) → FunctionIsFit base units (map function_of functions) i → ⊥
    unfit fails is =
        let h = is (function_of (get_or functions i zero_function)) there in
        fails (record {
          above = subst (λ (o : Option ℕ). IsAbove base o (get_or functions i zero_function).start) (sym past.last_is) (begins_above base (get_or functions i zero_function).start (last_or None (take i (map function_of functions))) h.in_order);
          at_unit = h.at_unit;
          named = record { has_bytes = h.has_name; name_bytes = h.name_bytes };
        })

    pub not_own : is_among names (get_or functions i zero_function).name.now ≡ true → FunctionIsFit base units (map function_of functions) i → ⊥
    not_own some is =
        let h = is (function_of (get_or functions i zero_function)) there in
        taken (take i (map function_of functions)) (get_or functions i zero_function).name.now (sym (past.names_are (get_or functions i zero_function).name.now) ∙ some) h.own_name

  -- one more function is past
  pub past_more : (names' : List (List ℕ)) → ((q : List ℕ) → is_among names' q ≡ (bytes_eq q (get_or functions i zero_function).name.now || is_among names q))
      → IsPast (map function_of functions) (i + 1) (Some (get_or functions i zero_function).start) names'
  past_more names' more =
      let fs = map function_of functions in
      let f' = function_of (get_or functions i zero_function) in
      let lt : i < length fs = omega (arith, length-map functions function_of) in
      let next : i + 1 ≡ suc i = omega arith in
      let at : get_or fs i f' ≡ f' = get_or_from_slice_get fs i f' f' there in
      record {
        last_is = sym (ap (λ (k : ℕ). option_map (λ g. g.start) (last_or None (take k fs))) next ∙ ap (option_map (λ g. g.start)) (last_taken None fs i f' lt ∙ ap (λ (g : Function). Some g) at));
        names_are = λ q.
            more q ∙ ap (λ (b : Bool). bytes_eq q f'.name || b) (past.names_are q)
            ∙ turned (bytes_eq q f'.name) (is_before (take i fs) q)
            ∙ sym (ap (λ (gs : List Function). is_before gs q) (take_more fs i f' lt ∙ ap (λ (g : Function). take i fs ++ g ∷ []) at) ∙ list_any-append (λ g. bytes_eq q g.name) (take i fs) (f' ∷ []));
      }
    where
      turned : (a b : Bool) → (a || b) ≡ (b || (a || false))
      turned true true = refl
      turned true false = refl
      turned false true = refl
      turned false false = refl

-- no function comes after the last
pub no_function : (base : ℕ) (units : List Unit) (functions : List FunctionEntry) (i : ℕ) → length functions ≤ i → FunctionIsFit base units (map function_of functions) i
no_function base units functions i le g e = absurd (let within = slice_get_within (map function_of functions) i g e in omega (arith, length-map functions function_of))

pub true_not : (b : Bool) → not b ≡ false → b ≡ true
true_not true e = refl
true_not false e = sym e

pub false_not : (b : Bool) → not b ≡ true → b ≡ false
false_not true e = sym e
false_not false e = refl
