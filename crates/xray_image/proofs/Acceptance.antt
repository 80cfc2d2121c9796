-- What follows from an accepted file.
use Rattle.std.proofs.Common.{◌≡◌, ℕ, zero, suc, ◌+◌, ◌≤◌, List, [], ◌∷◌, length, take, drop, map, Bool, true, false, cond, ltb, Option, Some, None, refl, sym, ap, subst, ◌∙◌, arith}
use Rattle.std.specs.Prelude.{slice_get}
use Rattle.std.specs.Option.{option_map}
use Rattle.std.specs.List.{zip}
use Rattle.std.proofs.lemmas.List.{length-map, length-take}
use Rattle.std.proofs.lemmas.Slice.Zip.{length-zip}
use Rattle.std.proofs.lemmas.Option.{none-some, same_Some, option_and_then_some, slice_get-map}
use Rattle.xray_image.specs.declared.sled.Sled.{Sled}
use Rattle.xray_image.specs.declared.unit.Unit.{Unit}
use Rattle.xray_image.specs.Units.{units_from, places_from}
use Rattle.xray_image.specs.Container.{Function, MapFields, Parts, base_address, code_length, function_count, entry_count, entries_from, function_entry_at, map_distance, map_fields_at, several, parts_of}
use Rattle.xray_image.specs.Program.{Program, IsAccepted, sled_of, program_of}
use Rattle.xray_image.specs.Layout.{AreContiguous, SledsStand}
use Rattle.xray_image.proofs.MapEntries.{length_said}
use Rattle.xray_image.proofs.Pieces.{OneInstruction, one_list}
use Rattle.xray_image.proofs.Placement.{contiguous, place_named}

-- ---- as many items as are counted

pub mapped : {A B : Type 0} (f : A → B) (o : Option A) (y : B) → option_map f o ≡ Some y → (x : A) × (o ≡ Some x) × (f x ≡ y)
mapped f None y e = absurd (none-some y e)
mapped f (Some x) y e = (x, refl, same_Some _ _ e)

pub several_count : {X : Type 0} (item : List ℕ → Option (X × List ℕ)) (n : ℕ) (bytes : List ℕ) (r : List X × List ℕ) → several item n bytes ≡ Some r → length r.0 ≡ n
several_count {X = X} item zero bytes r e = sym (ap (λ (x : List X × List ℕ). length x.0) (same_Some _ _ e))
several_count {X = X} item (suc n) bytes r e =
    option_and_then_some (λ first. option_map (λ others. (first.0 ∷ others.0, others.1)) (several item n first.1)) (item bytes) r e
    (λ first is more.
    let m = mapped (λ (others : List X × List ℕ). (first.0 ∷ others.0, others.1)) (several item n first.1) r more in
    sym (ap (λ (x : List X × List ℕ). length x.0) m.2) ∙ ap suc (several_count item n first.1 m.0 m.1))

pub cond_none : {A : Type 0} (b : Bool) (o : Option A) (y : A) → cond b None o ≡ Some y → o ≡ Some y
cond_none true o y e = absurd (none-some y e)
cond_none false o y e = e

-- the counts of the parts, and the code
record Held (bytes : List ℕ) (parts : Parts) : Type 0 where
  functions : length parts.functions ≡ function_count bytes
  entries : length parts.entries ≡ entry_count bytes
  code : parts.code ≡ take (code_length bytes) (drop 64 bytes)

held : (bytes : List ℕ) (parts : Parts) → parts_of bytes ≡ Some parts → Held bytes parts
held bytes parts e =
    let following = drop (64 + code_length bytes) bytes in
    let make : List Function × List ℕ → List MapFields × List ℕ → Parts = λ functions entries. record { code = take (code_length bytes) (drop 64 bytes); functions = functions.0; entries = entries_from (base_address bytes + map_distance) entries.0; rest = entries.1 } in
    option_and_then_some (λ functions. option_map (make functions) (several map_fields_at (entry_count bytes) functions.1)) (several function_entry_at (function_count bytes) following) parts
    (cond_none (ltb (length bytes) (64 + code_length bytes)) _ parts e)
    (λ functions is more.
    let m = mapped (make functions) (several map_fields_at (entry_count bytes) functions.1) parts more in
    record {
      functions = sym (ap (λ (p : Parts). length p.functions) m.2) ∙ several_count function_entry_at (function_count bytes) following functions is;
      entries = sym (ap (λ (p : Parts). length p.entries) m.2) ∙ length_said (base_address bytes + map_distance) m.0.0 ∙ several_count map_fields_at (entry_count bytes) functions.1 m.0 m.1;
      code = sym (ap (λ (p : Parts). p.code) m.2);
    })

pub parts_count : (bytes : List ℕ) (parts : Parts) → parts_of bytes ≡ Some parts → (length parts.functions ≡ function_count bytes) × (length parts.entries ≡ entry_count bytes)
parts_count bytes parts e = let h = held bytes parts e in (h.functions, h.entries)

-- the code is the bytes after the header
pub code_is : (bytes : List ℕ) (parts : Parts) → parts_of bytes ≡ Some parts → parts.code ≡ take (code_length bytes) (drop 64 bytes)
code_is bytes parts e = (held bytes parts e).code

-- the code is at most as long as the header says
pub code_short : (bytes : List ℕ) (parts : Parts) → parts_of bytes ≡ Some parts → length parts.code ≤ code_length bytes
code_short bytes parts e = omega (arith, ap length (code_is bytes parts e), length-take (code_length bytes) (drop 64 bytes))

-- the item beside the k-th
zip_at : {A B : Type 0} (xs : List A) (ys : List B) (k : ℕ) (x : A) → length ys ≡ length xs → slice_get xs k ≡ Some x → (y : B) × (slice_get (zip xs ys) k ≡ Some (x, y))
zip_at {A = A} [] ys k x len e = absurd (none-some x e)
zip_at {A = A} (v ∷ xs) [] k x len e = absurd (omega arith)
zip_at {A = A} (v ∷ xs) (y ∷ ys) zero x len e = (y, ap (λ (o : A). Some (o, y)) (same_Some _ _ e))
zip_at {A = A} (v ∷ xs) (y ∷ ys) (suc k) x len e = zip_at xs ys k x (omega arith) e

-- ---- every accepted program

module _ (bytes : List ℕ) (program : Program) (a : IsAccepted bytes program) where
  pub as_many : length a.parts.entries ≡ length (places_from (base_address bytes) a.pieces)
  as_many = sym (length-map a.parts.entries (λ e. e.sled)) ∙ ap length a.map_order ∙ length-map (places_from (base_address bytes) a.pieces) (λ p. p.address)

  pub sleds_are : program.sleds ≡ map (sled_of a.parts.entries) (zip (places_from (base_address bytes) a.pieces) a.parts.entries)
  sleds_are = ap (λ (p : Program). p.sleds) a.holds

  -- as many sleds as entries
  pub entry_total : length program.sleds ≡ length a.parts.entries
  entry_total =
      let zipped = zip (places_from (base_address bytes) a.pieces) a.parts.entries in
      omega (arith, ap length sleds_are, length-map zipped (sled_of a.parts.entries), length-zip (places_from (base_address bytes) a.pieces) a.parts.entries, as_many)

  pub sled_total : length program.sleds ≡ entry_count bytes
  sled_total =
      let zipped = zip (places_from (base_address bytes) a.pieces) a.parts.entries in
      let count = (parts_count bytes a.parts a.reaches).1 in
      omega (arith, ap length sleds_are, length-map zipped (sled_of a.parts.entries), length-zip (places_from (base_address bytes) a.pieces) a.parts.entries, as_many, count)

  pub function_total : length program.functions ≡ function_count bytes
  function_total = ap (λ (p : Program). length p.functions) a.holds ∙ (parts_count bytes a.parts a.reaches).0

  units_are : program.units ≡ units_from (base_address bytes) 0 a.pieces
  units_are = ap (λ (p : Program). p.units) a.holds

  pub are_contiguous : AreContiguous program.base program.units
  are_contiguous =
      let base = ap (λ (p : Program). p.base) a.holds in
      subst (λ (b : ℕ). AreContiguous b program.units) (sym base) (subst (AreContiguous (base_address bytes)) (sym units_are) (contiguous (base_address bytes) a.pieces))

  pub sleds_stand : SledsStand program.units program.sleds
  sleds_stand i k u e w =
      let entries = a.parts.entries in
      let p = place_named (base_address bytes) a.pieces i k u (sym (ap (λ (us : List Unit). slice_get us i) units_are) ∙ e) w in
      let z = zip_at (places_from (base_address bytes) a.pieces) entries k p.0 as_many p.1 in
      let s : slice_get program.sleds k ≡ Some (sled_of entries (p.0, z.0)) =
      ap (λ (ss : List Sled). slice_get ss k) sleds_are ∙ slice_get-map (sled_of entries) (zip (places_from (base_address bytes) a.pieces) entries) k ∙ ap (option_map (sled_of entries)) z.1 in
      rw s p.2

-- no file has two readings
pub one_reading : OneInstruction → (bytes : List ℕ) (p q : Program) → IsAccepted bytes p → IsAccepted bytes q → p ≡ q
one_reading one bytes p q a b =
    let parts : a.parts ≡ b.parts = same_Some _ _ (sym a.reaches ∙ b.reaches) in
    let pieces : a.pieces ≡ b.pieces = one_list one a.parts.code a.pieces b.pieces a.units (record { whole = ap (λ (x : Parts). x.code) parts ∙ b.units.whole; pieces_fit = b.units.pieces_fit }) in
    a.holds ∙ ap (λ (x : Parts). program_of bytes x a.pieces) parts ∙ ap (program_of bytes b.parts) pieces ∙ sym b.holds
