-- What the readers of inputs answer.
use Rattle.std.specs.Prelude.{IfErr}
use Rattle.std.proofs.Common.{◌≡◌, ◌⊎◌, ◌<◌, ◌≤◌, ℕ, List, [], ◌∷◌, length, Result, Some, Ok, Err, inl, inr, sym, ap, arith, subst}
use Rattle.std.specs.Prelude.{◌==◌}
use Rattle.std.specs.List.{slice_split}
use Rattle.std.specs.Str.Lines.{lines, lines_of_parts}
use Rattle.std.proofs.lemmas.List.Splits.{length-slice_split}
use Rattle.std.proofs.lemmas.List.Sums.{count_by-le-length}
use Rattle.map_names.specs.FaultWords.{map_words}
use Rattle.map_names.specs.MapNames.{IsReading}
use Rattle.map_names.specs.Maps.{map_naming}
use Rattle.map_names.specs.declared.fault.MapFault.{MapFault}
use Rattle.map_names.specs.declared.fault.MapFault.TheVariants as maps
use Rattle.map_names.specs.declared.naming.MapNames.{MapNames}
use Rattle.xray_image.specs.FaultWords.{image_words}
use Rattle.xray_image.specs.Table.{ImageReading, ReadsAs}
use Rattle.xray_image.specs.declared.fault.ImageFault.{ImageFault}
use Rattle.xray_image.specs.declared.fault.ImageFault.TheVariants as faults
use Rattle.xray_program.specs.Inputs.{image_form, refused_for}
use Rattle.xray_program.specs.private.KeptForms.{kept_map_form}

-- a text has at most one more line than bytes
lines_of_few : (parts : List (List ℕ)) → length (lines_of_parts parts) ≤ length parts
lines_of_few [] = omega arith
lines_of_few ([] ∷ []) = omega arith
lines_of_few ((x ∷ part) ∷ []) = grind arith
lines_of_few (part ∷ next ∷ more) = let few = lines_of_few (next ∷ more) in omega arith

-- so those of a text within the limit can be counted
pub few_lines : (text : List ℕ) → length text ≤ 4194304 → length (lines text) < 4294967295
few_lines text within =
    let parts = slice_split (λ b. b == 10) text in
    let few = lines_of_few parts in
    let split = length-slice_split (λ b. b == 10) text in
    let ends = count_by-le-length (λ b. b == 10) text in
    omega arith

-- a file that isn't an image is refused for its fault
pub image_refuses : (bytes : List ℕ) (result : ImageReading) → (result ≡ Err faults.NoMemory) ⊎ ReadsAs bytes result
    → IfErr result (λ fault. (refusal : List ℕ) → image_words fault ≡ Some refusal → image_form.Refuses bytes refusal)
image_refuses bytes (Ok program) reads = tt
image_refuses bytes (Err fault) (inl wanting) = λ refusal is. absurd (none refusal fault (same fault wanting) is)
  where
    same : (f : ImageFault) → (let v : ImageReading = Err f in let w : ImageReading = Err faults.NoMemory in v ≡ w) → f ≡ faults.NoMemory
    same f e = cc

    never : (refusal : List ℕ) → image_words faults.NoMemory ≡ Some refusal → ⊥
    never refusal e = cc

    none : (refusal : List ℕ) (f : ImageFault) → f ≡ faults.NoMemory → image_words f ≡ Some refusal → ⊥
    none refusal f e is = never refusal (subst (λ h. image_words h ≡ Some refusal) e is)
image_refuses bytes (Err fault) (inr reads) = λ refusal is. (fault, reads, ap refused_for (sym is))

-- a text that isn't a sled map is refused for its fault
pub map_refuses : (bytes : List ℕ) (result : Result MapNames MapFault) → IsReading (map_naming bytes) result
    → IfErr result (λ fault. (refusal : List ℕ) → map_words fault ≡ Some refusal → kept_map_form.Refuses bytes refusal)
map_refuses bytes (Ok map) reads = tt
map_refuses bytes (Err fault) (inl wanting) = λ refusal is. absurd (none refusal fault wanting is)
  where
    never : (refusal : List ℕ) → map_words maps.NoMemory ≡ Some refusal → ⊥
    never refusal e = cc

    none : (refusal : List ℕ) (f : MapFault) → f ≡ maps.NoMemory → map_words f ≡ Some refusal → ⊥
    none refusal f e is = never refusal (subst (λ h. map_words h ≡ Some refusal) e is)
map_refuses bytes (Err fault) (inr says) = λ refusal is. (fault, says, ap refused_for (sym is))
