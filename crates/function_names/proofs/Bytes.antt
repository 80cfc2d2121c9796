-- Names whose bytes are written as themselves.
use Rattle.std.proofs.Common.{◌≡◌, ◌∷◌, ◌++◌, ◌∙◌, ℕ, Bool, true, false, List, [], refl, ap}
use Rattle.std.specs.Prelude.{◌==◌, ◌&&◌, not, if◌then◌else◌}
use Rattle.std.specs.List.{flat_map, list_all}
use Rattle.function_names.specs.declared.form.NameForm.{NameForm}
use Rattle.function_names.specs.declared.form.NameForm.TheVariants.{Plain, Field, Frame, Quoted}
use Rattle.function_names.specs.Name.{byte_text}
use Rattle.function_names.specs.private.Bytes.{is_itself}

-- what is chosen by a test that fails
otherwise : (test : Bool) (x y : List ℕ) → not test ≡ true → (if test then x else y) ≡ y
otherwise false x y h = refl
otherwise true x y h = cc

itself : (form : NameForm) (b : ℕ) → is_itself form b ≡ true → byte_text form b ≡ b ∷ []
itself Plain b h = refl
itself Field b h = otherwise (b == 34) (34 ∷ 34 ∷ []) (b ∷ []) h
itself Frame b h = otherwise (b == 59) (58 ∷ []) (b ∷ []) h
itself Quoted b h = otherwise (b == 39) (39 ∷ 39 ∷ []) (b ∷ []) h

-- both of two tests pass
both : (a b : Bool) → (a && b) ≡ true → (a ≡ true) × (b ≡ true)
both true b h = (refl, h)
both false b h = cc

-- the bytes are written as themselves
pub themselves : (form : NameForm) (bytes : List ℕ) → list_all (is_itself form) bytes ≡ true → flat_map (byte_text form) bytes ≡ bytes
themselves form [] h = refl
themselves form (b ∷ bytes) h =
    let parts = both (is_itself form b) (list_all (is_itself form) bytes) h in
    ap (λ (front : List ℕ). front ++ flat_map (byte_text form) bytes) (itself form b parts.0)
    ∙ ap (λ (rest : List ℕ). b ∷ rest) (themselves form bytes parts.1)
