-- Image files as a kind of input.
use Rattle.std.proofs.Common.{◌≡◌, ◌⊎◌, ◌∙◌, ◌↔◌, ℕ, List, Ok, Err, inl, inr, refl, sym, ap}
use Rattle.xray_image.specs.FaultWords.{image_words}
use Rattle.xray_image.specs.Program.{Program, IsAccepted}
use Rattle.xray_image.specs.Table.{ImageReading, ReadsAs}
use Rattle.xray_program.specs.Inputs.{image_form, refused_for}
use Rattle.xray_program.specs.private.Lawful.{AreBytes, IsJudged, IsUnique}

-- what the reader of images says: each file has only one verdict, and is accepted exactly when that is a program
abbrev pub OneVerdict : Type 0
OneVerdict = (bytes : List ℕ) (v w : ImageReading) → ReadsAs bytes v → ReadsAs bytes w → v ≡ w

abbrev pub SomeVerdict : Type 0
SomeVerdict = (bytes : List ℕ) → AreBytes bytes → (verdict : ImageReading) × ReadsAs bytes verdict

abbrev pub Accepts : Type 0
Accepts = (bytes : List ℕ) (program : Program) → IsAccepted bytes program ↔ ReadsAs bytes (Ok program)

pub image_unique : OneVerdict → Accepts → IsUnique image_form
image_unique one accepts = record {
  one = λ bytes a b x y. same_program a b (one bytes (Ok a) (Ok b) ((accepts bytes a).0 x) ((accepts bytes b).0 y));
  why = λ bytes r s x y. same_reason r s x.0 y.0 (one bytes (Err x.0) (Err y.0) x.1 y.1) x.2 y.2;
  not_both = λ bytes a r x y. never a y.0 (one bytes (Ok a) (Err y.0) ((accepts bytes a).0 x) y.1);
}
  where
    same_program : (a b : Program) → (let v : ImageReading = Ok a in let w : ImageReading = Ok b in v ≡ w) → a ≡ b
    same_program a b e = cc

    never : (a : Program) (f : _) → (let v : ImageReading = Ok a in let w : ImageReading = Err f in v ≡ w) → ⊥
    never a f e = cc

    same_reason : (r s : List ℕ) (f g : _) → (let v : ImageReading = Err f in let w : ImageReading = Err g in v ≡ w) → r ≡ refused_for (image_words f)
        → s ≡ refused_for (image_words g) → r ≡ s
    same_reason r s f g e x y = let same : f ≡ g = cc in x ∙ ap (λ h. refused_for (image_words h)) same ∙ sym y

pub image_judged : SomeVerdict → Accepts → IsJudged image_form
image_judged some accepts bytes all = by_verdict (some bytes all).0 (some bytes all).1
  where
    by_verdict : (verdict : ImageReading) → ReadsAs bytes verdict
        → ((program : Program) × IsAccepted bytes program) ⊎ ((refusal : List ℕ) × image_form.Refuses bytes refusal)
    by_verdict (Ok program) reads = inl (program, (accepts bytes program).1 reads)
    by_verdict (Err fault) reads = inr (refused_for (image_words fault), (fault, reads, refl))
