-- Scripts whose text is kept, as a kind of input.
use Rattle.std.proofs.Common.{◌≡◌, ◌⊎◌, ◌∙◌, ℕ, List, inl, inr, refl, sym, ap₂, codes}
use Rattle.patch_script.specs.FaultWords.{script_words}
use Rattle.patch_script.specs.Plans.{Plan, plan_of}
use Rattle.xray_image.specs.Program.{Program}
use Rattle.xray_program.specs.Inputs.{WholeScript, script_form, script_limit, whole_script_form}
use Rattle.xray_program.specs.private.Lawful.{IsJudged, IsUnique}
use Rattle.xray_program.proofs.InputMeanings.{judged_by, unique_by}

-- as a script is read in only one way, so is its text
pub whole_unique : (program : Program) (threads : ℕ) → IsUnique (whole_script_form program threads)
whole_unique program threads = record {
  one = λ bytes a b x y. alike a b (x.0 ∙ sym y.0) (plain.one bytes a.plan b.plan x.1 y.1);
  why = plain.why;
  not_both = λ bytes a r x y. plain.not_both bytes a.plan r x.1 y;
}
  where
    plain : IsUnique (script_form program threads)
    plain = unique_by (codes "script") script_limit (plan_of program threads) script_words

    alike : (a b : WholeScript) → a.text ≡ b.text → a.plan ≡ b.plan → a ≡ b
    alike a b same_text same_plan =
        ap₂ (λ (text : List ℕ) (plan : Plan). let whole : WholeScript = record { text = text; plan = plan } in whole) same_text same_plan

pub whole_judged : (program : Program) (threads : ℕ) → IsJudged (whole_script_form program threads)
whole_judged program threads bytes all = by_plan (judged_by (codes "script") script_limit (plan_of program threads) script_words bytes all)
  where
    by_plan : ((plan : Plan) × (script_form program threads).Reads bytes plan) ⊎ ((refusal : List ℕ) × (script_form program threads).Refuses bytes refusal)
        → ((whole : WholeScript) × (whole_script_form program threads).Reads bytes whole)
        ⊎ ((refusal : List ℕ) × (whole_script_form program threads).Refuses bytes refusal)
    by_plan (inl (plan, reads)) = inl (record { text = bytes; plan = plan }, (refl, reads))
    by_plan (inr refused) = inr refused
