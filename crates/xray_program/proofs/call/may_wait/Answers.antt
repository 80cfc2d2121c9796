use Rattle.std.proofs.Common.{rules, ◌≡◌, ◌∷◌, ◌∙◌, true, false, inl, inr, sym, subst, codes}
use Rattle.command_words.specs.Items.{texts}
use Rattle.command_words.specs.Words.{reading}
use Rattle.xray_program.specs.Commands.{IsStill}
use Rattle.xray_program.proofs.CommandRows.{still_by_word}
use Rattle.xray_program.proofs.call.may_wait.Goals as goal

pub returns-in-Some-clause-still : goal.returns-in-Some-clause-still
returns-in-Some-clause-still c differs wall =
    let words_are : texts c.args.words.now ≡ c.deref.result.now ∷ texts c.in-Some.field-0-1.now = search rules in
    let not_run : c.deref.result.now ≡ codes "run" → ⊥ =
    λ same. let both : true ≡ false = sym (c.starts_threads.ensures.1 (inl same)) ∙ differs in cc in
    let not_profile : c.deref.result.now ≡ codes "profile" → ⊥ =
    λ same. let both : true ≡ false = sym (c.starts_threads.ensures.1 (inr same)) ∙ differs in cc in
    subst (λ words. IsStill (reading wall words)) (sym words_are)
    (still_by_word c.commands_follow_their_rows.ensures.rows wall _ (texts c.in-Some.field-0-1.now) not_run not_profile)
