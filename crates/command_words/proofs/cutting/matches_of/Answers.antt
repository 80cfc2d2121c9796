-- clap takes the words exactly when it finds no fault. Its only other answer is out of memory.
use Rattle.std.proofs.Common.{ap, refl, ◌≡◌, ◌∙◌, true, List, [], ◌∷◌, Some, None, inl, inr}
use Rattle.clap.specs.Faults.{is_simple_and_free}
use Rattle.clap.specs.Simple.{App, app_of}
use Rattle.clap.specs.Values.{kind_of}
use Rattle.clap.specs.declared.error.Error.{Error}
use Rattle.clap.specs.declared.error.kind.ErrorKind.TheVariants.{OutOfMemory}
use Rattle.clap.specs.Kinds.{HasKind, Kinds}
use Rattle.clap.specs.Walk.{Row}
use Rattle.clap.proofs.WalkLemmas.{both}
use Rattle.command_words.specs.Items.{texts}
use Rattle.command_words.specs.Rows.{CommandRow}
use Rattle.command_words.specs.private.Allowed.{is_row}
use Rattle.command_words.specs.private.Clapped.{after, app_by, clap_rows}
use Rattle.command_words.specs.private.CodeViews.{row_view}
use Rattle.command_words.proofs.ClapArguments.{row_is_simple}
use Rattle.command_words.proofs.cutting.matches_of.Goals as goal

passed : (kinds : Kinds) (rows found : List Row) → kinds ≡ [] → found ≡ rows → Some found ≡ after kinds (Some rows)
passed [] rows found none same = ap (λ r. Some r) same
passed (kind ∷ kinds) rows found none same = cc

simple : (row : CommandRow) → is_row row ≡ true → (app : App) → app ≡ app_by row → is_simple_and_free app ≡ true
simple row is app by = ap is_simple_and_free by ∙ row_is_simple row is

pub returns-in-Ok : goal.returns-in-Ok
returns-in-Ok c =
    let by = c.in_ok-command.ensures in
    let free = simple (row_view c.args.row.now) c.requires (app_of c.in_ok-command.command) by in
    passed _ _ _ (c.in-Ok.ensures.kinds free) (c.in-Ok.ensures.matches (both _ _ free).0).0 ∙ ap (λ app. clap_rows app (texts c.args.words.now)) by

refused : (kinds : Kinds) (rows : List Row) (error : Error) → HasKind kinds error → (kind_of error ≡ OutOfMemory → ⊥) → None ≡ after kinds (Some rows)
refused [] rows error (inl memory) other = absurd (other memory)
refused [] rows error (inr among) other = absurd among
refused (kind ∷ kinds) rows error has other = refl

pub returns : goal.returns
returns c =
    let by = c.in_ok-command.ensures in
    let free = simple (row_view c.args.row.now) c.requires (app_of c.in_ok-command.command) by in
    refused _ _ c.in-Err.error (c.in-Err.ensures.kinds free) (λ memory. c.in_default.not-OutOfMemory (c.kind.ensures ∙ memory))
    ∙ ap (λ app. clap_rows app (texts c.args.words.now)) by
