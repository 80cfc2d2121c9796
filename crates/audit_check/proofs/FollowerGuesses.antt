-- A follower that has changed its guesses, and numbers that may be missing.
use Rattle.std.proofs.Common.{◌≡◌, ℕ, List, true, false, Option, Some, None, inl, inr, refl, sym, ap, ◌∙◌, eq-eqb, eqb-true}
use Rattle.std.specs.Prelude.{◌⊎◌, nat_eq, slice_get}
use Rattle.std.specs.Option.{option_eq}
use Rattle.std.proofs.lemmas.Bool.{ne_eqb}
use Rattle.xray_image.specs.declared.sled.Sled.{Sled}
use Rattle.xray_image.specs.declared.sled.SledKind.{SledKind}
use Rattle.xray_image.specs.declared.sled.SledKind.TheVariants.{Entry, Exit, Tail}
use Rattle.xray_image.specs.Program.{Program}
use Rattle.patch_script.specs.declared.command.PatchCommand.{PatchCommand}
use Rattle.machine_step.specs.Loads.{is_held_at, logs_args, sled_logs_args}
use Rattle.audit_check.specs.declared.follower.Follower.{Follower}
use Rattle.audit_check.specs.private.Judging.{IsReady, Judges, SameButGuesses}
use Rattle.audit_check.proofs.JudgedMarks.{Same, same_judges, same_ready}

-- ---- guesses

pub same_then : (f g h : Follower) → SameButGuesses f g → SameButGuesses g h → SameButGuesses f h
same_then f g h one two = record {
  same = two.same ∙ ap (λ (x : Follower). record x { passed = h.passed }) one.same;
  heads = two.heads ∙ one.heads;
}

pub same_back : (f g : Follower) → SameButGuesses f g → SameButGuesses g f
same_back f g same = record {
  same = sym (ap (λ (x : Follower). record x { passed = f.passed }) same.same);
  heads = sym same.heads;
}

same_parts : (f g : Follower) → SameButGuesses f g → Same f g
same_parts f g same = record {
  image = ap (λ (x : Follower). x.image) same.same;
  course = ap (λ (x : Follower). x.course) same.same;
  thread = ap (λ (x : Follower). x.thread) same.same;
  hold = ap (λ (x : Follower). x.hold) same.same;
  heads = same.heads;
}

pub ready_again : (f g : Follower) → SameButGuesses f g → IsReady f → IsReady g
ready_again f g same ready = same_ready f g (same_parts f g same) ready

pub judges_again : (program : Program) (threads : ℕ) (script : List PatchCommand) (f g : Follower) → SameButGuesses f g
    → Judges program threads script f → Judges program threads script g
judges_again program threads script f g same judges = same_judges program threads script f g (same_parts f g same) judges

-- ---- a number that may be missing

pub is_that : (o : Option ℕ) (y : ℕ) → option_eq nat_eq o (Some y) ≡ true → o ≡ Some y
is_that None y e = absurd cc
is_that (Some x) y e = ap Some (eqb-true x y e)

pub is_another : (o : Option ℕ) (y : ℕ) → option_eq nat_eq o (Some y) ≡ false → o ≡ Some y → ⊥
is_another o y e is =
    let same : option_eq nat_eq o (Some y) ≡ true = ap (λ (p : Option ℕ). option_eq nat_eq p (Some y)) is ∙ eq-eqb y y refl in
    absurd (let q : true ≡ false = sym same ∙ e in cc)

-- ---- whether the script holds a thread

pub held_here : (hold : Option ℕ) (passing : ℕ) → hold ≡ Some passing → is_held_at hold passing ≡ true
held_here None passing is = absurd cc
held_here (Some held) passing is = let same : held ≡ passing = cc in eq-eqb held passing same

pub not_held : (hold : Option ℕ) (passing : ℕ) → (hold ≡ Some passing → ⊥) → is_held_at hold passing ≡ false
not_held None passing other = refl
not_held (Some held) passing other = ne_eqb held passing (λ e. other (ap Some e))

-- ---- a sled

-- whether it logs arguments
pub logs_as : (program : Program) (k : ℕ) (sled : Sled) → slice_get program.sleds k ≡ Some sled → sled_logs_args program k ≡ logs_args sled.kind
logs_as program k sled found = rw found refl

pub no_args : (kind : SledKind) → (kind ≡ Entry) ⊎ ((kind ≡ Exit) ⊎ (kind ≡ Tail)) → logs_args kind ≡ false
no_args kind (inl is) = ap logs_args is
no_args kind (inr (inl is)) = ap logs_args is
no_args kind (inr (inr is)) = ap logs_args is
