-- When commands start their threads.
use Rattle.std.specs.Prelude.{IsErrAnd}
use Rattle.std.proofs.Common.{◌≡◌, ◌⊎◌, ℕ, List, Option, Some, Result, Ok, Err, inl, inr, ap, refl, subst, sym, ◌∙◌}
use Rattle.std.specs.Prelude.{Bool, true}
use Rattle.command_words.specs.Words.{Command, Profile, Run}
use Rattle.command_words.specs.declared.profile_options.ProfileOptions.{ProfileOptions}
use Rattle.command_words.specs.declared.run_options.RunOptions.{RunOptions}
use Rattle.xray_io.specs.Calls.{CallMade}
use Rattle.xray_io.specs.World.{DeskView, SinkView}
use Rattle.xray_program.specs.Answers.{IsUnwriting}
use Rattle.xray_program.specs.Doings.{Gives, Takes, Taking}
use Rattle.xray_program.specs.Order.{ReadsInputs}
use Rattle.xray_program.specs.Started.{CameToOutputs, StartsLate}
use Rattle.xray_program.specs.Taking.{Form}
use Rattle.xray_program.specs.declared.stop.Stop.{Stop}
use Rattle.xray_program.specs.declared.stop.Stop.TheVariants as stops
use Rattle.xray_program.specs.private.Stops.{IsUnsaid, answer_of, stop_status}
use Rattle.xray_program.specs.private.Takes.{IsTaken}
use Rattle.xray_program.specs.private.Turns.{StopsHere, Turns}
use Rattle.xray_program.specs.private.Works.{Delivers}

writes_something : (n : ℕ) → (n ≡ 1 → ⊥) → (n ≡ 2 → ⊥) → (n ≡ 3 → ⊥) → (n ≡ 5 → ⊥) → (n ≡ 6 → ⊥) → IsUnwriting n → ⊥
writes_something n a b c d e (inl x) = a x
writes_something n a b c d e (inr (inl x)) = b x
writes_something n a b c d e (inr (inr (inl x))) = c x
writes_something n a b c d e (inr (inr (inr (inl x)))) = d x
writes_something n a b c d e (inr (inr (inr (inr x)))) = e x

-- what is delivered is written
pub delivers_something : (outputs : List (List ℕ × List ℕ)) (text : List ℕ) (trouble : Option (List ℕ)) (desk desk_now : DeskView) (out out_now : SinkView)
    (Way : List CallMade → Type 0) (result : Result (Unit {0}) Stop) → Delivers outputs text trouble desk desk_now out out_now Way result
    → IsUnwriting (answer_of result) → ⊥
delivers_something outputs text trouble desk desk_now out out_now Way (Ok done) does =
    writes_something 0 (λ x. cc) (λ x. cc) (λ x. cc) (λ x. cc) (λ x. cc)
delivers_something outputs text trouble desk desk_now out out_now Way (Err (stops.Fell words)) does =
    writes_something 7 (λ x. cc) (λ x. cc) (λ x. cc) (λ x. cc) (λ x. cc)
delivers_something outputs text trouble desk desk_now out out_now Way (Err (stops.Unwritten n)) does =
    writes_something 4 (λ x. cc) (λ x. cc) (λ x. cc) (λ x. cc) (λ x. cc)
delivers_something outputs text trouble desk desk_now out out_now Way (Err stops.BadLine) does = absurd does
delivers_something outputs text trouble desk desk_now out out_now Way (Err (stops.Unread n)) does = absurd does
delivers_something outputs text trouble desk desk_now out out_now Way (Err (stops.TooLong n)) does = absurd does
delivers_something outputs text trouble desk desk_now out out_now Way (Err (stops.Refused n kind words)) does = absurd does
delivers_something outputs text trouble desk desk_now out out_now Way (Err stops.NoMemory) does = absurd does

-- what ran out of memory has status 5
pub ran_out : (result : Result (Unit {0}) Stop) → IsErrAnd result (λ s. s ≡ stops.NoMemory) → IsUnwriting (answer_of result) → answer_of result ≡ 5
ran_out (Ok done) is = absurd is
ran_out (Err stop) is = λ e. ap stop_status is

-- what ran out of memory has come to no output
no_output : (n : ℕ) → (n ≡ 0 → ⊥) → (n ≡ 4 → ⊥) → (n ≡ 7 → ⊥) → CameToOutputs n → ⊥
no_output n a b c (inl x) = a x
no_output n a b c (inr (inl x)) = b x
no_output n a b c (inr (inr x)) = c x

pub none_at_memory : (result : Result (Unit {0}) Stop) → IsErrAnd result (λ s. s ≡ stops.NoMemory) → CameToOutputs (answer_of result) → ⊥
none_at_memory (Ok done) is = absurd is
none_at_memory (Err stop) is =
    let five : stop_status stop ≡ 5 = ap stop_status is in
    no_output (stop_status stop) (λ x. (let e : 5 ≡ 0 = sym five ∙ x in cc)) (λ x. (let e : 5 ≡ 4 = sym five ∙ x in cc)) (λ x. (let e : 5 ≡ 7 = sym five ∙ x in cc))

-- ---- what stops a call at its words or its inputs has come to no output

-- if a stop comes to no output, neither does what ended with it
pub none_by : (stop : Stop) → (CameToOutputs (stop_status stop) → ⊥) → (result : Result (Unit {0}) Stop) → IsErrAnd result (λ s. s ≡ stop)
    → CameToOutputs (answer_of result) → ⊥
none_by stop none (Ok done) is came = absurd is
none_by stop none (Err s) is came = none (subst (λ (x : Stop). CameToOutputs (stop_status x)) is came)

pub none_unsaid : (said : Option Command) (stop : Stop) → IsUnsaid said stop → CameToOutputs (stop_status stop) → ⊥
none_unsaid said stops.BadLine is = no_output 1 (λ x. cc) (λ x. cc) (λ x. cc)
none_unsaid said stops.NoMemory is = no_output 5 (λ x. cc) (λ x. cc) (λ x. cc)
none_unsaid said (stops.Unread n) is = absurd is
none_unsaid said (stops.TooLong n) is = absurd is
none_unsaid said (stops.Refused n kind words) is = absurd is
none_unsaid said (stops.Unwritten n) is = absurd is
none_unsaid said (stops.Fell words) is = absurd is

none_taken : {X : Type 0} (form : Form X) (name : List ℕ) (before after : DeskView) (stop : Stop) → IsTaken form name before after (Err stop)
    → CameToOutputs (stop_status stop) → ⊥
none_taken form name before after stops.BadLine is = absurd is
none_taken form name before after stops.NoMemory is = no_output 5 (λ x. cc) (λ x. cc) (λ x. cc)
none_taken form name before after (stops.Unread n) is = no_output 3 (λ x. cc) (λ x. cc) (λ x. cc)
none_taken form name before after (stops.TooLong n) is = no_output 6 (λ x. cc) (λ x. cc) (λ x. cc)
none_taken form name before after (stops.Refused n kind words) is = no_output 2 (λ x. cc) (λ x. cc) (λ x. cc)
none_taken form name before after (stops.Unwritten n) is = absurd is
none_taken form name before after (stops.Fell words) is = absurd is

pub none_turns : {Y V : Type 0} {names : List (List ℕ)} (inputs : Taking Y names) (means : V → Y → Type 0) (before after : DeskView)
    (Way : List CallMade → Type 0) (stop : Stop) → Turns inputs means before after Way (Err stop) → CameToOutputs (stop_status stop) → ⊥
none_turns {Y = Y} inputs means before after Way stop turns = none_reached inputs turns.calls.calls turns.calls.are
  where
    none_reached : {names : List (List ℕ)} (left : Taking Y names) (calls : List CallMade)
        → ReadsInputs left before.held (StopsHere before after stop) calls → CameToOutputs (stop_status stop) → ⊥
    none_reached (Takes form name next) calls (inl here) = none_taken form name before after stop here.0
    none_reached (Takes form name next) calls (inr (mine, later, value, all, reads, accepted, on)) = none_reached (next value) later on
    none_reached (Gives y) calls here = absurd here

-- nothing was started
pub unstarted : (said : Option Command) (status : ℕ) (has : Bool) → (CameToOutputs status → ⊥) → StartsLate said status has has
unstarted said status has none =
    record { still = λ e. refl; stopped = λ e. refl; memory = λ e. inl refl; started = λ says came. absurd (none came) }

unwriting : (n : ℕ) → (n ≡ 1) ⊎ (n ≡ 2) ⊎ (n ≡ 3) ⊎ (n ≡ 6) → IsUnwriting n
unwriting n (inl x) = inl x
unwriting n (inr (inl x)) = inr (inl x)
unwriting n (inr (inr (inl x))) = inr (inr (inl x))
unwriting n (inr (inr (inr x))) = inr (inr (inr (inr x)))

not_memory : (n : ℕ) → n ≡ 5 → (n ≡ 1) ⊎ (n ≡ 2) ⊎ (n ≡ 3) ⊎ (n ≡ 6) → ⊥
not_memory n e (inl x) = let both : 5 ≡ 1 = sym e ∙ x in cc
not_memory n e (inr (inl x)) = let both : 5 ≡ 2 = sym e ∙ x in cc
not_memory n e (inr (inr (inl x))) = let both : 5 ≡ 3 = sym e ∙ x in cc
not_memory n e (inr (inr (inr x))) = let both : 5 ≡ 6 = sym e ∙ x in cc

-- a `run` that writes nothing has started no thread
pub run_starts_late : (i s t a : List ℕ) (options : RunOptions) (status : ℕ) (before after : Bool) → (IsUnwriting status → after ≡ before)
    → (CameToOutputs status → after ≡ true) → StartsLate (Some (Run i s t a options)) status before after
run_starts_late i s t a options status before after unchanged started = record {
  still = λ e. absurd cc;
  stopped = λ e. unchanged (unwriting status e);
  memory = λ e. inl (unchanged (inr (inr (inr (inl e)))));
  started = λ says. started;
}

-- nor has a `profile`, unless its report ran out of memory
pub profile_starts_late : (i s : List ℕ) (options : ProfileOptions) (status : ℕ) (before after : Bool) → (IsUnwriting status → status ≡ 5)
    → (CameToOutputs status → after ≡ true) → StartsLate (Some (Profile i s options)) status before after
profile_starts_late i s options status before after only started = record {
  still = λ e. absurd cc;
  stopped = λ e. absurd (not_memory status (only (unwriting status e)) e);
  memory = λ e. inr (i, s, options, refl);
  started = λ says. started;
}
