-- The contract of a call, from how it ends.
use Rattle.std.proofs.Common.{◌≡◌, ◌≢◌, ◌⊎◌, ◌∙◌, ℕ, List, Option, Some, None, Result, Ok, Err, inl, inr, refl, sym, ap, subst}
use Rattle.std.specs.Prelude.{OnOk}
use Rattle.xray_io.specs.Calls.{CallMade, Went}
use Rattle.xray_io.specs.Desk.{Entry, Absent}
use Rattle.xray_io.specs.Faults.{Rose}
use Rattle.xray_program.specs.Answers.{Answered, IsAnswer, LeavesAll, Says}
use Rattle.xray_program.specs.Commands.{Means, HadItsTurn, outputs_named}
use Rattle.xray_program.specs.Headline.{HaveHeadline}
use Rattle.xray_program.specs.Order.{InOrder, IsNoCall}
use Rattle.xray_program.specs.Outcomes.{Outcome, BadLine, Unread, TooLong, Refused, Done, Fell, Ending, With, Unwritten, NoMemory, status_at, err_line_at, written_by}
use Rattle.xray_program.specs.Outputs.{FailsWriting}
use Rattle.command_words.specs.Words.{Command}
use Rattle.xray_program.specs.private.Stops.{answer_of, stop_status, told_of}
use Rattle.xray_program.specs.private.Works.{Ends, KeepsOthers, SaidHasRanges, StandsAfter, Writes}
use Rattle.xray_program.specs.declared.stop.Stop.{Stop}
use Rattle.xray_program.specs.declared.stop.Stop.TheVariants as stops
use Rattle.xray_io.specs.World.{DeskView, World}
use Rattle.xray_program.proofs.Headline.{makes_setup}
use Rattle.xray_program.proofs.CallOrder.{went_as}
use Rattle.xray_program.proofs.ErrLines.{says_nothing}

-- a number is none of these others
not_two : (a b n : ℕ) {P : Type 0} → (n ≡ a → ⊥) → (n ≡ b → ⊥) → (n ≡ a) ⊎ (n ≡ b) → P
not_two a b n p q (inl e) = absurd (p e)
not_two a b n p q (inr e) = absurd (q e)

not_three : (a b c n : ℕ) {P : Type 0} → (n ≡ a → ⊥) → (n ≡ b → ⊥) → (n ≡ c → ⊥) → (n ≡ a) ⊎ (n ≡ b) ⊎ (n ≡ c) → P
not_three a b c n p q r (inl e) = absurd (p e)
not_three a b c n p q r (inr (inl e)) = absurd (q e)
not_three a b c n p q r (inr (inr e)) = absurd (r e)

not_five : (n : ℕ) {P : Type 0} → (n ≡ 1 → ⊥) → (n ≡ 2 → ⊥) → (n ≡ 3 → ⊥) → (n ≡ 5 → ⊥) → (n ≡ 6 → ⊥)
    → (n ≡ 1) ⊎ (n ≡ 2) ⊎ (n ≡ 3) ⊎ (n ≡ 5) ⊎ (n ≡ 6) → P
not_five n a b c d e (inl x) = absurd (a x)
not_five n a b c d e (inr (inl x)) = absurd (b x)
not_five n a b c d e (inr (inr (inl x))) = absurd (c x)
not_five n a b c d e (inr (inr (inr (inl x)))) = absurd (d x)
not_five n a b c d e (inr (inr (inr (inr x)))) = absurd (e x)

-- only a command line that says no command is a bad one
read_it : (said : Option Command) (held : List ℕ → Entry) (outcome : Outcome) → Means said held outcome → outcome ≢ BadLine → said ≢ None
read_it None held outcome meant not e = not meant
read_it (Some command) held outcome meant not e = cc

had_turn : (said : Option Command) (held : List ℕ → Entry) (name : List ℕ) → HadItsTurn said held name → said ≢ None
had_turn None held name turn e = turn
had_turn (Some command) held name turn e = cc

means_bad : (said : Option Command) (held : List ℕ → Entry) → said ≡ None → Means said held BadLine
means_bad None held e = refl
means_bad (Some command) held e = absurd cc

not_bad : (outcome : Outcome) (of : List (List ℕ × List ℕ) × List ℕ) → written_by outcome ≡ Some of → outcome ≢ BadLine
not_bad outcome of writes e = none (rw e at writes)
  where
    none : written_by BadLine ≡ Some of → ⊥
    none e = cc

-- nothing is called if the words say no command
none_called : (said : Option Command) (desk desk_now : DeskView) → said ≡ None → (calls : List CallMade)
    → InOrder said desk desk_now NoMemory calls → IsNoCall calls
none_called None desk desk_now e calls (inl none) = none
none_called None desk desk_now e calls (inr (inl (name, at))) = absurd at
none_called None desk desk_now e calls (inr (inr at)) = absurd at
none_called (Some command) desk desk_now e calls order = absurd cc

-- an outcome that is meant and writes leaves all that it writes
leaves_all : HaveHeadline → (said : Option Command) (before after : World) (outcome : Outcome) (outputs : List (List ℕ × List ℕ)) (text : List ℕ)
    → Means said before.desk.held outcome → written_by outcome ≡ Some (outputs, text)
    → Writes outputs text before.desk after.desk before.out after.out → LeavesAll said before after (With outcome)
leaves_all heads said before after outcome outputs text meant is writes = record {
  outcome = outcome;
  is = refl;
  meant = meant;
  outputs = outputs;
  text = text;
  writes = is;
  whole = writes.whole;
  out = writes.printed;
  desk_calm = writes.desk_calm;
  calm = writes.calm;
  headline = heads said before.desk.held outcome outputs text is meant;
}

-- how the parts of the contract follow, one for each ending
by_ending : HaveHeadline → (Way : List CallMade → Type 0) (said : Option Command) (before after : World) (ending : Ending)
    → (status_at ending ≡ 0 → SaidHasRanges said) → StandsAfter said before.desk after.desk before.out after.out ending → KeepsOthers (outputs_named said) before.desk after.desk
    → Went Way (InOrder said before.desk after.desk ending) → Says before.err after.err (err_line_at ending) → Answered said before after Way (status_at ending)
by_ending heads Way said before after (With BadLine) ranges (is, nothing) kept order told = record {
  ending = With BadLine;
  status = refl;
  told = told;
  order = order;
  done = λ e. not_two 0 7 1 (λ x. cc) (λ x. cc) e;
  silent = λ e. absurd cc;
  bad_line = (λ e. (is, λ x. cc), λ e. refl);
  no_command = λ e. order;
  refused = λ e. record { outcome = BadLine; is = refl; meant = means_bad said before.desk.held is };
  unread = λ e. absurd cc;
  unwritten = λ e. absurd cc;
  memory = λ e. absurd cc;
  untouched = λ e. nothing;
  names = kept;
  complete = inl (BadLine, means_bad said before.desk.held is, refl);
  setup = λ e. absurd cc;
}
by_ending heads Way said before after (With (Refused n kind refusal)) ranges (meant, nothing) kept order told = record {
  ending = With (Refused n kind refusal);
  status = refl;
  told = told;
  order = order;
  done = λ e. not_two 0 7 2 (λ x. cc) (λ x. cc) e;
  silent = λ e. absurd cc;
  bad_line = (λ e. absurd cc, λ e. absurd (read_it said before.desk.held (Refused n kind refusal) meant (λ x. cc) e.0));
  no_command = λ e. absurd (read_it said before.desk.held (Refused n kind refusal) meant (λ x. cc) e);
  refused = λ e. record { outcome = Refused n kind refusal; is = refl; meant = meant };
  unread = λ e. absurd cc;
  unwritten = λ e. absurd cc;
  memory = λ e. absurd cc;
  untouched = λ e. nothing;
  names = kept;
  complete = inl (Refused n kind refusal, meant, refl);
  setup = λ e. absurd cc;
}
by_ending heads Way said before after (With (TooLong n)) ranges (meant, nothing) kept order told = record {
  ending = With (TooLong n);
  status = refl;
  told = told;
  order = order;
  done = λ e. not_two 0 7 6 (λ x. cc) (λ x. cc) e;
  silent = λ e. absurd cc;
  bad_line = (λ e. absurd cc, λ e. absurd (read_it said before.desk.held (TooLong n) meant (λ x. cc) e.0));
  no_command = λ e. absurd (read_it said before.desk.held (TooLong n) meant (λ x. cc) e);
  refused = λ e. record { outcome = TooLong n; is = refl; meant = meant };
  unread = λ e. absurd cc;
  unwritten = λ e. absurd cc;
  memory = λ e. absurd cc;
  untouched = λ e. nothing;
  names = kept;
  complete = inl (TooLong n, meant, refl);
  setup = λ e. absurd cc;
}
by_ending heads Way said before after (With (Unread n)) ranges ((turn, cause), nothing) kept order told = record {
  ending = With (Unread n);
  status = refl;
  told = told;
  order = order;
  done = λ e. not_two 0 7 3 (λ x. cc) (λ x. cc) e;
  silent = λ e. absurd cc;
  bad_line = (λ e. absurd cc, λ e. absurd (had_turn said before.desk.held n turn e.0));
  no_command = λ e. absurd (had_turn said before.desk.held n turn e);
  refused = λ e. not_three 1 2 6 3 (λ x. cc) (λ x. cc) (λ x. cc) e;
  unread = λ e. record { name = n; is = refl; turn = turn; cause = cause };
  unwritten = λ e. absurd cc;
  memory = λ e. absurd cc;
  untouched = λ e. nothing;
  names = kept;
  complete = answers cause;
  setup = λ e. absurd cc;
}
  where
    answers : Rose before.desk.read_faults after.desk.read_faults ⊎ ((before.desk.held n ≡ Absent) × Means said before.desk.held (Unread n))
        → IsAnswer said before after 3
    answers (inl rose) = inr (inr (inl (refl, rose)))
    answers (inr (absent, meant)) = inl (Unread n, meant, refl)
by_ending heads Way said before after (With (Done outputs text)) ranges (meant, writes) kept order told = record {
  ending = With (Done outputs text);
  status = refl;
  told = told;
  order = order;
  done = λ e. leaves_all heads said before after (Done outputs text) outputs text meant refl writes;
  silent = λ e. says_nothing before.err after.err told;
  bad_line = (λ e. absurd cc, λ e. absurd (read_it said before.desk.held (Done outputs text) meant (λ x. cc) e.0));
  no_command = λ e. absurd (read_it said before.desk.held (Done outputs text) meant (λ x. cc) e);
  refused = λ e. not_three 1 2 6 0 (λ x. cc) (λ x. cc) (λ x. cc) e;
  unread = λ e. absurd cc;
  unwritten = λ e. absurd cc;
  memory = λ e. absurd cc;
  untouched = λ e. not_five 0 (λ x. cc) (λ x. cc) (λ x. cc) (λ x. cc) (λ x. cc) e;
  names = kept;
  complete = inl (Done outputs text, meant, refl);
  setup = λ e. makes_setup said (ranges refl);
}
by_ending heads Way said before after (With (Fell outputs text trouble)) ranges (meant, writes) kept order told = record {
  ending = With (Fell outputs text trouble);
  status = refl;
  told = told;
  order = order;
  done = λ e. leaves_all heads said before after (Fell outputs text trouble) outputs text meant refl writes;
  silent = λ e. absurd cc;
  bad_line = (λ e. absurd cc, λ e. absurd (read_it said before.desk.held (Fell outputs text trouble) meant (λ x. cc) e.0));
  no_command = λ e. absurd (read_it said before.desk.held (Fell outputs text trouble) meant (λ x. cc) e);
  refused = λ e. not_three 1 2 6 7 (λ x. cc) (λ x. cc) (λ x. cc) e;
  unread = λ e. absurd cc;
  unwritten = λ e. absurd cc;
  memory = λ e. absurd cc;
  untouched = λ e. not_five 7 (λ x. cc) (λ x. cc) (λ x. cc) (λ x. cc) (λ x. cc) e;
  names = kept;
  complete = inl (Fell outputs text trouble, meant, refl);
  setup = λ e. absurd cc;
}
by_ending heads Way said before after (Unwritten n outputs) ranges fails kept order told = record {
  ending = Unwritten n outputs;
  status = refl;
  told = told;
  order = order;
  done = λ e. not_two 0 7 4 (λ x. cc) (λ x. cc) e;
  silent = λ e. absurd cc;
  bad_line = (λ e. absurd cc, λ e. absurd (read_it said before.desk.held fails.outcome fails.comes (not_bad fails.outcome (fails.outputs, fails.text) fails.writes) e.0));
  no_command = λ e. absurd (read_it said before.desk.held fails.outcome fails.comes (not_bad fails.outcome (fails.outputs, fails.text) fails.writes) e);
  refused = λ e. not_three 1 2 6 4 (λ x. cc) (λ x. cc) (λ x. cc) e;
  unread = λ e. absurd cc;
  unwritten = λ e. record {
    name = n;
    outcome = fails.outcome;
    meant = fails.comes;
    outputs = fails.outputs;
    text = fails.text;
    is = ap (λ (o : List (List ℕ × List ℕ)). Unwritten n o) (sym fails.then_so);
    writes = fails.writes;
    failed = fails.failed;
  };
  memory = λ e. absurd cc;
  untouched = λ e. not_five 4 (λ x. cc) (λ x. cc) (λ x. cc) (λ x. cc) (λ x. cc) e;
  names = kept;
  complete = inr (inr (inr (refl, fault fails.failed)));
  setup = λ e. absurd cc;
}
  where
    fault : FailsWriting fails.outputs fails.text before.desk after.desk before.out after.out n
        → Rose before.desk.write_faults after.desk.write_faults ⊎ Rose before.out.faults after.out.faults
    fault (inl (at, silent)) = inl at.fault
    fault (inr at) = inr at.fault
by_ending heads Way said before after NoMemory ranges nothing kept order told = record {
  ending = NoMemory;
  status = refl;
  told = told;
  order = order;
  done = λ e. not_two 0 7 5 (λ x. cc) (λ x. cc) e;
  silent = λ e. absurd cc;
  bad_line = (λ e. absurd cc, λ e. absurd (e.1 refl));
  no_command = λ e. went_as Way (InOrder said before.desk after.desk NoMemory) IsNoCall order (none_called said before.desk after.desk e);
  refused = λ e. not_three 1 2 6 5 (λ x. cc) (λ x. cc) (λ x. cc) e;
  unread = λ e. absurd cc;
  unwritten = λ e. absurd cc;
  memory = λ e. refl;
  untouched = λ e. nothing;
  names = kept;
  complete = inr (inl refl);
  setup = λ e. absurd cc;
}

-- a call that ended in this way, with its line on err
pub answered : HaveHeadline → (Way : List CallMade → Type 0) (said : Option Command) (before after : World) (answer : ℕ) (line : List ℕ)
    → (answer ≡ 0 → SaidHasRanges said) → Ends said before.desk after.desk before.out after.out Way answer line → Says before.err after.err line
    → Answered said before after Way answer
answered heads Way said before after answer line ranges ends says =
    subst (Answered said before after Way) ends.status
    (by_ending heads Way said before after ends.ending (λ e. ranges (sym ends.status ∙ e)) ends.stands ends.names ends.order
    (subst (λ (l : List ℕ). Says before.err after.err l) (sym ends.told) says))

-- what stopped a call isn't 0
pub stops_above : (stop : Stop) → stop_status stop ≡ 0 → ⊥
stops_above stops.BadLine e = cc
stops_above (stops.Unread n) e = cc
stops_above (stops.TooLong n) e = cc
stops_above (stops.Refused n kind words) e = cc
stops_above (stops.Fell words) e = cc
stops_above (stops.Unwritten n) e = cc
stops_above stops.NoMemory e = cc

ranges_at : {P : Type 0} (ended : Result (Unit {0}) Stop) → OnOk ended P → answer_of ended ≡ 0 → P
ranges_at (Ok done) ranges none = ranges
ranges_at (Err stop) ranges none = absurd (stops_above stop none)

-- a call that answers the status of its end, and says its line
pub answers_its_end : HaveHeadline → {Way : List CallMade → Type 0} {said : Option Command} {before after : World} {answer : ℕ} (ended : Result (Unit {0}) Stop)
    → Ends said before.desk after.desk before.out after.out Way (answer_of ended) (told_of ended) → OnOk ended (SaidHasRanges said)
    → Says before.err after.err (told_of ended) → answer ≡ answer_of ended → Answered said before after Way answer
answers_its_end heads {Way = Way} {said = said} {before = before} {after = after} {answer = answer} ended ends ranges says is =
    subst (Answered said before after Way) (sym is)
    (answered heads Way said before after (answer_of ended) (told_of ended) (ranges_at ended ranges) ends says)
