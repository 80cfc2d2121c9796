-- The text of a script without its waits reads as the script without its waits.
use Rattle.std.proofs.Common.{◌≡◌, inl, inr, ℕ, suc, ◌+◌, ◌<◌, ◌≤◌, Bool, true, false, cond, List, [], ◌∷◌, ◌++◌, append-nil, Option, Some, None, refl, sym, ap, subst, ◌∙◌, arith, length}
use Rattle.std.specs.Prelude.{◌==◌, ◌||◌, ◌⊎◌, Result, Ok, Err, filter, find, nat_le, not, option_map}
use Rattle.std.specs.List.{enumerate_from, list_any}
use Rattle.std.specs.Str.Lines.{lines}
use Rattle.std.proofs.lemmas.Bool.{leb-false, lt-leb}
use Rattle.std.proofs.lemmas.Bool.Decides.{Decides-eqb, nat_tests}
use Rattle.std.proofs.lemmas.List.{length-map, map-append}
use Rattle.std.proofs.lemmas.List.Elements.{filter-append}
use Rattle.std.proofs.lemmas.List.Sums.{count_by-le-length, length-filter}
use Rattle.xray_io.specs.Rows.{◌>>=◌}
use Rattle.text_lines.specs.Lines.{numbered_lines}
use Rattle.text_lines.specs.Words.{is_clean, words_of}
use Rattle.xray_image.specs.Program.{Program}
use Rattle.patch_script.specs.declared.command.PatchCommand.{PatchCommand}
use Rattle.patch_script.specs.declared.command.PatchCommand.TheVariants as commands
use Rattle.patch_script.specs.declared.fault.ScriptFault.{ScriptFault}
use Rattle.patch_script.specs.declared.fault.ScriptFault.TheVariants as faults
use Rattle.patch_script.specs.Language.{command_of}
use Rattle.patch_script.specs.Micros.{is_go}
use Rattle.patch_script.specs.Plans.{Plan, is_waiting, plan_of, waiting_line}
use Rattle.patch_script.specs.Refusals.{Lines, commands_of, has_go, holds_for_good, names_no_function, names_no_thread, is_beyond, is_finalize, is_init, is_misplaced, breaks_hold, breaks_log, waits_for_itself, IsAdmitted, judged, spoken, command_in, with_line, read_lines, ended}
use Rattle.run_order.specs.FreeScripts.{begins_wait, free_commands, free_text}
use Rattle.run_order.proofs.FreeLines.{free_lines, stays_line}
use Rattle.run_order.proofs.FreeMicros.{AllRelease, Releases, go_stays}
use Rattle.run_order.proofs.FreeWords.{first_word_tells}

-- ---- results

pub same_Ok : {A : Type 0} (x y : A) → ◌≡◌ {A = Result A ScriptFault} (Ok x) (Ok y) → x ≡ y
same_Ok x y e = cc

pub bind_ok : {A B : Type 0} (r : Result A ScriptFault) (f : A → Result B ScriptFault) (y : B) → (r >>= f) ≡ Ok y → (x : A) × (r ≡ Ok x) × (f x ≡ Ok y)
bind_ok (Ok x) f y e = (x, refl, e)
bind_ok (Err fault) f y e = absurd cc

-- ---- commands that stay

-- a test that no command which waits passes
any_stays : (test : PatchCommand → Bool) → ((command : PatchCommand) → is_waiting command ≡ true → test command ≡ false) → (script : List PatchCommand)
    → list_any test (free_commands script) ≡ list_any test script
any_stays test none [] = refl
any_stays test none (command ∷ script) = by_waiting (is_waiting command) refl (any_stays test none script)
  where
    by_waiting : (b : Bool) → is_waiting command ≡ b → list_any test (free_commands script) ≡ list_any test script
        → list_any test (free_commands (command ∷ script)) ≡ list_any test (command ∷ script)
    by_waiting true is rest =
        ap (λ b. list_any test (cond (not b) (command ∷ free_commands script) (free_commands script))) is ∙ rest
        ∙ ap (λ b. b || list_any test script) (sym (none command is))
    by_waiting false is rest =
        ap (λ b. list_any test (cond (not b) (command ∷ free_commands script) (free_commands script))) is
        ∙ ap (λ b. test command || b) rest

init_stays : (command : PatchCommand) → is_waiting command ≡ true → is_init command ≡ false
init_stays commands.Init e = absurd cc
init_stays commands.Patch e = refl
init_stays commands.Unpatch e = refl
init_stays (commands.PatchFunction id) e = refl
init_stays (commands.UnpatchFunction id) e = refl
init_stays commands.SetHandler e = refl
init_stays commands.RemoveHandler e = refl
init_stays commands.SetArgHandler e = refl
init_stays commands.RemoveArgHandler e = refl
init_stays commands.Go e = refl
init_stays commands.Finalize e = refl
init_stays (commands.Hold thread passing) e = refl
init_stays (commands.Release thread) e = refl
init_stays (commands.Await thread count) e = refl

finalize_stays : (command : PatchCommand) → is_waiting command ≡ true → is_finalize command ≡ false
finalize_stays commands.Finalize e = absurd cc
finalize_stays commands.Patch e = refl
finalize_stays commands.Unpatch e = refl
finalize_stays (commands.PatchFunction id) e = refl
finalize_stays (commands.UnpatchFunction id) e = refl
finalize_stays commands.SetHandler e = refl
finalize_stays commands.RemoveHandler e = refl
finalize_stays commands.SetArgHandler e = refl
finalize_stays commands.RemoveArgHandler e = refl
finalize_stays commands.Go e = refl
finalize_stays commands.Init e = refl
finalize_stays (commands.Hold thread passing) e = refl
finalize_stays (commands.Release thread) e = refl
finalize_stays (commands.Await thread count) e = refl

-- none of them holds a thread
none_held : (script all : List PatchCommand) → list_any (holds_for_good all) (free_commands script) ≡ false
none_held [] all = refl
none_held (commands.Patch ∷ script) all = none_held script all
none_held (commands.Unpatch ∷ script) all = none_held script all
none_held (commands.PatchFunction id ∷ script) all = none_held script all
none_held (commands.UnpatchFunction id ∷ script) all = none_held script all
none_held (commands.SetHandler ∷ script) all = none_held script all
none_held (commands.RemoveHandler ∷ script) all = none_held script all
none_held (commands.SetArgHandler ∷ script) all = none_held script all
none_held (commands.RemoveArgHandler ∷ script) all = none_held script all
none_held (commands.Init ∷ script) all = none_held script all
none_held (commands.Finalize ∷ script) all = none_held script all
none_held (commands.Go ∷ script) all = none_held script all
none_held (commands.Hold thread passing ∷ script) all = none_held script all
none_held (commands.Release thread ∷ script) all = none_held script all
none_held (commands.Await thread count ∷ script) all = none_held script all

-- one more command
free_more : (script : List PatchCommand) (command : PatchCommand) (b : Bool) → is_waiting command ≡ b
    → free_commands (script ++ command ∷ []) ≡ free_commands script ++ cond b [] (command ∷ [])
free_more script command true is =
    filter-append (λ c. not (is_waiting c)) script (command ∷ [])
    ∙ ap (λ b. free_commands script ++ cond (not b) (command ∷ []) []) is
free_more script command false is =
    filter-append (λ c. not (is_waiting c)) script (command ∷ [])
    ∙ ap (λ b. free_commands script ++ cond (not b) (command ∷ []) []) is

free_few : (script : List PatchCommand) → length (free_commands script) ≤ length script
free_few script = omega (arith, length-filter (λ c. not (is_waiting c)) script, count_by-le-length (λ c. not (is_waiting c)) script)

-- ---- a command that stays may follow those that stay

-- it is refused by what waits as little as before
may_follow : (program : Program) (threads : ℕ) (before : List PatchCommand) (command : PatchCommand) → is_waiting command ≡ false
    → IsAdmitted program threads before command → IsAdmitted program threads (free_commands before) command
may_follow program threads before commands.Patch is a = record { function = refl; thread = refl; place = refl; hold = refl; log = refl; wait = refl }
may_follow program threads before commands.Unpatch is a = record { function = refl; thread = refl; place = refl; hold = refl; log = refl; wait = refl }
may_follow program threads before (commands.PatchFunction id) is a =
    record { function = a.function; thread = refl; place = refl; hold = refl; log = refl; wait = refl }
may_follow program threads before (commands.UnpatchFunction id) is a =
    record { function = a.function; thread = refl; place = refl; hold = refl; log = refl; wait = refl }
may_follow program threads before commands.SetHandler is a = record { function = refl; thread = refl; place = refl; hold = refl; log = refl; wait = refl }
may_follow program threads before commands.RemoveHandler is a = record { function = refl; thread = refl; place = refl; hold = refl; log = refl; wait = refl }
may_follow program threads before commands.SetArgHandler is a = record { function = refl; thread = refl; place = refl; hold = refl; log = refl; wait = refl }
may_follow program threads before commands.RemoveArgHandler is a = record { function = refl; thread = refl; place = refl; hold = refl; log = refl; wait = refl }
may_follow program threads before commands.Init is a =
    record { function = refl; thread = refl; place = refl; hold = refl; log = any_stays is_init init_stays before ∙ a.log; wait = refl }
may_follow program threads before commands.Finalize is a = record {
  function = refl;
  thread = refl;
  place = refl;
  hold = refl;
  log =
      ap (λ b. not b || list_any is_finalize (free_commands before)) (any_stays is_init init_stays before)
      ∙ ap (λ b. not (list_any is_init before) || b) (any_stays is_finalize finalize_stays before) ∙ a.log;
  wait = refl;
}
may_follow program threads before commands.Go is a =
    record { function = refl; thread = refl; place = any_stays is_go go_stays before ∙ a.place; hold = refl; log = refl; wait = refl }
may_follow program threads before (commands.Hold thread passing) is a = absurd cc
may_follow program threads before (commands.Release thread) is a = absurd cc
may_follow program threads before (commands.Await thread count) is a = absurd cc

-- ---- a line

six : {A : Type 0} (a b c d e f : Bool) (p q r s t u : ScriptFault) (y x : A)
    → ◌≡◌ {A = Result A ScriptFault} (cond a (Err p) (cond b (Err q) (cond c (Err r) (cond d (Err s) (cond e (Err t) (cond f (Err u) (Ok y))))))) (Ok x)
    → (a ≡ false) × (b ≡ false) × (c ≡ false) × (d ≡ false) × (e ≡ false) × (f ≡ false) × (y ≡ x)
six true b c d e f p q r s t u y x is = absurd cc
six false true c d e f p q r s t u y x is = absurd cc
six false false true d e f p q r s t u y x is = absurd cc
six false false false true e f p q r s t u y x is = absurd cc
six false false false false true f p q r s t u y x is = absurd cc
six false false false false false true p q r s t u y x is = absurd cc
six false false false false false false p q r s t u y x is = (refl, refl, refl, refl, refl, refl, same_Ok y x is)

six_false : {A : Type 0} (a b c d e f : Bool) (p q r s t u : ScriptFault) (y : A)
    → a ≡ false → b ≡ false → c ≡ false → d ≡ false → e ≡ false → f ≡ false
    → ◌≡◌ {A = Result A ScriptFault} (cond a (Err p) (cond b (Err q) (cond c (Err r) (cond d (Err s) (cond e (Err t) (cond f (Err u) (Ok y))))))) (Ok y)
six_false a b c d e f p q r s t u y ha hb hc hd he hf = rw (ha, hb, hc, hd, he, hf) refl

module _ (program : Program) (threads : ℕ) where
  -- a line says nothing, or a command that no row refuses
  pub record Says (before : Lines) (number : ℕ) (line : List ℕ) (after : Lines) (command : PatchCommand) : Type 0 where
    pub blank : (length (words_of line) == 0) ≡ false
    pub room : length before < 1024
    pub said : command_in line ≡ Some command
    pub admitted : IsAdmitted program threads (commands_of before) command
    pub adds : before ++ (number, command) ∷ [] ≡ after

  judged_says : (before : Lines) (number : ℕ) (line : List ℕ) (after : Lines) (command : PatchCommand) → (length (words_of line) == 0) ≡ false → length before < 1024
      → command_in line ≡ Some command → judged program threads before number command ≡ Ok after → Says before number line after command
  judged_says before number line after command blank room said e =
      let all = six (names_no_function program command) (names_no_thread threads command) (is_misplaced (commands_of before) command)
      (breaks_hold (commands_of before) command) (breaks_log (commands_of before) command) (waits_for_itself (commands_of before) command)
      (faults.Function number) (faults.Thread number) (faults.Go number) (faults.Hold number) (faults.Log number) (faults.SelfWait number)
      (before ++ (number, command) ∷ []) after e in
      record {
        blank = blank;
        room = room;
        said = said;
        admitted = record { function = all.0; thread = all.1; place = all.2; hold = all.3; log = all.4; wait = all.5 };
        adds = all.6;
      }

  pub line_says : (before : Lines) (number : ℕ) (line : List ℕ) (after : Lines) → with_line program threads before (number, line) ≡ Ok after
      → (((length (words_of line) == 0) ≡ true) × (before ≡ after)) ⊎ ((command : PatchCommand) × Says before number line after command)
  line_says before number line after e = chosen (length (words_of line) == 0) refl (nat_le 1024 (length before)) refl (command_in line) refl e
    where
      chosen : (blank : Bool) → (length (words_of line) == 0) ≡ blank → (full : Bool) → nat_le 1024 (length before) ≡ full
          → (said : Option PatchCommand) → command_in line ≡ said
          → cond blank (Ok before) (cond full (Err (faults.Limit number)) (spoken program threads before number said)) ≡ Ok after
          → (((length (words_of line) == 0) ≡ true) × (before ≡ after)) ⊎ ((command : PatchCommand) × Says before number line after command)
      chosen true blank full is said words e = inl (blank, same_Ok before after e)
      chosen false blank true is said words e = absurd cc
      chosen false blank false is None words e = absurd cc
      chosen false blank false is (Some command) words e =
          inr (command, judged_says before number line after command blank (let more = leb-false 1024 (length before) is in omega arith) words e)

  -- a line that says a command is read so, whatever its number is
  line_read : (before : Lines) (number : ℕ) (line : List ℕ) (command : PatchCommand) → (length (words_of line) == 0) ≡ false → length before < 1024
      → command_in line ≡ Some command → IsAdmitted program threads (commands_of before) command
      → with_line program threads before (number, line) ≡ Ok (before ++ (number, command) ∷ [])
  line_read before number line command blank room said h =
      let few : nat_le 1024 (length before) ≡ false = lt-leb 1024 (length before) (omega (arith, room)) in
      ap (λ t. cond t (Ok before) (cond (nat_le 1024 (length before)) (Err (faults.Limit number)) (spoken program threads before number (command_in line)))) blank
      ∙ ap (λ t. cond t (Err (faults.Limit number)) (spoken program threads before number (command_in line))) few
      ∙ ap (spoken program threads before number) said
      ∙ six_false (names_no_function program command) (names_no_thread threads command) (is_misplaced (commands_of before) command)
      (breaks_hold (commands_of before) command) (breaks_log (commands_of before) command) (waits_for_itself (commands_of before) command)
      (faults.Function number) (faults.Thread number) (faults.Go number) (faults.Hold number) (faults.Log number) (faults.SelfWait number)
      (before ++ (number, command) ∷ []) h.function h.thread h.place h.hold h.log h.wait

  -- ---- what a line says begins with its words

  -- a line with a command waits exactly if its first word does
  stays_by : (line : List ℕ) (command : PatchCommand) → command_in line ≡ Some command → stays_line line ≡ not (is_waiting command)
  stays_by line command e = by_clean (is_clean line) e
    where
      by_clean : (b : Bool) → cond b (command_of (words_of line)) None ≡ Some command → stays_line line ≡ not (is_waiting command)
      by_clean true e = ap not (first_word_tells (words_of line) command e)
      by_clean false e = absurd cc

  blank_stays : (line : List ℕ) → (length (words_of line) == 0) ≡ true → stays_line line ≡ true
  blank_stays line e = by_words (words_of line) e
    where
      by_words : (words : List (List ℕ)) → (length words == 0) ≡ true → not (begins_wait words) ≡ true
      by_words [] e = refl
      by_words (word ∷ words) e = absurd (not_zero (length words) e)
        where
          not_zero : (n : ℕ) → (suc n == 0) ≡ true → ⊥
          not_zero n e = omega (arith, (Decides-eqb (suc n) 0).0 e)

  -- ---- all lines

  -- the lines that stay are read as the commands that stay
  record FreelyRead (free : Lines) (lines : List (ℕ × List ℕ)) (all : Lines) : Type 0 where
    said : Lines
    read : read_lines program threads free lines ≡ Ok said
    are : commands_of said ≡ free_commands (commands_of all)
    releases : AllRelease threads (commands_of all)

  releases_more : (script : List PatchCommand) (command : PatchCommand) → AllRelease threads script → Releases threads command → AllRelease threads (script ++ command ∷ [])
  releases_more [] command all last = (last, tt)
  releases_more (first ∷ script) command all last = (all.0, releases_more script command all.1 last)

  admitted_releases : (before : List PatchCommand) (command : PatchCommand) → IsAdmitted program threads before command → Releases threads command
  admitted_releases before (commands.Release thread) a = within (a.thread)
    where
      within : is_beyond threads thread ≡ false → (0 < thread) × (thread ≤ threads)
      within e = (some thread e, grind (arith, nat_tests))
        where
          some : (thread : ℕ) → is_beyond threads thread ≡ false → 0 < thread
          some thread e = grind (arith, nat_tests)
  admitted_releases before commands.Patch a = tt
  admitted_releases before commands.Unpatch a = tt
  admitted_releases before (commands.PatchFunction id) a = tt
  admitted_releases before (commands.UnpatchFunction id) a = tt
  admitted_releases before commands.SetHandler a = tt
  admitted_releases before commands.RemoveHandler a = tt
  admitted_releases before commands.SetArgHandler a = tt
  admitted_releases before commands.RemoveArgHandler a = tt
  admitted_releases before commands.Init a = tt
  admitted_releases before commands.Finalize a = tt
  admitted_releases before commands.Go a = tt
  admitted_releases before (commands.Hold thread passing) a = tt
  admitted_releases before (commands.Await thread count) a = tt

  -- a command more, and the lines after it
  command_more : (line : List ℕ) (lines : List (List ℕ)) (number other : ℕ) (before free mid all : Lines) (command : PatchCommand)
      → commands_of free ≡ free_commands (commands_of before) → AllRelease threads (commands_of before) → Says before number line mid command
      → ((next : ℕ) (mine : Lines) → commands_of mine ≡ free_commands (commands_of mid) → AllRelease threads (commands_of mid)
      → FreelyRead mine (enumerate_from next (filter stays_line lines)) all)
      → (b : Bool) → is_waiting command ≡ b → FreelyRead free (enumerate_from other (filter stays_line (line ∷ lines))) all
  command_more line lines number other before free mid all command same releases says later b is =
      by_waiting b is
    where
      mid_commands : commands_of mid ≡ commands_of before ++ command ∷ []
      mid_commands = ap commands_of (sym says.adds) ∙ map-append (λ (l : ℕ × PatchCommand). l.1) before ((number, command) ∷ [])

      more : AllRelease threads (commands_of mid)
      more =
          subst (λ (cs : List PatchCommand). AllRelease threads cs) (sym mid_commands)
          (releases_more (commands_of before) command releases (admitted_releases (commands_of before) command says.admitted))

      stay : stays_line line ≡ not (is_waiting command)
      stay = stays_by line command says.said

      by_waiting : (b : Bool) → is_waiting command ≡ b → FreelyRead free (enumerate_from other (filter stays_line (line ∷ lines))) all
      by_waiting true is =
          let rest = later other free (same ∙ sym (ap free_commands mid_commands ∙ free_more (commands_of before) command true is ∙ append-nil (free_commands (commands_of before)))) more in
          record {
            said = rest.said;
            read =
                ap (λ b. read_lines program threads free (enumerate_from other (cond b (line ∷ filter stays_line lines) (filter stays_line lines)))) (stay ∙ ap not is)
                ∙ rest.read;
            are = rest.are;
            releases = rest.releases;
          }
      by_waiting false is =
          let own : Lines = free ++ (other, command) ∷ [] in
          let own_commands : commands_of own ≡ free_commands (commands_of mid) =
          map-append (λ (l : ℕ × PatchCommand). l.1) free ((other, command) ∷ [])
          ∙ ap (λ (cs : List PatchCommand). cs ++ command ∷ []) same
          ∙ sym (ap free_commands mid_commands ∙ free_more (commands_of before) command false is) in
          let rest = later (other + 1) own own_commands more in
          let few : length free < 1024 =
          omega (
            arith,
            says.room,
            ap length same,
            free_few (commands_of before),
            length-map free (λ (l : ℕ × PatchCommand). l.1),
            length-map before (λ (l : ℕ × PatchCommand). l.1),
          ) in
          let admitted : IsAdmitted program threads (commands_of free) command =
          subst (λ (cs : List PatchCommand). IsAdmitted program threads cs command) (sym same)
          (may_follow program threads (commands_of before) command is says.admitted) in
          record {
            said = rest.said;
            read =
                ap (λ b. read_lines program threads free (enumerate_from other (cond b (line ∷ filter stays_line lines) (filter stays_line lines)))) (stay ∙ ap not is)
                ∙ ap (λ (r : Result Lines ScriptFault). r >>= λ ls. read_lines program threads ls (enumerate_from (other + 1) (filter stays_line lines)))
                (line_read free other line command says.blank few says.said admitted)
                ∙ rest.read;
            are = rest.are;
            releases = rest.releases;
          }

  freely_read : (lines : List (List ℕ)) (number other : ℕ) (before free all : Lines) → commands_of free ≡ free_commands (commands_of before)
      → AllRelease threads (commands_of before) → read_lines program threads before (enumerate_from number lines) ≡ Ok all
      → FreelyRead free (enumerate_from other (filter stays_line lines)) all
  freely_read [] number other before free all same releases e =
      let is : before ≡ all = same_Ok before all e in
      subst (λ (ls : Lines). FreelyRead free [] ls) is (record { said = free; read = refl; are = same; releases = releases })
  freely_read (line ∷ lines) number other before free all same releases e =
      let parts = bind_ok (with_line program threads before (number, line)) (λ ls. read_lines program threads ls (enumerate_from (number + 1) lines)) all e in
      elim (line_says before number line parts.0 parts.1) [
        | inl blank ↦
            let rest = freely_read lines (number + 1) (other + 1) parts.0 free all
            (same ∙ ap (λ (ls : Lines). free_commands (commands_of ls)) blank.1)
            (subst (λ (ls : Lines). AllRelease threads (commands_of ls)) blank.1 releases) parts.2 in
            let one : with_line program threads free (other, line) ≡ Ok free =
            ap (λ t. cond t (Ok free) (cond (nat_le 1024 (length free)) (Err (faults.Limit other)) (spoken program threads free other (command_in line)))) blank.0 in
            record {
              said = rest.said;
              read =
                  ap (λ b. read_lines program threads free (enumerate_from other (cond b (line ∷ filter stays_line lines) (filter stays_line lines)))) (blank_stays line blank.0)
                  ∙ ap (λ (r : Result Lines ScriptFault). r >>= λ ls. read_lines program threads ls (enumerate_from (other + 1) (filter stays_line lines))) one
                  ∙ rest.read;
              are = rest.are;
              releases = rest.releases;
            }
        | inr says ↦
            command_more line lines number other before free parts.0 all says.0 same releases says.1
            (λ next mine same_next more. freely_read lines (number + 1) next parts.0 mine all same_next more parts.2) (is_waiting says.0) refl
      ]

-- ---- the whole text

-- the script without waits, as it is read
pub record FreePlan (program : Program) (threads : ℕ) (text : List ℕ) (plan : Plan) : Type 0 where
  pub free : Plan
  pub reads : plan_of program threads (free_text text) ≡ Ok free
  pub program_is : free.program ≡ program
  pub threads_are : free.threads ≡ threads
  pub commands_are : commands_of free.lines ≡ free_commands (commands_of plan.lines)
  pub releases : AllRelease threads (commands_of plan.lines)

pub ended_ok : (number : ℕ) (said x : Lines) → ended number said ≡ Ok x → (has_go (commands_of said) ≡ true) × (said ≡ x)
ended_ok number said x e = picked (has_go (commands_of said)) (list_any (holds_for_good (commands_of said)) (commands_of said)) e
  where
    picked : (going held : Bool) → cond (not going) (Err (faults.Go number)) (cond held (Err (faults.Hold number)) (Ok said)) ≡ Ok x → (going ≡ true) × (said ≡ x)
    picked true true is = absurd cc
    picked true false is = (refl, same_Ok said x is)
    picked false held is = absurd cc

pub free_plan : (program : Program) (threads : ℕ) (text : List ℕ) (plan : Plan) → plan_of program threads text ≡ Ok plan → FreePlan program threads text plan
free_plan program threads text plan e =
    let number = length (lines text) + 1 in
    let whole = bind_ok (read_lines program threads [] (numbered_lines text) >>= (λ said. ended number said)) (λ said. Ok (record { program = program; threads = threads; lines = said })) plan e in
    let parts = bind_ok (read_lines program threads [] (numbered_lines text)) (λ said. ended number said) whole.0 whole.1 in
    let end = ended_ok number parts.0 whole.0 parts.2 in
    let all : Lines = parts.0 in
    let read = freely_read program threads (lines text) 1 1 [] [] all refl tt parts.1 in
    let made : Plan = record { program = program; threads = threads; lines = whole.0 } in
    let same : made ≡ plan = same_Ok made plan whole.2 in
    let lines_are : all ≡ plan.lines = end.1 ∙ ap (λ (p : Plan). p.lines) same in
    let last : ℕ = length (lines (free_text text)) + 1 in
    let goes : has_go (commands_of read.said) ≡ true = ap has_go read.are ∙ any_stays is_go go_stays (commands_of all) ∙ end.0 in
    let held : list_any (holds_for_good (commands_of read.said)) (commands_of read.said) ≡ false =
    ap (λ (cs : List PatchCommand). list_any (holds_for_good (commands_of read.said)) cs) read.are ∙ none_held (commands_of all) (commands_of read.said) in
    let ends : ended last read.said ≡ Ok read.said = rw (goes, held) refl in
    let reads : read_lines program threads [] (numbered_lines (free_text text)) ≡ Ok read.said =
    ap (λ (ls : List (List ℕ)). read_lines program threads [] (enumerate_from 1 ls)) (free_lines text) ∙ read.read in
    record {
      free = record { program = program; threads = threads; lines = read.said };
      reads =
          ap (λ (r : Result Lines ScriptFault). r >>= (λ ls. ended last ls) >>= λ ls. Ok (record { program = program; threads = threads; lines = ls })) reads
          ∙ ap (λ (r : Result Lines ScriptFault). r >>= λ ls. Ok (record { program = program; threads = threads; lines = ls })) ends;
      program_is = refl;
      threads_are = refl;
      commands_are = read.are ∙ ap (λ (ls : Lines). free_commands (commands_of ls)) lines_are;
      releases = subst (λ (ls : Lines). AllRelease threads (commands_of ls)) lines_are read.releases;
    }

-- ---- nothing waits in it

no_waits : (lines : Lines) (script : List PatchCommand) → commands_of lines ≡ free_commands script → waiting_line lines ≡ None
no_waits lines script same = none_waiting lines (ap (list_any is_waiting) same ∙ none_free script)
  where
    none_free : (script : List PatchCommand) → list_any is_waiting (free_commands script) ≡ false
    none_free [] = refl
    none_free (command ∷ script) = by_waiting (is_waiting command) refl (none_free script)
      where
        by_waiting : (b : Bool) → is_waiting command ≡ b → list_any is_waiting (free_commands script) ≡ false
            → list_any is_waiting (cond (not (is_waiting command)) (command ∷ free_commands script) (free_commands script)) ≡ false
        by_waiting true is rest = ap (λ b. list_any is_waiting (cond (not b) (command ∷ free_commands script) (free_commands script))) is ∙ rest
        by_waiting false is rest =
            ap (λ b. list_any is_waiting (cond (not b) (command ∷ free_commands script) (free_commands script))) is
            ∙ ap (λ b. b || list_any is_waiting (free_commands script)) is ∙ rest

    none_waiting : (lines : Lines) → list_any is_waiting (commands_of lines) ≡ false → waiting_line lines ≡ None
    none_waiting [] e = refl
    none_waiting ((number, command) ∷ lines) e = by_waiting (is_waiting command) refl e (none_waiting lines)
      where
        by_waiting : (b : Bool) → is_waiting command ≡ b → (is_waiting command || list_any is_waiting (commands_of lines)) ≡ false
            → (list_any is_waiting (commands_of lines) ≡ false → waiting_line lines ≡ None)
            → option_map (λ (line : ℕ × PatchCommand). line.0) (cond (is_waiting command) (Some (number, command)) (find (λ (line : ℕ × PatchCommand). is_waiting line.1) lines)) ≡ None
        by_waiting true is none rest = absurd cc
        by_waiting false is none rest =
            ap (λ b. option_map (λ (line : ℕ × PatchCommand). line.0) (cond b (Some (number, command)) (find (λ (line : ℕ × PatchCommand). is_waiting line.1) lines))) is
            ∙ rest (ap (λ b. b || list_any is_waiting (commands_of lines)) (sym is) ∙ none)

pub free_waits : (program : Program) (threads : ℕ) (text : List ℕ) (plan : Plan) → (f : FreePlan program threads text plan) → waiting_line f.free.lines ≡ None
free_waits program threads text plan f = no_waits f.free.lines (commands_of plan.lines) f.commands_are
