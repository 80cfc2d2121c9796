-- `order`: how its work ends.
use Rattle.std.proofs.Common.{◌≡◌, ◌⊎◌, ◌∙◌, ℕ, List, Some, None, Result, Ok, Err, inl, inr, ap, refl, subst, sym, codes}
use Rattle.audit_check.specs.Statements.{AuditStatement}
use Rattle.fault_words.specs.Words.{words_text}
use Rattle.patch_script.specs.Plans.{Plan}
use Rattle.patch_script.specs.Refusals.{commands_of}
use Rattle.run_order.specs.Answers.{IsOrdered}
use Rattle.run_order.specs.FaultWords.{order_words}
use Rattle.run_order.specs.declared.fault.OrderFault.{OrderFault}
use Rattle.run_order.specs.declared.fault.OrderFault.TheVariants as ordering
use Rattle.step_sim.specs.declared.turns.Turns.{Turns}
use Rattle.xray_image.specs.Program.{Program}
use Rattle.xray_io.specs.Calls.{CallMade, Went}
use Rattle.xray_io.specs.Desk.{Entry}
use Rattle.xray_io.specs.World.{DeskView, SinkView}
use Rattle.xray_program.specs.Inputs.{WholeScript, audit_form, refused_for, whole_script_form}
use Rattle.xray_program.specs.LoadOrder.{order_outcome}
use Rattle.xray_program.specs.Order.{IsNoCall}
use Rattle.xray_program.specs.Outcomes.{Outcome, Refused}
use Rattle.xray_program.specs.Taking.{Take}
use Rattle.xray_program.specs.private.Takes.{IsFaultStop}
use Rattle.xray_program.specs.private.Works.{Finishes}
use Rattle.xray_program.specs.declared.stop.Stop.{Stop}
use Rattle.xray_program.specs.declared.stop.Stop.TheVariants as stops

-- what was answered, or memory ran out
abbrev Answers : (Result (List Turns) OrderFault → Type 0) → Result (List Turns) OrderFault → Type 0
Answers Is answer = (answer ≡ Err ordering.NoMemory) ⊎ Is answer

pub is_answer : (answer : Result (List Turns) OrderFault) (turns : List Turns) (Is : Result (List Turns) OrderFault → Type 0)
    → answer ≡ Ok turns → Answers Is answer → Is (Ok turns)
is_answer answer turns Is e (inl memory) = absurd (never (sym e ∙ memory))
  where
    never : (let v : Result (List Turns) OrderFault = Ok turns in let w : Result (List Turns) OrderFault = Err ordering.NoMemory in v ≡ w) → ⊥
    never e = cc
is_answer answer turns Is e (inr is) = subst Is e is

pub is_refused : (program : Program) (plan given : Plan) (statement said : AuditStatement) (answer : Result (List Turns) OrderFault) (fault : OrderFault)
    → given ≡ plan → said ≡ statement → answer ≡ Err fault → Answers (IsOrdered program (commands_of given.lines) said) answer
    → (fault ≡ ordering.NoMemory) ⊎ IsOrdered program (commands_of plan.lines) statement (Err fault)
is_refused program plan given statement said answer fault of_plan of_statement e (inl memory) = inl (same (sym e ∙ memory))
  where
    same : (let v : Result (List Turns) OrderFault = Err fault in let w : Result (List Turns) OrderFault = Err ordering.NoMemory in v ≡ w) → fault ≡ ordering.NoMemory
    same e = cc
is_refused program plan given statement said answer fault of_plan of_statement e (inr is) =
    inr (rw (sym of_plan, sym of_statement, sym e) is)

-- what comes of the order of the run that an audit states
abbrev pub Ordered : (a f o : List ℕ) → Program → AuditStatement → WholeScript → Outcome → Type 0
Ordered a f o program statement whole outcome =
    (answer : Result (List Turns) OrderFault) × IsOrdered program (commands_of whole.plan.lines) statement answer × (outcome ≡ order_outcome a f o whole.text answer)

-- what comes of an audit, and of an image
abbrev pub AfterAudit : (List ℕ → Entry) → (s a f o : List ℕ) → Program → AuditStatement → Outcome → Type 0
AfterAudit held s a f o program statement = Take (whole_script_form program statement.setup.threads) held s (Ordered a f o program statement)

abbrev pub AfterImage : (List ℕ → Entry) → (s a f o : List ℕ) → Program → Outcome → Type 0
AfterImage held s a f o program = Take audit_form held a (AfterAudit held s a f o program)

-- an audit that has no order is refused, and if memory runs out nothing is written
pub order_refuses : (a f o : List ℕ) (program : Program) (statement : AuditStatement) (whole : WholeScript) (desk : DeskView) (out : SinkView)
    (Way : List CallMade → Type 0) → Went Way IsNoCall → (fault : OrderFault) (stop : Stop)
    → (fault ≡ ordering.NoMemory) ⊎ IsOrdered program (commands_of whole.plan.lines) statement (Err fault)
    → IsFaultStop a (codes "audit") (order_words fault) stop → Finishes (Ordered a f o program statement whole) desk desk out out Way (Err stop)
order_refuses a f o program statement whole desk out Way none fault stops.BadLine why is = is
order_refuses a f o program statement whole desk out Way none fault (stops.Unread n) why is = is
order_refuses a f o program statement whole desk out Way none fault (stops.TooLong n) why is = is
order_refuses a f o program statement whole desk out Way none fault (stops.Refused n kind words) (inl memory) (same, of_kind, is) =
    absurd (never (rw memory at is))
  where
    never : None ≡ Some (words_text words) → ⊥
    never e = cc
order_refuses a f o program statement whole desk out Way none fault (stops.Refused n kind words) (inr ordered) (same, of_kind, is) = (
  (Err fault, ordered, refused),
  (refl, refl),
  none,
)
  where
    worded : words_text words ≡ refused_for (order_words fault)
    worded = ap refused_for (sym is)

    refused : Refused n.now kind.now (words_text words) ≡ Refused a (codes "audit") (refused_for (order_words fault))
    refused = rw (same, of_kind, worded) refl
order_refuses a f o program statement whole desk out Way none fault (stops.Fell words) why is = absurd is
order_refuses a f o program statement whole desk out Way none fault (stops.Unwritten n) why is = absurd is
order_refuses a f o program statement whole desk out Way none fault stops.NoMemory why is = ((refl, refl), none)
