-- What comes of an audit beside an image and a script: the order of the run, or why there is none.
use Rattle.std.specs.Prelude.{◌≡◌, List, [], true, false, Result, Ok, Err}
use Rattle.xray_image.specs.Program.{Program}
use Rattle.patch_script.specs.declared.command.PatchCommand.{PatchCommand}
use Rattle.traced_run.specs.Runs.{ThreadRun}
use Rattle.step_sim.specs.declared.turns.Turns.{Turns}
use Rattle.audit_check.specs.Rows.{AreRunsOf}
use Rattle.audit_check.specs.Statements.{AuditStatement}
use Rattle.audit_check.specs.Verdicts.{AllAgree, EndsRow, FirstToDiffer, MarksRow}
use Rattle.run_order.specs.declared.fault.OrderFault.{OrderFault}
use Rattle.run_order.specs.declared.fault.OrderFault.TheVariants.{Ends, Marks, Long, NoMemory}
use Rattle.run_order.specs.Orders.{is_long}
use Rattle.run_order.specs.RunOrders.{IsOrderOf}

module _ (program : Program) (script : List PatchCommand) (statement : AuditStatement) (runs : List ThreadRun) where
  -- each thread ends, and passes as many sleds, as it is stated to
  abbrev pub AllEndsAgree : Type 0
  AllEndsAgree = AllAgree statement.setup.threads (EndsRow program script statement [] runs)

  -- the marks that are stated of each thread are those of loads that follow the script
  abbrev pub AllMarksAgree : Type 0
  AllMarksAgree = AllAgree statement.setup.threads (MarksRow program script statement [] runs)

  -- The rows in their order. The ends and the marks are judged as in a verdict on the audit. Then the order may have more
  -- lines than a schedule may have.
  abbrev pub AnswersOrder : Result (List Turns) OrderFault → Type 0
  AnswersOrder (Err (Ends thread)) = FirstToDiffer statement.setup.threads (EndsRow program script statement [] runs) thread
  AnswersOrder (Err (Marks thread)) = AllEndsAgree × FirstToDiffer statement.setup.threads (MarksRow program script statement [] runs) thread
  AnswersOrder (Err Long) =
      AllEndsAgree × AllMarksAgree
      × ((schedule : List Turns) × IsOrderOf program statement.setup.threads script runs schedule × (is_long schedule ≡ true))
  AnswersOrder (Err NoMemory) = ⊥
  AnswersOrder (Ok schedule) =
      AllEndsAgree × AllMarksAgree × IsOrderOf program statement.setup.threads script runs schedule × (is_long schedule ≡ false)

-- what comes of an audit that states this, over the runs of which it speaks
pub record IsOrdered (program : Program) (script : List PatchCommand) (statement : AuditStatement) (answer : Result (List Turns) OrderFault) : Type 0 where
  pub runs : List ThreadRun
  pub are : AreRunsOf program statement runs
  pub answer_is : AnswersOrder program script statement runs answer

-- an order, or one that has too many lines
abbrev pub IsOrderOrLong : Result (List Turns) OrderFault → Type 0
IsOrderOrLong (Ok schedule) = Unit {0}
IsOrderOrLong (Err Long) = Unit {0}
IsOrderOrLong (Err (Ends thread)) = ⊥
IsOrderOrLong (Err (Marks thread)) = ⊥
IsOrderOrLong (Err NoMemory) = ⊥
