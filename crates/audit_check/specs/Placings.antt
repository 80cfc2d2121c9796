-- The places of the loads of all threads of which an audit states something, or why there are none.
use Rattle.std.specs.Prelude.{◌≡◌, ◌-◌, ℕ, List, [], Result, Ok, Err, Vec, length, map, slice_get}
use Rattle.std.specs.declared.alloc.Global.{Global}
use Rattle.xray_image.specs.Program.{Program}
use Rattle.machine_step.specs.Traced.{sleds_passed}
use Rattle.patch_script.specs.declared.command.PatchCommand.{PatchCommand}
use Rattle.traced_run.specs.Runs.{EachThread, ThreadRun}
use Rattle.audit_check.specs.declared.placing.PlaceFault.{PlaceFault}
use Rattle.audit_check.specs.declared.placing.PlaceFault.TheVariants.{Ends, Marks, NoMemory}
use Rattle.audit_check.specs.declared.stop.Stop.{Stop}
use Rattle.audit_check.specs.Places.{load_places}
use Rattle.audit_check.specs.Rows.{AreRunsOf}
use Rattle.audit_check.specs.Statements.{AuditStatement}
use Rattle.audit_check.specs.Stops.{places_of}
use Rattle.audit_check.specs.Verdicts.{AllAgree, EndsRow, FirstToDiffer, MarksRow}

-- the places of the loads of each thread of a run; the marks of each thread follow the script
pub record AreLoadPlaces (program : Program) (threads : ℕ) (script : List PatchCommand) (runs : List ThreadRun) (places : List (List ℕ)) : Type 0 where
  pub count : length places ≡ length runs
  pub each : EachThread runs
      (λ number run. load_places program threads script number (sleds_passed run.passed) run.marks ≡ slice_get places (number - 1))

module _ (program : Program) (script : List PatchCommand) (statement : AuditStatement) (runs : List ThreadRun) where
  -- the rows of the ends and of the marks are judged as in a verdict
  abbrev pub IsPlacing : Result (List (List ℕ)) PlaceFault → Type 0
  IsPlacing (Err (Ends thread)) = FirstToDiffer statement.setup.threads (EndsRow program script statement [] runs) thread
  IsPlacing (Err (Marks thread)) =
      AllAgree statement.setup.threads (EndsRow program script statement [] runs)
      × FirstToDiffer statement.setup.threads (MarksRow program script statement [] runs) thread
  IsPlacing (Err NoMemory) = ⊥
  IsPlacing (Ok places) =
      AllAgree statement.setup.threads (EndsRow program script statement [] runs)
      × AllAgree statement.setup.threads (MarksRow program script statement [] runs)
      × AreLoadPlaces program statement.setup.threads script runs places

-- what comes of an audit that states this, over the runs of which it speaks
pub record ArePlaced (program : Program) (script : List PatchCommand) (statement : AuditStatement) (answer : Result (List (List ℕ)) PlaceFault) : Type 0 where
  pub runs : List ThreadRun
  pub are : AreRunsOf program statement runs
  pub placing : IsPlacing program script statement runs answer

-- the places of the loads of each thread, thread 1 first
abbrev pub all_places : Vec (Vec Stop Global) Global → List (List ℕ)
all_places threads = map (λ stops. places_of stops.items) threads.items

abbrev pub placed_by : Result (Vec (Vec Stop Global) Global) PlaceFault → Result (List (List ℕ)) PlaceFault
placed_by (Ok threads) = Ok (all_places threads)
placed_by (Err fault) = Err fault
