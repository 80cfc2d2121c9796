-- The order of placed loads.
use Rattle.std.specs.Prelude.{List, Result, Ok, Err, if◌then◌else◌}
use Rattle.audit_check.specs.declared.placing.PlaceFault.{PlaceFault}
use Rattle.audit_check.specs.declared.placing.PlaceFault.TheVariants as places
use Rattle.step_sim.specs.declared.turns.Turns.{Turns}
use Rattle.run_order.specs.declared.fault.OrderFault.{OrderFault}
use Rattle.run_order.specs.declared.fault.OrderFault.TheVariants.{Ends, Marks, Long, NoMemory}
use Rattle.run_order.specs.Orders.{is_long}

-- the fault of an order, by that of the places
abbrev pub fault_of : PlaceFault → OrderFault
fault_of (places.Ends thread) = Ends thread
fault_of (places.Marks thread) = Marks thread
fault_of places.NoMemory = NoMemory

-- an order that isn't too long
abbrev pub cut : List Turns → Result (List Turns) OrderFault
cut schedule = if is_long schedule then Err Long else Ok schedule
