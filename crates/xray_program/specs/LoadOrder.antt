-- `order`: the order of a finished run's loads and stores, as a schedule that replays it.
use Rattle.std.specs.Prelude.{ℕ, List, [], ◌∷◌, Result, Ok, Err, codes}
use Rattle.run_order.specs.declared.fault.OrderFault.{OrderFault}
use Rattle.run_order.specs.FaultWords.{order_words}
use Rattle.run_order.specs.FreeScripts.{free_text}
use Rattle.step_sim.specs.declared.turns.Turns.{Turns}
use Rattle.step_sim.specs.WrittenSchedules.{schedule_text}
use Rattle.xray_program.specs.Inputs.{refused_for}
use Rattle.xray_program.specs.Outcomes.{Outcome, Refused, Done}

-- The outcome of an answer. The script without its waits is written, and then the order as a schedule. If there is no
-- order, the audit is refused.
abbrev pub order_outcome : (audit free schedule text : List ℕ) → Result (List Turns) OrderFault → Outcome
order_outcome audit free schedule text (Ok turns) = Done ((free, free_text text) ∷ (schedule, schedule_text turns) ∷ []) []
order_outcome audit free schedule text (Err fault) = Refused audit (codes "audit") (refused_for (order_words fault))
