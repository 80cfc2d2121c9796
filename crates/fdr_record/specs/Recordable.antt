-- Which events records say.
use Rattle.std.specs.Prelude.{◌≡◌, ◌<◌, ◌^◌, ⊤, ℕ}
use Rattle.fdr_record.specs.declared.event.Event.{Event}
use Rattle.fdr_record.specs.declared.event.Kind.{Kind}
use Rattle.fdr_record.specs.declared.event.Kind.TheVariants.{Entry, Exit, TailExit, EntryArgs}

-- an event whose kind logs no argument has 0 in its place
abbrev pub ArgFits : Kind → ℕ → Type 0
ArgFits Entry arg = arg ≡ 0
ArgFits Exit arg = arg ≡ 0
ArgFits TailExit arg = arg ≡ 0
ArgFits EntryArgs arg = ⊤

-- Records can say the event: the id of its function fits the 28 bits for it, and it has an argument only if it logs one.
pub record IsRecordable (event : Event) : Type 0 where
  pub id : event.func < 2 ^ 28
  pub arg : ArgFits event.kind event.arg
