use Rattle.std.proofs.Common.{◌%◌, ◌++◌, [], ◌∷◌, arith, length-append}
use Rattle.std.proofs.lemmas.Nat.{mod_below}
use Rattle.fdr_record.specs.declared.event.Event.{Event}
use Rattle.fdr_record.specs.declared.event.Kind.{Kind}
use Rattle.fdr_record.specs.declared.event.Kind.TheVariants.{Entry, Exit, TailExit, EntryArgs}
use Rattle.fdr_record.specs.Recordable.{ArgFits}
use Rattle.std.proofs.Common.{refl}
use Rattle.layer_tests.proofs.call_tries.Noted.note.Goals as goal

no_argument : (kind : Kind) → ArgFits kind 0
no_argument Entry = refl
no_argument Exit = refl
no_argument TailExit = refl
no_argument EntryArgs = tt

pub note-requires-clause-recordable : goal.note-requires-clause-recordable
note-requires-clause-recordable c = record { id = mod_below c.args.func 268435456 (omega arith); arg = no_argument c.args.kind }

pub note-requires-clause-room : goal.note-requires-clause-room
note-requires-clause-room c = (c.requires.0, c.requires.1, omega arith)

pub returns : goal.returns
returns c =
    let e : Event = record { cpu = 0; func = c.args.func % 268435456; kind = c.args.kind; tsc = c.args.tsc; arg = 0 } in
    (c.requires.0 ++ e ∷ [], c.note.ensures.noted c.requires.0 c.requires.1, omega (arith, length-append c.requires.0 (e ∷ []), c.requires.2))
