-- `stack`: on which paths the functions of a trace were called, and for how long.
use Rattle.std.specs.Prelude.{ℕ, List}
use Rattle.command_words.specs.declared.report_options.StackFormat.{StackFormat}
use Rattle.command_words.specs.declared.report_options.StackFormat.TheVariants.{Human, Flame, Svg}
use Rattle.fdr_file.specs.declared.trace.Trace.{Trace}
use Rattle.map_names.specs.Naming.{Naming}
use Rattle.stack_rebuild.specs.Stacks.{PathRow, stack_of}
use Rattle.stack_rebuild.specs.StackText.{stack_text}
use Rattle.flame_graph.specs.FlameText.{flame_text}
use Rattle.stack_rebuild.specs.declared.stack_text.StackForm.TheVariants as forms

-- rows as they are printed, if the counter has this frequency
abbrev pub rows_text : StackFormat → (frequency : ℕ) → Naming → List PathRow → List ℕ
rows_text Human frequency names rows = stack_text forms.Human names rows
rows_text Flame frequency names rows = stack_text forms.Flame names rows
rows_text Svg frequency names rows = flame_text frequency names rows

-- the stacks of a trace, as they are printed
abbrev pub stacks_text : StackFormat → Naming → Trace → List ℕ
stacks_text format names t = rows_text format t.header.frequency names (stack_of t.blocks)
