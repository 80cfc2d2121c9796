use Rattle.stack_rebuild.specs.Stacks.{stack_of}
use Rattle.xray_program.proofs.laws.pictures_add_up.Goals as goal

pub returns-clause-within : goal.returns-clause-within
returns-clause-within c = λ trace. c.no_frame_sticks_out.ensures (stack_of trace.blocks) (c.stacks_can_be_drawn.ensures trace.blocks)

pub returns-clause-lowest : goal.returns-clause-lowest
returns-clause-lowest c = λ trace. c.the_lowest_frames_add_up.ensures (stack_of trace.blocks) (c.stacks_can_be_drawn.ensures trace.blocks)
