use Rattle.layer_tests.proofs.forms.dump_of.Goals as goal

pub write_dump-requires : goal.write_dump-requires
write_dump-requires c = (c.in-Ok._end, c.in-Ok.ensures.readable)
