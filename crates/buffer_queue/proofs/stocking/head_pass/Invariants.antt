use Rattle.buffer_queue.proofs.stocking.head_pass.Given as goal

abbrev pub ghosts-open : goal.ghosts-open
ghosts-open a = record { setup = a.setup.now }
