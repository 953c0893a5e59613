use Rattle.spin_examples.proofs.registers.four_threads.Given as goal

abbrev pub ghosts-four_threads_by : goal.ghosts-four_threads_by
ghosts-four_threads_by g a = record { name = a.blank.name }
