use Rattle.spin_history.proofs.tally.open.Given as goal

abbrev pub ghosts-open_by : goal.ghosts-open_by
ghosts-open_by g a = record { name = a.blank.name; parts = a.blank.parts }
