use Rattle.spin_examples.proofs.versions.race.Given as goal

abbrev pub ghosts-race_by : goal.ghosts-race_by
ghosts-race_by g a = record { name = a.blank.name }
