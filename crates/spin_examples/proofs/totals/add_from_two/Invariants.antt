use Rattle.spin_examples.proofs.totals.add_from_two.Given as goal

abbrev pub ghosts-add_both : goal.ghosts-add_both
ghosts-add_both g a = record { name = a.blank.name; parts = a.blank.parts }
