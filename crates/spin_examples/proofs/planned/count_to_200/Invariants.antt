use Rattle.spin_examples.proofs.planned.count_to_200.Given as goal

abbrev pub ghosts-count_by-P-Plan : goal.ghosts-count_by-P-Plan
ghosts-count_by-P-Plan g a = record { all = 200 }

abbrev pub ghosts-count_by-P-Ledger : goal.ghosts-count_by-P-Ledger
ghosts-count_by-P-Ledger g a = record { name = a.blank.name; parts = a.blank.parts }
