-- what `meet_by` takes for its ledgers and logs: the size of the groups, and the names and parts of this call's own
use Rattle.spin_examples.proofs.meeting.meet_in_two.Given as goal

abbrev pub ghosts-meet_by-N-Groups : goal.ghosts-meet_by-N-Groups
ghosts-meet_by-N-Groups g a = record { group = 2 }

abbrev pub ghosts-meet_by-N-Ledger : goal.ghosts-meet_by-N-Ledger
ghosts-meet_by-N-Ledger g a = record { name = a.came.name; parts = a.came.parts }

abbrev pub ghosts-meet_by-L-Ledger : goal.ghosts-meet_by-L-Ledger
ghosts-meet_by-L-Ledger g a = record { name = a.led.name; parts = a.led.parts }

abbrev pub ghosts-meet_by-H-History : goal.ghosts-meet_by-H-History
ghosts-meet_by-H-History g a = record { name = a.log.name }

abbrev pub ghosts-meet_by-G-History : goal.ghosts-meet_by-G-History
ghosts-meet_by-G-History g a = record { name = a.shared.name }
