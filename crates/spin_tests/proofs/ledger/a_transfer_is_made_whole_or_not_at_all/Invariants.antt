-- this ledger's opening balances
use Rattle.spin_tests.proofs.ledger.a_transfer_is_made_whole_or_not_at_all.Given as goal

abbrev pub ghosts-makes_and_refuses : goal.ghosts-makes_and_refuses
ghosts-makes_and_refuses g a = record { balances = a.balances.items }
