-- this ledger's opening balances
use Rattle.spin_tests.proofs.ledger.threads_trade_and_leave_the_total.Given as goal

abbrev pub ghosts-trades_in_two : goal.ghosts-trades_in_two
ghosts-trades_in_two g a = record { balances = a.balances.items }
