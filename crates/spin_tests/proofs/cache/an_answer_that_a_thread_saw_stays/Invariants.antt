-- the name of this log
use Rattle.spin_tests.proofs.cache.an_answer_that_a_thread_saw_stays.Given as goal

abbrev pub ghosts-ask_twice_in_two : goal.ghosts-ask_twice_in_two
ghosts-ask_twice_in_two g a = record { name = a.blank.name }
