use Rattle.spin_laws.proofs.Names.{HasAsked, grants_party, reader_limit, refl, refuses_weakly, rw_facts}
use Rattle.spin_rwlock.specs.Rw.{model, seat_of, words_of}
use Rattle.spin_laws.proofs.Sure.{in_history, one_is_weak}
use Rattle.spin_laws.proofs.Rw.{upgrades_in_three}
use Rattle.spin_laws.proofs.progress.an_upgrade_of_a_rwlock_is_granted_in_three_rounds.Goals as goal

pub returns : goal.returns
returns g c = λ key word trace parties is. let m = model key.value in
    in_history seat_of words_of (rw_facts key.value reader_limit) refl trace.entries (word, trace.word) parties is.2
    HasAsked (λ n past. 3) (grants_party m) refuses_weakly (one_is_weak m) (upgrades_in_three key.value reader_limit)
