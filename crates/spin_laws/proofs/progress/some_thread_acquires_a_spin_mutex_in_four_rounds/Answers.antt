use Rattle.spin_laws.proofs.Names.{IsWaiting, flag_machine, grants_any, refl, refuses_weakly}
use Rattle.spin_flag.specs.Flag.{words_of}
use Rattle.spin_world.proofs.FlagOwed.{flag_facts}
use Rattle.spin_laws.proofs.Sure.{in_history, one_is_weak}
use Rattle.spin_laws.proofs.Flag.{locks_in_four}
use Rattle.spin_laws.proofs.progress.some_thread_acquires_a_spin_mutex_in_four_rounds.Goals as goal

pub returns : goal.returns
returns g c = λ key word trace parties is. let m = flag_machine key.value in
    in_history (λ view. view) words_of (flag_facts key.value) refl trace.entries (word, trace.word) parties is.2
    (IsWaiting m) (λ n past. 4) (λ p. grants_any m) refuses_weakly (one_is_weak m) (locks_in_four key.value)
