use Rattle.spin_laws.proofs.Names.{WaitsWithout, arith, grants_any, opening, reader_limit, refl, rw_facts, seen_after}
use Rattle.spin_rwlock.specs.Rw.{model, seat_of, words_of}
use Rattle.spin_laws.specs.Rw.{refuses_any, rounds_beside}
use Rattle.spin_laws.proofs.Sure.{in_history, any_is_weak}
use Rattle.spin_laws.proofs.RwFree.{grants_somebody}
use Rattle.spin_laws.proofs.progress.some_thread_acquires_a_rwlock_in_the_rounds_of_the_holders.Goals as goal

pub returns : goal.returns
returns g c = λ key word trace parties is. let m = model key.value in
    in_history seat_of words_of (rw_facts key.value reader_limit) refl trace.entries (word, trace.word) parties is.2
    (WaitsWithout m) (λ n past. rounds_beside (seen_after m (opening m n) past).plain.holders) (λ p. grants_any m)
    (λ p. refuses_any) (λ p. any_is_weak m) (grants_somebody key.value reader_limit (omega arith))
