use Rattle.spin_laws.proofs.Names.{WaitsWithout, either, grants_any, opening, rw_machine, seen_after}
use Rattle.spin_laws.specs.Rw.{refuses_any, rounds_beside}
use Rattle.spin_laws.proofs.Endless.{at_last}
use Rattle.spin_laws.proofs.RwFree.{grants_somebody}
use Rattle.spin_laws.proofs.rounds.a_read_write_lock_is_free_of_deadlock.Goals as goal

pub returns : goal.returns
returns g c = λ object n past schedule some. let m = rw_machine object.value object.cap in
    let bound = rounds_beside (seen_after m (opening m n) past).plain.holders in
    at_last m (WaitsWithout m) bound (λ p. either (grants_any m) refuses_any) n past (grants_somebody object.value object.cap some n past) schedule
