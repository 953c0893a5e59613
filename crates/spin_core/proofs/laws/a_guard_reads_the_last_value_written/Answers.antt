use Rattle.spin_core.proofs.tie.Values.{read_on}
use Rattle.spin_core.proofs.laws.a_guard_reads_the_last_value_written.Goals as goal

pub returns : goal.returns
returns g c = λ opening old new more x y. read_on opening old new more x y
