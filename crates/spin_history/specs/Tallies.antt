-- What a tally counts.
use Rattle.std.specs.Prelude.{ℕ}
use Rattle.spin_history.specs.declared.tally.Tally.{Tally}

abbrev pub tallied : {L : Type 0} → Tally L → ℕ
tallied tally = tally.count
