-- A machine that plays a table (`Plays`) is lawful.
use Rattle.spin_step.specs.Machines.{Machine}
use Rattle.spin_step.specs.Acts.{Table}
use Rattle.spin_world_core.specs.Lawful.{Lawful}
use Rattle.spin_world_core.proofs.Steps.{played, Plays}
use Rattle.spin_world_core.proofs.Shapes.{Notes}
use Rattle.spin_world_core.proofs.Every.{can_of, keeps_of, moments_of, counts_of}
use Rattle.spin_world_core.proofs.Guards.{reads_agree}
use Rattle.spin_world_core.proofs.Values.{values_of}

pub laws_of : {W V C L A B : Type 0} {t : Table W V C L A} {by : Machine W V C L B} {n : Notes t} → Plays by n → Lawful (played t by)
laws_of f = search (f.stepwise, f.pays.promises, can_of f, keeps_of f, moments_of f, counts_of f, reads_agree f, values_of f)
