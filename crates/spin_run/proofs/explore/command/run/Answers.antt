use Rattle.std.proofs.Common.{arith}
use Rattle.spin_text.proofs.Cuts.{lines_within}
use Rattle.spin_run.proofs.explore.command.run.Goals as goal

pub explored-requires : goal.explored-requires
explored-requires g c =
    record { counted = omega (arith, lines_within c.deref.result.now, c.deref.ensures.len, c.in_ok-bytes.bytes.small, c.in_ok-bytes.bytes.ok) }
