use Rattle.std.proofs.Common.{arith}
use Rattle.spin_text.proofs.Cuts.{lines_within}
use Rattle.spin_text.proofs.text.world_text.Goals as goal

pub play-requires : goal.play-requires
play-requires g c = grind (arith, lines_within)
