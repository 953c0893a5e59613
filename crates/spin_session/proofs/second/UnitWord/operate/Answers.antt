use Rattle.spin_session.proofs.Refining.{no_second}
use Rattle.spin_session.proofs.second.UnitWord.operate.Goals as goal

pub unreachable-requires : goal.unreachable-requires
unreachable-requires g c = let p = c.args.permit in no_second _ _ p.view p.value _ c.args.operation c.requires.keeps
