use Rattle.std.proofs.Common.{arith}
use Rattle.spin_once.proofs.Kept.{leaves}
use Rattle.spin_once.proofs.once_core.account.Account.close.Goals as goal

pub finish-requires : goal.finish-requires
finish-requires g c = grind (arith, c.requires, leaves c.args.self.party.key.opening)
