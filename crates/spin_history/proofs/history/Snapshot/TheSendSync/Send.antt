use denote.RattleType.{RattleType}
use denote.Param.Send.{IsSend}
use Rattle.spin_history.specs.declared.history.History.{Ghosts}
use Rattle.spin_history.specs.contracts.history.Snapshot.{the_row}
use Rattle.spin_history.proofs.Steps.{known_keyless}

pub send : (T L : RattleType) (g : Ghosts L.Denot) → IsSend (the_row T L g)
send T L g = record { owned = λ d vs. ((λ vss. (tt, ((λ uss. (tt, tt)), tt))), known_keyless T.coded.code g.name d.entries); leaving = λ k f vs. tt }
