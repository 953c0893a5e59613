use denote.RattleType.{RattleType}
use denote.Param.Send.{IsSend}
use Rattle.spin_core.specs.contracts.trace.Watch.{the_row}
use Rattle.spin_core.proofs.trace.Steps.{known_keyless}

pub send : (T : RattleType) → IsSend (the_row T)
send T = record { owned = λ d vs. ((λ vss. (tt, ((λ uss. (tt, tt)), tt))), known_keyless T.coded.code d.name d.entries); leaving = λ k f vs. tt }
