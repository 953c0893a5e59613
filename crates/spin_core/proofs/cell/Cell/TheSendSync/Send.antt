use denote.RattleType.{RattleType}
use denote.Param.Send.{IsSend}
use Rattle.spin_core.specs.declared.cell.Rule.{Ghosts}
use Rattle.spin_core.specs.contracts.cell.Cell.{the_row}

pub send : (T V P K S : RattleType) (g : Ghosts P.Denot T.Denot V.Denot K.Denot S.Denot) → IsSend T → IsSend (the_row T V P K S g)
send T V P K S g s = record { owned = λ d vs. ((λ _. tt), λ known z. ((λ vss. (tt, ((λ uss. (tt, tt)), ((tt, tt), (s.owned z.2 vss.1.1.0, (known.2 z.1 vss.1.1.1.0, tt)))))), λ _. tt)); leaving = λ k d w. tt }
