use denote.RattleType.{RattleType}
use denote.Ref.{NamedLft}
use denote.Param.Send.{IsSend, IsSync}
use Rattle.spin_core.specs.declared.cell.Rule.{Ghosts}
use Rattle.spin_core.specs.contracts.cell.WritePermit.{the_row}
use Rattle.spin_core.proofs.cell.Sent.{writer_keyless}

pub send : (a : NamedLft) (T V P K S : RattleType) (g : Ghosts P.Denot T.Denot V.Denot K.Denot S.Denot) → IsSend T → IsSync P → IsSend (the_row a T V P K S g)
send a T V P K S g s y = record { owned = λ d vs. ((λ vss. (tt, (tt, ((λ uss. (tt, tt)), tt)))), writer_keyless P T V.coded.code S (g.holds d.key) (g.ways d.key) s y a.lft d.cell d.view d.value); leaving = λ k f vs. tt }
