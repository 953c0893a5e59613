use denote.RattleType.{RattleType}
use denote.RawPtr.{block_ptr}
use denote.Param.Send.{IsSend, IsSync}
use Rattle.spin_core.specs.declared.cell.Rule.{Ghosts}
use Rattle.spin_core.specs.contracts.cell.Cell.{the_row}
use Rattle.spin_core.proofs.cell.Sent.{cell_keyless}

pub sync : (T V P K S : RattleType) (g : Ghosts P.Denot T.Denot V.Denot K.Denot S.Denot) → IsSend T → IsSync P → IsSync (the_row T V P K S g)
sync T V P K S g s y = record { shared = λ d b o. cell_keyless P T V.coded.code S (g.holds d) (g.ways d) s y (block_ptr b o) }
