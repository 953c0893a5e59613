use denote.RattleType.{RattleType}
use denote.Ref.{NamedLft}
use denote.Param.Send.{IsSync, sendable}
use denote.Struct.Struct.{Struct}
use denote.Struct.Owning.{shape}
use Rattle.spin_core.specs.declared.cell.Rule.{Ghosts}
use Rattle.spin_core.specs.contracts.cell.Permit.{the_row, the_type}
use Rattle.spin_core.proofs.cell.Sent.{permit_sees}

pub sync : (a : NamedLft) (T V P K S : RattleType) (g : Ghosts P.Denot T.Denot V.Denot K.Denot S.Denot) → IsSync P → IsSync (the_row a T V P K S g)
sync a T V P K S g y = let fields : IsSync (Struct (shape (the_type a T V P K S g))) = search sendable depth 20 in
    record { shared = λ d b o κ. (fields.shared (d.cell, (tt, tt)) b o κ, permit_sees P T V.coded.code S (g.holds d.key) (g.ways d.key) y a.lft d.cell d.view d.value κ) }
