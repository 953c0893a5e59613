use denote.RattleType.{RattleType}
use denote.Param.Send.{IsSync, sendable}
use denote.Struct.Struct.{Struct}
use denote.Struct.Owning.{shape}
use Rattle.spin_history.specs.declared.history.History.{Ghosts}
use Rattle.spin_history.specs.contracts.history.Snapshot.{the_row, the_type}
use Rattle.spin_history.proofs.Steps.{known_keyless}

pub sync : (T L : RattleType) (g : Ghosts L.Denot) → IsSync (the_row T L g)
sync T L g = let fields : IsSync (Struct (shape (the_type T L g))) = search sendable depth 20 in
    record { shared = λ d b o ν. (fields.shared (tt, tt) b o ν, known_keyless T.coded.code g.name d.entries) }
