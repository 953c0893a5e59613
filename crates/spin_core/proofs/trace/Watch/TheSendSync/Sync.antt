use denote.RattleType.{RattleType}
use denote.Param.Send.{IsSync, sendable}
use denote.Struct.Struct.{Struct}
use denote.Struct.Owning.{shape}
use Rattle.spin_core.specs.contracts.trace.Watch.{the_row, the_type}
use Rattle.spin_core.proofs.trace.Steps.{known_keyless}

pub sync : (T : RattleType) → IsSync (the_row T)
sync T = let fields : IsSync (Struct (shape (the_type T))) = search sendable depth 20 in
    record { shared = λ d b o ν. (fields.shared (tt, tt) b o ν, known_keyless T.coded.code d.name d.entries) }
