use denote.RattleType.{RattleType}
use denote.Param.Send.{IsSync, sendable}
use denote.Struct.Struct.{Struct}
use denote.Struct.Owning.{shape}
use Rattle.spin_core.specs.contracts.trace.Trace.{the_row, the_type}
use Rattle.spin_core.proofs.trace.Steps.{part_keyless}

pub sync : (T S : RattleType) → IsSync S → IsSync (the_row T S)
sync T S s = let fields : IsSync (Struct (shape (the_type T S))) = search sendable depth 20 in
    record { shared = λ d b o ν. (fields.shared (d.word, (tt, tt)) b o ν, part_keyless T.coded.code d.name d.entries) }
