-- If threads may share a content (`Stage`), they may share it inside the cell.
use denote.RattleType.{RattleType}
use denote.Param.Send.{IsSync, sendable}
use Rattle.spin_core.specs.CellMemory.{Common}
use Rattle.spin_core.specs.contracts.cell.stable.MaybeStable as maybe
use Rattle.spin_once.specs.contracts.once_core.rule.Stage as stage

pub known : (T S : RattleType) → Common (stage.the_row T S) → Common (maybe.the_row (stage.the_row T S))
known T S may =
    let alone : IsSync (stage.the_row T S) = record { shared = λ x b o κ. may x b o κ } in
    let all : IsSync (maybe.the_row (stage.the_row T S)) = search sendable depth 20 in
    all.shared
