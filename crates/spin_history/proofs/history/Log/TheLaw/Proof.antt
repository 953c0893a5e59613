-- A `&` to a log owns a share of the right to append. The share says what the entries are. Assumes `Logic`.
use mathlib.Core.List.{[], ◌∷◌}
use denote.RattleType.{RattleType}
use denote.Param.Laws.{Laws}
use denote.Param.Shared.{copy_shared}
use denote.SharingLaws.{one_shr_laws}
use denote.Struct.Tuple.{Tuple}
use denote.Struct.Laws.{field_copy}
use denote.Struct.Lending.{of_Lends}
use Rattle.core.specs.contracts.marker.PhantomData as marker
use Rattle.spin_core.specs.Logs.{log_part}
use Rattle.spin_history.specs.declared.history.History.{Ghosts}
use Rattle.spin_history.specs.contracts.history.Log as C
use Rattle.spin_history.proofs.Steps.{log_lends}
use Rattle.spin_history.proofs.history.Log.TheLaw.Statement.{statement}

pub shares : (T L : RattleType) (g : Ghosts L.Denot) (W : Laws T) (W' : Laws L) → statement T L g W W'
shares T L g W W' = let All = Tuple (T ∷ L ∷ []) in
    of_Lends (C.struct T L g) (C.the_codes _ _ T.coded L.coded (marker.the_row All).coded) _ _
    (λ d p. one_shr_laws (log_part T.coded.code g.name d.entries))
    (copy_shared (marker.the_field All) (field_copy (marker.the_type All) tt), tt)
    (λ M 𝓤 𝓛 d p. log_lends 𝓛 T.coded g.name d.entries (C.the_row T L g).lives)
