-- A `&` to a `Snapshot` owns what the snapshot knows, which may be copied. Assumes `Logic`.
use mathlib.Core.List.{[], ◌∷◌}
use base.Logic.{snd∗}
use base.Before.{before}
use types.Logic.{sem}
use denote.RattleType.{RattleType}
use denote.Param.Laws.{Laws}
use denote.Param.Shared.{copy_shared}
use denote.Struct.Tuple.{Tuple}
use denote.Struct.Laws.{field_copy}
use denote.Struct.Lending.{of_Lends}
use Rattle.core.specs.contracts.marker.PhantomData as marker
use Rattle.spin_core.proofs.trace.Tokens.{lends_twice}
use Rattle.spin_history.specs.declared.history.History.{Ghosts}
use Rattle.spin_history.specs.contracts.history.Snapshot as C
use Rattle.spin_history.proofs.Steps.{known_twice}
use Rattle.spin_history.proofs.history.Snapshot.TheLaw.Statement.{statement}

pub shares : (T L : RattleType) (g : Ghosts L.Denot) (W : Laws T) (W' : Laws L) → statement T L g W W'
shares T L g W W' = let All = Tuple (T ∷ L ∷ []) in
    of_Lends (C.struct T L g) (C.the_codes _ _ T.coded L.coded (marker.the_row All).coded) _ (C.the_lent T L g)
    (λ d p. record { contraction = λ M 𝓤 𝓛 κ. (known_twice 𝓛 T.coded g.name d.entries).prf; mono = λ M 𝓤 𝓛 κ' κ. snd∗ 𝓤 (sem 𝓛 (before κ' κ)) _ })
    (copy_shared (marker.the_field All) (field_copy (marker.the_type All) tt), tt)
    (λ M 𝓤 𝓛 d p. lends_twice 𝓛 _ (known_twice 𝓛 T.coded g.name d.entries).prf _)
