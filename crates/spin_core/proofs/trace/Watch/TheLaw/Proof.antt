-- A `&` to a `Watch` owns what the watch knows, which may be copied. Assumes `Logic`.
use base.Logic.{snd∗}
use base.Before.{before}
use types.Logic.{sem}
use denote.RattleType.{RattleType}
use denote.Param.Laws.{Laws}
use denote.Param.Shared.{copy_shared}
use denote.Struct.Laws.{field_copy}
use denote.Struct.Lending.{of_Lends}
use Rattle.core.specs.contracts.marker.PhantomData as marker
use Rattle.spin_core.proofs.trace.Tokens.{lends_twice}
use Rattle.spin_core.specs.Logs.{known_owns}
use Rattle.spin_core.specs.contracts.trace.Watch as C
use Rattle.spin_core.proofs.trace.Steps.{known_twice}
use Rattle.spin_core.proofs.trace.Watch.TheLaw.Statement.{statement}

pub shares : (T : RattleType) (W : Laws T) → statement T W
shares T W = of_Lends (C.struct T) (C.the_codes T.Denot T.coded (marker.the_row T).coded) (C.the_heap T) (C.the_lent T)
    (λ d p. record {
      contraction = λ M 𝓤 𝓛 κ. (known_twice 𝓛 T.coded d.name d.entries).prf;
      mono = λ M 𝓤 𝓛 κ' κ. snd∗ 𝓤 (sem 𝓛 (before κ' κ)) (sem 𝓛 (known_owns T.coded.code d.name d.entries));
    })
    (copy_shared (marker.the_field T) (field_copy (marker.the_type T) tt), tt)
    (λ M 𝓤 𝓛 d p. lends_twice 𝓛 (known_owns T.coded.code d.name d.entries) (known_twice 𝓛 T.coded d.name d.entries).prf (C.the_row T).lives)
